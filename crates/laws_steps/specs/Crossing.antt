-- The inside of an envelope that one edition wrote, read by the other: alike where every row is plain, else refused with 7 or 9.
use Rattle.std.specs.Prelude.{ℕ, ◌<◌, List, [], ◌∷◌, ◌++◌, Bool, true, false, ◌⊎◌, ◌≡◌, refl, T}
use Rattle.std.proofs.Common.{inl, inr, ap, sym, ◌∙◌, subst, arith, ltb→lt, eqb-true}
use Rattle.meaning.specs.Basics.{pick, every}
use Rattle.meaning.specs.Told.{Edition, told}
use Rattle.meaning.specs.Editions.{State, Move, no_code, moves}
use Rattle.meaning.specs.Reading.{Row, has_code, look, with_rows}
use Rattle.meaning.specs.Writing.{write_value, fits, fit_row, close}
use Rattle.laws_steps.specs.Logic.{either}
use Rattle.laws_steps.specs.Tables.{every_in}
use Rattle.laws_steps.specs.Steps.{rests, moves_on, inside_path}
use Rattle.laws_steps.specs.Fits.{fit_holds, close_holds}
use Rattle.laws_steps.specs.WrittenRead.{seen_before, Reads, Closes, reads_end, reads_row, fit_all, then_inv, ReadsAll}
use Rattle.laws_steps.specs.PlainRows.{Crosses, all_plain, alone, clash_ok, is_lost, is_plain, low_move, other, row_crosses, step_quiet_other}
use Rattle.laws_steps.specs.Clashes.{Low, LowRoom, Refuses, fault_behind, foreign_refused}

-- What the writer gives from a room with low codes begins low

low_lead : (m : Move) (w : List ℕ) (b : Bool) → has_code no_code m ≡ b → T (low_move m) → Low (pick b [] (m.code ∷ []) ++ w)
low_lead m w true q t =
    let c : m.code ≡ no_code = eqb-true m.code no_code q in
    let h : m.code < 0x20 = ltb→lt m.code 0x20 t in
    absurd (omega arith)
low_lead m w false q t = ltb→lt m.code 0x20 t

low_row : (e : Edition) (row : Row) (st st' : State) (bs : List ℕ) → fit_row e st row ≡ fits st' bs → T (every low_move (moves e st.room)) → Low bs
low_row e row =
    fit_holds e row (λ st st' bs. T (every low_move (moves e st.room)) → Low bs)
    (λ st st' m bs i p t. subst Low p.out (low_lead m (write_value m.form row.view) (has_code no_code m) refl (every_in low_move i t)))
    (λ st st' m bs i q c t. ltb→lt m.code 0x20 (every_in low_move i t))

low_close : (e : Edition) (st st' : State) (bs : List ℕ) → close e st ≡ fits st' bs → LowRoom e st.room → Low bs
low_close e =
    close_holds e (λ st st' bs. LowRoom e st.room → Low bs) (λ st h f. let z : true ≡ false = sym h ∙ f.ajar in let y : ◌≡◌ {A = ℕ} 0 1 = cc z in absurd (omega arith))
    (λ st st' m bs i q c f. ltb→lt m.code 0x20 (every_in low_move i f.low))

low_append : (bs cs : List ℕ) → Low bs → Low (bs ++ cs)
low_append [] cs h = absurd h
low_append (b ∷ bs) cs h = h

low_all : (e : Edition) (rows : List Row) (st st' : State) (bs : List ℕ) → fit_all e rows st ≡ fits st' bs → LowRoom e st.room → Low bs
unfolding fit_all
low_all e [] st st' bs q f = low_close e st st' bs q f
low_all e (row ∷ rows) st st' bs q f =
    let (st₁, cs, ds, q₁, q₂, q₃) = then_inv (fit_row e st row) (fit_all e rows) st' bs q in
    rw q₃ (low_append cs ds (low_row e row st st₁ cs q₁ f.low))

-- The whole inside of an envelope

pub closing_crosses : (e e' : Edition) (st st' : State) (bs : List ℕ) → close e st ≡ fits st' bs → Closes (told e') st bs st'
closing_crosses e e' =
    close_holds e (λ st st' bs. Closes (told e') st bs st') (λ st h. (h, rests)) (λ st st' m bs i q c. (c.0, moves_on (step_quiet_other e e' st m bs i q) c.1))

abbrev pub CrossAll : Edition → List Row → State → List ℕ → Type 0
CrossAll e rows st bs = ((all_plain rows ≡ true) × ReadsAll (told (other e)) st bs rows) ⊎ ((all_plain rows ≡ false) × Refuses (told (other e)) st bs)

all_behind : (e : Edition) (row : Row) (rows : List Row) (st st₁ : State) (bs ds : List ℕ) → is_plain row ≡ true → Reads (told (other e)) st bs row st₁ ds → CrossAll e rows st₁ ds → CrossAll e (row ∷ rows) st bs
all_behind e row rows st st₁ bs ds pl r (inl (a, rs)) = inl (rw (pl, a) refl, reads_row (told (other e)) row rows st st₁ bs ds r rs)
all_behind e row rows st st₁ bs ds pl p (inr (a, (refusal, l, q, t))) =
    inr (rw (pl, a) refl, (refusal, l, inside_path (told (other e)) p ∙ ap (with_rows (seen_before row ds ∷ [])) q, t))

all_here : (e : Edition) (row : Row) (rows : List Row) (st st₁ : State) (bs ds : List ℕ) → Crosses e (other e) row st bs st₁ ds → CrossAll e rows st₁ ds → (LowRoom e st₁.room → Low ds) → CrossAll e (row ∷ rows) st bs
all_here e row rows st st₁ bs ds (inl (pl, r)) c k = all_behind e row rows st st₁ bs ds pl r c
all_here e row rows st st₁ bs ds (inr (np, f)) c k =
    let o = alone e f.at.room f.its_own in
    inr (
      rw np refl,
      fault_behind (told (other e)) st f.at bs (f.bytes ++ ds) f.path
          (foreign_refused e f.at st₁ row f.by f.bytes ds o f.put k (either (is_lost (look f.by.code (moves (other e) f.at.room))) (clash_ok e f.at.room f.by) o.beyond)),
    )

pub all_crosses : (e : Edition) (rows : List Row) (st st' : State) (bs : List ℕ) → fit_all e rows st ≡ fits st' bs → CrossAll e rows st bs
unfolding fit_all
all_crosses e [] st st' bs q = inl (refl, reads_end (told (other e)) st st' bs (closing_crosses e (other e) st st' bs q))
all_crosses e (row ∷ rows) st st' bs q =
    let (st₁, cs, ds, q₁, q₂, q₃) = then_inv (fit_row e st row) (fit_all e rows) st' bs q in
    rw q₃ (all_here e row rows st st₁ (cs ++ ds) ds (row_crosses e (other e) row st st₁ cs q₁ ds) (all_crosses e rows st₁ st' ds q₂) (low_all e rows st₁ st' ds q₂))
