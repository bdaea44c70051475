-- The ranks of a table: a row stands deeper than the one before it only where that one opens a list or a received object; an agent never stands at
-- level 0, an envelope always does; and a date at level 0 is the base's own.
use Rattle.std.specs.Prelude.{ℕ, ◌≤◌, ◌<◌, List, [], ◌∷◌, ◌++◌, map, Bool, true, false, ◌||◌, ◌⊎◌, ◌≡◌, refl, eqb}
use Rattle.std.proofs.Common.{append-nil, inl, ap, sym, ◌∙◌, subst, arith, ne_eqb, eqb-true}
use Rattle.meaning.specs.Kinds.{extension_opens, agent_name}
use Rattle.meaning.specs.Told.{Edition}
use Rattle.meaning.specs.Editions.{State}
use Rattle.meaning.specs.Reading.{Row}
use Rattle.meaning.specs.Skips.{Rank, is_envelope, holds_deeper}
use Rattle.meaning.specs.Codes.{is_date}
use Rattle.meaning.specs.Headers.{start}
use Rattle.meaning.specs.Writing.{fits, fit_row}
use Rattle.laws_steps.specs.WrittenRead.{fit_all, then_inv}
use Rattle.laws_steps.specs.Envelopes.{opening_row, Writes, the_base, before}
use Rattle.laws_tables.specs.RightSkips.{standing}
use Rattle.laws_steps.specs.Plans.{inner_kind}
use Rattle.laws_tables.specs.Levels.{is_head, AtLevel, bad, row_kept}

-- a row by itself, where dates of level 0 may stand or not
pub record Fair (dates : Bool) (r : Rank) : Type 0 where
  pub agent : r.kind ≡ agent_name → 0 < r.level
  pub envelope : is_envelope r.kind ≡ true → r.level ≡ 0
  pub date : dates ≡ false → is_date r.kind ≡ true → 0 < r.level

-- rows of which the first stands no deeper than this level
pub data Ranked : Bool → ℕ → List Rank → Type 0 where
  none : {dates : Bool} {most : ℕ} → Ranked dates most []
  next : {dates : Bool} {most : ℕ} (later : Bool) (deep : ℕ) {r : Rank} {rest : List Rank} → r.level ≤ most → Fair dates r
      → (deep ≤ r.level) ⊎ ((holds_deeper r.kind ≡ true) × (is_envelope r.kind ≡ false))
      → (is_envelope r.kind ≡ false → later ≡ dates) → (r.kind ≡ extension_opens → later ≡ false) → Ranked later deep rest → Ranked dates most (r ∷ rest)

undated : (k : ℕ) → is_envelope k ≡ true → is_date k ≡ true → ⊥
undated k v q = at (eqb k 1) (eqb k 2) refl refl v
  where
    at : (a b : Bool) → eqb k 1 ≡ a → eqb k 2 ≡ b → (a || b) ≡ true → ⊥
    at true b p r h = bad (sym (ap is_date (eqb-true k 1 p)) ∙ q)
    at false true p r h = bad (sym (ap is_date (eqb-true k 2 r)) ∙ q)
    at false false p r h = bad h

-- rows of an envelope, and the table behind them
rows_ranked : (e : Edition) (dates : Bool) (rows : List Row) (table : List Rank) (st st' : State) (bs : List ℕ) → fit_all e rows st ≡ fits st' bs → AtLevel st → (dates ≡ false → is_head st.room ≡ false)
    → ((most : ℕ) → Ranked dates most table) → Ranked dates st.level (map standing rows ++ table)
unfolding fit_all
rows_ranked e dates [] table st st' bs q l h more = more st.level
rows_ranked e dates (row ∷ rows) table st st' bs q l h more =
    let (st₁, cs, ds, q₁, q₂, q₃) = then_inv (fit_row e st row) (fit_all e rows) st' bs q in
    let k = row_kept e row st st₁ cs q₁ l in
    let low = inner_kind e row st st₁ cs q₁ in
    next dates st₁.level k.under (record { agent = k.agent; envelope = λ v. bad (sym (not_opening row.kind low) ∙ v); date = λ z. k.date (h z) }) k.raised (λ v. refl) (λ v. absurd (omega (arith, v)))
    (rows_ranked e dates rows table st₁ st' ds q₂ k.level (λ z. k.head (h z)) more)
  where
    not_opening : (kind : ℕ) → 3 ≤ kind → is_envelope kind ≡ false
    not_opening kind l = rw (ne_eqb kind 1 (λ x. omega arith), ne_eqb kind 2 (λ x. omega arith)) refl

pub map_both : (rows table : List Row) → map standing (rows ++ table) ≡ map standing rows ++ map standing table
map_both [] table = refl
map_both (row ∷ rows) table = ap (λ (x : List Rank). standing row ∷ x) (map_both rows table)

-- an envelope's own row, under any level
opening_ranked : (b dates : Bool) (most : ℕ) (rest : List Rank) → Ranked b 0 rest → Ranked dates most (standing (opening_row b) ∷ rest)
opening_ranked true dates most rest more =
    next {most = most} true 0 {r = standing (opening_row true)} (omega arith) (record { agent = λ q. absurd (omega arith); envelope = λ v. refl; date = λ z q. absurd (undated 2 refl q) }) (inl (omega arith)) (λ v. bad (sym v)) (λ v. absurd (omega arith)) more
opening_ranked false dates most rest more =
    next {most = most} false 0 {r = standing (opening_row false)} (omega arith) (record { agent = λ q. absurd (omega arith); envelope = λ v. refl; date = λ z q. absurd (undated 1 refl q) }) (inl (omega arith)) (λ v. bad (sym v)) (λ v. refl) more

-- a table's ranks
pub table_ranked : (e : Edition) {k : ℕ} {table : List Row} {w : List ℕ} → Writes e k table w → (dates : Bool) (most : ℕ) → Ranked dates most (map standing table)
table_ranked e (the_base rows st bs q z) dates most =
    opening_ranked true dates most (map standing rows) (subst (Ranked true 0) (append-nil (map standing rows)) (rows_ranked e true rows [] (start true) st bs q refl (λ x. bad (sym x)) (λ m. none)))
table_ranked e (before rows table st bs w n q z more) dates most =
    opening_ranked false dates most (map standing (rows ++ table)) (subst (Ranked false 0) (sym (map_both rows table)) (rows_ranked e false rows (map standing table) (start false) st bs q refl (λ x. refl) (λ m. table_ranked e more false m)))
