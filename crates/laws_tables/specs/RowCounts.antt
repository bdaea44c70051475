-- Never more rows than bytes: each row has a byte of its own.
use Rattle.std.specs.Prelude.{ℕ, suc, ◌+◌, ◌≤◌, List, [], ◌∷◌, ◌++◌, map, Bool, true, false, ◌≡◌, refl, T, length}
use Rattle.std.proofs.Common.{ap, subst, arith, length-append, eqb-true}
use Rattle.meaning.specs.Basics.{pick, In}
use Rattle.meaning.specs.Told.{Edition}
use Rattle.meaning.specs.Editions.{Room, State, Form, text, date, number, block, itself, opens, quiet, Move, no_code, moves}
use Rattle.meaning.specs.Reading.{Row, has_code}
use Rattle.meaning.specs.Headers.{Placed, meant}
use Rattle.meaning.specs.Writing.{write_value, fits, fit_row, wrap}
use Rattle.laws_steps.specs.Lookups.{is_text_form, uncoded_text}
use Rattle.laws_steps.specs.Fits.{fit_holds}
use Rattle.laws_steps.specs.WrittenRead.{fit_all, then_inv}
use Rattle.laws_steps.specs.Envelopes.{Writes, the_base, before}

-- Never more rows than bytes: each row has a byte of its own

value_some : (f : Form) (v : List ℕ) → T (is_text_form f) → 1 ≤ length (write_value f v)
unfolding write_value
value_some (text rule) v t = omega (arith, length-append v (0 ∷ []))
value_some (date reach designated) v t = absurd t
value_some number v t = absurd t
value_some (block w) v t = absurd t
value_some itself v t = absurd t
value_some opens v t = absurd t
value_some quiet v t = absurd t

lead_some : (e : Edition) (r : Room) {m : Move} (v : List ℕ) → In m (moves e r) → (b : Bool) → has_code no_code m ≡ b → 1 ≤ length (pick b [] (m.code ∷ []) ++ write_value m.form v)
lead_some e r {m} v i true q = value_some m.form v (uncoded_text e r i (eqb-true m.code no_code q))
lead_some e r v i false q = omega arith

row_some : (e : Edition) (row : Row) (st st' : State) (bs : List ℕ) → fit_row e st row ≡ fits st' bs → 1 ≤ length bs
row_some e row =
    fit_holds e row (λ st st' bs. 1 ≤ length bs) (λ st st' m bs i p. subst (λ (x : List ℕ). 1 ≤ length x) p.out (lead_some e st.room row.view i (has_code no_code m) refl)) (λ st st' m bs i q h. omega arith)

rows_few : (e : Edition) (rows : List Row) (st st' : State) (bs : List ℕ) → fit_all e rows st ≡ fits st' bs → length rows ≤ length bs
unfolding fit_all
rows_few e [] st st' bs q = omega arith
rows_few e (row ∷ rows) st st' bs q =
    let (st₁, cs, ds, q₁, q₂, q₃) = then_inv (fit_row e st row) (fit_all e rows) st' bs q in
    let h = row_some e row st st₁ cs q₁ in let k = rows_few e rows st₁ st' ds q₂ in
    omega (arith, ap length q₃, length-append cs ds)

wrap_some : (b : Bool) (bs : List ℕ) → 1 + length bs ≤ length (wrap b bs)
wrap_some b bs = omega (arith, length-append (Rattle.meaning.specs.Writing.envelope_length (length bs)) bs)

length_rows : (xs ys : List Row) → length (xs ++ ys) ≡ length xs + length ys
length_rows [] ys = omega arith
length_rows (x ∷ xs) ys = let q = length_rows xs ys in omega arith

pub table_few : (e : Edition) {n : ℕ} {table : List Row} {w : List ℕ} → Writes e n table w → length table ≤ length w
table_few e (the_base rows st bs q l) = let h = rows_few e rows _ st bs q in let k = wrap_some true bs in omega arith
table_few e (before rows table st bs w n q l rest) =
    let h = rows_few e rows _ st bs q in let k = wrap_some false bs in let f = table_few e rest in
    omega (arith, length_rows rows table, length-append (wrap false bs) w)

pub length_meant : (rows : List Placed) → length (map meant rows) ≡ length rows
length_meant [] = refl
length_meant (r ∷ rows) = ap suc (length_meant rows)
