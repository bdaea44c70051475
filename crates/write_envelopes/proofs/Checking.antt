-- The check, envelope by envelope: what opens at a row, the body behind it, and what the sizes says of the rest.
use Prim.Native.Nat.{ℕ, ◌+◌, ◌≤◌, ◌<◌}
use mathlib.Core.List.{List, []}
use mathlib.Core.Bool.{Bool, true, false}
use mathlib.Core.Path.{◌≡◌, refl, ap, sym, ◌∙◌, subst}
use native.Mathlib.Omega.{arith}
use lib.Dec.{ltb}
use lib.ListN.{length}
use borrow.Author.Tests.{ltb-true, ltb-false}
use Rattle.meaning.specs.Headers.{start, envelope_most}
use Rattle.meaning.specs.Writing.{Cell, Plan, stuck, new_plan, Limit}
use Rattle.meaning.specs.Told.{Edition}
use Rattle.meaning.specs.Memory.{room_of}
use Rattle.write_rows.specs.Laying.{capped, capped_most}
use Rattle.laws_steps.specs.Rows.{cells_at, cells_next, cells_none, cells_part, whole_rows}
use Rattle.write_rows.specs.Bodies.{Body, halt, body, body_of}
use Rattle.write_inside.specs.Insides.{open_base, open_end}
use Rattle.write_envelopes.specs.Whole.{edge, from_body, Verdict, bad, verdict_of, verdict, end_verdict, limit_of, Measured, OneMore}
use Rattle.write_envelopes.specs.declared.measure.Sizes.{Sizes}
use Rattle.write_inside.specs.declared.body.Inside.{Inside}
use Rattle.write_rows.specs.declared.advance.Misfit.{Misfit}
use Rattle.std.specs.Prelude.{None, Some, Ok, Err}
use Rattle.write_envelopes.proofs.Wholes.{edge_none, edge_open, more_extension, more_base, Later, body_later, opened}

-- the plan from row i on, where an envelope must open
abbrev pub rest : Edition → List ℕ → List ℕ → ℕ → Plan
rest edition pool rows i = edge edition false [] i (cells_at pool rows i)

inside_rows : (pool rows : List ℕ) (i : ℕ) {base : Bool} → Some base ≡ open_base (cells_at pool rows i) → i < room_of rows
inside_rows pool rows i {base} q = at (ltb i (room_of rows)) refl
  where
    at : (b : Bool) → ltb i (room_of rows) ≡ b → i < room_of rows
    at true e = ltb-true i (room_of rows) e
    at false e = let z : Some base ≡ None = q ∙ sym (open_end pool rows i (ltb-false i (room_of rows) e)) in cc

-- what the envelope that opens at row i is
pub rest_none : (edition : Edition) (pool rows : List ℕ) (i : ℕ) → None ≡ open_base (cells_at pool rows i) → rest edition pool rows i ≡ stuck i
rest_none edition pool rows i q = edge_none edition [] i (cells_at pool rows i) (sym q)

module _ (edition : Edition) (pool rows : List ℕ) (i : ℕ) {base : Bool} (q : Some base ≡ open_base (cells_at pool rows i)) where
  pub row_inside : i < room_of rows
  row_inside = inside_rows pool rows i q

  abbrev pub here : Body
  here = body_of edition (cells_at pool rows (i + 1)) (i + 1) (start base)

  pub rest_opens : rest edition pool rows i ≡ new_plan i base [] (from_body edition base here)
  rest_opens = edge_open edition [] i (cells_at pool rows i) (cells_at pool rows (i + 1)) q (ap opened (cells_next pool rows i row_inside))

-- a body that was measured, by the answer
abbrev pub Ends : Body → List ℕ → List ℕ → ℕ → ℕ → Type 0
Ends b pool rows row many = (bytes : List ℕ) × (b ≡ body bytes row (cells_at pool rows row)) × (many ≡ capped (length bytes)) × (row ≤ room_of rows)

pub measured_stuck : (b : Body) (pool rows : List ℕ) {misfit : Misfit} → Measured b pool rows (Err misfit) → b ≡ halt misfit.row
measured_stuck (halt k) pool rows z = ap halt (sym z)
measured_stuck (body bytes k cells) pool rows z = absurd z

pub measured_ended : (b : Body) (pool rows : List ℕ) {inside : Inside} → Measured b pool rows (Ok inside) → Ends b pool rows inside.row inside.many
measured_ended (halt k) pool rows z = absurd z
measured_ended (body bytes k cells) pool rows z = (bytes, rw (sym z.0, sym z.2) refl, z.3, z.1)

pub ends_small : (bytes : List ℕ) {many : ℕ} → many ≡ capped (length bytes) → many ≤ envelope_most
ends_small bytes q = omega (arith, q, capped_most (length bytes))

-- The check, envelope by envelope
module _ (edition : Edition) (pool rows : List ℕ) (i : ℕ) (t : Sizes) where
  abbrev so_far : Verdict
  so_far = verdict t.left t.total (limit_of t.over) (rest edition pool rows i)

  pub check_none : None ≡ open_base (cells_at pool rows i) → so_far ≡ bad 15 i
  check_none q = ap (verdict t.left t.total (limit_of t.over)) (rest_none edition pool rows i q)

  module _ {base : Bool} (q : Some base ≡ open_base (cells_at pool rows i)) where
    abbrev behind : Body → Verdict
    behind b = verdict t.left t.total (limit_of t.over) (new_plan i base [] (from_body edition base b))

    opened_so_far : so_far ≡ behind (here edition pool rows i q)
    opened_so_far = ap (verdict t.left t.total (limit_of t.over)) (rest_opens edition pool rows i q)

    pub check_stuck : {j : ℕ} → here edition pool rows i q ≡ halt j → so_far ≡ bad 15 j
    check_stuck e = opened_so_far ∙ ap behind e

    pub check_base : {row many : ℕ} {r : Sizes} → Ends (here edition pool rows i q) pool rows row many → OneMore t i many r → base ≡ true → so_far ≡ end_verdict (cells_at pool rows row) row r.total (limit_of r.over)
    check_base {row} (bytes, e, m, l) a two =
        opened_so_far ∙ ap behind e
        ∙ ap (λ (b : Bool). verdict t.left t.total (limit_of t.over) (new_plan i b [] (edge edition b bytes row (cells_at pool rows row)))) two
        ∙ more_base a (length bytes) m edition bytes row (cells_at pool rows row) refl

    pub check_extension : {row many : ℕ} {r : Sizes} → Ends (here edition pool rows i q) pool rows row many → OneMore t i many r → base ≡ false
        → so_far ≡ verdict r.left r.total (limit_of r.over) (rest edition pool rows row)
    check_extension {row} (bytes, e, m, l) a two =
        opened_so_far ∙ ap behind e
        ∙ ap (λ (b : Bool). verdict t.left t.total (limit_of t.over) (new_plan i b [] (edge edition b bytes row (cells_at pool rows row)))) two
        ∙ more_extension a (length bytes) m edition bytes row (cells_at pool rows row) refl

    -- the next envelope opens further on
    pub ends_later : {row many : ℕ} → Ends (here edition pool rows i q) pool rows row many → i < row
    ends_later {row} (bytes, e, m, l) =
        let w : i + 1 ≤ row = subst (Later (i + 1)) e (body_later edition (cells_at pool rows (i + 1)) (i + 1) (start base)) in
        omega arith

-- behind the base
module _ (pool rows : List ℕ) (row total : ℕ) (o : Limit) where
  pub end_more : row < room_of rows → bad 15 row ≡ end_verdict (cells_at pool rows row) row total o
  end_more h = sym (ap (λ (x : List Cell). end_verdict x row total o) (cells_next pool rows row h))

  pub end_part : room_of rows ≤ row → whole_rows rows ≡ false → bad 15 row ≡ end_verdict (cells_at pool rows row) row total o
  end_part h k = sym (ap (λ (x : List Cell). end_verdict x row total o) (cells_part pool rows row h k))

  pub end_all : room_of rows ≤ row → whole_rows rows ≡ true → verdict_of total o ≡ end_verdict (cells_at pool rows row) row total o
  end_all h k = sym (ap (λ (x : List Cell). end_verdict x row total o) (cells_none pool rows row h k))
