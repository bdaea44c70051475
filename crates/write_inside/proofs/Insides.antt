-- The inside of an envelope by its stages: what stands at its front, and its end behind the closing 01, where nothing fits any more.
use Prim.Native.Nat.{ℕ, suc, ◌+◌, ◌≤◌, ◌<◌}
use mathlib.Core.List.{List, [], ◌∷◌, append-nil}
use mathlib.Core.Bool.{Bool, true, false, not, ◌&&◌}
use mathlib.Core.Path.{◌≡◌, refl, ap, sym, ◌∙◌, subst}
use Rattle.table.specs.declared.rows.Ahead.{Ahead}
use Rattle.meaning.specs.Kinds.{base_opens, extension_opens}
use borrow.Author.Tests.{ne_eqb}
use lib.Dec.{eqb}
use Rattle.meaning.specs.Basics.{pick, is_empty}
use Rattle.meaning.specs.Told.{Edition}
use Rattle.meaning.specs.Editions.{State, state, head_date, closed, outer, representations}
use Rattle.meaning.specs.Headers.{start}
use Rattle.meaning.specs.Writing.{Cell, cell, broken, Opens, envelope_row, inner_row, opens_of, fit_row}
use Rattle.laws_steps.specs.Fits.{close_once}
use Rattle.laws_steps.specs.Rows.{row_cell, cells_at, cells_next, cells_last, whole_rows}
use Rattle.table.specs.Rows.{viewed, IsAhead}
use Rattle.meaning.specs.Memory.{room_of}
use Rattle.write_rows.specs.Bodies.{Body, halt, body, on_body, seal_body, row_body, cell_body, body_of, opens_number}
use Rattle.write_inside.specs.Insides.{base_of, open_base, ends_before, BodyIs, none_fits}
use Rattle.write_rows.specs.Stages.{body_at, TriedIs, Onward, AdvanceIs, after_needed}
use Rattle.write_rows.specs.declared.advance.Onto.{Onto}
use Rattle.write_rows.specs.declared.advance.Misfit.{Misfit}
use Rattle.write_inside.specs.declared.body.Inside.{Inside}
use Rattle.write_rows.specs.Onward.{needed_is}
use Rattle.std.specs.Prelude.{Option, None, Result, Ok, Err, is_some}
use Rattle.write_inside.proofs.Rooms.{front_representation}

-- "Base: FE, length, representation, date": what is known of the representation, where the code asks whether the envelope is the base
pub represented : (edition : Edition) (pool rows : List ℕ) (i : ℕ) (before : List ℕ) (at : ℕ) (t : Option ℕ) (after : List ℕ) → TriedIs (representations (outer head_date)) 0 pool rows i before at t after
    → {base : Bool} {r : Result Onto Misfit} → base ≡ true → r ≡ after_needed i t → AdvanceIs edition pool rows i (start base) (state head_date 0 false) before at r after
represented edition pool rows i before at t after x {r = r} b q =
    subst (λ (y : Bool). AdvanceIs edition pool rows i (start y) (state head_date 0 false) before at r after) (sym b) (needed_is edition pool rows i (start true) (front_representation edition) before at t after x q)

-- The end: the next envelope's row, or no row

pub ends_last : (pool rows : List ℕ) (i : ℕ) → room_of rows ≤ i → whole_rows rows ≡ ends_before (cells_at pool rows i)
ends_last pool rows i h = sym (ap ends_before (cells_last pool rows i h) ∙ at (whole_rows rows))
  where
    at : (b : Bool) → ends_before (pick b [] (broken ∷ [])) ≡ b
    at true = refl
    at false = refl

-- a row of another kind opens no envelope
pub open_other : {pool rows : List ℕ} {i : ℕ} {r : Ahead} → IsAhead pool rows i r → (r.kind ≡ extension_opens → ⊥) → (r.kind ≡ base_opens → ⊥) → None ≡ open_base (cells_at pool rows i)
open_other {pool} {r = r} a x y = (rw (ne_eqb r.kind 1 x, ne_eqb r.kind 2 y) (none (eqb r.level 0 && is_empty (viewed pool r)))) ∙ sym (ap open_base a.row.cells)
  where
    none : (b : Bool) → None ≡ base_of (pick b inner_row inner_row)
    none true = refl
    none false = refl

pub ends_open : (pool rows : List ℕ) (i : ℕ) → i < room_of rows → {o : Option Bool} → o ≡ open_base (cells_at pool rows i) → is_some o ≡ ends_before (cells_at pool rows i)
ends_open pool rows i h q =
    let c = cells_next pool rows i h in
    ap is_some (q ∙ ap open_base c) ∙ at (row_cell pool rows i) ∙ sym (ap ends_before c)
  where
    opens : (o : Opens) → is_some (base_of o) ≡ not (eqb (opens_number o) 0)
    opens inner_row = refl
    opens (envelope_row true) = refl
    opens (envelope_row false) = refl

    at : (c : Cell) → is_some (open_base (c ∷ cells_at pool rows (i + 1))) ≡ ends_before (c ∷ cells_at pool rows (i + 1))
    at broken = refl
    at (cell row) = opens (opens_of row)

-- behind the closing 01 nothing fits
closed_body : (e : Edition) (cs : List Cell) (i : ℕ) → body_of e cs i (state closed 0 false) ≡ pick (ends_before cs) (body [] i cs) (halt i)
unfolding body_of
closed_body e [] i = ap (seal_body i []) (close_once e (state closed 0 false))
closed_body e (broken ∷ cs) i = refl
closed_body e (cell row ∷ cs) i = at (opens_of row)
  where
    at : (o : Opens) → cell_body e (state closed 0 false) i row cs (body_of e cs (suc i)) o ≡ pick (not (eqb (opens_number o) 0)) (body [] i (cell row ∷ cs)) (halt i)
    at inner_row = ap (row_body i (body_of e cs (suc i))) (none_fits e row (fit_row e (state closed 0 false) row) refl)
    at (envelope_row true) = ap (seal_body i (cell row ∷ cs)) (close_once e (state closed 0 false))
    at (envelope_row false) = ap (seal_body i (cell row ∷ cs)) (close_once e (state closed 0 false))

pub body_as : (o : Body) (pool rows m : List ℕ) (at : ℕ) (m₁ : List ℕ) {r r₁ : Result Inside Misfit} → r ≡ r₁ → BodyIs o pool rows m at r m₁ → BodyIs o pool rows m at r₁ m₁
body_as o pool rows m at m₁ q x = subst (λ (y : Result Inside Misfit). BodyIs o pool rows m at y m₁) q x

pub body_stuck : {o : Body} (pool rows m : List ℕ) (at : ℕ) (m₁ : List ℕ) {j : ℕ} → o ≡ halt j → BodyIs o pool rows m at (Err (record { row = j })) m₁
body_stuck pool rows m at m₁ {j} q = subst (λ (x : Body). BodyIs x pool rows m at (Err (record { row = j })) m₁) (sym q) refl

-- what lies before the end is the whole inside
module _ {edition : Edition} {pool rows : List ℕ} {i : ℕ} {st : State} {k : ℕ} {m : List ℕ} {at : ℕ} {m₁ : List ℕ} {p : ℕ} (a : Onward edition pool rows i st k (state closed 0 false) m at m₁ p) {b : Bool} (e : b ≡ ends_before (cells_at pool rows k)) where
  abbrev bytes : List ℕ
  bytes = a.onto.bytes

  whole : {c : Bool} → b ≡ c → body_at edition pool rows i st ≡ on_body bytes (pick c (body [] k (cells_at pool rows k)) (halt k))
  whole q = a.onto.is ∙ ap (on_body bytes) (closed_body edition (cells_at pool rows k) k ∙ ap (λ (x : Bool). pick x (body [] k (cells_at pool rows k)) (halt k)) (sym e ∙ q))

  pub body_ends : b ≡ true → BodyIs (body_at edition pool rows i st) pool rows m at (Ok (record { row = k; many = p })) m₁
  body_ends q = subst (λ (x : Body). BodyIs x pool rows m at (Ok (record { row = k; many = p })) m₁) (sym (whole q ∙ ap (λ (x : List ℕ). body x k (cells_at pool rows k)) (append-nil bytes))) (refl, a.inside, refl, a.onto.laid)

  pub body_halts : b ≡ false → BodyIs (body_at edition pool rows i st) pool rows m at (Err (record { row = k })) m₁
  body_halts q = body_stuck pool rows m at m₁ (whole q)
