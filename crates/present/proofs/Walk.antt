-- One turn of the walk: what is left to look at has the same first value.
use Prim.Native.Nat.{ℕ, ◌+◌, ◌-◌, ◌*◌, ◌≤◌, ◌<◌}
use mathlib.Core.List.{List}
use mathlib.Core.Bool.{Bool, true, false, ◌&&◌}
use mathlib.Core.Path.{◌≡◌, refl, ap, sym, ◌∙◌}
use native.Mathlib.Omega.{arith}
use lib.Dec.{eqb}
use lib.ListN.{get_or}
use borrow.Author.Tests.{eq-eqb, ne_eqb}
use Rattle.meaning.specs.Basics.{pick}
use Rattle.meaning.specs.Kinds.{extension_opens, base_opens}
use Rattle.meaning.specs.Skips.{Rank, is_envelope}
use Rattle.meaning.specs.Codes.{code_of, has_value, can_ask}
use Rattle.meaning.specs.Memory.{row_width, room_of}
use Rattle.laws_steps.specs.Hopping.{rank_at, given_at, skip_at, skip_forward, skip_most}
use Rattle.laws_tables.specs.Passing.{first_at, first_ends, first_found, first_steps, first_hops}
use Rattle.laws_tables.specs.PresentValues.{Walkable, agents_deep, can_ask_open}
use Rattle.present.specs.Promise.{next_looked}

-- the first value of all rows is the first from row i on
pub record Looked (rows : List ℕ) (code n i : ℕ) : Type 0 where
  pub most : i ≤ n
  pub same : first_at code rows n 0 ≡ first_at code rows n i

pub looked_none : (rows : List ℕ) (code n : ℕ) → Looked rows code n 0
looked_none rows code n = record { most = omega arith; same = refl }

-- a row count by another name
module _ (rows : List ℕ) (code : ℕ) {n : ℕ} (room : n ≡ room_of rows) where
  all_rows : first_at code rows n 0 ≡ first_at code rows (room_of rows) 0
  all_rows = ap (λ (x : ℕ). first_at code rows x 0) room

  pub looked_all : {i : ℕ} → Looked rows code n i → n ≤ i → n ≡ first_at code rows (room_of rows) 0
  looked_all {i} l h = let e : n ≡ i = omega (arith, l.most) in e ∙ sym (first_ends code rows n i h) ∙ sym l.same ∙ all_rows

  module _ {i : ℕ} (l : Looked rows code n i) (h : i < n) {b : Bool} (v : b ≡ has_value code (rank_at rows i)) where
    pub found : b ≡ true → i ≡ first_at code rows (room_of rows) 0
    found t = sym (first_found code rows n i h (sym v ∙ t)) ∙ sym l.same ∙ all_rows

    module _ (s : Walkable rows) where
      right : given_at rows i ≡ skip_at rows n i
      right = s.hops i (omega arith) (omega arith) ∙ ap (λ (x : ℕ). skip_at rows x i) (sym room)

      pub looks_behind : {next : ℕ} → next ≡ next_looked rows i → (i < next) × (next ≤ n)
      looks_behind {next} e = at (is_envelope (get_or rows (i * row_width) 0)) e
        where
          at : (z : Bool) → next ≡ pick z (i + 1) (given_at rows i) → (i < next) × (next ≤ n)
          at true q = (omega arith, omega arith)
          at false q = (omega (arith, q, right, skip_forward rows n i), omega (arith, q, right, skip_most rows n i h))

      pub looks_on : can_ask code ≡ true → b ≡ false → {next : ℕ} → next ≡ next_looked rows i → Looked rows code n next
      looks_on a t {next} e = record { most = (looks_behind e).1; same = l.same ∙ at (is_envelope (get_or rows (i * row_width) 0)) refl e }
        where
          at : (z : Bool) → is_envelope (get_or rows (i * row_width) 0) ≡ z → next ≡ pick z (i + 1) (given_at rows i) → first_at code rows n i ≡ first_at code rows n next
          at true o q = first_steps code rows n i h (sym v ∙ t) ∙ ap (first_at code rows n) (sym q)
          at false o q = first_hops code rows n i h (sym v ∙ t) (can_ask_open code a) o (agents_deep rows s i (omega arith)) ∙ ap (first_at code rows n) (sym right ∙ sym q)

      pub looks_less : {next : ℕ} → next ≡ next_looked rows i → n - next < n - i
      looks_less e = let (x, y) = looks_behind e in omega arith

-- A row's value, by its level and kind

pub value_off : (code : ℕ) (r : Rank) {level : ℕ} → level ≡ r.level → (level ≡ 0 → ⊥) → false ≡ has_value code r
value_off code r l n = sym (rw (ne_eqb r.level 0 (λ q. n (l ∙ q))) refl)

pub value_by_code : (code : ℕ) (r : Rank) {level kind own : ℕ} → level ≡ r.level → level ≡ 0 → kind ≡ r.kind → own ≡ code_of kind → eqb own code ≡ has_value code r
value_by_code code r l z k c =
    ap (λ (x : ℕ). eqb x code) (c ∙ ap code_of k) ∙ ap (λ (b : Bool). b && eqb (code_of r.kind) code) (sym (eq-eqb r.level 0 (sym l ∙ z)))

-- The next row, by its kind

pub next_inside : (rows : List ℕ) (i : ℕ) {kind envelope : ℕ} → kind ≡ get_or rows (i * row_width) 0 → kind ≡ envelope → is_envelope envelope ≡ true → i + 1 ≡ next_looked rows i
next_inside rows i k q e = ap (λ (b : Bool). pick b (i + 1) (given_at rows i)) (sym (ap is_envelope (sym k ∙ q) ∙ e))

pub next_behind : (rows : List ℕ) (i : ℕ) {kind next : ℕ} → kind ≡ get_or rows (i * row_width) 0 → (kind ≡ extension_opens → ⊥) → (kind ≡ base_opens → ⊥) → next ≡ given_at rows i → next ≡ next_looked rows i
next_behind rows i {kind} k n m e =
    let no : is_envelope kind ≡ false = rw (ne_eqb kind extension_opens n, ne_eqb kind base_opens m) refl in
    e ∙ ap (λ (b : Bool). pick b (i + 1) (given_at rows i)) (sym (ap is_envelope (sym k) ∙ no))
