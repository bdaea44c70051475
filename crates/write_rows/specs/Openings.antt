-- Which rows open an envelope, by level, length and kind.
use Rattle.std.specs.Prelude.{◌≡◌, refl, Bool, true, false, ◌&&◌, List, [], ◌∷◌, ℕ, zero, suc, ◌≤◌, ◌<◌, eqb, length}
use Rattle.std.proofs.Common.{arith, eq-eqb, ne_eqb}
use Rattle.meaning.specs.Basics.{pick, is_empty}
use Rattle.meaning.specs.Writing.{opens_of, envelope_row, inner_row}
use Rattle.table.specs.Rows.{row_with}
use Rattle.write_rows.specs.Bodies.{opens_number}

pub opens_level : (kind level : ℕ) (v : List ℕ) → (level ≡ 0 → ⊥) → 0 ≡ opens_number (opens_of (row_with kind level v))
opens_level kind level v h = rw (ne_eqb level 0 h) refl

pub opens_some : (kind level : ℕ) (v : List ℕ) → (length v ≡ 0 → ⊥) → 0 ≡ opens_number (opens_of (row_with kind level v))
opens_some kind level [] h = absurd (h refl)
opens_some kind level (b ∷ v) h = at (eqb level 0)
  where
    at : (z : Bool) → 0 ≡ opens_number (pick (z && false) (pick (eqb kind 1) (envelope_row false) (pick (eqb kind 2) (envelope_row true) inner_row)) inner_row)
    at true = refl
    at false = refl

pub opens_by : (kind level : ℕ) (v : List ℕ) → level ≡ 0 → length v ≡ 0 → pick (eqb kind 1) 1 (pick (eqb kind 2) 2 0) ≡ opens_number (opens_of (row_with kind level v))
opens_by kind level [] l q = rw (eq-eqb level 0 l) (at (eqb kind 1) (eqb kind 2))
  where
    at : (a b : Bool) → pick a 1 (pick b 2 0) ≡ opens_number (pick a (envelope_row false) (pick b (envelope_row true) inner_row))
    at true b = refl
    at false true = refl
    at false false = refl
opens_by kind level (b ∷ v) l q = absurd (omega arith)

pub opens_kind : (kind : ℕ) → kind ≤ 2 → kind ≡ pick (eqb kind 1) 1 (pick (eqb kind 2) 2 0)
opens_kind zero h = refl
opens_kind (suc zero) h = refl
opens_kind (suc (suc zero)) h = refl
opens_kind (suc (suc (suc k))) h = absurd (omega arith)

pub opens_past : (kind level : ℕ) (v : List ℕ) → 2 < kind → 0 ≡ opens_number (opens_of (row_with kind level v))
opens_past kind level v h = rw (ne_eqb kind 1 (λ q. omega arith), ne_eqb kind 2 (λ q. omega arith)) (at (eqb level 0 && is_empty v))
  where
    at : (b : Bool) → 0 ≡ opens_number (pick b inner_row inner_row)
    at true = refl
    at false = refl
