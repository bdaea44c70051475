-- What a code finds among the moves of a room of any-values and of one of representations, whichever room is next.
use Prim.Native.Nat.{ℕ, zero, suc, ◌+◌, ◌-◌, ◌≤◌}
use mathlib.Core.Path.{◌≡◌, refl, sym}
use native.Mathlib.Omega.{arith}
use borrow.Author.Tests.{ne_eqb}
use Rattle.meaning.specs.Kinds.{standard_representation}
use Rattle.meaning.specs.Editions.{Next, itself, any_values, representations, on◌▸◌▸◌▸◌}
use Rattle.meaning.specs.Reading.{find, look, hit, none}

pub no_any : (b : ℕ) → (b ≡ 0x14 → ⊥) → (b ≡ 0x16 → ⊥) → (b ≡ 0x17 → ⊥) → (b ≡ 0x19 → ⊥) → (n : Next) → look b (any_values n) ≡ none
unfolding look find
no_any b h i j k n = rw (ne_eqb 0x14 b (λ q. h (sym q)), ne_eqb 0x16 b (λ q. i (sym q)), ne_eqb 0x17 b (λ q. j (sym q)), ne_eqb 0x19 b (λ q. k (sym q))) refl

standard_by : (b d : ℕ) → b ≡ 0x10 + d → d ≤ 2 → (n : Next) → look b (representations n) ≡ hit (on b ▸ standard_representation ▸ itself ▸ n)
unfolding look find
standard_by b zero h k n = rw h refl
standard_by b (suc zero) h k n = rw h refl
standard_by b (suc (suc zero)) h k n = rw h refl
standard_by b (suc (suc (suc d))) h k n = absurd (omega arith)

pub standard : (b : ℕ) → 0x10 ≤ b → b ≤ 0x12 → (n : Next) → look b (representations n) ≡ hit (on b ▸ standard_representation ▸ itself ▸ n)
standard b h k = standard_by b (b - 0x10) (omega arith) (omega arith)

pub no_representation : (b : ℕ) → (b ≡ 0x00 → ⊥) → (b ≡ 0x10 → ⊥) → (b ≡ 0x11 → ⊥) → (b ≡ 0x12 → ⊥) → (n : Next) → look b (representations n) ≡ none
unfolding look find
no_representation b h i j k n = rw (ne_eqb 0x10 b (λ q. i (sym q)), ne_eqb 0x11 b (λ q. j (sym q)), ne_eqb 0x12 b (λ q. k (sym q)), ne_eqb 0x00 b (λ q. h (sym q))) refl
