-- The decimal digits of a number as the code finds them, by dividing.
use Rattle.std.specs.Prelude.{ℕ, zero, suc, ◌+◌, ◌*◌, ◌/◌, ◌%◌, ◌≤◌, ◌<◌}

-- a number without its last k digits
abbrev pub quotient : ℕ → ℕ → ℕ
quotient zero number = number
quotient (suc k) number = quotient k (number / 10)

-- it has n digits: its first one is left when n - 1 of them are gone, and no sooner
abbrev pub HasDigits : ℕ → ℕ → Type 0
HasDigits zero number = ⊥
HasDigits (suc zero) number = number < 10
HasDigits (suc (suc n)) number = (10 ≤ number) × HasDigits (suc n) (number / 10)

-- the byte that codes the next digits of a number, `left` of which are not coded yet
abbrev pub packed_byte : ℕ → ℕ → ℕ
packed_byte number zero = 0
packed_byte number (suc zero) = 16 * (quotient 0 number % 10 + 1)
packed_byte number (suc (suc k)) = 16 * (quotient (suc k) number % 10 + 1) + (quotient k number % 10 + 1)
