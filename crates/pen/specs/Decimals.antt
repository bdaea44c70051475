-- A number's decimal text: one digit, or a tenth's text and the last digit; and how long it is.
use Rattle.std.specs.Prelude.{ℕ, zero, suc, ◌+◌, ◌*◌, ◌/◌, ◌%◌, ◌≤◌, ◌<◌, List, [], ◌∷◌, ◌++◌, map, Bool, true, false, ◌≡◌, refl, ltb, length}
use Rattle.std.proofs.lemmas.List.{map-append}
use Rattle.std.proofs.Common.{ap, sym, ◌∙◌, arith, lt-ltb, le-ltb, ltb-true, ltb-false, length-append}
use Rattle.meaning.specs.Plain.{digits_within, digits_of}
use Rattle.meaning.specs.Listing.{digit_character, decimal}
use Rattle.pen.specs.Wrote.{Wrote}
use Rattle.pen.specs.Written.{wrote_then, wrote_as, wrote_byte}

pub decimal_small : (v : ℕ) → v < 10 → decimal v ≡ digit_character v ∷ []
unfolding decimal digits_of digits_within
decimal_small v h = rw (lt-ltb v 10 h) refl

-- more fuel adds no digits
within_enough : (m n v : ℕ) → v < m → v < n → digits_within m v ≡ digits_within n v
unfolding digits_within
within_enough zero n v h k = absurd (omega arith)
within_enough (suc m) zero v h k = absurd (omega arith)
within_enough (suc m) (suc n) v h k = by (ltb v 10) refl (λ g. within_enough m n (v / 10) (omega arith) (omega arith))
  where
    by : (z : Bool) → ltb v 10 ≡ z → (10 ≤ v → digits_within m (v / 10) ≡ digits_within n (v / 10)) → digits_within (suc m) v ≡ digits_within (suc n) v
    by true q onward = rw q refl
    by false q onward = rw (q, onward (ltb-false v 10 q)) refl

digits_more : (v : ℕ) → 10 ≤ v → digits_of v ≡ digits_of (v / 10) ++ (v % 10 ∷ [])
unfolding digits_of digits_within
digits_more v h = first v h ∙ ap (λ (x : List ℕ). x ++ (v % 10 ∷ [])) (within_enough v (suc (v / 10)) (v / 10) (omega arith) (omega arith))
  where
    first : (v : ℕ) → 10 ≤ v → digits_within (suc v) v ≡ digits_within v (v / 10) ++ (v % 10 ∷ [])
    first v h = rw (le-ltb v 10 h) refl

pub decimal_more : (v : ℕ) → 10 ≤ v → decimal v ≡ decimal (v / 10) ++ (digit_character (v % 10) ∷ [])
unfolding decimal
decimal_more v h = ap (map digit_character) (digits_more v h) ∙ map-append digit_character (digits_of (v / 10)) (v % 10 ∷ [])

pub decimal_longer : (v : ℕ) → 10 ≤ v → length (decimal v) ≡ length (decimal (v / 10)) + 1
decimal_longer v h = ap length (decimal_more v h) ∙ length-append (decimal (v / 10)) (digit_character (v % 10) ∷ [])

abbrev power : ℕ → ℕ
power zero = 1
power (suc k) = 10 * power k

few_by : (k v : ℕ) → (z : Bool) → ltb v 10 ≡ z → (10 ≤ v → length (decimal (v / 10)) ≤ k) → length (decimal v) ≤ suc k
few_by k v true q onward = omega (arith, ap length (decimal_small v (ltb-true v 10 q)))
few_by k v false q onward = omega (arith, decimal_longer v (ltb-false v 10 q), onward (ltb-false v 10 q))

decimal_few : (k v : ℕ) → v < power k → 1 ≤ k → length (decimal v) ≤ k
decimal_few zero v h l = absurd (omega arith)
decimal_few (suc zero) v h l = omega (arith, ap length (decimal_small v (omega arith)))
decimal_few (suc (suc k)) v h l = few_by (suc k) v (ltb v 10) refl (λ g. decimal_few (suc k) (v / 10) (omega arith) (omega arith))

pub ten_digits : (v : ℕ) → v < 4294967296 → length (decimal v) ≤ 10
ten_digits v h = decimal_few 10 v (omega arith) (omega arith)

pub twenty_digits : (v : ℕ) → v < 18446744073709551616 → length (decimal v) ≤ 20
twenty_digits v h = decimal_few 20 v (omega arith) (omega arith)

pub decimal_some : (v : ℕ) → 1 ≤ length (decimal v)
decimal_some v = by (ltb v 10) refl
  where
    by : (z : Bool) → ltb v 10 ≡ z → 1 ≤ length (decimal v)
    by true q = omega (arith, ap length (decimal_small v (ltb-true v 10 q)))
    by false q = omega (arith, decimal_longer v (ltb-false v 10 q))

-- the pen: one digit, and the last one behind the others; d: the character of the digit
pub wrote_small : (v : ℕ) {a b : List ℕ} {at d end : ℕ} → v < 10 → d ≡ digit_character v → Wrote a b at (d ∷ []) end → Wrote a b at (decimal v) end
wrote_small v h q w = wrote_as (sym (decimal_small v h)) (wrote_byte q w)

pub wrote_more : (v : ℕ) {a b c : List ℕ} {at mid d end : ℕ} → 10 ≤ v → Wrote a b at (decimal (v / 10)) mid → d ≡ digit_character (v % 10) → Wrote b c mid (d ∷ []) end → Wrote a c at (decimal v) end
wrote_more v h u q w = wrote_as (sym (decimal_more v h)) (wrote_then u (wrote_byte q w))

pub field_end : (v closing : ℕ) {a b : List ℕ} {at end : ℕ} → Wrote a b at (decimal v ++ (closing ∷ [])) end → end ≡ at + length (decimal v) + 1
field_end v closing w = omega (arith, w.ends, length-append (decimal v) (closing ∷ []))
