-- A plain number to its coded bytes: its digits counted and taken from the end, its bytes as the code makes them, and what an encoder answers.
use Prim.Native.Nat.{ℕ, zero, suc, ◌+◌, ◌-◌, ◌*◌, ◌/◌, ◌%◌, ◌≤◌, ◌<◌}
use mathlib.Core.List.{List, [], ◌∷◌, ◌++◌}
use mathlib.Core.Bool.{Bool, true, false}
use mathlib.Core.Path.{◌≡◌, refl, ap, sym, ◌∙◌}
use native.Mathlib.Numerals.{add-one}
use native.Mathlib.Omega.{arith}
use borrow.Author.Tests.{le-leb, lt-leb, lt-ltb, le-ltb}
use lib.Dec.{leb}
use Rattle.std.specs.Prelude.{◌^◌}
use Prim.Native.Nat.{max}
use Rattle.std.proofs.Math.Nat.{pow-succ'}
use lib.ListN.{length, take, drop, length-take}
use lib.Seq.{take-length}
use Rattle.meaning.specs.Bytes.{number_most}
use Rattle.meaning.specs.Memory.{laid_over}
use Rattle.meaning.specs.Plain.{outcome, encode_outcome, encode_memory, digits_within, digits_of, packed, number_bytes, number_encoded, number_output}
use Rattle.coders.specs.declared.encode.Encoded.{Encoded}
use Rattle.coders.specs.Decimal.{quotient, HasDigits, packed_byte}
use Rattle.coders.specs.Plain.{NumberEncodes}

quotient_last : (k v : ℕ) → quotient k (v / 10) ≡ quotient k v / 10
quotient_last zero v = refl
quotient_last (suc k) v = quotient_last k (v / 10)

pub quotient_next : (k v : ℕ) {rest : ℕ} → rest ≡ quotient k v → rest / 10 ≡ quotient (k + 1) v
quotient_next k v h = ap (λ (x : ℕ). x / 10) h ∙ sym (quotient_last k v) ∙ rw (add-one k) refl

pow_pos : (k : ℕ) → 1 ≤ 10 ^ k
pow_pos zero = omega arith
pow_pos (suc k) = omega (arith, pow_pos k, pow-succ' 10 k)

-- a number between two powers of ten has a digit more than the lower one has zeros
digits_between : (k v : ℕ) → 10 ^ k ≤ v → v < 10 * 10 ^ k → HasDigits (suc k) v
digits_between zero v h l = omega arith
digits_between (suc k) v h l =
    let p : 10 ^ suc k ≡ 10 * 10 ^ k = pow-succ' 10 k in
    (omega (arith, p, pow_pos k), digits_between k (v / 10) (omega (arith, p)) (omega (arith, p)))

-- .. and no more digits than a power that it is below
zeros_below : (k n v : ℕ) → 10 ^ k ≤ v → v < 10 ^ n → k < n
zeros_below k zero v h l = absurd (omega (arith, pow_pos k))
zeros_below zero (suc n) v h l = omega arith
zeros_below (suc k) (suc n) v h l = let q = zeros_below k n (v / 10) (omega (arith, pow-succ' 10 k)) (omega (arith, pow-succ' 10 n)) in omega arith

pub digits_counted : (k v : ℕ) {w : ℕ} → w ≡ max v 1 → 10 ^ k ≤ w → w < 10 * 10 ^ k → v ≤ number_most → (1 ≤ k + 1) × (k + 1 ≤ 10) × HasDigits (k + 1) v
digits_counted zero zero q h l m = (omega arith, omega arith, omega arith)
digits_counted (suc k) zero q h l m = absurd (omega (arith, q, h, pow-succ' 10 k, pow_pos k))
digits_counted k (suc v) {w} q h l m =
    let is : w ≡ suc v = q ∙ omega arith in
    let few : k < 10 = zeros_below k 10 (suc v) (omega arith) (omega arith) in
    (omega arith, omega arith, rw (add-one k) (digits_between k (suc v) (omega arith) (omega arith)))

-- the digits of a number, the first one first, each from the number itself
abbrev digits_down : ℕ → ℕ → List ℕ
digits_down zero v = []
digits_down (suc k) v = quotient k v % 10 ∷ digits_down k v

down_last : (k v : ℕ) → digits_down (suc k) v ≡ digits_down k (v / 10) ++ (v % 10 ∷ [])
down_last zero v = refl
down_last (suc k) v = ap (λ (x : List ℕ). quotient k (v / 10) % 10 ∷ x) (down_last k v)

digits_within_lem : (fuel n v : ℕ) → v < fuel → HasDigits n v → digits_within fuel v ≡ digits_down n v
unfolding digits_within
digits_within_lem zero n v h d = absurd (omega arith)
digits_within_lem (suc fuel) zero v h d = absurd d
digits_within_lem (suc fuel) (suc zero) v h d = rw (lt-ltb v 10 d) (ap (λ (x : ℕ). x ∷ []) (omega arith))
digits_within_lem (suc fuel) (suc (suc n)) v h d =
    rw (le-ltb v 10 d.0) (ap (λ (x : List ℕ). x ++ (v % 10 ∷ [])) (digits_within_lem fuel (suc n) (v / 10) (omega arith) d.1) ∙ sym (down_last (suc n) v))

-- the next byte, from the digits that the code took
pub byte_none : (v left : ℕ) → left ≡ 0 → 0 ≡ packed_byte v left
byte_none v left h = rw h refl

pub byte_odd : (v left : ℕ) {d : ℕ} → left ≡ 1 → d ≡ quotient (left - 1) v % 10 → 16 * (d + 1) ≡ packed_byte v left
byte_odd v left h q = let z : left - 1 ≡ 0 = omega arith in rw (q, z, h) refl

pub byte_even : (v left : ℕ) {d e : ℕ} → 2 ≤ left → d ≡ quotient (left - 1) v % 10 → e ≡ quotient (left - 2) v % 10 → 16 * (d + 1) + (e + 1) ≡ packed_byte v left
byte_even v left h q r =
    let y : left - 1 ≡ suc (left - 2) = omega arith in
    let z : left ≡ suc (suc (left - 2)) = omega arith in
    rw (q, r, y) (sym (ap (packed_byte v) z))

-- the six bytes that the code makes of n digits
abbrev six_bytes : ℕ → ℕ → List ℕ
six_bytes v n =
    packed_byte v (n - 2 * 0) ∷ packed_byte v (n - 2 * 1) ∷ packed_byte v (n - 2 * 2) ∷ packed_byte v (n - 2 * 3) ∷ packed_byte v (n - 2 * 4) ∷ packed_byte v (n - 2 * 5) ∷ []

to_ten : (P : ℕ → Type 0) → P 1 → P 2 → P 3 → P 4 → P 5 → P 6 → P 7 → P 8 → P 9 → P 10 → (n : ℕ) → 1 ≤ n → n ≤ 10 → P n
to_ten P a b c d e f g h i j zero l m = absurd (omega arith)
to_ten P a b c d e f g h i j (suc zero) l m = a
to_ten P a b c d e f g h i j (suc (suc zero)) l m = b
to_ten P a b c d e f g h i j (suc (suc (suc zero))) l m = c
to_ten P a b c d e f g h i j (suc (suc (suc (suc zero)))) l m = d
to_ten P a b c d e f g h i j (suc (suc (suc (suc (suc zero))))) l m = e
to_ten P a b c d e f g h i j (suc (suc (suc (suc (suc (suc zero)))))) l m = f
to_ten P a b c d e f g h i j (suc (suc (suc (suc (suc (suc (suc zero))))))) l m = g
to_ten P a b c d e f g h i j (suc (suc (suc (suc (suc (suc (suc (suc zero)))))))) l m = h
to_ten P a b c d e f g h i j (suc (suc (suc (suc (suc (suc (suc (suc (suc zero))))))))) l m = i
to_ten P a b c d e f g h i j (suc (suc (suc (suc (suc (suc (suc (suc (suc (suc zero)))))))))) l m = j
to_ten P a b c d e f g h i j (suc (suc (suc (suc (suc (suc (suc (suc (suc (suc (suc n))))))))))) l m = absurd (omega arith)

six : (v n : ℕ) → 1 ≤ n → n ≤ 10 → (take (n / 2 + 1) (six_bytes v n) ≡ packed (digits_down n v)) × (n / 2 + 1 ≡ length (packed (digits_down n v)))
unfolding packed
six v n l m =
    to_ten (λ (n : ℕ). (take (n / 2 + 1) (six_bytes v n) ≡ packed (digits_down n v)) × (n / 2 + 1 ≡ length (packed (digits_down n v))))
    (refl, refl) (refl, refl) (refl, refl) (refl, refl) (refl, refl) (refl, refl) (refl, refl) (refl, refl) (refl, refl) (refl, refl) n l m

pub bytes_of : (v n : ℕ) → 1 ≤ n → n ≤ 10 → HasDigits n v → (take (n / 2 + 1) (six_bytes v n) ≡ number_bytes v) × (n / 2 + 1 ≡ length (number_bytes v))
unfolding number_bytes digits_of
bytes_of v n l m d =
    let q = ap packed (digits_within_lem (suc v) n v (omega arith) d) in
    let (b, k) = six v n l m in
    (b ∙ sym q, k ∙ ap length (sym q))

pub bytes_made : (v n : ℕ) {a b c d e f : ℕ} → 1 ≤ n → n ≤ 10 → HasDigits n v
    → a ≡ packed_byte v (n - 2 * 0) → b ≡ packed_byte v (n - 2 * 1) → c ≡ packed_byte v (n - 2 * 2) → d ≡ packed_byte v (n - 2 * 3) → e ≡ packed_byte v (n - 2 * 4) → f ≡ packed_byte v (n - 2 * 5)
    → take (n / 2 + 1) (a ∷ b ∷ c ∷ d ∷ e ∷ f ∷ []) ≡ number_bytes v
bytes_made v n l m h a b c d e f = rw (a, b, c, d, e, f) (bytes_of v n l m h).0

pub part_long : (k : ℕ) (l : List ℕ) → k ≤ length l → k ≡ length (take k l)
part_long k l h = omega (arith, length-take k l)

-- bytes laid over the front, as the kit says it
pub lay_all : (bytes before : List ℕ) {out : List ℕ} → out ≡ take (length bytes) bytes ++ drop (length bytes) before → out ≡ laid_over before bytes
unfolding laid_over
lay_all bytes before q = q ∙ rw (take-length bytes) refl

-- what an encoder answers: a value out of range, too little room, or the bytes
module _ (refusal : ℕ) {fits : Bool} (before bytes : List ℕ) where
  pub encodes_out : fits ≡ false → (outcome refusal 0 ≡ encode_outcome refusal fits (length before) bytes) × (before ≡ encode_memory fits before bytes)
  encodes_out h = rw h (refl, refl)

  pub encodes_short : {many : ℕ} → fits ≡ true → many ≡ length bytes → length before < many → (outcome 16 many ≡ encode_outcome refusal fits (length before) bytes) × (before ≡ encode_memory fits before bytes)
  encodes_short h k l = let q = lt-leb (length bytes) (length before) (omega arith) in rw (h, q, k) (refl, refl)

  pub encodes_laid : {many : ℕ} {after : List ℕ} → fits ≡ true → many ≡ length bytes → many ≤ length before → after ≡ laid_over before bytes
      → (outcome 0 many ≡ encode_outcome refusal fits (length before) bytes) × (after ≡ encode_memory fits before bytes)
  encodes_laid h k l a = let q = le-leb (length bytes) (length before) (omega arith) in rw (h, q, k, a) (refl, refl)

pub number_encodes : (value : ℕ) (before after : List ℕ) {r : Encoded}
    → (outcome r.answer r.place ≡ encode_outcome 10 (leb value number_most) (length before) (number_bytes value)) × (after ≡ encode_memory (leb value number_most) before (number_bytes value))
    → NumberEncodes value before after r
unfolding number_encoded number_output
number_encodes value before after a = record { is = a.0; lays = a.1 }
