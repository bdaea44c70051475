-- A payload length at a place in the input, by what its next byte does; and what a byte does, from the code's tests.
use Prim.Native.Nat.{ℕ, suc, ◌+◌, ◌-◌, ◌*◌, ◌/◌, ◌%◌, ◌≤◌, ◌<◌}
use mathlib.Core.List.{List, [], ◌∷◌}
use mathlib.Core.Bool.{Bool, true, false, ◌&&◌, not}
use mathlib.Core.Path.{◌≡◌, refl, ap, sym, ◌∙◌}
use native.Mathlib.Omega.{arith}
use borrow.Author.Tests.{eq-eqb, ne_eqb, leb-true}
use lib.Dec.{eqb, leb}
use lib.ListN.{length, get_or}
use Rattle.meaning.specs.Bytes.{Taken, took, failed, prefixed, is_digit, digit_of, number_most, turn, take_number}
use Rattle.meaning.specs.Plain.{number_value}
use Rattle.laws_steps.specs.From.{from, from_length, from_end, from_cons}
use Rattle.values.specs.declared.number.Turning.{Turning}
use Rattle.values.specs.declared.number.Turning.TheVariants.{Stop, More, Wrong}
use Rattle.values.specs.Numbers.{turned, Worth, Turned, counts, fails, tally}
use Rattle.laws_steps.specs.Logic.{both_hold}

-- one byte, with the digit d of its upper half and whether it is one
module _ (number : ℕ) (first : Bool) (b : ℕ) {d : ℕ} {x : Bool} (hd : d ≡ digit_of (b / 16)) (hx : x ≡ is_digit (b / 16)) where
  abbrev one : ℕ
  one = 10 * number + d

  abbrev odd : Bool
  odd = x && leb one number_most

  pub odd_ends : (b ≡ 0 → ⊥) → odd ≡ true → b % 16 ≡ 0 → Turned number first b (Stop one)
  unfolding turn turned Worth number_value
  odd_ends h p z =
      let q : (is_digit (b / 16) && leb (10 * number + digit_of (b / 16)) number_most) ≡ true = rw (hd, hx) at p in
      record { is = simp (ne_eqb b 0 h, q, eq-eqb (b % 16) 0 z); worth = rw (hd, ne_eqb b 0 h, eq-eqb (b % 16) 0 z) refl }

  pub odd_wrong : (b ≡ 0 → ⊥) → odd ≡ false → Turned number first b Wrong
  unfolding turn turned Worth
  odd_wrong h p =
      let q : (is_digit (b / 16) && leb (10 * number + digit_of (b / 16)) number_most) ≡ false = rw (hd, hx) at p in
      record { is = simp (ne_eqb b 0 h, q); worth = tt }

  -- .. and the same of its lower half
  module _ {e : ℕ} {y : Bool} (he : e ≡ digit_of (b % 16)) (hy : y ≡ is_digit (b % 16)) where
    abbrev even : Bool
    even = y && not (first && eqb (b / 16) 1) && leb (10 * one + e) number_most

    pub even_goes : (b ≡ 0 → ⊥) → odd ≡ true → (b % 16 ≡ 0 → ⊥) → even ≡ true → Turned number first b (More (10 * one + e))
    unfolding turn turned Worth number_value
    even_goes h p z r =
        let q : (is_digit (b / 16) && leb (10 * number + digit_of (b / 16)) number_most) ≡ true = rw (hd, hx) at p in
        let t : (is_digit (b % 16) && not (first && eqb (b / 16) 1) && leb (10 * (10 * number + digit_of (b / 16)) + digit_of (b % 16)) number_most) ≡ true = rw (hd, he, hy) at r in
        record {
          is = rw (hd, he) (simp (ne_eqb b 0 h, q, ne_eqb (b % 16) 0 z, t));
          worth = (leb-true (10 * one + e) number_most (both_hold (y && not (first && eqb (b / 16) 1)) (leb (10 * one + e) number_most) r).1, λ v. rw (hd, he, ne_eqb b 0 h, ne_eqb (b % 16) 0 z) refl);
        }

    pub even_wrong : (b ≡ 0 → ⊥) → odd ≡ true → (b % 16 ≡ 0 → ⊥) → even ≡ false → Turned number first b Wrong
    unfolding turn turned Worth
    even_wrong h p z r =
        let q : (is_digit (b / 16) && leb (10 * number + digit_of (b / 16)) number_most) ≡ true = rw (hd, hx) at p in
        let t : (is_digit (b % 16) && not (first && eqb (b / 16) 1) && leb (10 * (10 * number + digit_of (b / 16)) + digit_of (b % 16)) number_most) ≡ false = rw (hd, he, hy) at r in
        record { is = simp (ne_eqb b 0 h, q, ne_eqb (b % 16) 0 z, t); worth = tt }

-- "an even one with a byte 00"
pub zero_ends : (number b : ℕ) (first : Bool) → b ≡ 0 → first ≡ false → Turned number first b (Stop number)
unfolding turn turned Worth number_value
zero_ends number b first z f = record { is = simp (eq-eqb b 0 z, f); worth = rw (eq-eqb b 0 z) refl }

pub zero_wrong : (number b : ℕ) (first : Bool) → b ≡ 0 → first ≡ true → Turned number first b Wrong
unfolding turn turned Worth
zero_wrong number b first z f = record { is = simp (eq-eqb b 0 z, f); worth = tt }

pub more_fits : {number b value : ℕ} {first : Bool} {r : Turning} → Turned number first b r → r ≡ More value → value ≤ number_most
unfolding Worth
more_fits t h = let w = rw h at t.worth in w.0

tally_prefixed : (k number value b : ℕ) (t : Taken) → ((v : List ℕ) → number_value number (b ∷ v) ≡ number_value value v) → tally k number (prefixed b t) ≡ tally (k + 1) value t
tally_prefixed k number value b (took v rest) w =
    let q : k + suc (length v) ≡ k + 1 + length v = omega arith in
    rw (w v, q) refl
tally_prefixed k number value b (failed refusal left) w = refl

-- at the place i of a number that begins at `at`
module _ (s : List ℕ) (end : ℕ) (l : end ≤ length s) (at i number : ℕ) (first : Bool) (g : at ≤ i) where
  pub number_ends : i ≡ end → tally (i - at) number (take_number number first (from s i end)) ≡ fails 6 (end - i)
  unfolding take_number
  number_ends h = rw (from_end s i end (omega arith)) (ap (fails 6) (omega arith))

  -- b: the byte at i; r: what it does
  module _ (h : i < end) {b : ℕ} (is : b ≡ get_or s i 0) {r : Turning} (t : Turned number first b r) where
    turns : (z : Turning) → r ≡ z → turn number first (get_or s i 0) ≡ turned z
    turns z q = ap (turn number first) (sym is) ∙ t.is ∙ ap turned q

    pub number_wrong : r ≡ Wrong → tally (i - at) number (take_number number first (from s i end)) ≡ fails 10 (end - i)
    unfolding take_number turned
    number_wrong q = rw (from_cons s i end h l, turns Wrong q) (ap (fails 10) (omega (arith, from_length s (i + 1) end (omega arith) l)))

    pub number_stops : {value : ℕ} → r ≡ Stop value → tally (i - at) number (take_number number first (from s i end)) ≡ counts (i + 1 - at) value (from s (i + 1) end)
    unfolding take_number turned Worth
    number_stops {value} q =
        let w : number_value number (b ∷ []) ≡ value = rw q at t.worth in
        let p : i - at + 1 ≡ i + 1 - at = omega arith in
        rw (from_cons s i end h l, turns (Stop value) q, ← is, w, p) refl

    pub number_goes : {value : ℕ} → r ≡ More value → tally (i - at) number (take_number number first (from s i end)) ≡ tally (i + 1 - at) value (take_number value false (from s (i + 1) end))
    unfolding take_number turned Worth
    number_goes {value} q =
        let w : (value ≤ number_most) × ((v : List ℕ) → number_value number (b ∷ v) ≡ number_value value v) = rw q at t.worth in
        let p : i - at + 1 ≡ i + 1 - at = omega arith in
        let onward = take_number value false (from s (i + 1) end) in
        rw (from_cons s i end h l, turns (More value) q, ← is) (tally_prefixed (i - at) number value b onward w.1 ∙ ap (λ (x : ℕ). tally x value onward) p)
