-- Which days a month has: never fewer than 28, never more than 31; and a day by two tests, one for those that every month has.
use Prim.Native.Nat.{ℕ, ◌+◌, ◌*◌, ◌/◌, ◌%◌, ◌≤◌}
use mathlib.Core.List.{List, [], ◌∷◌}
use mathlib.Core.Bool.{Bool, true, false, ◌&&◌, ◌||◌}
use mathlib.Core.Path.{◌≡◌, refl, sym, ◌∙◌}
use native.Mathlib.Omega.{arith}
use borrow.Author.Tests.{le-leb, lt-leb, leb-true, ltb-true, ltb-false}
use lib.Dec.{eqb, leb, ltb}
use Rattle.meaning.specs.Basics.{pick}
use Rattle.meaning.specs.Bytes.{is_digit, two_digits, pair_within, is_leap, last_day, last_day_after}
use Rattle.laws_steps.specs.Logic.{both_hold}
use Rattle.values.specs.Digits.{PairAt}
use Rattle.date.specs.Dates.{earlier}

abbrev Between : ℕ → Type 0
Between n = (28 ≤ n) × (n ≤ 31)

days_between : (year month : ℕ) → Between (last_day year month)
unfolding last_day
days_between year month = at (eqb month 2) (is_leap year) (eqb month 4 || eqb month 6 || eqb month 9 || eqb month 11)
  where
    at : (a b c : Bool) → Between (pick a (pick b 29 28) (pick c 30 31))
    at true true c = (omega arith, omega arith)
    at true false c = (omega arith, omega arith)
    at false b true = (omega arith, omega arith)
    at false b false = (omega arith, omega arith)

pub after_between : (before : List ℕ) → Between (last_day_after before)
after_between [] = (omega arith, omega arith)
after_between (month ∷ []) = (omega arith, omega arith)
after_between (month ∷ (low ∷ [])) = (omega arith, omega arith)
after_between (month ∷ (low ∷ (high ∷ before))) = days_between (100 * two_digits high + two_digits low) (two_digits month)

-- the bytes before the day
pub last_day_is : (s : List ℕ) (at : ℕ) {century year month r : ℕ} → PairAt s at century → PairAt s (at + 1) year → PairAt s (at + 2) month → r ≡ last_day (100 * century + year) month → r ≡ last_day_after (earlier s at 3)
unfolding earlier
last_day_is s at c y m q = let z : at + 0 ≡ at = omega arith in q ∙ rw (c.is, y.is, m.is, z) refl

-- a day that every month has
early : (d : Bool) (n most : ℕ) → 28 ≤ most → (d && leb 1 n && leb n 28) ≡ true → true ≡ (d && leb 1 n && leb n most)
early true n most h q =
    let (a, b) = both_hold (leb 1 n) (leb n 28) q in
    let l = leb-true n 28 b in
    sym (rw (a, le-leb n most (omega arith)) refl)
early false n most h q = let z : ◌≡◌ {A = ℕ} 0 1 = cc q in absurd (omega arith)

-- another day
late : (d : Bool) (n most : ℕ) → (d && leb 1 n && leb n 28) ≡ false → (d && leb 29 n && leb n most) ≡ (d && leb 1 n && leb n most)
late true n most q = at (ltb n 29) refl
  where
    at : (z : Bool) → ltb n 29 ≡ z → (leb 29 n && leb n most) ≡ (leb 1 n && leb n most)
    at true e =
        let l = ltb-true n 29 e in
        let none : leb 1 n ≡ false = small (leb 1 n) (rw (le-leb n 28 (omega arith)) at q) in
        rw (none, lt-leb 29 n (omega arith)) refl
      where
        small : (b : Bool) → (b && true) ≡ false → b ≡ false
        small true r = let z : ◌≡◌ {A = ℕ} 0 1 = cc r in absurd (omega arith)
        small false r = refl
    at false e = let l = ltb-false n 29 e in rw (le-leb 29 n l, le-leb 1 n (omega arith)) refl
late false n most q = refl

module _ (b : ℕ) (before : List ℕ) {first : Bool} (is : first ≡ pair_within 1 28 b) where
  abbrev digits : Bool
  digits = is_digit (b / 16) && is_digit (b % 16)

  pub early_passes : first ≡ true → true ≡ pair_within 1 (last_day_after before) b
  early_passes q = early digits (two_digits b) (last_day_after before) (after_between before).0 (sym is ∙ q)

  pub late_passes : first ≡ false → {most : ℕ} → most ≡ last_day_after before → {r : Bool} → r ≡ pair_within 29 most b → r ≡ pair_within 1 (last_day_after before) b
  late_passes q m p = p ∙ rw m (late digits (two_digits b) (last_day_after before) (sym is ∙ q))
