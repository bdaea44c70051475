-- Order 3: "Absolute dates now have the days of their month by the Gregorian rule": a date that is in range for an absolute kind has such a day.
use Rattle.std.specs.Prelude.{ℕ, ◌/◌, ◌%◌, ◌≤◌, List, [], ◌∷◌, Bool, true, false, ◌&&◌, ◌≡◌, leb}
use Rattle.std.proofs.Common.{subst, leb-true}
use Rattle.meaning.specs.Bytes.{Check, is_digit, two_digits, pair_within, passes, day, absolute, last_day, date_checks, date_ok}
use Rattle.meaning.specs.Plain.{Date, pair_byte, date_bytes, designated, fits_digits, date_in_range}
use Rattle.meaning.specs.Kinds.{date_absolute}
use Rattle.laws_steps.specs.Logic.{both_hold}
use Rattle.laws_demands.specs.Demands.{date_again}

abbrev pub DayExists : Date → Type 0
DayExists d = (1 ≤ d.day) × (d.day ≤ last_day d.year d.month)

passed_one : (check : Check) (checks : List Check) (earlier : List ℕ) (b : ℕ) (v : List ℕ) → date_ok (check ∷ checks) earlier (b ∷ v) ≡ true → (passes check earlier b ≡ true) × (date_ok checks (b ∷ earlier) v ≡ true)
unfolding date_ok
passed_one check checks earlier b v q = both_hold (passes check earlier b) (date_ok checks (b ∷ earlier) v) q

module _ (a b c d : ℕ) (rest : List ℕ) where
  -- the check of the day, of either list of checks
  fourth : (z : Bool) → date_ok (date_checks absolute z) [] (a ∷ b ∷ c ∷ d ∷ rest) ≡ true → passes day (c ∷ b ∷ a ∷ []) d ≡ true
  fourth true q = (passed_one day _ _ d rest (passed_one _ _ _ c _ (passed_one _ _ _ b _ (passed_one _ _ [] a _ q).1).1).1).0
  fourth false q = (passed_one day _ _ d rest (passed_one _ _ _ c _ (passed_one _ _ _ b _ (passed_one _ _ [] a _ q).1).1).1).0

between : (low high b : ℕ) → pair_within low high b ≡ true → (low ≤ two_digits b) × (two_digits b ≤ high)
between low high b q =
    let (to_low, to_high) = both_hold (is_digit (b / 16) && is_digit (b % 16) && leb low (two_digits b)) (leb (two_digits b) high) q in
    let (digits, from_low) = both_hold (is_digit (b / 16) && is_digit (b % 16)) (leb low (two_digits b)) to_low in
    (leb-true low (two_digits b) from_low, leb-true (two_digits b) high to_high)

pub day_exists : (d : Date) → date_in_range date_absolute d ≡ true → DayExists d
unfolding date_in_range passes
day_exists d q =
    let ok = (both_hold (fits_digits d) (date_ok (date_checks absolute (designated d)) [] (date_bytes d)) q).1 in
    let same = (date_again date_absolute d q).1 in
    subst DayExists same (between 1 _ (pair_byte d.day) (fourth (pair_byte (d.year / 100)) (pair_byte (d.year % 100)) (pair_byte d.month) (pair_byte d.day) _ (designated d) ok))
