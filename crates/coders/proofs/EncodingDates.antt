-- A plain date to its coded bytes: it is in range exactly if its bytes, once made, are taken as a date.
use Prim.Native.Nat.{ℕ, suc, ◌+◌, ◌*◌, ◌/◌, ◌%◌, ◌≤◌, ◌<◌}
use mathlib.Core.List.{List, [], ◌∷◌, ◌++◌}
use mathlib.Core.Bool.{Bool, true, false, ◌&&◌}
use mathlib.Core.Path.{◌≡◌, refl, ap, sym, ◌∙◌}
use native.Mathlib.Omega.{arith}
use borrow.Author.Tests.{leb-true, leb-false, lt-leb, ne_eqb}
use lib.Dec.{leb}
use lib.ListN.{length, take}
use Rattle.meaning.specs.Basics.{pick}
use Rattle.meaning.specs.Bytes.{Taken, took, failed, prefixed, Check, letter, passes, absolute, relative, date_checks, take_date, date_ok}
use Rattle.meaning.specs.Plain.{Date, outcome, encode_outcome, encode_memory, Reached, dated, reach_of, reach_allows, designated, fits_digits, pair_byte, date_bytes, date_in_range, date_encoded, date_output}
use Rattle.std.specs.Prelude.{Result, Ok, Err, is_err}
use Rattle.table.specs.declared.answers.Fault.{Fault}
use Rattle.coders.specs.declared.encode.Encoded.{Encoded}
use Rattle.values.specs.Stages.{span, spans, misses, rest, ValuedAt}
use Rattle.values.specs.Answers.{valued_at, valued_refused}
use Rattle.date.specs.Dates.{reaching, date_length, value_by}
use Rattle.coders.specs.Plain.{Fits, ten_bytes, DateEncodes, EncodesReach}
use Rattle.laws_steps.specs.Logic.{both_hold}
use Rattle.coders.proofs.Decoding.{from_all}

-- what the code's test of the components says
pub record Fitting (d : Date) : Type 0 where
  pub year : d.year ≤ 9999
  pub month : d.month ≤ 99
  pub day : d.day ≤ 99
  pub hour : d.hour ≤ 99
  pub minute : d.minute ≤ 99
  pub second : d.second ≤ 99
  pub millisecond : d.millisecond ≤ 999
  pub designator : d.designator ≤ 255

eight : (a b c d e f g h : Bool) → (a && b && c && d && e && f && g && h) ≡ true
    → (a ≡ true) × (b ≡ true) × (c ≡ true) × (d ≡ true) × (e ≡ true) × (f ≡ true) × (g ≡ true) × (h ≡ true)
eight a b c d e f g h q =
    let (to-g, is-h) = both_hold (a && b && c && d && e && f && g) h q in
    let (to-f, is-g) = both_hold (a && b && c && d && e && f) g to-g in
    let (to-e, is_f) = both_hold (a && b && c && d && e) f to-f in
    let (to-d, is-e) = both_hold (a && b && c && d) e to-e in
    let (to-c, is-d) = both_hold (a && b && c) d to-d in
    let (to-b, is_c) = both_hold (a && b) c to-c in
    let (is-a, is_b) = both_hold a b to-b in
    (is-a, is_b, is_c, is-d, is-e, is_f, is-g, is-h)

pub fitting : (d : Date) → Fits d ≡ true → Fitting d
fitting d q =
    let p = eight (leb d.year 9999) (leb d.month 99) (leb d.day 99) (leb d.hour 99) (leb d.minute 99) (leb d.second 99) (leb d.millisecond 999) (leb d.designator 255) q in
    record {
      year = leb-true d.year 9999 p.0;
      month = leb-true d.month 99 p.1;
      day = leb-true d.day 99 p.2;
      hour = leb-true d.hour 99 p.3;
      minute = leb-true d.minute 99 p.4;
      second = leb-true d.second 99 p.5;
      millisecond = leb-true d.millisecond 999 p.6;
      designator = leb-true d.designator 255 p.7;
    }

pub ten_made : (d : Date) {century year month day hour minute second hundredths : ℕ} → century ≡ pair_byte (d.year / 100) → year ≡ pair_byte (d.year % 100) → month ≡ pair_byte d.month → day ≡ pair_byte d.day
    → hour ≡ pair_byte d.hour → minute ≡ pair_byte d.minute → second ≡ pair_byte d.second → hundredths ≡ pair_byte (d.millisecond / 10)
    → (century ∷ year ∷ month ∷ day ∷ hour ∷ minute ∷ second ∷ hundredths ∷ 16 * (d.millisecond % 10 + 1) ∷ d.designator ∷ []) ≡ ten_bytes d
ten_made d a b c e f g h i = rw (a, b, c, e, f, g, h, i) refl

-- a test of bytes is the same as taking them
abbrev is_taken : Taken → Bool
is_taken (took v rest) = true
is_taken (failed refusal left) = false

byte_taken : (z : Bool) (b : ℕ) (t : Taken) (refusal left : ℕ) → (z && is_taken t) ≡ is_taken (pick z (prefixed b t) (failed refusal left))
byte_taken true b (took v rest) refusal left = refl
byte_taken true b (failed x y) refusal left = refl
byte_taken false b t refusal left = refl

ok_taken : (cs : List Check) (earlier v : List ℕ) → length v ≡ length cs → date_ok cs earlier v ≡ is_taken (take_date cs earlier v)
unfolding date_ok take_date
ok_taken [] earlier [] h = refl
ok_taken [] earlier (b ∷ v) h = absurd (omega arith)
ok_taken (c ∷ cs) earlier [] h = absurd (omega arith)
ok_taken (c ∷ cs) earlier (b ∷ v) h =
    ap (λ (x : Bool). passes c earlier b && x) (ok_taken cs (b ∷ earlier) v (omega arith)) ∙ byte_taken (passes c earlier b) b (take_date cs (b ∷ earlier) v) 9 (suc (length v))

spans_taken : (t : Taken) {n : ℕ} {rest : List ℕ} → span 0 t ≡ spans n rest → is_taken t ≡ true
spans_taken (took v rest) q = refl
spans_taken (failed refusal left) q = let z : ◌≡◌ {A = ℕ} 0 1 = cc in absurd (omega arith)

misses_taken : (t : Taken) {refusal left : ℕ} → span 0 t ≡ misses refusal left → is_taken t ≡ false
misses_taken (took v rest) q = let z : ◌≡◌ {A = ℕ} 0 1 = cc in absurd (omega arith)
misses_taken (failed refusal left) q = refl

-- the bytes of a date, with the designator or without
part_by : (d : Date) (z : Bool) → take (date_length z) (ten_bytes d) ≡ (take 9 (ten_bytes d) ++ pick z (d.designator ∷ []) [])
part_by d true = refl
part_by d false = refl

long_by : (d : Date) (reach : Bool) (z : Bool) → (date_length z ≡ length (take 9 (ten_bytes d) ++ pick z (d.designator ∷ []) [])) × (date_length z ≡ length (date_checks (reaching reach) z))
long_by d true true = (refl, refl)
long_by d true false = (refl, refl)
long_by d false true = (refl, refl)
long_by d false false = (refl, refl)

at_most_ten : (z : Bool) → date_length z ≤ 10
at_most_ten true = omega arith
at_most_ten false = omega arith

-- the code's array, the part of it that was checked, and the answer
module _ (d : Date) (isAbsolute : Bool) {many : ℕ} {array : List ℕ} (hm : many ≡ date_length (designated d)) (ha : array ≡ ten_bytes d) where
  abbrev checks : List Check
  checks = date_checks (reaching isAbsolute) (designated d)

  pub bytes_here : take many array ≡ date_bytes d
  bytes_here = rw (hm, ha) (part_by d (designated d))

  pub many_fits : many ≤ length array
  many_fits = let k = at_most_ten (designated d) in omega (arith, hm, ap length ha)

  pub many_long : many ≡ length (date_bytes d)
  many_long = hm ∙ (long_by d isAbsolute (designated d)).0

  pub many_part : many ≡ length (take many array)
  many_part = many_long ∙ ap length (sym bytes_here)

  abbrev taken : Taken
  taken = take_date checks [] (rest (take many array) 0)

  taken_here : taken ≡ take_date checks [] (date_bytes d)
  taken_here =
      ap (take_date checks []) (from_all (take many array) ∙ bytes_here)

  ok_here : date_ok checks [] (date_bytes d) ≡ is_taken taken
  ok_here = ok_taken checks [] (date_bytes d) (omega (arith, many_long, hm, (long_by d isAbsolute (designated d)).1)) ∙ ap is_taken (sym taken_here)

  -- the stage's answer over those bytes, as a date of any kind
  module _ (k : ℕ) (r : Result ℕ Fault) (v : ValuedAt (take many array) 0 k 0 taken (value_by k 0 r)) where
    date_allowed : Fits d ≡ true → {after : ℕ} → r ≡ Ok after → reach_allows d (dated (reaching isAbsolute)) ≡ true
    date_allowed f h =
        let p = valued_at (rw h at v) refl in
        let g = (both_hold (fits_digits d) (leb d.designator 255) f).0 in
        rw (g, ok_here) (spans_taken taken p.0)

    date_denied : Fits d ≡ true → {fault : Fault} → r ≡ Err fault → reach_allows d (dated (reaching isAbsolute)) ≡ false
    date_denied f h =
        let p = valued_refused (rw h at v) refl in
        let g = (both_hold (fits_digits d) (leb d.designator 255) f).0 in
        rw (g, ok_here) (misses_taken taken p.0)

    pub date_denies : Fits d ≡ true → is_err r ≡ true → reach_allows d (dated (reaching isAbsolute)) ≡ false
    date_denies f q = at r refl q
      where
        at : (x : Result ℕ Fault) → r ≡ x → is_err x ≡ true → reach_allows d (dated (reaching isAbsolute)) ≡ false
        at (Ok after) h q = let z : ◌≡◌ {A = ℕ} 0 1 = cc q in absurd (omega arith)
        at (Err fault) h q = date_denied f h

    pub date_allows : Fits d ≡ true → is_err r ≡ false → reach_allows d (dated (reaching isAbsolute)) ≡ true
    date_allows f q = at r refl q
      where
        at : (x : Result ℕ Fault) → r ≡ x → is_err x ≡ false → reach_allows d (dated (reaching isAbsolute)) ≡ true
        at (Ok after) h q = date_allowed f h
        at (Err fault) h q = let z : ◌≡◌ {A = ℕ} 0 1 = cc q in absurd (omega arith)

-- a designator over a byte is no letter
and_false : (a : Bool) → (a && false) ≡ false
and_false true = refl
and_false false = refl

last_wrong : (cs : List Check) (earlier v : List ℕ) (b : ℕ) → 255 < b → length cs ≡ length v → date_ok (cs ++ (letter ∷ [])) earlier (v ++ (b ∷ [])) ≡ false
unfolding date_ok passes
last_wrong [] earlier [] b h k = rw (lt-leb b 90 (omega arith), lt-leb b 122 (omega arith), and_false (leb 65 b), and_false (leb 97 b)) refl
last_wrong [] earlier (x ∷ v) b h k = absurd (omega arith)
last_wrong (c ∷ cs) earlier [] b h k = absurd (omega arith)
last_wrong (c ∷ cs) earlier (x ∷ v) b h k = rw (last_wrong cs (x ∷ earlier) v b h (omega arith)) (and_false (passes c earlier x))

wide_wrong : (d : Date) (isAbsolute : Bool) → 255 < d.designator → date_ok (date_checks (reaching isAbsolute) (designated d)) [] (date_bytes d) ≡ false
wide_wrong d true h = rw (ne_eqb d.designator 0 (λ q. omega arith)) (last_wrong (date_checks absolute false) [] (take 9 (ten_bytes d)) d.designator h refl)
wide_wrong d false h = rw (ne_eqb d.designator 0 (λ q. omega arith)) (last_wrong (date_checks relative false) [] (take 9 (ten_bytes d)) d.designator h refl)

unfit_by : (d : Date) (isAbsolute : Bool) (z : Bool) → fits_digits d ≡ z → (z && leb d.designator 255) ≡ false → reach_allows d (dated (reaching isAbsolute)) ≡ false
unfit_by d isAbsolute true q h = rw (q, wide_wrong d isAbsolute (leb-false d.designator 255 h)) refl
unfit_by d isAbsolute false q h = rw q refl

pub unfit : (d : Date) (isAbsolute : Bool) → Fits d ≡ false → reach_allows d (dated (reaching isAbsolute)) ≡ false
unfit d isAbsolute h = unfit_by d isAbsolute (fits_digits d) refl h

-- the answers, behind the kind and with it
pub reach_encodes : (reach : Reached) (d : Date) (before after : List ℕ) {r : Encoded}
    → (outcome r.answer r.place ≡ encode_outcome 9 (reach_allows d reach) (length before) (date_bytes d)) × (after ≡ encode_memory (reach_allows d reach) before (date_bytes d))
    → EncodesReach reach d before after r
reach_encodes reach d before after a = record { is = a.0; lays = a.1 }

pub kind_encodes : (kind : ℕ) (d : Date) (before after : List ℕ) {reach : Reached} {r : Encoded} → reach_of kind ≡ reach → EncodesReach reach d before after r → DateEncodes kind d before after r
unfolding date_encoded date_output date_in_range
kind_encodes kind d before after h a = record { is = a.is ∙ rw h refl; lays = a.lays ∙ rw h refl }
