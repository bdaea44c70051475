-- Document 01, the last paragraph of "Answers by number": numbers and dates to and from plain values.
use Rattle.std.specs.Prelude.{ℕ, zero, suc, ◌+◌, ◌-◌, ◌*◌, ◌/◌, ◌%◌, List, [], ◌∷◌, ◌++◌, Bool, true, false, ◌&&◌, ◌||◌, not, eqb, leb, ltb, length, get_or}
use Rattle.meaning.specs.Basics.{pick}
use Rattle.meaning.specs.Bytes.{Taken, took, failed, digit_of, two_digits, number_most, take_number, Reach, absolute, relative, date_checks, take_date, date_ok}
use Rattle.meaning.specs.Kinds.{date_absolute, date_forward, date_backward}
use Rattle.meaning.specs.Memory.{laid_over}

-- "Number and date decoders answer 9 or 10 with the place in their own slice, which must hold exactly one value;
-- an early end or a byte left over is refused at that offset"; "Accepted calls answer 0 and the bytes read"
pub data Decoded : Type 0 where
  decoded : List ℕ → Decoded
  undecoded : ℕ → Decoded

abbrev pub exactly : List ℕ → Taken → Decoded
exactly s (failed refusal left) = undecoded (length s - left)
exactly s (took v []) = decoded v
exactly s (took v (b ∷ rest)) = undecoded (length v)

-- an answer and its place
pub record Outcome : Type 0 where
  pub answer : ℕ
  pub place : ℕ

abbrev pub outcome : ℕ → ℕ → Outcome
outcome a p = record { answer = a; place = p }

abbrev pub decode_outcome : ℕ → Decoded → Outcome
decode_outcome refusal (decoded v) = outcome 0 (length v)
decode_outcome refusal (undecoded offset) = outcome refusal offset

-- "Encoders answer 9 or 10, place 0, for a value out of range, and then 16 for room"
abbrev pub encode_outcome : ℕ → Bool → ℕ → List ℕ → Outcome
encode_outcome refusal in_range room bytes =
    pick in_range (pick (leb (length bytes) room) (outcome 0 (length bytes)) (outcome 16 (length bytes))) (outcome refusal 0)

abbrev pub encode_memory : Bool → List ℕ → List ℕ → List ℕ
encode_memory in_range lent bytes = pick (in_range && leb (length bytes) (length lent)) (laid_over lent bytes) lent

-- Numbers. The value of coded bytes, behind a number so far
unfoldable pub number_value : ℕ → List ℕ → ℕ
number_value number [] = number
number_value number (b ∷ v) =
    let onward : ℕ = number_value (10 * (10 * number + digit_of (b / 16)) + digit_of (b % 16)) v in
    pick (eqb b 0) number (pick (eqb (b % 16) 0) (10 * number + digit_of (b / 16)) onward)

-- the decimal digits of a number, the first one first; n of them at most
unfoldable pub digits_within : ℕ → ℕ → List ℕ
digits_within zero number = []
digits_within (suc n) number =
    let more : List ℕ = digits_within n (number / 10) ++ (number % 10 ∷ []) in
    pick (ltb number 10) (number ∷ []) more

unfoldable pub digits_of : ℕ → List ℕ
digits_of number = digits_within (suc number) number

-- two digits to a byte; "An odd digit count ends with four zero bits, an even one with a byte 00"
unfoldable pub packed : List ℕ → List ℕ
packed [] = 0 ∷ []
packed (d ∷ []) = 16 * (d + 1) ∷ []
packed (d ∷ (c ∷ ds)) = (16 * (d + 1) + (c + 1)) ∷ packed ds

unfoldable pub decode_number : List ℕ → Decoded
decode_number s = exactly s (take_number 0 true s)

-- "a refused decoder's values are all 0"
abbrev pub value_of : Decoded → ℕ
value_of (decoded v) = number_value 0 v
value_of (undecoded offset) = 0

unfoldable pub number_decoded : List ℕ → Outcome
number_decoded s = decode_outcome 10 (decode_number s)

unfoldable pub number_plain : List ℕ → ℕ
number_plain s = value_of (decode_number s)

unfoldable pub number_bytes : ℕ → List ℕ
number_bytes number = packed (digits_of number)

unfoldable pub number_encoded : ℕ → ℕ → Outcome
number_encoded number room = encode_outcome 10 (leb number number_most) room (number_bytes number)

unfoldable pub number_output : ℕ → List ℕ → List ℕ
number_output number lent = encode_memory (leb number number_most) lent (number_bytes number)

-- Dates. "kind, the seven components and a designator, 0 for none"
pub record Date : Type 0 where
  pub year : ℕ
  pub month : ℕ
  pub day : ℕ
  pub hour : ℕ
  pub minute : ℕ
  pub second : ℕ
  pub millisecond : ℕ
  pub designator : ℕ

abbrev pub no_date : Date
no_date = record { year = 0; month = 0; day = 0; hour = 0; minute = 0; second = 0; millisecond = 0; designator = 0 }

-- the components of nine coded bytes and, where there is one, a tenth
abbrev pub date_of : List ℕ → Date
date_of v =
    record {
      year = 100 * two_digits (get_or v 0 0) + two_digits (get_or v 1 0);
      month = two_digits (get_or v 2 0);
      day = two_digits (get_or v 3 0);
      hour = two_digits (get_or v 4 0);
      minute = two_digits (get_or v 5 0);
      second = two_digits (get_or v 6 0);
      millisecond = 10 * two_digits (get_or v 7 0) + digit_of (get_or v 8 0 / 16);
      designator = get_or v 9 0;
    }

abbrev pub pair_byte : ℕ → ℕ
pair_byte x = 16 * (x / 10 + 1) + (x % 10 + 1)

abbrev pub designated : Date → Bool
designated d = not (eqb d.designator 0)

abbrev pub date_bytes : Date → List ℕ
date_bytes d =
    pair_byte (d.year / 100) ∷ pair_byte (d.year % 100) ∷ pair_byte d.month ∷ pair_byte d.day ∷ pair_byte d.hour ∷ pair_byte d.minute ∷ pair_byte d.second ∷
    pair_byte (d.millisecond / 10) ∷ 16 * (d.millisecond % 10 + 1) ∷ pick (designated d) (d.designator ∷ []) []

-- each component within its digits
abbrev pub fits_digits : Date → Bool
fits_digits d =
    leb d.year 9999 && leb d.month 99 && leb d.day 99 && leb d.hour 99 && leb d.minute 99 && leb d.second 99 && leb d.millisecond 999

-- "kind 5, 6 or 7"; "Another kind is 9 at 0"
pub data Reached : Type 0 where
  dated : Reach → Reached
  no_reach : Reached

abbrev pub reach_of : ℕ → Reached
reach_of kind = pick (eqb kind date_absolute) (dated absolute) (pick (eqb kind date_forward || eqb kind date_backward) (dated relative) no_reach)

-- "a tenth byte is the designator"
abbrev pub decode_reach : List ℕ → Reached → Decoded
decode_reach s no_reach = undecoded 0
decode_reach s (dated reach) = exactly s (take_date (date_checks reach (ltb 9 (length s))) [] s)

unfoldable pub decode_date : ℕ → List ℕ → Decoded
decode_date kind s = decode_reach s (reach_of kind)

abbrev pub components_of : Decoded → Date
components_of (decoded v) = date_of v
components_of (undecoded offset) = no_date

unfoldable pub date_decoded : ℕ → List ℕ → Outcome
date_decoded kind s = decode_outcome 9 (decode_date kind s)

unfoldable pub date_plain : ℕ → List ℕ → Date
date_plain kind s = components_of (decode_date kind s)

abbrev pub reach_allows : Date → Reached → Bool
reach_allows d no_reach = false
reach_allows d (dated reach) = fits_digits d && date_ok (date_checks reach (designated d)) [] (date_bytes d)

unfoldable pub date_in_range : ℕ → Date → Bool
date_in_range kind d = reach_allows d (reach_of kind)

unfoldable pub date_encoded : ℕ → Date → ℕ → Outcome
date_encoded kind d room = encode_outcome 9 (date_in_range kind d) room (date_bytes d)

unfoldable pub date_output : ℕ → Date → List ℕ → List ℕ
date_output kind d lent = encode_memory (date_in_range kind d) lent (date_bytes d)
