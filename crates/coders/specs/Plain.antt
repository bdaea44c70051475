-- What the coding of numbers and dates to and from plain values promises: document 01's outcome and value, for any input at all.
use Rattle.std.specs.Prelude.{ℕ, ◌+◌, ◌*◌, ◌/◌, ◌%◌, List, [], ◌∷◌, Option, None, Some, Bool, ◌&&◌, ◌≡◌, leb, length}
use Rattle.meaning.specs.Plain.{outcome, decode_outcome, number_decoded, number_plain, number_encoded, number_output, Date as PlainDate, Reached, dated, no_reach, decode_reach, components_of, date_decoded, date_plain, encode_outcome, encode_memory, date_bytes, pair_byte, fits_digits, reach_allows, date_encoded, date_output}
use Rattle.date.specs.Dates.{reaching}
use Rattle.table.specs.declared.answers.Fault.{Fault}
use Rattle.table.specs.Refusals.{answer_of}
use Rattle.coders.specs.declared.decode.DecodedNumber.{DecodedNumber}
use Rattle.coders.specs.declared.encode.Encoded.{Encoded}
use Rattle.coders.specs.declared.Date.{Date}
use Rattle.coders.specs.declared.decode.DecodedDate.{DecodedDate}

-- the decoder of numbers
pub record NumberDecodes (bytes : List ℕ) (result : DecodedNumber) : Type 0 where
  pub is : outcome result.answer result.place ≡ number_decoded bytes
  pub worth : result.value ≡ number_plain bytes

-- "Encoders answer 9 or 10, place 0, for a value out of range, and then 16 for room."
abbrev pub refused_by : Fault → Encoded
refused_by fault = record { answer = answer_of fault.refusal; place = fault.at }

-- the encoder of numbers
pub record NumberEncodes (value : ℕ) (before after : List ℕ) (result : Encoded) : Type 0 where
  pub is : outcome result.answer result.place ≡ number_encoded value (length before)
  pub lays : after ≡ number_output value before

-- the struct's components, as `meaning` has them
abbrev pub plain_of : Date → PlainDate
plain_of d =
    record {
      year = d.year;
      month = d.month;
      day = d.day;
      hour = d.hour;
      minute = d.minute;
      second = d.second;
      millisecond = d.millisecond;
      designator = d.designator;
    }

-- "kind 5, 6 or 7": whether a date of the kind is held to the calendar, or that the kind is no date's
abbrev pub reached_by : Option Bool → Reached
reached_by (Some isAbsolute) = dated (reaching isAbsolute)
reached_by None = no_reach

-- the decoder of dates
pub record DateDecodes (kind : ℕ) (bytes : List ℕ) (result : DecodedDate) : Type 0 where
  pub is : outcome result.answer result.place ≡ date_decoded kind bytes
  pub worth : plain_of result.date ≡ date_plain kind bytes

-- .. behind the kind
pub record DecodesReach (reach : Reached) (bytes : List ℕ) (result : DecodedDate) : Type 0 where
  pub is : outcome result.answer result.place ≡ decode_outcome 9 (decode_reach bytes reach)
  pub worth : plain_of result.date ≡ components_of (decode_reach bytes reach)

-- "a refused decoder's values are all 0"
abbrev pub unread_at : ℕ → DecodedNumber
unread_at offset = record { answer = 10; place = offset; value = 0 }

abbrev pub no_components : Date
no_components = record { year = 0; month = 0; day = 0; hour = 0; minute = 0; second = 0; millisecond = 0; designator = 0 }

abbrev pub undecoded_at : ℕ → DecodedDate
undecoded_at offset = record { answer = 9; place = offset; date = no_components }

-- the encoder of dates
pub record DateEncodes (kind : ℕ) (date : PlainDate) (before after : List ℕ) (result : Encoded) : Type 0 where
  pub is : outcome result.answer result.place ≡ date_encoded kind date (length before)
  pub lays : after ≡ date_output kind date before

-- .. behind the kind
pub record EncodesReach (reach : Reached) (date : PlainDate) (before after : List ℕ) (result : Encoded) : Type 0 where
  pub is : outcome result.answer result.place ≡ encode_outcome 9 (reach_allows date reach) (length before) (date_bytes date)
  pub lays : after ≡ encode_memory (reach_allows date reach) before (date_bytes date)

-- its bytes are bytes
abbrev pub Fits : PlainDate → Bool
Fits d = fits_digits d && leb d.designator 255

-- the bytes of a date, and behind them its designator or 0
abbrev pub ten_bytes : PlainDate → List ℕ
ten_bytes d =
    pair_byte (d.year / 100) ∷ pair_byte (d.year % 100) ∷ pair_byte d.month ∷ pair_byte d.day ∷ pair_byte d.hour ∷ pair_byte d.minute ∷ pair_byte d.second ∷
    pair_byte (d.millisecond / 10) ∷ 16 * (d.millisecond % 10 + 1) ∷ d.designator ∷ []
