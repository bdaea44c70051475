-- A date decoded byte by byte: what is known once its first bytes have passed, and what each step answers.
use Rattle.std.specs.Prelude.{ℕ, ◌+◌, ◌≤◌, ◌<◌, List, Bool, Result, Ok, Err, ◌≡◌, ltb, length, get_or}
use Rattle.meaning.specs.Plain.{dated}
use Rattle.date.specs.Dates.{reaching, date_length, Passing}
use Rattle.coders.specs.declared.Date.{Date}
use Rattle.coders.specs.declared.decode.DecodedDate.{DecodedDate}
use Rattle.coders.specs.Plain.{DecodesReach, undecoded_at}

-- "a tenth byte is the designator"
abbrev pub has_designator : List ℕ → Bool
has_designator s = ltb 9 (length s)

-- the bytes before byte j are there and have passed
pub record Passed (s : List ℕ) (isAbsolute : Bool) (j : ℕ) : Type 0 where
  pub inside : j ≤ length s
  pub passing : Passing s 0 isAbsolute j

-- a date that is refused at a place
abbrev pub RefusedAt : List ℕ → Bool → ℕ → Type 0
RefusedAt s isAbsolute place = DecodesReach (dated (reaching isAbsolute)) s (undecoded_at place)

-- what is read of byte j, which has passed; or where the date is refused
abbrev pub Reads : List ℕ → Bool → ℕ → ℕ → Result ℕ ℕ → Type 0
Reads s isAbsolute j is (Ok read) = (read ≡ is) × (read < 256) × Passed s isAbsolute (j + 1)
Reads s isAbsolute j is (Err place) = RefusedAt s isAbsolute place

-- the designator or 0, where all bytes have passed and are as many as a date has
abbrev pub Ends : List ℕ → Bool → Result ℕ ℕ → Type 0
Ends s isAbsolute (Ok letter) = (letter ≡ get_or s 9 0) × (length s ≡ date_length (has_designator s)) × Passed s isAbsolute (length s)
Ends s isAbsolute (Err place) = RefusedAt s isAbsolute place

-- the answer of all bytes, from their components or the place of the refusal
abbrev pub decoded_by : List ℕ → Result Date ℕ → DecodedDate
decoded_by s (Ok date) = record { answer = 0; place = length s; date = date }
decoded_by s (Err place) = undecoded_at place
