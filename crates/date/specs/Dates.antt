-- What the stages of a date promise: the check of each byte by its number, and what a code says in each edition.
use Rattle.std.specs.Prelude.{ℕ, zero, suc, ◌+◌, List, [], ◌∷◌, ◌++◌, ◌-◌, Option, None, Some, Result, Ok, Err, Bool, true, false, ◌≡◌, eqb, get_or}
use Rattle.meaning.specs.Basics.{pick}
use Rattle.meaning.specs.Bytes.{Check, pair, day, half, letter, any_pair, passes, Reach, absolute, relative}
use Rattle.meaning.specs.Told.{Edition}
use Rattle.meaning.specs.Editions.{Next, Move, date, shared_date, own_dates, on◌▸◌▸◌▸◌}
use Rattle.meaning.specs.Reading.{look, none, hit}
use Rattle.date.specs.declared.Dated.{Dated}
use Rattle.table.specs.declared.answers.Fault.{Fault}
use Rattle.table.specs.Kinds.{number_of}
use Rattle.values.specs.declared.Value.{Value}
use Rattle.values.specs.declared.Value.TheVariants.{Is, Refused}
use Rattle.values.specs.Stages.{Bears}

abbrev pub reaching : Bool → Reach
reaching true = absolute
reaching false = relative

abbrev pub date_length : Bool → ℕ
date_length true = 10
date_length false = 9

-- the check of byte j
abbrev pub absolute_check : ℕ → Check
absolute_check j =
    pick (eqb j 2) (pair 1 12) (pick (eqb j 3) day (pick (eqb j 4) (pair 0 23) (pick (eqb j 5) (pair 0 59) (pick (eqb j 6) (pair 0 59) any_pair))))

abbrev pub pair_check : Bool → ℕ → Check
pair_check true j = absolute_check j
pair_check false j = any_pair

abbrev pub check_at : Bool → ℕ → Check
check_at isAbsolute j = pick (eqb j 8) half (pick (eqb j 9) letter (pair_check isAbsolute j))

-- the bytes of a date before its byte j, the last one first
unfoldable pub earlier : List ℕ → ℕ → ℕ → List ℕ
earlier s at zero = []
earlier s at (suc j) = get_or s (at + j) 0 ∷ earlier s at j

-- the first n bytes of a date pass their checks
abbrev pub Passing : List ℕ → ℕ → Bool → ℕ → Type 0
Passing s at isAbsolute zero = Unit {0}
Passing s at isAbsolute (suc n) = Passing s at isAbsolute n × (passes (check_at isAbsolute n) (earlier s at n) (get_or s (at + n) 0) ≡ true)

-- the moves of a room that has a date
abbrev pub dates_of : Edition → Next → List Move
dates_of e n = shared_date n ++ own_dates e n

-- the date whose bytes at a place were read, as a value of a kind
abbrev pub value_by : ℕ → ℕ → Result ℕ Fault → Value
value_by kind at (Ok after) = Is kind at (after - at) after
value_by kind at (Err fault) = Refused fault

unfoldable pub DateCode : Edition → ℕ → Option Dated → Type 0
DateCode e code (Some d) =
    Bears code (number_of d.kind) (date (reaching d.form.absolute) d.form.designated) × ((n : Next) → look code (dates_of e n) ≡ hit (on code ▸ number_of d.kind ▸ date (reaching d.form.absolute) d.form.designated ▸ n))
DateCode e code None = (n : Next) → look code (dates_of e n) ≡ none
