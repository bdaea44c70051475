-- Document 02, order 1: "one value for each parameter, by the ACC rule in section 2.2 of both editions". The rule is a procedure, printed so:
--     EnvelopeWithAllParams := new empty Envelope
--     while (not all envelopes processed) {
--       tempEnvelope = getNextEnvelope;
--       foreach parameter in an envelope {
--         if ((this parameter has no value in EnvelopeWithAllParams)
--           AND (this parameter has a value in tempEnvelope))
--         then copy the value of this parameter to EnvelopeWithAllParams
--       }
--     }
use Rattle.std.specs.Prelude.{ℕ, suc, List, [], ◌∷◌, eqb, length, take}
use Rattle.meaning.specs.Basics.{pick}
use Rattle.meaning.specs.Told.{Edition, Label, known, unknown, label_of}
use Rattle.meaning.specs.Skips.{Rank, is_envelope, belonging}
use Rattle.meaning.specs.Codes.{has_value, can_ask}
use Rattle.meaning.specs.Writing.{Written, written, unwritten, write_rows}
use Rattle.meaning.specs.Memory.{Reply, reply, ranks_of, cells_of, skips_held, room_of}

-- a parameter's value: none, or the row that opens or holds it, "empty or not"
pub data Value : Type 0 where
  no_value : Value
  at_row : ℕ → Value

-- "EnvelopeWithAllParams": the value of each code
abbrev pub AllParameters : Type 0
AllParameters = ℕ → Value

-- "new empty Envelope"
abbrev pub empty_envelope : AllParameters
empty_envelope code = no_value

-- "this parameter has a value in tempEnvelope": whether row i is it
abbrev pub value_in : ℕ → ℕ → Rank → Value
value_in code i r = pick (has_value code r) (at_row i) no_value

-- "this parameter has no value in EnvelopeWithAllParams": "the first value found stands"
abbrev pub unless : Value → Value → Value
unless no_value new = new
unless (at_row i) new = at_row i

-- "then copy the value of this parameter to EnvelopeWithAllParams"
abbrev pub copy_row : ℕ → Rank → AllParameters → AllParameters
copy_row i r all code = unless (all code) (value_in code i r)

-- "foreach parameter in an envelope": its rows, the first of them row i. "A representation, date or received object in an envelope's fixed head
-- counts as that envelope's first value": its rows come first
unfoldable pub copy_all : ℕ → List Rank → AllParameters → AllParameters
copy_all i [] all = all
copy_all i (r ∷ rest) all = copy_all (suc i) rest (copy_row i r all)

-- "tempEnvelope = getNextEnvelope": the rows that belong to row i, if it is an envelope's
abbrev pub next_envelope : ℕ → Rank → List Rank → AllParameters → AllParameters
next_envelope i r rest all = pick (is_envelope r.kind) (copy_all (suc i) (take (belonging r rest) rest) all) all

-- "while (not all envelopes processed)", from row i on
unfoldable pub all_envelopes : ℕ → List Rank → AllParameters → AllParameters
all_envelopes i [] all = all
all_envelopes i (r ∷ rest) all = all_envelopes (suc i) rest (next_envelope i r rest all)

-- "The answer is the row that opens or holds the value, empty or not, or the row count for none."
abbrev pub row_or : ℕ → Value → ℕ
row_or count no_value = count
row_or count (at_row i) = i

unfoldable pub present : ℕ → List Rank → ℕ
present code rows = row_or (length rows) (all_envelopes 0 rows empty_envelope code)

-- what the writer makes of rows, its output aside
pub data Judgement : Type 0 where
  passed : Judgement
  stopped : ℕ → ℕ → Judgement

-- "then 15 and 5 as the writer gives them"; 16 is no fault of the rows
abbrev pub check_of : Written → Judgement
check_of (written bytes) = passed
check_of (unwritten refusal place) = pick (eqb refusal 16) passed (stopped refusal place)

-- .. with no output lent
unfoldable pub checked : Edition → List ℕ → List ℕ → Judgement
checked e rows pool = check_of (write_rows e 0 (cells_of pool rows) (skips_held rows))

-- accepted: 0, the row, the row count
abbrev pub answered_by : List ℕ → ℕ → Judgement → Reply
answered_by rows code passed = reply 0 (present code (ranks_of rows)) (room_of rows)
answered_by rows code (stopped refusal place) = reply refusal place 0

-- "Refusals: 1; then 17 at place 0, code not one of these; then 15 and 5"
abbrev pub present_under : List ℕ → List ℕ → ℕ → Label → Reply
present_under rows pool code unknown = reply 1 0 0
present_under rows pool code (known e) = pick (can_ask code) (answered_by rows code (checked e rows pool)) (reply 17 0 0)

-- "It takes edition, rows, pool and code."
unfoldable pub present_answer : ℕ → List ℕ → List ℕ → ℕ → Reply
present_answer edition rows pool code = present_under rows pool code (label_of edition)
