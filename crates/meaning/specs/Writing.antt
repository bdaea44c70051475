-- Document 01, "Answers by number", the writer: rows become bytes by the same moves, found by the row's kind.
use Rattle.std.specs.Prelude.{ℕ, zero, suc, ◌+◌, ◌*◌, List, [], ◌∷◌, ◌++◌, Bool, true, false, ◌&&◌, ◌||◌, not, eqb, leb, length}
use Rattle.meaning.specs.Basics.{pick, is_empty}
use Rattle.meaning.specs.Bytes.{text_ok, number_ok, date_ok, date_checks, block_ok, length_bytes, two_bytes, four_bytes}
use Rattle.meaning.specs.Kinds.{extension_opens, base_opens, standard_representation, own_representation, received_by}
use Rattle.meaning.specs.Told.{Edition, Label, known, unknown}
use Rattle.meaning.specs.Editions.{State, state, closed, go, Form, text, date, number, block, itself, opens, quiet, is_quiet, Move, no_code, closing, moves}
use Rattle.meaning.specs.Reading.{Row, Found, none, hit, find, or_else, has_code, is_closed, too_deep}
use Rattle.meaning.specs.Skips.{Skips, right, wrong_at}
use Rattle.meaning.specs.Headers.{envelope_most, envelopes_most, start}

abbrev pub is_only : ℕ → List ℕ → Bool
is_only c [] = false
is_only c (b ∷ []) = eqb b c
is_only c (b ∷ (d ∷ v)) = false

-- bytes that a row of this form may view. "Length 9 or 10 picks the date code"
unfoldable pub valid : Form → ℕ → List ℕ → Bool
valid (text rule) code v = text_ok rule v
valid (date reach designated) code v = date_ok (date_checks reach designated) [] v
valid number code v = number_ok 0 true v
valid (block w) code v = block_ok w v
valid itself code v = is_only code v
valid opens code v = is_empty v
valid quiet code v = is_empty v

unfoldable pub write_value : Form → List ℕ → List ℕ
write_value (text rule) v = v ++ (0 ∷ [])
write_value (date reach designated) v = v
write_value number v = v
write_value (block w) v = length_bytes w (length v) ++ v
write_value itself v = []
write_value opens v = []
write_value quiet v = []

-- a row's own move: of its kind, in a form that its bytes have
abbrev pub stands_for : Row → Move → Bool
stands_for row m = not (is_quiet m.form) && eqb m.kind row.kind && valid m.form m.code row.view

abbrev pub is_pass : ℕ → Move → Bool
is_pass c m = is_quiet m.form && has_code c m

-- representations and received objects have their parameter's code before them; from elsewhere the way to a row is a closing 01
abbrev pub way_to : ℕ → ℕ
way_to kind = pick (eqb kind standard_representation || eqb kind own_representation) 0x04 (pick (eqb kind received_by) 0x0a closing)

pub data Way : Type 0 where
  by_own by_pass : Move → Way
  nowhere : Way

abbrev pub ways : Found → Found → Way
ways (hit m) o = by_own m
ways none (hit m) = by_pass m
ways none none = nowhere

abbrev pub at_level : Bool → Found → Found
at_level true o = o
at_level false o = none

-- a row's way from a room at level n: its own move if it stands here, else by its parameter's code, else by closing
unfoldable pub way_of : List Move → ℕ → Row → Way
way_of l n row =
    ways (at_level (eqb row.level n) (find (stands_for row) l)) (or_else (find (is_pass (way_to row.kind)) l) (find (is_pass closing) l))

-- the state behind a row and the bytes up to there; or it fits nowhere
pub data Fit : Type 0 where
  unfit : Fit
  fits : State → List ℕ → Fit

abbrev pub led : List ℕ → Fit → Fit
led bs unfit = unfit
led bs (fits st cs) = fits st (bs ++ cs)

abbrev pub lead : Move → List ℕ
lead m = pick (has_code no_code m) [] (m.code ∷ [])

-- "Level 9 is 15"
abbrev pub place : State → Row → Move → Fit
place st row m = pick (too_deep m st) unfit (fits (go m.next st) (lead m ++ write_value m.form row.view))

abbrev pub fit_by : State → Row → (State → Row → Fit) → Way → Fit
fit_by st row f nowhere = unfit
fit_by st row f (by_pass m) = led (m.code ∷ []) (f (go m.next st) row)
fit_by st row f (by_own m) = place st row m

unfoldable pub fit : ℕ → Edition → State → Row → Fit
fit zero e st row = unfit
fit (suc n) e st row = fit_by st row (fit n e) (way_of (moves e st.room) st.level row)

-- more moves without a row than this never come one after another
abbrev pub passes_most : State → ℕ
passes_most st = 2 * st.level + 5

unfoldable pub fit_row : Edition → State → Row → Fit
fit_row e st row = fit (suc (passes_most st)) e st row

-- the closings from a state to the envelope's end
abbrev pub close_by : State → (State → Fit) → Found → Fit
close_by st f none = unfit
close_by st f (hit m) = led (m.code ∷ []) (f (go m.next st))

unfoldable pub close_within : ℕ → Edition → State → Fit
close_within zero e st = unfit
close_within (suc n) e st =
    let more : Fit = close_by st (close_within n e) (find (is_pass closing) (moves e st.room)) in
    pick (is_closed st.room) (fits st []) more

unfoldable pub close : Edition → State → Fit
close e st = close_within (suc (passes_most st)) e st

-- a row of the lent table: what it says, or that it is not there: it views past the pool, or the slice ends inside it
pub data Cell : Type 0 where
  cell : Row → Cell
  broken : Cell

-- an envelope's own row, or any other
pub data Opens : Type 0 where
  envelope_row : Bool → Opens
  inner_row : Opens

abbrev pub opens_of : Row → Opens
opens_of row =
    pick (eqb row.level 0 && is_empty row.view)
    (pick (eqb row.kind extension_opens) (envelope_row false) (pick (eqb row.kind base_opens) (envelope_row true) inner_row)) inner_row

-- an envelope to be written: its row's number, whether it is the base, and the bytes inside
pub record Envelope : Type 0 where
  pub at : ℕ
  pub base : Bool
  pub body : List ℕ

abbrev pub envelope_at : ℕ → Bool → List ℕ → Envelope
envelope_at i base bs = record { at = i; base = base; body = bs }

-- "15: rows up to here begin no table of this edition, .. or rows or slice end early, row number from 0";
-- else what is still to be written of the envelope that is open, and the envelopes behind it
pub data Plan : Type 0 where
  stuck : ℕ → Plan
  plan : List ℕ → List Envelope → Plan

abbrev pub on_plan : List ℕ → Plan → Plan
on_plan bs (stuck i) = stuck i
on_plan bs (plan cs vs) = plan (bs ++ cs) vs

abbrev pub new_plan : ℕ → Bool → List ℕ → Plan → Plan
new_plan i base bs (stuck j) = stuck j
new_plan i base bs (plan cs vs) = plan bs (envelope_at i base cs ∷ vs)

abbrev pub row_plan : ℕ → (State → Plan) → Fit → Plan
row_plan i f unfit = stuck i
row_plan i f (fits st bs) = on_plan bs (f st)

abbrev pub turn_plan : ℕ → Bool → (State → Plan) → Fit → Plan
turn_plan i base f unfit = stuck i
turn_plan i base f (fits st bs) = new_plan i base bs (f (start base))

abbrev pub end_plan : ℕ → Fit → Plan
end_plan i unfit = stuck i
end_plan i (fits st bs) = plan bs []

-- a row where an envelope is open, the base or not: nothing opens behind the base
abbrev pub next_row : Edition → Bool → State → ℕ → Row → (Bool → State → Plan) → Opens → Plan
next_row e base st i row f inner_row = row_plan i (f base) (fit_row e st row)
next_row e true st i row f (envelope_row new) = stuck i
next_row e false st i row f (envelope_row new) = turn_plan i new (f new) (close e st)

-- "zero or more extension envelopes, then one base envelope"
abbrev pub last_row : Edition → Bool → State → ℕ → Plan
last_row e true st i = end_plan i (close e st)
last_row e false st i = stuck i

unfoldable pub plan_of : Edition → List Cell → ℕ → Bool → State → Plan
plan_of e [] i base st = last_row e base st i
plan_of e (broken ∷ cs) i base st = stuck i
plan_of e (cell row ∷ cs) i base st = next_row e base st i row (plan_of e cs (suc i)) (opens_of row)

-- before the first envelope it is as behind one that is closed
abbrev pub whole_plan : Edition → List Cell → Plan
whole_plan e cs = plan_of e cs 0 false (state closed 0 false)

-- "Length: two bytes, high first, counting the whole envelope .. The long form is used exactly if the envelope in the short form would pass 65,535 bytes"
abbrev pub is_short : ℕ → Bool
is_short n = leb (3 + n) 65535

abbrev pub envelope_size : ℕ → ℕ
envelope_size n = pick (is_short n) (3 + n) (7 + n)

abbrev pub within_limit : ℕ → Bool
within_limit n = leb (envelope_size n) envelope_most

abbrev pub envelope_length : ℕ → List ℕ
envelope_length n = pick (is_short n) (length_bytes two_bytes (3 + n)) (0 ∷ 0 ∷ length_bytes four_bytes (7 + n))

abbrev pub wrap : Bool → List ℕ → List ℕ
wrap base bs = pick base 0xfe 0xfd ∷ (envelope_length (length bs) ++ bs)

abbrev pub header_of : List Envelope → List ℕ
header_of [] = []
header_of (v ∷ vs) = wrap v.base v.body ++ header_of vs

-- "5 (place: the envelope's row)": the first that is the 17th or over the limit
pub data Limit : Type 0 where
  fine : Limit
  exceeds : ℕ → Limit

abbrev pub limits : ℕ → List Envelope → Limit
limits n [] = fine
limits zero (v ∷ vs) = exceeds v.at
limits (suc n) (v ∷ vs) = pick (within_limit (length v.body)) (limits n vs) (exceeds v.at)

pub data Written : Type 0 where
  written : List ℕ → Written
  unwritten : ℕ → ℕ → Written

-- "It checks 1, then 15 over all rows, then 5 .., then 16"; "16: output too short, bytes needed"
abbrev pub roomed : ℕ → List ℕ → Written
roomed room bytes = pick (leb (length bytes) room) (written bytes) (unwritten 16 (length bytes))

abbrev pub limited : ℕ → List Envelope → Limit → Written
limited room vs fine = roomed room (header_of vs)
limited room vs (exceeds i) = unwritten 5 i

-- order 7: "15 for a wrong skip number, at its row, after 15's other faults"; so 5 and 16 come after it
abbrev pub skipped : ℕ → List Envelope → Skips → Written
skipped room vs right = limited room vs (limits envelopes_most vs)
skipped room vs (wrong_at i) = unwritten 15 i

abbrev pub planned : ℕ → Skips → Plan → Written
planned room skips (stuck i) = unwritten 15 i
planned room skips (plan bs vs) = skipped room vs skips

unfoldable pub write_rows : Edition → ℕ → List Cell → Skips → Written
write_rows e room cs skips = planned room skips (whole_plan e cs)

abbrev pub written_under : ℕ → List Cell → Skips → Label → Written
written_under room cs skips unknown = unwritten 1 0
written_under room cs skips (known e) = write_rows e room cs skips
