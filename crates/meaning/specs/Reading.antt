-- Document 01, "The table" and "Answers by number": the inside of an envelope, read byte by byte; the first fault decides.
use Rattle.std.specs.Prelude.{ℕ, zero, suc, ◌+◌, List, [], ◌∷◌, ◌++◌, Bool, true, false, ◌&&◌, eqb, ltb, length}
use Rattle.meaning.specs.Basics.{pick}
use Rattle.meaning.specs.Bytes.{Taken, took, failed, take_text, take_number, take_date, date_checks, take_block}
use Rattle.meaning.specs.Kinds.{agent_name}
use Rattle.meaning.specs.Told.{Told}
use Rattle.meaning.specs.Editions.{Room, received_begins, head_representation, head_date, parameters, own_text, parameter_representation, behaviour_value, encrypted_texts, received_date, after_date, after_from, after_id, after_via, received_extra, agent_list, one_agent, after_name, address_texts, after_addresses, after_resolvers, agent_extra, closed, State, go, Form, text, date, number, block, itself, opens, quiet, is_quiet, Move, no_code, moves}

-- what a row says. "Two tables mean the same .. if they have equal row counts, kinds, levels, lengths and viewed bytes; starts may differ"
pub record Row : Type 0 where
  pub kind : ℕ
  pub level : ℕ
  pub view : List ℕ

-- a row as it is read: how many bytes of the envelope are left where it starts
pub record Seen : Type 0 where
  pub kind : ℕ
  pub level : ℕ
  pub left : ℕ
  pub view : List ℕ

abbrev pub seen : ℕ → ℕ → ℕ → List ℕ → Seen
seen k n l v = record { kind = k; level = n; left = l; view = v }

abbrev pub row_of : Seen → Row
row_of r = record { kind = r.kind; level = r.level; view = r.view }

-- the value of a move behind its code; left: the bytes left at the code
unfoldable pub take_value : Told → Form → ℕ → ℕ → List ℕ → Taken
take_value t (text rule) left code s = take_text rule s
take_value t (date reach designated) left code s = take_date (date_checks reach designated) [] s
take_value t number left code s = take_number 0 true s
take_value t (block w) left code s = take_block t w left s
take_value t itself left code s = took (code ∷ []) s
take_value t opens left code s = took [] s
take_value t quiet left code s = took [] s

-- how far a row's start lies before the end of its view: a text's closing 00 stands behind it; "Opening rows .. start at their identifier or code byte"
abbrev pub reach_back : Form → ℕ
reach_back (text rule) = 1
reach_back (date reach designated) = 0
reach_back number = 0
reach_back (block w) = 0
reach_back itself = 0
reach_back opens = 1
reach_back quiet = 0

abbrev pub seen_by : Form → ℕ → ℕ → List ℕ → List ℕ → List Seen
seen_by f k n v rest = pick (is_quiet f) [] (seen k n (length rest + length v + reach_back f) v ∷ [])

pub data Found : Type 0 where
  none : Found
  hit : Move → Found

-- the first move that passes
unfoldable pub find : (Move → Bool) → List Move → Found
find p [] = none
find p (m ∷ l) = pick (p m) (hit m) (find p l)

abbrev pub or_else : Found → Found → Found
or_else none o = o
or_else (hit m) o = hit m

abbrev pub has_code : ℕ → Move → Bool
has_code b m = eqb m.code b

-- the move at the byte b: the one with that code, else the one with no code
unfoldable pub look : ℕ → List Move → Found
look b l = or_else (find (has_code b) l) (find (has_code no_code) l)

abbrev pub is_closed : Room → Bool
is_closed received_begins = false
is_closed head_representation = false
is_closed head_date = false
is_closed parameters = false
is_closed own_text = false
is_closed parameter_representation = false
is_closed behaviour_value = false
is_closed encrypted_texts = false
is_closed received_date = false
is_closed after_date = false
is_closed after_from = false
is_closed after_id = false
is_closed after_via = false
is_closed received_extra = false
is_closed agent_list = false
is_closed one_agent = false
is_closed after_name = false
is_closed address_texts = false
is_closed after_addresses = false
is_closed after_resolvers = false
is_closed agent_extra = false
is_closed closed = true

-- "7: code not allowed here"; "9: date code .. wrong"
abbrev pub strange : Room → ℕ
strange received_begins = 7
strange head_representation = 7
strange head_date = 9
strange parameters = 7
strange own_text = 7
strange parameter_representation = 7
strange behaviour_value = 7
strange encrypted_texts = 7
strange received_date = 9
strange after_date = 7
strange after_from = 7
strange after_id = 7
strange after_via = 7
strange received_extra = 7
strange agent_list = 7
strange one_agent = 7
strange after_name = 7
strange address_texts = 7
strange after_addresses = 7
strange after_resolvers = 7
strange agent_extra = 7
strange closed = 7

-- "agent level 8"; "12: agent of level 9, its 02"
abbrev pub level_most : ℕ
level_most = 8

abbrev pub too_deep : Move → State → Bool
too_deep m st = eqb m.kind agent_name && ltb level_most st.level

-- one step: a refusal and the bytes left at it; the envelope's closing 01 is behind; or the next state, the row if any, and the bytes behind it
pub data Step : Type 0 where
  fails : ℕ → ℕ → Step
  over : List ℕ → Step
  next : State → List Seen → List ℕ → Step

abbrev pub step_taken : State → Move → Taken → Step
step_taken st m (failed refusal left) = fails refusal left
step_taken st m (took v rest) = next (go m.next st) (seen_by m.form m.kind st.level v rest) rest

-- what the value is taken from: with no code, the byte that was looked at too
abbrev pub value_from : Move → ℕ → List ℕ → List ℕ
value_from m b s = pick (has_code no_code m) (b ∷ s) s

unfoldable pub step_move : Told → State → ℕ → List ℕ → Found → Step
step_move t st b s none = pick (is_closed st.room) (over (b ∷ s)) (fails (strange st.room) (suc (length s)))
step_move t st b s (hit m) =
    pick (too_deep m st) (fails 12 (suc (length s))) (step_taken st m (take_value t m.form (suc (length s)) m.code (value_from m b s)))

-- "6: a byte is needed at the declared end"
unfoldable pub step : Told → State → List ℕ → Step
step t st [] = pick (is_closed st.room) (over []) (fails 6 0)
step t st (b ∷ s) = step_move t st b s (look b (moves t.edition st.room))

-- the whole inside: its rows and what is left behind the closing 01, or the refusal; `dry` is never the answer, since each step takes a byte
pub data Out : Type 0 where
  dry : Out
  fault : ℕ → ℕ → Out
  done : List Seen → List ℕ → Out

abbrev pub with_rows : List Seen → Out → Out
with_rows rs dry = dry
with_rows rs (fault refusal left) = fault refusal left
with_rows rs (done ts s) = done (rs ++ ts) s

abbrev pub onward : Step → (State → List ℕ → Out) → Out
onward (fails refusal left) f = fault refusal left
onward (over s) f = done [] s
onward (next st rs rest) f = with_rows rs (f st rest)

unfoldable pub run : ℕ → Told → State → List ℕ → Out
run zero t st s = dry
run (suc n) t st s = onward (step t st s) (run n t)

unfoldable pub inside : Told → State → List ℕ → Out
inside t st s = run (suc (length s)) t st s
