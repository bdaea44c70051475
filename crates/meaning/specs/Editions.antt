-- Document 01, "Bytes": the two editions as tables of moves, what they share said once.
-- A room is a place in the grammar. A move leads out of it: by its code byte, with its row's kind and the form of its value, to the next room.
use Rattle.std.specs.Prelude.{ℕ, zero, suc, List, [], ◌∷◌, ◌++◌, Bool, true, false, ◌&&◌, eqb}
use Rattle.meaning.specs.Basics.{pick}
use Rattle.meaning.specs.Told.{Edition, B, D}
use Rattle.meaning.specs.Bytes.{Rule, line, note, Reach, absolute, relative, Width, one_byte, two_bytes, four_bytes}
use Rattle.meaning.specs.Kinds.{standard_representation, own_representation, date_absolute, date_forward, date_backward, received_by, received_from, received_id, received_via, to_opens, from_opens, receiver_opens, agent_name, addresses_open, address, resolvers_open, extra_key, any_text, any_bytes, comments, payload_length, payload_encoding, encrypted_opens, encrypted_item, own_key, own_value, behaviour_opens}

pub data Room : Type 0 where
  received_begins head_representation head_date parameters own_text parameter_representation behaviour_value encrypted_texts : Room
  received_date after_date after_from after_id after_via received_extra : Room
  agent_list one_agent after_name address_texts after_addresses after_resolvers agent_extra : Room
  closed : Room

-- where a reading stands: the room, the level of its rows, and whether an agent of level 1 is the one of `from`
pub record State : Type 0 where
  pub room : Room
  pub level : ℕ
  pub single : Bool

abbrev pub state : Room → ℕ → Bool → State
state r n o = record { room = r; level = n; single = o }

-- where a move leads: to a room at envelope level; inside a received object or a list of agents; to the one agent of `from`;
-- to a room at the same level; one level down, into resolvers; and to where the list or the agent that ends here stood
pub data Next : Type 0 where
  outer : Room → Next
  inner : Room → Next
  inner_one : Room → Next
  stay : Room → Next
  deeper : Room → Next
  list_ends agent_ends : Next

-- a list of level 1 is a parameter's; a deeper one is the resolvers of the agent above it
abbrev pub list_end : ℕ → Bool → State
list_end zero o = state parameters 0 false
list_end (suc zero) o = state parameters 0 false
list_end (suc (suc n)) o = state after_resolvers (suc n) o

abbrev pub go : Next → State → State
go (outer r) st = state r 0 false
go (inner r) st = state r 1 false
go (inner_one r) st = state r 1 true
go (stay r) st = state r st.level st.single
go (deeper r) st = state r (suc st.level) st.single
go list_ends st = list_end st.level st.single
go agent_ends st = pick (st.single && eqb st.level 1) (state parameters 0 false) (state agent_list st.level st.single)

-- how a move's value stands behind its code: a text by its rule; `itself` is the code, `opens` has none, `quiet` has no row either
pub data Form : Type 0 where
  text : Rule → Form
  date : Reach → Bool → Form
  number : Form
  block : Width → Form
  itself opens quiet : Form

abbrev pub is_quiet : Form → Bool
is_quiet (text rule) = false
is_quiet (date reach designated) = false
is_quiet number = false
is_quiet (block w) = false
is_quiet itself = false
is_quiet opens = false
is_quiet quiet = true

pub record Move : Type 0 where
  pub code : ℕ
  pub kind : ℕ
  pub form : Form
  pub next : Next

-- no byte: the value begins where the code would stand
abbrev pub no_code : ℕ
no_code = 256

abbrev pub no_kind : ℕ
no_kind = 0

infix 90 on◌▸◌▸◌▸◌
abbrev pub on◌▸◌▸◌▸◌ : ℕ → ℕ → Form → Next → Move
on c ▸ k ▸ f ▸ n = record { code = c; kind = k; form = f; next = n }

-- a code with no row of its own: a parameter's code before a value that has its own rows, or a closing 01
infix 90 pass◌▸◌
abbrev pub pass◌▸◌ : ℕ → Next → Move
pass c ▸ n = on c ▸ no_kind ▸ quiet ▸ n

abbrev pub closing : ℕ
closing = 0x01

-- "Representation: 10, 11 or 12, or 00 and a text"
abbrev pub representations : Next → List Move
representations n =
    on 0x10 ▸ standard_representation ▸ itself ▸ n ∷
    on 0x11 ▸ standard_representation ▸ itself ▸ n ∷
    on 0x12 ▸ standard_representation ▸ itself ▸ n ∷
    on 0x00 ▸ own_representation ▸ text line ▸ n ∷ []

-- "Any-value: 14 and a text, or 16, 17, 19 with a length of 1, 2, 4 bytes .. and that many bytes"
abbrev pub any_values : Next → List Move
any_values n =
    on 0x14 ▸ any_text ▸ text note ▸ n ∷
    on 0x16 ▸ any_bytes ▸ block one_byte ▸ n ∷
    on 0x17 ▸ any_bytes ▸ block two_bytes ▸ n ∷
    on 0x19 ▸ any_bytes ▸ block four_bytes ▸ n ∷ []

-- "Date: a code": 20 absolute, in both editions
abbrev pub shared_date : Next → List Move
shared_date n = on 0x20 ▸ date_absolute ▸ date absolute false ▸ n ∷ []

-- "Codes in B: .. 21 absolute with designator. In D: .. 21, 22 .. forward, backward; 24, 25, 26 the same with designator"
abbrev pub own_dates : Edition → Next → List Move
own_dates B n = on 0x21 ▸ date_absolute ▸ date absolute true ▸ n ∷ []
own_dates D n =
    on 0x21 ▸ date_forward ▸ date relative false ▸ n ∷
    on 0x22 ▸ date_backward ▸ date relative false ▸ n ∷
    on 0x24 ▸ date_absolute ▸ date absolute true ▸ n ∷
    on 0x25 ▸ date_forward ▸ date relative true ▸ n ∷
    on 0x26 ▸ date_backward ▸ date relative true ▸ n ∷ []

-- "Received object: by (text), date, then optionally and in this order 02 from, 03 id, 04 via (texts) .. then 01"
abbrev pub via_on : List Move
via_on = on 0x04 ▸ received_via ▸ text line ▸ stay after_via ∷ pass closing ▸ outer parameters ∷ []

abbrev pub id_on : List Move
id_on = on 0x03 ▸ received_id ▸ text line ▸ stay after_id ∷ via_on

-- "optionally 03 and resolvers (an agent list), extras, 01"
abbrev pub resolvers_on : List Move
resolvers_on = on 0x03 ▸ resolvers_open ▸ opens ▸ deeper agent_list ∷ pass closing ▸ agent_ends ∷ []

-- what both editions have
unfoldable pub shared : Room → List Move
shared received_begins = on no_code ▸ received_by ▸ text line ▸ inner received_date ∷ []
shared received_date = shared_date (stay after_date)
shared after_date = on 0x02 ▸ received_from ▸ text line ▸ stay after_from ∷ id_on
shared after_from = id_on
shared after_id = via_on
shared after_via = pass closing ▸ outer parameters ∷ []
shared received_extra = any_values (stay after_via)
-- "Base: FE, length, representation, date, parameters, 01"
shared head_representation = representations (outer head_date)
shared head_date = shared_date (outer parameters)
-- "Parameters, any order, repeats allowed"
shared parameters =
    on 0x00 ▸ own_key ▸ text line ▸ outer own_text ∷
    on 0x02 ▸ to_opens ▸ opens ▸ inner agent_list ∷
    on 0x03 ▸ from_opens ▸ opens ▸ inner_one one_agent ∷
    pass 0x04 ▸ outer parameter_representation ∷
    on 0x05 ▸ comments ▸ text note ▸ outer parameters ∷
    on 0x06 ▸ payload_length ▸ number ▸ outer parameters ∷
    on 0x07 ▸ payload_encoding ▸ text line ▸ outer parameters ∷
    on 0x09 ▸ receiver_opens ▸ opens ▸ inner agent_list ∷
    pass 0x0a ▸ outer received_begins ∷
    on 0x0b ▸ behaviour_opens ▸ opens ▸ outer behaviour_value ∷
    pass closing ▸ outer closed ∷ []
shared own_text = on no_code ▸ own_value ▸ text note ▸ outer parameters ∷ []
shared parameter_representation = representations (outer parameters)
shared behaviour_value = any_values (outer parameters)
-- "In a list of texts, 01 where an item would begin ends the list"
shared encrypted_texts = pass closing ▸ outer parameters ∷ on no_code ▸ encrypted_item ▸ text line ▸ outer encrypted_texts ∷ []
-- "Agent: 02, name text, optionally 02 and addresses (texts, then 01), optionally 03 and resolvers"; "Agent list: agents, then 01"
shared agent_list = on 0x02 ▸ agent_name ▸ text line ▸ stay after_name ∷ pass closing ▸ list_ends ∷ []
shared one_agent = on 0x02 ▸ agent_name ▸ text line ▸ stay after_name ∷ []
shared after_name = on 0x02 ▸ addresses_open ▸ opens ▸ stay address_texts ∷ resolvers_on
shared address_texts = pass closing ▸ stay after_addresses ∷ on no_code ▸ address ▸ text line ▸ stay address_texts ∷ []
shared after_addresses = resolvers_on
shared after_resolvers = pass closing ▸ agent_ends ∷ []
shared agent_extra = any_values (stay after_resolvers)
shared closed = []

-- "Extra: code 04 in B, 05 in D; key text; any-value"
abbrev pub extra_code : Edition → ℕ
extra_code B = 0x04
extra_code D = 0x05

abbrev pub agent_extras : Edition → List Move
agent_extras e = on extra_code e ▸ extra_key ▸ text line ▸ stay agent_extra ∷ []

-- "Received object: .. then in D extras"
abbrev pub received_extras : Edition → List Move
received_extras B = []
received_extras D = on extra_code D ▸ extra_key ▸ text line ▸ stay received_extra ∷ []

-- "08 encrypted, texts then 01 (B only)"
abbrev pub own_parameters : Edition → List Move
own_parameters B = on 0x08 ▸ encrypted_opens ▸ opens ▸ outer encrypted_texts ∷ []
own_parameters D = []

-- what one edition has alone
unfoldable pub own : Edition → Room → List Move
own e received_begins = []
own e head_representation = []
own e head_date = own_dates e (outer parameters)
own e parameters = own_parameters e
own e own_text = []
own e parameter_representation = []
own e behaviour_value = []
own e encrypted_texts = []
own e received_date = own_dates e (stay after_date)
own e after_date = received_extras e
own e after_from = received_extras e
own e after_id = received_extras e
own e after_via = received_extras e
own e received_extra = []
own e agent_list = []
own e one_agent = []
own e after_name = agent_extras e
own e address_texts = []
own e after_addresses = agent_extras e
own e after_resolvers = agent_extras e
own e agent_extra = []
own e closed = []

unfoldable pub moves : Edition → Room → List Move
unfolding shared own
moves e r = shared r ++ own e r
