-- What each code value of the table's words says, as `meaning` has it.
use Rattle.std.specs.Prelude.{ℕ, Bool, true, false, Option, None, Some}
use Rattle.meaning.specs.Bytes.{Reach, absolute, relative, one_byte, two_bytes, four_bytes}
use Rattle.meaning.specs.Editions.{no_code, on◌▸◌▸◌▸◌, pass◌▸◌}
use Rattle.meaning.specs.Editions as meaning
use Rattle.meaning.specs.Reading as reading
use Rattle.table.specs.Kinds.{number_of}
use Rattle.table.specs.declared.kinds.Kind.{Kind}
use Rattle.values.specs.Stages.{rule_of}
use Rattle.moves.specs.declared.rooms.Room.{Room}
use Rattle.moves.specs.declared.rooms.Room.TheVariants as room
use Rattle.moves.specs.declared.rooms.Form.{Form}
use Rattle.moves.specs.declared.rooms.Form.TheVariants as form
use Rattle.moves.specs.declared.rooms.Next.{Next}
use Rattle.moves.specs.declared.rooms.Next.TheVariants as next
use Rattle.moves.specs.declared.rooms.Move.{Move}
use Rattle.moves.specs.declared.rooms.Move.TheVariants.{Coded, Quiet, Uncoded}

abbrev pub room_of : Room → meaning.Room
room_of room.ReceivedBegins = meaning.received_begins
room_of room.HeadRepresentation = meaning.head_representation
room_of room.HeadDate = meaning.head_date
room_of room.Parameters = meaning.parameters
room_of room.OwnText = meaning.own_text
room_of room.ParameterRepresentation = meaning.parameter_representation
room_of room.BehaviourValue = meaning.behaviour_value
room_of room.EncryptedTexts = meaning.encrypted_texts
room_of room.ReceivedDate = meaning.received_date
room_of room.AfterDate = meaning.after_date
room_of room.AfterFrom = meaning.after_from
room_of room.AfterId = meaning.after_id
room_of room.AfterVia = meaning.after_via
room_of room.ReceivedExtra = meaning.received_extra
room_of room.AgentList = meaning.agent_list
room_of room.OneAgent = meaning.one_agent
room_of room.AfterName = meaning.after_name
room_of room.AddressTexts = meaning.address_texts
room_of room.AfterAddresses = meaning.after_addresses
room_of room.AfterResolvers = meaning.after_resolvers
room_of room.AgentExtra = meaning.agent_extra
room_of room.Closed = meaning.closed

abbrev pub reach_of : Bool → Reach
reach_of true = absolute
reach_of false = relative

abbrev pub form_of : Form → meaning.Form
form_of (form.Text rule) = meaning.text (rule_of rule)
form_of (form.Date isAbsolute designated) = meaning.date (reach_of isAbsolute) designated
form_of form.Number = meaning.number
form_of form.OneByte = meaning.block one_byte
form_of form.TwoBytes = meaning.block two_bytes
form_of form.FourBytes = meaning.block four_bytes
form_of form.Itself = meaning.itself
form_of form.Opens = meaning.opens

abbrev pub next_of : Next → meaning.Next
next_of (next.Outer r) = meaning.outer (room_of r)
next_of (next.Inner r) = meaning.inner (room_of r)
next_of next.InnerOne = meaning.inner_one meaning.one_agent
next_of (next.Stay r) = meaning.stay (room_of r)
next_of next.Deeper = meaning.deeper meaning.agent_list
next_of next.ListEnds = meaning.list_ends
next_of next.AgentEnds = meaning.agent_ends

-- the move that is found at the byte b, where a row's kind is said in the caller's way
abbrev pub move_by : {K : Type 0} → (K → ℕ) → ℕ → Move K → meaning.Move
move_by number b (Coded kind form next) = on b ▸ number kind ▸ form_of form ▸ next_of next
move_by number b (Quiet next) = pass b ▸ next_of next
move_by number b (Uncoded kind rule next) = on no_code ▸ number kind ▸ meaning.text (rule_of rule) ▸ next_of next

abbrev pub move_of : ℕ → Move Kind → meaning.Move
move_of = move_by number_of

-- what is found at the byte b
abbrev pub found_by : {K : Type 0} → (K → ℕ) → ℕ → Option (Move K) → reading.Found
found_by number b None = reading.none
found_by number b (Some m) = reading.hit (move_by number b m)

abbrev pub found_of : ℕ → Option (Move Kind) → reading.Found
found_of = found_by number_of
