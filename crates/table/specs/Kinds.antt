-- The code's kinds, by the numbers that `meaning` names.
use Rattle.std.specs.Prelude.{ℕ, ◌≡◌, Result, MatchResult}
use Rattle.meaning.specs.Kinds as meaning
use Rattle.table.specs.declared.kinds.Kind.{Kind}
use Rattle.table.specs.declared.kinds.Kind.TheVariants.{ExtensionOpens, BaseOpens, StandardRepresentation, OwnRepresentation, DateAbsolute, DateForward, DateBackward, ReceivedBy, ReceivedFrom, ReceivedId, ReceivedVia, ToOpens, FromOpens, ReceiverOpens, AgentName, AddressesOpen, Address, ResolversOpen, ExtraKey, AnyText, AnyBytes, Comments, PayloadLength, PayloadEncoding, EncryptedOpens, EncryptedItem, OwnKey, OwnValue, BehaviourOpens}
use Rattle.table.specs.declared.kinds.UnknownKind.{UnknownKind}

abbrev pub number_of : Kind → ℕ
number_of ExtensionOpens = meaning.extension_opens
number_of BaseOpens = meaning.base_opens
number_of StandardRepresentation = meaning.standard_representation
number_of OwnRepresentation = meaning.own_representation
number_of DateAbsolute = meaning.date_absolute
number_of DateForward = meaning.date_forward
number_of DateBackward = meaning.date_backward
number_of ReceivedBy = meaning.received_by
number_of ReceivedFrom = meaning.received_from
number_of ReceivedId = meaning.received_id
number_of ReceivedVia = meaning.received_via
number_of ToOpens = meaning.to_opens
number_of FromOpens = meaning.from_opens
number_of ReceiverOpens = meaning.receiver_opens
number_of AgentName = meaning.agent_name
number_of AddressesOpen = meaning.addresses_open
number_of Address = meaning.address
number_of ResolversOpen = meaning.resolvers_open
number_of ExtraKey = meaning.extra_key
number_of AnyText = meaning.any_text
number_of AnyBytes = meaning.any_bytes
number_of Comments = meaning.comments
number_of PayloadLength = meaning.payload_length
number_of PayloadEncoding = meaning.payload_encoding
number_of EncryptedOpens = meaning.encrypted_opens
number_of EncryptedItem = meaning.encrypted_item
number_of OwnKey = meaning.own_key
number_of OwnValue = meaning.own_value
number_of BehaviourOpens = meaning.behaviour_opens

-- what a number says of kinds: the one that it is, or that it is none's
abbrev pub KindOf : ℕ → Result Kind UnknownKind → Type 0
KindOf number r = MatchResult r (λ kind. number_of kind ≡ number) (λ e. (e.0 ≡ number) × ((kind : Kind) → number_of kind ≡ number → ⊥))
