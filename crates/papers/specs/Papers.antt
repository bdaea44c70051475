-- The grammar of the two papers, section 2.3 of each, under their own rule names: edition D is source document 002, edition B 004. Each rule's line is quoted, and
-- document 01 where it is stricter or adds: kinds, levels, limits. A rule stands after those it names, the values in `Values`; `Page` has all in the papers' order.
use Rattle.std.specs.Prelude.{ℕ, zero, suc, ◌≤◌, List, [], ◌++◌, ◌≡◌, length}
use Rattle.meaning.specs.Told.{B, D, strict, Told}
use Rattle.meaning.specs.Bytes.{line, note, absolute, relative}
use Rattle.meaning.specs.Kinds.{extension_opens, base_opens, standard_representation, own_representation, date_absolute, date_forward, date_backward, received_by, received_from, received_id, received_via, to_opens, from_opens, receiver_opens, agent_name, addresses_open, address, resolvers_open, extra_key, any_text, any_bytes, comments, payload_length, payload_encoding, encrypted_opens, encrypted_item, own_key, own_value, behaviour_opens}
use Rattle.papers.specs.Notation.{Trees, end, tree, Syntax, Value, ◌⨾◌, ◌∣◌, optional, many, up_to, byte, unseen, when, only, leaf, node, opens, itself, ◌⊳◌}
use Rattle.papers.specs.Values.{Len32, Len16, Len8, BinDate, designated, NullTerminatedString, BinNumber}

-- "EmptyLen16 = 0x00 0x00."
abbrev pub EmptyLen16 : Syntax
EmptyLen16 = byte 0x00 ⨾ byte 0x00

-- "EndOfCollection = 0x01."
abbrev pub EndOfCollection : Syntax
EndOfCollection = byte 0x01

-- "KeyWord = NullTerminatedString."
abbrev pub KeyWord : Value
KeyWord = NullTerminatedString line

-- "URL = NullTerminatedString."
abbrev pub URL : Value
URL = NullTerminatedString line

-- "AgentName = NullTerminatedString."
abbrev pub AgentName : Value
AgentName = NullTerminatedString line

-- "PayloadEncoding = NullTerminatedString."
abbrev pub PayloadEncoding : Value
PayloadEncoding = NullTerminatedString line

-- "Comments = NullTerminatedString."
abbrev pub Comments : Value
Comments = NullTerminatedString note

-- "PayloadLength = BinNumber."
abbrev pub PayloadLength : Value
PayloadLength = BinNumber

-- "Payload = /* See comment 2 */": "starts at the first byte after the BaseEnvelope"; document 01: "all that follows"
pub data Payload : ℕ → List ℕ → Trees → Type 0 where
  any : {at : ℕ} {a : List ℕ} → Payload at a end

-- "EndOfEnvelope = EndOfCollection."
abbrev pub EndOfEnvelope : Syntax
EndOfEnvelope = EndOfCollection

-- "ExtMsgId = 0xFD."
abbrev pub ExtMsgId : Syntax
ExtMsgId = byte 0xfd

-- "BaseMsgId = 0xFE."
abbrev pub BaseMsgId : Syntax
BaseMsgId = byte 0xfe

-- "JumboEnvelope = EmptyLen16 Len32.", for an envelope of n bytes; document 01: "The long form is used exactly if the envelope in the short form would pass 65,535
-- bytes; so the least long length is 65,540"
abbrev pub JumboEnvelope : ℕ → Syntax
JumboEnvelope n = when (65540 ≤ n) (EmptyLen16 ⨾ unseen (Len32 n))

-- "EnvLen = Len16 | JumboEnvelope."
abbrev pub EnvLen : ℕ → Syntax
EnvLen n = unseen (Len16 n) ∣ JumboEnvelope n

-- an envelope and its row. Comment 1: "The length of the envelope comprises all the parts of the envelope, including the message identifier and the length";
-- document 01: "Envelope at most 1,048,576 bytes"
pub data envelope (kind : ℕ) (P : ℕ → Syntax) : ℕ → List ℕ → Trees → Type 0 where
  of : {at : ℕ} {bytes : List ℕ} {ts : Trees} → length bytes ≤ 1048576 → P (length bytes) at bytes ts → envelope kind P at bytes (tree kind 0 at [] ts end)

module _ (t : Told) where
  -- "ByteSequence = Byte*.", behind its length; document 01: "The shortest length form is required": from so many bytes on. Order 10's tolerant reading asks it not.
  pub data ByteSequence (Len : ℕ → List ℕ → Type 0) (least : ℕ) : List ℕ → ℕ → List ℕ → Type 0 where
    counted : {length-bytes bytes : List ℕ} → Len (length bytes) length-bytes → (t.strictness ≡ strict → least ≤ length bytes) → ByteSequence Len least (length-bytes ++ bytes) (length length-bytes) bytes

  -- "ByteLenEncoded = 0x16 Len8 ByteSequence | 0x17 Len16 ByteSequence | 0x19 Len32 ByteSequence."
  abbrev pub ByteLenEncoded : ℕ → Syntax
  ByteLenEncoded level = leaf any_bytes level (0x16 ⊳ ByteSequence Len8 0) ∣ leaf any_bytes level (0x17 ⊳ ByteSequence Len16 256) ∣ leaf any_bytes level (0x19 ⊳ ByteSequence Len32 65536)

  -- "Any = 0x14 NullTerminatedString | ByteLenEncoded."
  abbrev pub Any : ℕ → Syntax
  Any level = leaf any_text level (0x14 ⊳ NullTerminatedString note) ∣ ByteLenEncoded level

  -- "TransportBehaviour = Any."
  abbrev pub TransportBehaviour : Syntax
  TransportBehaviour = Any 0

  -- "UserDefinedACLRepresentation = 0x00 NullTerminatedString."
  abbrev pub UserDefinedACLRepresentation : Syntax
  UserDefinedACLRepresentation = leaf own_representation 0 (0x00 ⊳ NullTerminatedString line)

  -- "ACLRepresentation = UserDefinedACLRepresentation | 0x10 | 0x11 | 0x12."
  abbrev pub ACLRepresentation : Syntax
  ACLRepresentation = UserDefinedACLRepresentation ∣ leaf standard_representation 0 (itself 0x10) ∣ leaf standard_representation 0 (itself 0x11) ∣ leaf standard_representation 0 (itself 0x12)

  -- B: "BinDateTimeToken = 0x20 BinDate | 0x21 BinDate TypeDesignator."
  -- D: "BinDateTimeToken = 0x20 BinDate | 0x21 BinDate | 0x22 BinDate | 0x24 BinDate TypeDesignator | 0x25 BinDate TypeDesignator | 0x26 BinDate TypeDesignator"
  abbrev pub BinDateTimeToken : ℕ → Syntax
  BinDateTimeToken level =
      leaf date_absolute level (0x20 ⊳ BinDate absolute)
      ∣ only t B (leaf date_absolute level (0x21 ⊳ designated (BinDate absolute)))
      ∣ only t D (leaf date_forward level (0x21 ⊳ BinDate relative))
      ∣ only t D (leaf date_backward level (0x22 ⊳ BinDate relative))
      ∣ only t D (leaf date_absolute level (0x24 ⊳ designated (BinDate absolute)))
      ∣ only t D (leaf date_forward level (0x25 ⊳ designated (BinDate relative)))
      ∣ only t D (leaf date_backward level (0x26 ⊳ designated (BinDate relative)))

  -- "Date = BinDateTimeToken."
  abbrev pub Date : ℕ → Syntax
  Date level = BinDateTimeToken level

  -- "StringSequence = (NullTerminatedString)* EndOfCollection."
  abbrev pub StringSequence : Syntax
  StringSequence = many (leaf encrypted_item 0 (NullTerminatedString line)) ⨾ EndOfCollection

  -- B: "Encrypted = StringSequence."
  abbrev pub Encrypted : Syntax
  Encrypted = StringSequence

  -- "UrlSequence = (URL)* EndOfCollection."
  abbrev pub UrlSequence : ℕ → Syntax
  UrlSequence level = many (leaf address level URL) ⨾ EndOfCollection

  -- B: "UserDefinedParameter = 0x04 NullTerminatedString Any." D: "UserDefinedParameter = 0x05 NullTerminatedString Any."
  -- document 01: "D uses one rule name for two forms; in agents and received objects the 05 form is meant"
  abbrev pub UserDefinedParameter : ℕ → Syntax
  UserDefinedParameter level =
      only t B (node extra_key level (0x04 ⊳ NullTerminatedString line) (Any level))
      ∣ only t D (node extra_key level (0x05 ⊳ NullTerminatedString line) (Any level))

  -- "AgentIdentifierSequence = (AgentIdentifier)* EndOfCollection."
  abbrev pub AgentIdentifierSequence : Syntax → Syntax
  AgentIdentifierSequence agentIdentifier = many agentIdentifier ⨾ EndOfCollection

  -- "Resolvers = 0x03 AgentIdentifierSequence."
  abbrev pub Resolvers : ℕ → Syntax → Syntax
  Resolvers level agentIdentifier = node resolvers_open level (opens 0x03) (AgentIdentifierSequence agentIdentifier)

  -- "Addresses = 0x02 UrlSequence."
  abbrev pub Addresses : ℕ → Syntax
  Addresses level = node addresses_open level (opens 0x02) (UrlSequence level)

  -- "AgentIdentifier = 0x02 AgentName [Addresses] [Resolvers] (UserDefinedParameter)* EndOfCollection."
  -- document 01: level "1 directly under 12, 13, 14 and one more for each resolver list", "agent level 8": so many levels are left, and one less for its resolvers
  abbrev pub AgentIdentifier : ℕ → ℕ → Syntax
  AgentIdentifier zero level = λ at bytes trees. ⊥
  AgentIdentifier (suc left) level =
      node agent_name level (0x02 ⊳ AgentName) (optional (Addresses level) ⨾ optional (Resolvers level (AgentIdentifier left (suc level))) ⨾ many (UserDefinedParameter level) ⨾ EndOfCollection)

  -- .. directly under a parameter: level 1, and eight levels from there on
  abbrev pub agent : Syntax
  agent = AgentIdentifier 8 1

  -- "IntendedReceiver = AgentIdentifierSequence."
  abbrev pub IntendedReceiver : Syntax
  IntendedReceiver = AgentIdentifierSequence agent

  -- "Via = 0x04 NullTerminatedString."
  abbrev pub Via : Syntax
  Via = leaf received_via 1 (0x04 ⊳ NullTerminatedString line)

  -- "Id = 0x03 NullTerminatedString."
  abbrev pub Id : Syntax
  Id = leaf received_id 1 (0x03 ⊳ NullTerminatedString line)

  -- "From = 0x02 URL."
  abbrev pub From : Syntax
  From = leaf received_from 1 (0x02 ⊳ URL)

  -- "By = URL."
  abbrev pub By : Value
  By = URL

  -- D: "ReceivedObject = By Date [From] [Id] [Via] (UserDefinedParameter)* EndOfCollection."; B: "ReceivedObject = By Date [From] [Id] [Via] EndOfCollection."
  -- document 01: the row of By opens the received object, its own level is 0 and 1 inside
  abbrev pub ReceivedObject : Syntax
  ReceivedObject = node received_by 0 By (Date 1 ⨾ optional From ⨾ optional Id ⨾ optional Via ⨾ many (only t D (UserDefinedParameter 1)) ⨾ EndOfCollection)

  -- D: "UserDefinedParameter = 0x00 Keyword NullTerminatedString."; B: "UserDefinedSlot = 0x00 Keyword NullTerminatedString."
  abbrev pub UserDefinedSlot : Syntax
  UserDefinedSlot = node own_key 0 (0x00 ⊳ KeyWord) (leaf own_value 0 (NullTerminatedString note))

  -- D: "PredefinedParameter = 0x02 AgentIdentifierSequence | 0x03 AgentIdentifier | 0x04 ACLRepresentation | 0x05 Comments | 0x06 PayloadLength | 0x07 PayloadEncoding
  -- | 0x09 IntendedReceiver | 0x0a ReceivedObject | 0x0b TransportBehaviour."; B, "PredefinedSlot", has "| 0x08 Encrypted" too
  abbrev pub PredefinedParameter : Syntax
  PredefinedParameter =
      node to_opens 0 (opens 0x02) (AgentIdentifierSequence agent)
      ∣ node from_opens 0 (opens 0x03) agent
      ∣ byte 0x04 ⨾ ACLRepresentation
      ∣ leaf comments 0 (0x05 ⊳ Comments)
      ∣ leaf payload_length 0 (0x06 ⊳ PayloadLength)
      ∣ leaf payload_encoding 0 (0x07 ⊳ PayloadEncoding)
      ∣ only t B (node encrypted_opens 0 (opens 0x08) Encrypted)
      ∣ node receiver_opens 0 (opens 0x09) IntendedReceiver
      ∣ byte 0x0a ⨾ ReceivedObject
      ∣ node behaviour_opens 0 (opens 0x0b) TransportBehaviour

  -- B's name for it
  abbrev pub PredefinedSlot : Syntax
  PredefinedSlot = PredefinedParameter

  -- D: "Parameter = PredefinedParameter | UserDefinedParameter."
  abbrev pub Parameter : Syntax
  Parameter = PredefinedParameter ∣ UserDefinedSlot

  -- B: "Slot = PredefinedSlot | UserDefinedSlot."
  abbrev pub Slot : Syntax
  Slot = PredefinedSlot ∣ UserDefinedSlot

  -- "ExtEnvelopeHeader = ExtMsgId EnvLen ReceivedObject.", of an envelope of n bytes
  abbrev pub ExtEnvelopeHeader : ℕ → Syntax
  ExtEnvelopeHeader n = ExtMsgId ⨾ EnvLen n ⨾ ReceivedObject

  -- "BaseEnvelopeHeader = BaseMsgId EnvLen ACLRepresentation Date."
  abbrev pub BaseEnvelopeHeader : ℕ → Syntax
  BaseEnvelopeHeader n = BaseMsgId ⨾ EnvLen n ⨾ ACLRepresentation ⨾ Date 0

  -- "ExtEnvelope = ExtEnvelopeHeader (Parameter)* EndOfEnvelope."
  abbrev pub ExtEnvelope : Syntax
  ExtEnvelope = envelope extension_opens (λ n. ExtEnvelopeHeader n ⨾ many Parameter ⨾ EndOfEnvelope)

  -- "BaseEnvelope = BaseEnvelopeHeader (Parameter)* EndOfEnvelope."
  abbrev pub BaseEnvelope : Syntax
  BaseEnvelope = envelope base_opens (λ n. BaseEnvelopeHeader n ⨾ many Parameter ⨾ EndOfEnvelope)

  -- document 01: "A header is zero or more extension envelopes, then one base envelope"; "16 envelopes, the base counted"
  abbrev pub Header : Syntax
  Header = up_to ExtEnvelope 15 ⨾ BaseEnvelope

  -- "MessageEnvelope = (ExtEnvelope)* BaseEnvelope Payload."
  abbrev pub MessageEnvelope : Syntax
  MessageEnvelope = Header ⨾ Payload
