-- The papers' page: every rule of section 2.3 in the papers' order, with its line in 002 (edition D) and in 004 (edition B), to be ticked off beside them. Each
-- holds by its definition in `Papers`, where the paper's line is quoted and what document 01 adds is said. A rule that is a type of its own has its constructor here.
use Rattle.std.specs.Prelude.{ℕ, suc, ◌+◌, ◌*◌, ◌/◌, ◌%◌, ◌≤◌, ◌<◌, List, [], ◌∷◌, ◌++◌, ◌≡◌, refl, length}
use Rattle.meaning.specs.Told.{B, D, strict, Told}
use Rattle.meaning.specs.Bytes.{Rule, line, note, absolute, relative, last_day}
use Rattle.meaning.specs.Kinds.{extension_opens, base_opens, standard_representation, own_representation, date_absolute, date_forward, date_backward, received_by, received_from, received_id, received_via, to_opens, from_opens, receiver_opens, agent_name, addresses_open, address, resolvers_open, extra_key, any_text, any_bytes, comments, payload_length, payload_encoding, encrypted_opens, encrypted_item, own_key, own_value, behaviour_opens}
use Rattle.papers.specs.Notation.{end, Syntax, ◌⨾◌, ◌∣◌, optional, many, up_to, byte, unseen, when, only, leaf, node, opens, itself, ◌⊳◌}
use Rattle.papers.specs.Values.{TypeDesignator, capital, small, CodedNumber, padded, TextByte, String, character, short, long, string, both, bin_number, Millisecond, Second, Minute, Hour, Day, Month, Year, Len32, Len16, Len8, date_bytes, BinDate, in_time, span, designated, NullTerminatedString, Decimal, Digits, BinNumber}
use Rattle.papers.specs.Papers.{any, counted, EmptyLen16, EndOfCollection, KeyWord, URL, AgentName, PayloadEncoding, Comments, PayloadLength, Payload, EndOfEnvelope, ExtMsgId, BaseMsgId, JumboEnvelope, EnvLen, envelope, ByteSequence, ByteLenEncoded, Any, TransportBehaviour, UserDefinedACLRepresentation, ACLRepresentation, BinDateTimeToken, Date, StringSequence, Encrypted, UrlSequence, UserDefinedParameter, AgentIdentifierSequence, Resolvers, Addresses, AgentIdentifier, agent, IntendedReceiver, Via, Id, From, By, ReceivedObject, UserDefinedSlot, PredefinedParameter, PredefinedSlot, Parameter, Slot, ExtEnvelopeHeader, BaseEnvelopeHeader, ExtEnvelope, BaseEnvelope, MessageEnvelope}
use Rattle.papers.specs.Values

module _ (t : Told) where
  -- 002: 95; 004: 95
  MessageEnvelope_is : MessageEnvelope t ≡ ((up_to (ExtEnvelope t) 15 ⨾ BaseEnvelope t) ⨾ Payload)
  MessageEnvelope_is = refl

  -- 002: 97; 004: 97
  BaseEnvelope_is : BaseEnvelope t ≡ envelope base_opens (λ n. BaseEnvelopeHeader t n ⨾ many (Parameter t) ⨾ EndOfEnvelope)
  BaseEnvelope_is = refl

  -- 002: 99; 004: 99
  ExtEnvelope_is : ExtEnvelope t ≡ envelope extension_opens (λ n. ExtEnvelopeHeader t n ⨾ many (Parameter t) ⨾ EndOfEnvelope)
  ExtEnvelope_is = refl

  -- 002: 101; 004: 101
  BaseEnvelopeHeader_is : (n : ℕ) → BaseEnvelopeHeader t n ≡ (BaseMsgId ⨾ EnvLen n ⨾ ACLRepresentation t ⨾ Date t 0)
  BaseEnvelopeHeader_is n = refl

  -- 002: 103; 004: 103
  ExtEnvelopeHeader_is : (n : ℕ) → ExtEnvelopeHeader t n ≡ (ExtMsgId ⨾ EnvLen n ⨾ ReceivedObject t)
  ExtEnvelopeHeader_is n = refl

  -- 002: 105; 004: 105
  EnvLen_is : (n : ℕ) → EnvLen n ≡ (unseen (Len16 n) ∣ JumboEnvelope n)
  EnvLen_is n = refl

  -- 002: 108; 004: 108
  JumboEnvelope_is : (n : ℕ) → JumboEnvelope n ≡ when (65540 ≤ n) (EmptyLen16 ⨾ unseen (Len32 n))
  JumboEnvelope_is n = refl

  -- 002: 110; 004: 110
  BaseMsgId_is : BaseMsgId ≡ byte 0xfe
  BaseMsgId_is = refl

  -- 002: 112; 004: 112
  ExtMsgId_is : ExtMsgId ≡ byte 0xfd
  ExtMsgId_is = refl

  -- 002: 114; 004: 114
  EndOfEnvelope_is : EndOfEnvelope ≡ EndOfCollection
  EndOfEnvelope_is = refl

  -- 002: 116; 004: 116
  Payload_is : {at : ℕ} {a : List ℕ} → Payload at a end
  Payload_is = any

  -- 002: 118
  Parameter_is : Parameter t ≡ (PredefinedParameter t ∣ UserDefinedSlot t)
  Parameter_is = refl

  -- 004: 118
  Slot_is : Slot t ≡ (PredefinedSlot t ∣ UserDefinedSlot t)
  Slot_is = refl

  -- 002: 121; 004: 121, PredefinedSlot
  PredefinedParameter_is : PredefinedParameter t ≡ (
      node to_opens 0 (opens 0x02) (AgentIdentifierSequence t (agent t))
      ∣ node from_opens 0 (opens 0x03) (agent t)
      ∣ byte 0x04 ⨾ ACLRepresentation t
      ∣ leaf comments 0 (0x05 ⊳ Comments)
      ∣ leaf payload_length 0 (0x06 ⊳ PayloadLength)
      ∣ leaf payload_encoding 0 (0x07 ⊳ PayloadEncoding)
      ∣ only t B (node encrypted_opens 0 (opens 0x08) (Encrypted t))
      ∣ node receiver_opens 0 (opens 0x09) (IntendedReceiver t)
      ∣ byte 0x0a ⨾ ReceivedObject t
      ∣ node behaviour_opens 0 (opens 0x0b) (TransportBehaviour t)
      )
  PredefinedParameter_is = refl

  -- 002: 131; 004: 132
  ACLRepresentation_is : ACLRepresentation t ≡ (UserDefinedACLRepresentation t ∣ leaf standard_representation 0 (itself 0x10) ∣ leaf standard_representation 0 (itself 0x11) ∣ leaf standard_representation 0 (itself 0x12))
  ACLRepresentation_is = refl

  -- 002: 136; 004: 137
  Date_is : (level : ℕ) → Date t level ≡ BinDateTimeToken t level
  Date_is level = refl

  -- 002: 138; 004: 139
  Comments_is : Comments ≡ NullTerminatedString note
  Comments_is = refl

  -- 002: 140; 004: 141
  PayloadLength_is : PayloadLength ≡ BinNumber
  PayloadLength_is = refl

  -- 002: 142; 004: 143
  PayloadEncoding_is : PayloadEncoding ≡ NullTerminatedString line
  PayloadEncoding_is = refl

  -- 002: -; 004: 145
  Encrypted_is : Encrypted t ≡ StringSequence t
  Encrypted_is = refl

  -- 002: 144; 004: 147
  IntendedReceiver_is : IntendedReceiver t ≡ AgentIdentifierSequence t (agent t)
  IntendedReceiver_is = refl

  -- 002: 146; 004: 149
  TransportBehaviour_is : TransportBehaviour t ≡ Any t 0
  TransportBehaviour_is = refl

  -- 002: 148; 004: 151
  UserDefinedACLRepresentation_is : UserDefinedACLRepresentation t ≡ leaf own_representation 0 (0x00 ⊳ NullTerminatedString line)
  UserDefinedACLRepresentation_is = refl

  -- 002: 151; 004: 154, without the extras
  ReceivedObject_is : ReceivedObject t ≡ node received_by 0 (By t) (Date t 1 ⨾ optional (From t) ⨾ optional (Id t) ⨾ optional (Via t) ⨾ many (only t D (UserDefinedParameter t 1)) ⨾ EndOfCollection)
  ReceivedObject_is = refl

  -- 002: 159; 004: 161
  By_is : By t ≡ URL
  By_is = refl

  -- 002: 161; 004: 163
  From_is : From t ≡ leaf received_from 1 (0x02 ⊳ URL)
  From_is = refl

  -- 002: 163; 004: 165
  Id_is : Id t ≡ leaf received_id 1 (0x03 ⊳ NullTerminatedString line)
  Id_is = refl

  -- 002: 165; 004: 167
  Via_is : Via t ≡ leaf received_via 1 (0x04 ⊳ NullTerminatedString line)
  Via_is = refl

  -- 002: 167; 004: 169
  BinNumber_is : {n : ℕ} {digits bytes : List ℕ} → n ≤ 4294967295 → Decimal n digits → Digits digits bytes → BinNumber bytes 0 bytes
  BinNumber_is = bin_number

  -- 002: 169; 004: 171
  Digits_is : {d c : ℕ} {digits bytes : List ℕ} → Digits digits bytes → Digits (d ∷ (c ∷ digits)) (CodedNumber d c ∷ bytes)
  Digits_is = both

  -- 002: 171; 004: 173
  NullTerminatedString_is : {rule : Rule} {text : List ℕ} → String rule text → NullTerminatedString rule (text ++ (0x00 ∷ [])) 0 text
  NullTerminatedString_is = string

  -- 002: 173, UserDefinedParameter; 004: 175
  UserDefinedSlot_is : UserDefinedSlot t ≡ node own_key 0 (0x00 ⊳ KeyWord) (leaf own_value 0 (NullTerminatedString note))
  UserDefinedSlot_is = refl

  -- 002: 175; 004: 177
  KeyWord_is : KeyWord ≡ NullTerminatedString line
  KeyWord_is = refl

  -- 002: 177; 004: 179
  Any_is : (level : ℕ) → Any t level ≡ (leaf any_text level (0x14 ⊳ NullTerminatedString note) ∣ ByteLenEncoded t level)
  Any_is level = refl

  -- 002: 180; 004: 182
  ByteLenEncoded_is : (level : ℕ) → ByteLenEncoded t level ≡ (leaf any_bytes level (0x16 ⊳ ByteSequence t Len8 0) ∣ leaf any_bytes level (0x17 ⊳ ByteSequence t Len16 256) ∣ leaf any_bytes level (0x19 ⊳ ByteSequence t Len32 65536))
  ByteLenEncoded_is level = refl

  -- 002: 184; 004: 186
  ByteSequence_is : (Len : ℕ → List ℕ → Type 0) (least : ℕ) (a bytes : List ℕ) → Len (length bytes) a → (t.strictness ≡ strict → least ≤ length bytes) → ByteSequence t Len least (a ++ bytes) (length a) bytes
  ByteSequence_is = λ Len least a bytes len short. counted len short

  -- 002: 186; 004: 188
  AgentIdentifierSequence_is : (agentIdentifier : Syntax) → AgentIdentifierSequence t agentIdentifier ≡ (many agentIdentifier ⨾ EndOfCollection)
  AgentIdentifierSequence_is agentIdentifier = refl

  -- 002: 188; 004: 190
  AgentIdentifier_is : (left level : ℕ) → AgentIdentifier t (suc left) level ≡
      node agent_name level (0x02 ⊳ AgentName) (optional (Addresses t level) ⨾ optional (Resolvers t level (AgentIdentifier t left (suc level))) ⨾ many (UserDefinedParameter t level) ⨾ EndOfCollection)
  AgentIdentifier_is left level = refl

  -- 002: 194; 004: 196
  AgentName_is : AgentName ≡ NullTerminatedString line
  AgentName_is = refl

  -- 002: 196; 004: 198
  Addresses_is : (level : ℕ) → Addresses t level ≡ node addresses_open level (opens 0x02) (UrlSequence t level)
  Addresses_is level = refl

  -- 002: 198; 004: 200
  Resolvers_is : (level : ℕ) (agentIdentifier : Syntax) → Resolvers t level agentIdentifier ≡ node resolvers_open level (opens 0x03) (AgentIdentifierSequence t agentIdentifier)
  Resolvers_is level agentIdentifier = refl

  -- 002: 200; 004: 202
  UserDefinedParameter_is : (level : ℕ) → UserDefinedParameter t level ≡ (
      only t B (node extra_key level (0x04 ⊳ NullTerminatedString line) (Any t level))
      ∣ only t D (node extra_key level (0x05 ⊳ NullTerminatedString line) (Any t level))
      )
  UserDefinedParameter_is level = refl

  -- 002: 202; 004: 204
  UrlSequence_is : (level : ℕ) → UrlSequence t level ≡ (many (leaf address level URL) ⨾ EndOfCollection)
  UrlSequence_is level = refl

  -- 002: 204; 004: 206
  URL_is : URL ≡ NullTerminatedString line
  URL_is = refl

  -- 002: 206; 004: 208
  StringSequence_is : StringSequence t ≡ (many (leaf encrypted_item 0 (NullTerminatedString line)) ⨾ EndOfCollection)
  StringSequence_is = refl

  -- 002: 208; 004: 210
  BinDateTimeToken_is : (level : ℕ) → BinDateTimeToken t level ≡ (
      leaf date_absolute level (0x20 ⊳ BinDate absolute)
      ∣ only t B (leaf date_absolute level (0x21 ⊳ designated (BinDate absolute)))
      ∣ only t D (leaf date_forward level (0x21 ⊳ BinDate relative))
      ∣ only t D (leaf date_backward level (0x22 ⊳ BinDate relative))
      ∣ only t D (leaf date_absolute level (0x24 ⊳ designated (BinDate absolute)))
      ∣ only t D (leaf date_forward level (0x25 ⊳ designated (BinDate relative)))
      ∣ only t D (leaf date_backward level (0x26 ⊳ designated (BinDate relative)))
      )
  BinDateTimeToken_is level = refl

  -- 002: 215; 004: 213
  BinDate_is : (y m d h i s ms : ℕ) → date_bytes y m d h i s ms ≡ Year y ++ (Month m ++ (Day d ++ (Hour h ++ (Minute i ++ (Second s ++ Millisecond ms)))))
  BinDate_is y m d h i s ms = refl

  -- .. in time, with the days of its month, and a span of time
  BinDate_in_time : (y m d h i s ms : ℕ) → y ≤ 9999 → 1 ≤ m → m ≤ 12 → 1 ≤ d → d ≤ last_day y m → h ≤ 23 → i ≤ 59 → s ≤ 59 → ms ≤ 999 → BinDate absolute (date_bytes y m d h i s ms) 0 (date_bytes y m d h i s ms)
  BinDate_in_time = in_time

  BinDate_span : (y m d h i s ms : ℕ) → y ≤ 9999 → m ≤ 99 → d ≤ 99 → h ≤ 99 → i ≤ 99 → s ≤ 99 → ms ≤ 999 → BinDate relative (date_bytes y m d h i s ms) 0 (date_bytes y m d h i s ms)
  BinDate_span = span

  -- 002: 218; 004: 215
  EndOfCollection_is : EndOfCollection ≡ byte 0x01
  EndOfCollection_is = refl

  -- 002: 219; 004: 217
  EmptyLen16_is : EmptyLen16 ≡ (byte 0x00 ⨾ byte 0x00)
  EmptyLen16_is = refl

  -- 002: 221; 004: 219
  Len8_is : {n : ℕ} → n < 256 → Len8 n (n ∷ [])
  Len8_is = Values.Len8.one

  -- 002: 223; 004: 221
  Len16_is : {n : ℕ} → n < 65536 → Len16 n (n / 256 ∷ n % 256 ∷ [])
  Len16_is = short

  -- 002: 225; 004: 223
  Len32_is : {n : ℕ} → n < 4294967296 → Len32 n (n / 16777216 ∷ n / 65536 % 256 ∷ n / 256 % 256 ∷ n % 256 ∷ [])
  Len32_is = long

  -- 002: 227; 004: 225
  Year_is : (n : ℕ) → Year n ≡ CodedNumber (n / 100 / 10) (n / 100 % 10) ∷ CodedNumber (n % 100 / 10) (n % 100 % 10) ∷ []
  Year_is n = refl

  -- 002: 229; 004: 227
  Month_is : (n : ℕ) → Month n ≡ CodedNumber (n / 10) (n % 10) ∷ []
  Month_is n = refl

  -- 002: 231; 004: 229
  Day_is : (n : ℕ) → Day n ≡ CodedNumber (n / 10) (n % 10) ∷ []
  Day_is n = refl

  -- 002: 233; 004: 231
  Hour_is : (n : ℕ) → Hour n ≡ CodedNumber (n / 10) (n % 10) ∷ []
  Hour_is n = refl

  -- 002: 235; 004: 233
  Minute_is : (n : ℕ) → Minute n ≡ CodedNumber (n / 10) (n % 10) ∷ []
  Minute_is n = refl

  -- 002: 237; 004: 235
  Second_is : (n : ℕ) → Second n ≡ CodedNumber (n / 10) (n % 10) ∷ []
  Second_is n = refl

  -- 002: 239; 004: 237
  Millisecond_is : (n : ℕ) → Millisecond n ≡ CodedNumber (n / 10 / 10) (n / 10 % 10) ∷ padded (n % 10) ∷ []
  Millisecond_is n = refl

  -- 002: 241; 004: 239
  String_is : {rule : Rule} {b : ℕ} {text : List ℕ} → TextByte rule b → String rule text → String rule (b ∷ text)
  String_is = character

  -- 002: 243; 004: 241
  CodedNumber_is : (high low : ℕ) → CodedNumber high low ≡ 16 * (high + 1) + (low + 1)
  CodedNumber_is high low = refl

  -- 002: 245; 004: 243
  TypeDesignator_is : (c : ℕ) → ((0x41 ≤ c → c ≤ 0x5a → TypeDesignator c) × (0x61 ≤ c → c ≤ 0x7a → TypeDesignator c))
  TypeDesignator_is = λ c. (capital, small)
