-- What each refusal of the reader says, in document 01's words ("Answers by number"): the bytes before the fault are in order, and what is wrong at its place.
-- No clause looks behind what it names, so the first fault decides.
use Rattle.std.specs.Prelude.{ℕ, suc, ◌+◌, ◌≤◌, ◌<◌, List, [], ◌∷◌, ◌++◌, Bool, true, false, ◌≡◌, T, length}
use Rattle.meaning.specs.Basics.{pick}
use Rattle.meaning.specs.Bytes.{Rule, text_byte, text_ok, Reach, date_checks, Check, passes, date_ok, more, wrong, turn, counted, high_first, Width, bytes_of, fewest}
use Rattle.meaning.specs.Kinds.{agent_name}
use Rattle.meaning.specs.Told.{Edition, known, unknown, label_of}
use Rattle.meaning.specs.Editions.{State, Form, text, date, number, block, Move, moves}
use Rattle.meaning.specs.Reading.{none, hit, look, is_closed, strange, level_most, value_from}
use Rattle.meaning.specs.Headers.{Placed, envelope_most, envelopes_most, start, short_least, long_least}
use Rattle.meaning.specs.Grammar.{Steps, Inside, HeaderOf}

-- Faults inside a value. Its bytes, up to the declared end; the refusal; and how many of them are left at the fault

-- these bytes, so many of them, are the number n, high first
pub record Worth (w : ℕ) (bytes : List ℕ) (n : ℕ) : Type 0 where
  pub is : high_first w 0 bytes ≡ counted n []

-- a date's bytes before the one that is tested, the last one first
abbrev pub backwards : List ℕ → List ℕ → List ℕ
backwards [] earlier = earlier
backwards (b ∷ v) earlier = backwards v (b ∷ earlier)

-- digits of a payload length that lead on: the number so far, and whether none stands before
pub data Digits : ℕ → Bool → List ℕ → ℕ → Bool → Type 0 where
  none_more : {n : ℕ} {first : Bool} → Digits n first [] n first
  and_more : {n k m b : ℕ} {first last : Bool} {v : List ℕ} → turn n first b ≡ more k → Digits k false v m last → Digits n first (b ∷ v) m last

-- code: the bytes left at the value's code
pub data BadValue (code : ℕ) : Form → List ℕ → ℕ → ℕ → Type 0 where
  -- "6: a byte is needed at the declared end": of a text, a date, a payload length, a block's length, a block
  text_ends : {rule : Rule} (v : List ℕ) → T (text_ok rule v) → BadValue code (text rule) v 6 0
  date_ends : {reach : Reach} {designated : Bool} (cs ds : List Check) (c : Check) (v : List ℕ) → date_checks reach designated ≡ cs ++ (c ∷ ds) → T (date_ok cs [] v) → BadValue code (date reach designated) v 6 0
  number_ends : {v : List ℕ} {n : ℕ} {first : Bool} → Digits 0 true v n first → BadValue code number v 6 0
  length_ends : {w : Width} (v : List ℕ) → length v < bytes_of w → BadValue code (block w) v 6 0
  block_ends : {w : Width} {ls : List ℕ} {n : ℕ} (v : List ℕ) → Worth (bytes_of w) ls n → fewest w ≤ n → length v < n → BadValue code (block w) (ls ++ v) 6 0
  -- "8: text byte 01 to 1F, that byte"
  text_byte_lem : {rule : Rule} (v rest : List ℕ) (b : ℕ) → T (text_ok rule v) → (b ≡ 0 → ⊥) → text_byte rule b ≡ false → BadValue code (text rule) (v ++ (b ∷ rest)) 8 (length (b ∷ rest))
  -- "9: date .. digit, range, padding or designator wrong, that byte"
  date_byte : {reach : Reach} {designated : Bool} (cs ds : List Check) (c : Check) (v rest : List ℕ) (b : ℕ) → date_checks reach designated ≡ cs ++ (c ∷ ds) → T (date_ok cs [] v) → passes c (backwards v []) b ≡ false
      → BadValue code (date reach designated) (v ++ (b ∷ rest)) 9 (length (b ∷ rest))
  -- "10: payload length wrong, or its value now too large, that byte"
  number_byte : {v : List ℕ} {n : ℕ} {first : Bool} (rest : List ℕ) (b : ℕ) → Digits 0 true v n first → turn n first b ≡ wrong → BadValue code number (v ++ (b ∷ rest)) 10 (length (b ∷ rest))
  -- "11: length form too wide, code"; ".. after the length bytes, before the block"
  length_wide : {w : Width} {ls : List ℕ} {n : ℕ} (rest : List ℕ) → Worth (bytes_of w) ls n → n < fewest w → BadValue code (block w) (ls ++ rest) 11 code

-- Faults where a code stands, or should. The bytes from there up to the declared end, the refusal, and how many are left at the fault
pub data BadStep (e : Edition) (st : State) : List ℕ → ℕ → ℕ → Type 0 where
  -- "6: a byte is needed at the declared end"
  code_needed : is_closed st.room ≡ false → BadStep e st [] 6 0
  -- "7: code not allowed here"; "9: date code .. wrong"
  strange_code : {b : ℕ} {s : List ℕ} → is_closed st.room ≡ false → look b (moves e st.room) ≡ none → BadStep e st (b ∷ s) (strange st.room) (length (b ∷ s))
  -- "12: agent of level 9, its 02"
  agent_deep : {b : ℕ} {s : List ℕ} {m : Move} → look b (moves e st.room) ≡ hit m → m.kind ≡ agent_name → level_most < st.level → BadStep e st (b ∷ s) 12 (length (b ∷ s))
  -- a value that is wrong, behind its code
  bad_value : {b : ℕ} {s : List ℕ} {m : Move} {refusal left : ℕ} → look b (moves e st.room) ≡ hit m → (m.kind ≡ agent_name → st.level ≤ level_most) → BadValue (length (b ∷ s)) m.form (value_from m b s) refusal left
      → BadStep e st (b ∷ s) refusal left
  -- "13: closing 01 before the declared end, byte after it"
  closed_early : {b : ℕ} {s : List ℕ} → is_closed st.room ≡ true → BadStep e st (b ∷ s) 13 (length (b ∷ s))

-- the inside of an envelope: moves as the grammar has them, then a fault
pub record BadInside (e : Edition) (st : State) (at : ℕ) (bytes : List ℕ) (refusal left : ℕ) : Type 0 where
  pub front : List ℕ
  pub rest : List ℕ
  pub rows : List Placed
  pub reached : State
  pub parts : bytes ≡ front ++ rest
  pub steps : Steps e st at front rows reached
  pub fault : BadStep e reached rest refusal left

-- Faults of an envelope's head. "Extension: FD, length, .. Base: FE, length, .."
abbrev pub identifier : Bool → ℕ
identifier base = pick base 0xfe 0xfd

-- "two bytes, high first .. If they are zero, four more bytes, high first, hold it": a length n, with the bytes of identifier and length, and the least that the form allows
pub data Declares : List ℕ → ℕ → ℕ → ℕ → Type 0 where
  in_short : {ls : List ℕ} {n : ℕ} → Worth 2 ls n → (n ≡ 0 → ⊥) → Declares ls 3 short_least n
  in_long : {zeros ls : List ℕ} {n : ℕ} → Worth 2 zeros 0 → Worth 4 ls n → Declares (zeros ++ ls) 7 long_least n

-- the input ends inside the length
pub data CutLength : List ℕ → Type 0 where
  in_two : {s : List ℕ} → length s < 2 → CutLength s
  in_four : {zeros : List ℕ} (s : List ℕ) → Worth 2 zeros 0 → length s < 4 → CutLength (zeros ++ s)

-- a length that is well: not below its form's least, and within the limit
pub record GoodLength (ls : List ℕ) (head n : ℕ) : Type 0 where
  pub least : ℕ
  pub declares : Declares ls head least n
  pub enough : least ≤ n
  pub within : n ≤ envelope_most

-- the envelopes from the place `at` on, of which k may still come: bytes up to the input's end, the refusal and its place
pub data BadHeader (e : Edition) : ℕ → ℕ → List ℕ → ℕ → ℕ → Type 0 where
  -- "2: input ends inside identifier or length, or before the declared end, input length"
  no_identifier : {k at : ℕ} → BadHeader e k at [] 2 at
  length_cut : {k at : ℕ} (base : Bool) {s : List ℕ} → CutLength s → BadHeader e (suc k) at (identifier base ∷ s) 2 (at + length (identifier base ∷ s))
  input_cut : {k at head n : ℕ} {ls : List ℕ} (base : Bool) (s : List ℕ) → GoodLength ls head n → head + length s < n → BadHeader e (suc k) at (identifier base ∷ (ls ++ s)) 2 (at + length (identifier base ∷ (ls ++ s)))
  -- "3: identifier not FD or FE, that byte"
  not_identifier : {k at b : ℕ} {s : List ℕ} → (b ≡ identifier true → ⊥) → (b ≡ identifier false → ⊥) → BadHeader e k at (b ∷ s) 3 at
  -- "5: 17th envelope, identifier"
  one_too_many : {at : ℕ} {s : List ℕ} (base : Bool) → BadHeader e 0 at (identifier base ∷ s) 5 at
  -- "4: short length 1 or 2, or long length below 65,540, length's first byte"
  length_low : {k at head least n : ℕ} {ls : List ℕ} (base : Bool) (s : List ℕ) → Declares ls head least n → n < least → BadHeader e (suc k) at (identifier base ∷ (ls ++ s)) 4 (at + 1)
  -- "5: declared length over the limit, length's first byte"
  length_high : {k at head least n : ℕ} {ls : List ℕ} (base : Bool) (s : List ℕ) → Declares ls head least n → least ≤ n → envelope_most < n → BadHeader e (suc k) at (identifier base ∷ (ls ++ s)) 5 (at + 1)
  -- a fault before the declared end
  bad_inside : {k at head n refusal left place : ℕ} {ls bytes : List ℕ} (base : Bool) (rest : List ℕ) → GoodLength ls head n → head + length bytes ≡ n → BadInside e (start base) (at + head) bytes refusal left → place + left ≡ at + n
      → BadHeader e (suc k) at (identifier base ∷ (ls ++ (bytes ++ rest))) refusal place
  -- a fault behind an extension envelope that is well
  bad_behind : {k at head n refusal place : ℕ} {ls bytes rest : List ℕ} {rows : List Placed} → GoodLength ls head n → head + length bytes ≡ n → Inside e false (at + head) bytes rows → BadHeader e k (at + n) rest refusal place
      → BadHeader e (suc k) at (identifier false ∷ (ls ++ (bytes ++ rest))) refusal place

-- a reading's refusal: its number, its place and the rows it reports; room: for so many rows
pub data ReaderRefusal (edition : ℕ) (input : List ℕ) (room : ℕ) : ℕ → ℕ → ℕ → Type 0 where
  -- "1: edition not 1 or 2; before all else, 0"
  no_edition : label_of edition ≡ unknown → ReaderRefusal edition input room 1 0 0
  -- 2 to 13; "Refusals report 0 rows"
  faulty : {e : Edition} {refusal place : ℕ} → label_of edition ≡ known e → BadHeader e envelopes_most 0 input refusal place → ReaderRefusal edition input room refusal place 0
  -- "14: all well, but rows exceed the room, payload's first byte"; ".. reports the rows needed"
  no_room : {place : ℕ} {rows : List Placed} → HeaderOf edition input place rows → room < length rows → ReaderRefusal edition input room 14 place (length rows)
