-- What a header of an edition is, said by document 01's grammar: bytes and their rows, with neither the reading machine nor the writer's plan. The demands are stated over it.
-- What the editions allow stands in their tables (`Editions`); which values are valid, and how a value and an envelope's head stand as bytes, in `Writing`.
use Rattle.std.specs.Prelude.{ℕ, suc, ◌+◌, ◌≤◌, ◌<◌, List, [], ◌∷◌, ◌++◌, Bool, true, false, ◌≡◌, T, length}
use Rattle.meaning.specs.Basics.{pick, In}
use Rattle.meaning.specs.Bytes.{bytes_of}
use Rattle.meaning.specs.Kinds.{agent_name}
use Rattle.meaning.specs.Told.{Edition, known, label_of}
use Rattle.meaning.specs.Editions.{State, go, Form, text, date, number, block, itself, opens, quiet, is_quiet, Move, moves}
use Rattle.meaning.specs.Reading.{is_closed, level_most}
use Rattle.meaning.specs.Headers.{Placed, placed_row, envelope_most, envelopes_most, opening, start}
use Rattle.meaning.specs.Writing.{valid, write_value, lead, is_short, envelope_size, wrap}

-- a move's bytes, with the value v: its code, if it has one, then the value in its form
abbrev pub standing : Move → List ℕ → List ℕ
standing m v = lead m ++ write_value m.form v

-- "Opening rows .. start at their identifier or code byte; others show the value without code, length or a text's closing 00":
-- how many of a move's bytes stand before its row's start, of which `codes` are its code
abbrev pub before_view : ℕ → Form → ℕ
before_view codes (text rule) = codes
before_view codes (date reach designated) = codes
before_view codes number = codes
before_view codes (block w) = codes + bytes_of w
before_view codes itself = 0
before_view codes opens = 0
before_view codes quiet = 0

abbrev pub start_in : Move → ℕ
start_in m = before_view (length (lead m)) m.form

-- the moves from one state to another, over the bytes from the place `at` on, and their rows
pub data Steps (e : Edition) : State → ℕ → List ℕ → List Placed → State → Type 0 where
  none : {st : State} {at : ℕ} → Steps e st at [] [] st
  -- a move of the room with a value that its form allows has a row; "agent level 8"
  row : {st st' : State} {at : ℕ} {bytes : List ℕ} {rows : List Placed} (m : Move) (v : List ℕ)
      → In m (moves e st.room) → is_quiet m.form ≡ false → T (valid m.form m.code v) → (m.kind ≡ agent_name → st.level ≤ level_most)
      → Steps e (go m.next st) (at + length (standing m v)) bytes rows st' → Steps e st at (standing m v ++ bytes) (placed_row m.kind st.level (at + start_in m) v ∷ rows) st'
  -- a parameter's code before a value that has its own rows, or a closing 01, has none
  pass : {st st' : State} {at : ℕ} {bytes : List ℕ} {rows : List Placed} (m : Move)
      → In m (moves e st.room) → is_quiet m.form ≡ true → Steps e (go m.next st) (at + 1) bytes rows st' → Steps e st at (m.code ∷ bytes) rows st'

-- the inside of an envelope: what stands behind identifier and length, to its closing 01
pub record Inside (e : Edition) (base : Bool) (at : ℕ) (bytes : List ℕ) (rows : List Placed) : Type 0 where
  pub last : State
  pub steps : Steps e (start base) at bytes rows last
  pub closes : is_closed last.room ≡ true

-- "Length: two bytes .. If they are zero, four more": identifier and length take 3 bytes, or 7 in the long form
abbrev pub head_size : ℕ → ℕ
head_size n = pick (is_short n) 3 7

-- an envelope's own row: its number in the table, and the envelope's size
pub record Mark : Type 0 where
  pub row : ℕ
  pub size : ℕ

abbrev pub mark : ℕ → ℕ → Mark
mark i n = record { row = i; size = n }

-- "A header is zero or more extension envelopes, then one base envelope": its bytes and rows from the place `at` and row i on, limits aside
pub data Header (e : Edition) : ℕ → ℕ → List ℕ → List Placed → List Mark → Type 0 where
  the_base : {i at : ℕ} {bytes : List ℕ} {rows : List Placed} → Inside e true (at + head_size (length bytes)) bytes rows
      → Header e i at (wrap true bytes) (placed_row (opening true) 0 at [] ∷ rows) (mark i (envelope_size (length bytes)) ∷ [])
  extension : {i at : ℕ} {bytes more : List ℕ} {rows table : List Placed} {marks : List Mark} → Inside e false (at + head_size (length bytes)) bytes rows
      → Header e (suc i + length rows) (at + envelope_size (length bytes)) more table marks
      → Header e i at (wrap false bytes ++ more) (placed_row (opening false) 0 at [] ∷ (rows ++ table)) (mark i (envelope_size (length bytes)) ∷ marks)

-- "Envelope at most 1,048,576 bytes"
abbrev pub Small : List Mark → Type 0
Small [] = Unit {0}
Small (m ∷ marks) = (m.size ≤ envelope_most) × Small marks

-- a table of the edition: its bytes and its rows, starts included
pub record TableOf (e : Edition) (bytes : List ℕ) (rows : List Placed) : Type 0 where
  pub marks : List Mark
  pub header : Header e 0 0 bytes rows marks
  pub small : Small marks
  -- "16 envelopes, the base counted"
  pub few : length marks ≤ envelopes_most

-- an input under an edition's number: a table of that edition, and any payload behind it
pub record HeaderOf (edition : ℕ) (input : List ℕ) (place : ℕ) (rows : List Placed) : Type 0 where
  pub e : Edition
  pub label : label_of edition ≡ known e
  pub bytes : List ℕ
  pub payload : List ℕ
  pub parts : input ≡ bytes ++ payload
  pub ends : place ≡ length bytes
  pub table : TableOf e bytes rows

-- "5 (place: the envelope's row)": the lowest envelope that is past a limit, where n may still come
pub data PastLimit : ℕ → List Mark → ℕ → Type 0 where
  one_too_many : {m : Mark} {marks : List Mark} → PastLimit 0 (m ∷ marks) m.row
  too_large : {n : ℕ} {m : Mark} {marks : List Mark} → envelope_most < m.size → PastLimit (suc n) (m ∷ marks) m.row
  later : {n i : ℕ} {m : Mark} {marks : List Mark} → m.size ≤ envelope_most → PastLimit n marks i → PastLimit (suc n) (m ∷ marks) i
