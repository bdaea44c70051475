-- Order 5: line breaks in notes, and nowhere else; for each kind of text, read and written, in both editions where both have it.
use Rattle.std.specs.Prelude.{ℕ, ◌+◌, List, [], ◌∷◌, ◌++◌, Bool, true, false, ◌&&◌, eqb, length, take}
use Rattle.meaning.specs.Basics.{pick, every}
use Rattle.meaning.specs.Headers.{read}
use Rattle.meaning.specs.Memory.{table_of, read_reply, write}
use Rattle.meaning.specs.Writing.{Written, written, unwritten}
use Rattle.meaning.specs.Cases.{hex, a_date, reply_is, rows_in, bytes_are, refuses, reads}
use Rattle.meaning.specs.AcceptedCases.{with_parameters}

-- where a text of a kind stands: the edition, what is before it and behind its 00 among the parameters, its row, and whether it is a note
pub record Place : Type 0 where
  pub edition : ℕ
  pub before : List ℕ
  pub behind : List ℕ
  pub row : ℕ
  pub is_note : Bool

abbrev at : ℕ → List ℕ → List ℕ → ℕ → Bool → Place
at e before behind row is_note = record { edition = e; before = before; behind = behind; row = row; is_note = is_note }

abbrev in_both : List ℕ → List ℕ → ℕ → Bool → List Place
in_both before behind row is_note = at 1 before behind row is_note ∷ at 2 before behind row is_note ∷ []

-- a received object of `b`, with this behind its date
abbrev received : List ℕ → List ℕ
received s = hex 0x1_0a_62_00_20 ++ (a_date ++ s)

abbrev line : Bool
line = false

abbrev note : Bool
note = true

abbrev places : List (List Place)
places =
    in_both (hex 0x1_04_00) [] 3 line ∷
    in_both (hex 0x1_0a) (0x20 ∷ (a_date ++ hex 0x1_01)) 3 line ∷
    in_both (received (hex 0x1_02)) (hex 0x1_01) 5 line ∷
    in_both (received (hex 0x1_03)) (hex 0x1_01) 5 line ∷
    in_both (received (hex 0x1_04)) (hex 0x1_01) 5 line ∷
    in_both (hex 0x1_02_02) (hex 0x1_01_01) 4 line ∷
    in_both (hex 0x1_02_02_61_00_02) (hex 0x1_01_01_01) 6 line ∷
    in_both (hex 0x1_07) [] 3 line ∷
    in_both (hex 0x1_00) (hex 0x1_00) 3 line ∷
    (at 1 (hex 0x1_08) (hex 0x1_01) 4 line ∷
    at 1 (hex 0x1_03_02_61_00_04) (hex 0x1_14_00_01) 5 line ∷
    at 2 (hex 0x1_03_02_61_00_05) (hex 0x1_14_00_01) 5 line ∷
    at 2 (received (hex 0x1_05)) (hex 0x1_14_00_01) 5 line ∷
    at 1 (hex 0x1_03_02_61_00_04_6b_00_14) (hex 0x1_01) 6 note ∷
    at 2 (hex 0x1_03_02_61_00_05_6b_00_14) (hex 0x1_01) 6 note ∷
    at 2 (received (hex 0x1_05_6b_00_14)) (hex 0x1_01) 6 note ∷ []) ∷
    in_both (hex 0x1_0b_14) [] 4 note ∷
    in_both (hex 0x1_05) [] 3 note ∷
    in_both (hex 0x1_00_6b_00) [] 4 note ∷ []

-- the text `a`, this byte
abbrev input_with : Place → ℕ → List ℕ
input_with p b = with_parameters (p.before ++ (0x61 ∷ b ∷ 0x00 ∷ p.behind))

abbrev unwritten_at : ℕ → Written → Bool
unwritten_at row (written bytes) = false
unwritten_at row (unwritten refusal place) = eqb refusal 15 && eqb place row

-- by the rows of the text `ab`. Allowed: the same rows are read, and written over this text; else 8 at the byte, and 15 at the text's row
abbrev byte_is : Place → ℕ → Bool → Bool
byte_is p b allowed =
    let s = input_with p b in
    let n = 18 + length p.before + length p.behind in
    let rows = rows_in (read p.edition (input_with p 0x62)) in
    let got = read_reply 64 (read p.edition s) in
    let w = write p.edition (table_of rows) s n in
    pick allowed (reply_is 0 n (length rows) got && bytes_are (take n s) w) (reply_is 8 (15 + length p.before) 0 got && unwritten_at p.row w)

-- 08, 09, 0A, 0B, 0C, 0D, 0E, 1F, 20, FF
abbrev text_is : Place → Bool
text_is p =
    byte_is p 0x08 false && byte_is p 0x09 p.is_note && byte_is p 0x0a p.is_note && byte_is p 0x0b false && byte_is p 0x0c false && byte_is p 0x0d p.is_note && byte_is p 0x0e false &&
    byte_is p 0x01 false && byte_is p 0x1f false && byte_is p 0x20 true && byte_is p 0x7f true && byte_is p 0xff true

-- "in a list of texts 09 where an item would begin is 8"
abbrev items_begin : Bool
items_begin =
    reads (refuses 1 (with_parameters (hex 0x1_08_09_00_01)) 8 15) && reads (refuses 1 (with_parameters (hex 0x1_02_02_61_00_02_09_00_01_01_01)) 8 19) &&
    reads (refuses 2 (with_parameters (hex 0x1_02_02_61_00_02_0a_00_01_01_01)) 8 19)

abbrev pub breaks : Bool
breaks = every (every text_is) places && items_begin
