-- Document 01, the listing program: "prints answer, place, rows; then, if accepted, per row kind, level, start, length, viewed bytes
-- in lower-case hex, or `-` if none. Numbers are decimal, fields are parted by tabs, each line ends with byte 0A."
-- Order 7: "the listing prints it as a field after length": the skip number.
use Rattle.std.specs.Prelude.{ℕ, suc, ◌+◌, ◌/◌, ◌%◌, List, [], ◌∷◌, ◌++◌, map, leb, ltb, length}
use Rattle.meaning.specs.Basics.{pick}
use Rattle.meaning.specs.Headers.{Placed, Answer, refused, accepted, read}
use Rattle.meaning.specs.Skips.{skip_of}
use Rattle.meaning.specs.Memory.{rank_of, numbers_in, numbers_of, Reply, read_reply}
use Rattle.meaning.specs.Plain.{digits_of}

-- "reads at most 65,536 bytes from standard input"; order 7: "the listing program lends 3,072 rows"
abbrev pub input_most : ℕ
input_most = 65536

abbrev pub rows_lent : ℕ
rows_lent = 3072

abbrev pub digit_character : ℕ → ℕ
digit_character d = 0x30 + d

unfoldable pub decimal : ℕ → List ℕ
decimal n = map digit_character (digits_of n)

abbrev pub hex_character : ℕ → ℕ
hex_character d = pick (ltb d 10) (0x30 + d) (0x57 + d)

abbrev pub hex_of : List ℕ → List ℕ
hex_of [] = []
hex_of (b ∷ v) = hex_character (b / 16) ∷ hex_character (b % 16) ∷ hex_of v

-- "viewed bytes .., or `-` if none"
unfoldable pub viewed : List ℕ → List ℕ
viewed [] = 0x2d ∷ []
viewed (b ∷ v) = hex_of (b ∷ v)

-- a line of fields
unfoldable pub line_of : List (List ℕ) → List ℕ
line_of [] = 0x0a ∷ []
line_of (f ∷ []) = f ++ (0x0a ∷ [])
line_of (f ∷ (g ∷ fs)) = f ++ (0x09 ∷ line_of (g ∷ fs))

abbrev pub first_line : Reply → List ℕ
first_line r = line_of (decimal r.answer ∷ decimal r.place ∷ decimal r.rows ∷ [])

abbrev pub row_line : Placed → ℕ → List ℕ
row_line r skip = line_of (map decimal (numbers_in (numbers_of r) skip) ++ (viewed r.view ∷ []))

-- the lines of the rows from row i on
abbrev pub row_lines : ℕ → List Placed → List ℕ
row_lines i [] = []
row_lines i (r ∷ rs) = row_line r (skip_of i (rank_of (numbers_of r)) (map rank_of (map numbers_of rs))) ++ row_lines (suc i) rs

abbrev pub lines_behind : ℕ → Answer → List ℕ
lines_behind room (refused refusal place) = []
lines_behind room (accepted place rs) = pick (leb (length rs) room) (row_lines 0 rs) []

-- the text of any table, with room for so many rows
unfoldable pub listing_of : ℕ → Answer → List ℕ
listing_of room a = first_line (read_reply room a) ++ lines_behind room a

-- "(longer: the one line `too long`)"
abbrev pub too_long : List ℕ
too_long = 0x74 ∷ 0x6f ∷ 0x6f ∷ 0x20 ∷ 0x6c ∷ 0x6f ∷ 0x6e ∷ 0x67 ∷ 0x0a ∷ []

unfoldable pub listing : ℕ → List ℕ → List ℕ
listing edition input =
    let lines : List ℕ = listing_of rows_lent (read edition input) in
    pick (ltb input_most (length input)) too_long lines
