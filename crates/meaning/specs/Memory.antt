-- Document 01, "Rows lent" and "Answers by number": what a call answers, and what the lent memory holds after it.
-- "A refused call changes nothing lent; an accepted one changes only its rows or bytes."
use Rattle.std.specs.Prelude.{ℕ, suc, ◌+◌, ◌/◌, List, [], ◌∷◌, ◌++◌, map, leb, length, take, drop}
use Rattle.meaning.specs.Basics.{pick}
use Rattle.meaning.specs.Told.{Strictness, strict, label_of}
use Rattle.meaning.specs.Skips.{Rank, rank, skip_of, skips_from, Skips, held_against}
use Rattle.meaning.specs.Words.{words_of}
use Rattle.meaning.specs.Headers.{Placed, Answer, refused, accepted, read_by}
use Rattle.meaning.specs.Writing.{Cell, cell, broken, Written, written, unwritten, written_under}

-- order 7: "A row is five u32 numbers: kind, level, start, length", skip: how many they are is said here, and where memory is taken by rows below
abbrev pub row_width : ℕ
row_width = 5

-- a row's numbers but the skip number, which the rows behind it decide
pub record Numbers : Type 0 where
  pub kind : ℕ
  pub level : ℕ
  pub start : ℕ
  pub length : ℕ

abbrev pub row : ℕ → ℕ → ℕ → ℕ → Numbers
row k n s l = record { kind = k; level = n; start = s; length = l }

abbrev pub rank_of : Numbers → Rank
rank_of r = rank r.kind r.level

abbrev pub numbers_in : Numbers → ℕ → List ℕ
numbers_in r skip = r.kind ∷ r.level ∷ r.start ∷ r.length ∷ skip ∷ []

-- the rows from row i on, as they stand in memory
abbrev pub rows_from : ℕ → List Numbers → List ℕ
rows_from i [] = []
rows_from i (r ∷ rs) = numbers_in r (skip_of i (rank_of r) (map rank_of rs)) ++ rows_from (suc i) rs

-- the numbers of a row that was read
abbrev pub numbers_of : Placed → Numbers
numbers_of r = row r.kind r.level r.start (length r.view)

abbrev pub table_of : List Placed → List ℕ
table_of rs = rows_from 0 (map numbers_of rs)

-- "start plus length passes the pool": for every row, an opening one too
abbrev pub cell_of : List ℕ → ℕ → ℕ → ℕ → ℕ → Cell
cell_of pool kind level start len =
    pick (leb (start + len) (length pool)) (cell (record { kind = kind; level = level; view = take len (drop start pool) })) broken

-- "A slice that isn't whole rows is 15 at the count of whole ones"
unfoldable pub cells_of : List ℕ → List ℕ → List Cell
cells_of pool [] = []
cells_of pool (kind ∷ []) = broken ∷ []
cells_of pool (kind ∷ (level ∷ [])) = broken ∷ []
cells_of pool (kind ∷ (level ∷ (start ∷ []))) = broken ∷ []
cells_of pool (kind ∷ (level ∷ (start ∷ (len ∷ [])))) = broken ∷ []
cells_of pool (kind ∷ (level ∷ (start ∷ (len ∷ (skip ∷ rows))))) = cell_of pool kind level start len ∷ cells_of pool rows

-- where the whole rows stand, and their skip numbers
unfoldable pub ranks_of : List ℕ → List Rank
ranks_of [] = []
ranks_of (kind ∷ []) = []
ranks_of (kind ∷ (level ∷ [])) = []
ranks_of (kind ∷ (level ∷ (start ∷ []))) = []
ranks_of (kind ∷ (level ∷ (start ∷ (len ∷ [])))) = []
ranks_of (kind ∷ (level ∷ (start ∷ (len ∷ (skip ∷ rows))))) = rank kind level ∷ ranks_of rows

unfoldable pub skips_of : List ℕ → List ℕ
skips_of [] = []
skips_of (kind ∷ []) = []
skips_of (kind ∷ (level ∷ [])) = []
skips_of (kind ∷ (level ∷ (start ∷ []))) = []
skips_of (kind ∷ (level ∷ (start ∷ (len ∷ [])))) = []
skips_of (kind ∷ (level ∷ (start ∷ (len ∷ (skip ∷ rows))))) = skip ∷ skips_of rows

unfoldable pub skips_held : List ℕ → Skips
skips_held rows = held_against 0 (skips_of rows) (skips_from 0 (ranks_of rows))

-- order 7: "Room is a fifth of the lent length"
abbrev pub room_of : List ℕ → ℕ
room_of lent = length lent / row_width

-- lent memory with these numbers at its front, and nothing changed behind them
unfoldable pub laid_over : List ℕ → List ℕ → List ℕ
laid_over lent front = front ++ drop (length front) lent

-- "The reader gives answer, place, row count"; the writer too
pub record Reply : Type 0 where
  pub answer : ℕ
  pub place : ℕ
  pub rows : ℕ

abbrev pub reply : ℕ → ℕ → ℕ → Reply
reply a p n = record { answer = a; place = p; rows = n }

-- "Accepted: 0, payload's first byte, rows"; "14: all well, but rows exceed the room"; "Refusals report 0 rows, except 14, which reports the rows needed"
abbrev pub read_reply : ℕ → Answer → Reply
read_reply room (refused refusal place) = reply refusal place 0
read_reply room (accepted place rs) = reply (pick (leb (length rs) room) 0 14) place (length rs)

-- lent rows or words after the call: where a header is accepted and has room, what is made of its rows stands at their front
abbrev pub read_memory : ℕ → (List Placed → List ℕ) → List ℕ → Answer → List ℕ
read_memory room front lent (refused refusal place) = lent
read_memory room front lent (accepted place rs) = pick (leb (length rs) room) (laid_over lent (front rs)) lent

-- order 6: "Beside the table we want a word for each envelope"
abbrev pub words_read : List Placed → List ℕ
words_read rs = words_of (map rank_of (map numbers_of rs))

-- "The reader then borrows sixteen words more"
abbrev pub words_borrowed : ℕ
words_borrowed = 16

-- "14 also when reader .. is lent fewer than sixteen, which count as room": lent fewer, there is room for no row, and every header has one
abbrev pub room_with : List ℕ → List ℕ → ℕ
room_with rows words = pick (leb words_borrowed (length words)) (room_of rows) 0

-- the reader, strict or tolerant: edition, input, lent rows and lent words to its answer, and to the rows and the words after the call
unfoldable pub answer_by : Strictness → ℕ → List ℕ → List ℕ → List ℕ → Reply
answer_by strictness edition input rows words = read_reply (room_with rows words) (read_by strictness edition input)

unfoldable pub rows_by : Strictness → ℕ → List ℕ → List ℕ → List ℕ → List ℕ
rows_by strictness edition input rows words = read_memory (room_with rows words) table_of rows (read_by strictness edition input)

-- "and leaves unused ones unchanged"
unfoldable pub words_by : Strictness → ℕ → List ℕ → List ℕ → List ℕ → List ℕ
words_by strictness edition input rows words = read_memory (room_with rows words) words_read words (read_by strictness edition input)

abbrev pub read_answer : ℕ → List ℕ → List ℕ → List ℕ → Reply
read_answer edition input rows words = answer_by strict edition input rows words

abbrev pub read_rows : ℕ → List ℕ → List ℕ → List ℕ → List ℕ
read_rows edition input rows words = rows_by strict edition input rows words

abbrev pub read_words : ℕ → List ℕ → List ℕ → List ℕ → List ℕ
read_words edition input rows words = words_by strict edition input rows words

-- "Accepted gives 0, bytes written, rows"
abbrev pub write_reply : ℕ → Written → Reply
write_reply rows (unwritten refusal place) = reply refusal place 0
write_reply rows (written bytes) = reply 0 (length bytes) rows

abbrev pub write_memory : List ℕ → Written → List ℕ
write_memory lent (unwritten refusal place) = lent
write_memory lent (written bytes) = laid_over lent bytes

-- the writer: edition, rows, the pool that they view and the output's room
unfoldable pub write : ℕ → List ℕ → List ℕ → ℕ → Written
write edition rows pool room = written_under room (cells_of pool rows) (skips_held rows) (label_of edition)

unfoldable pub write_answer : ℕ → List ℕ → List ℕ → List ℕ → Reply
write_answer edition rows pool output = write_reply (room_of rows) (write edition rows pool (length output))

unfoldable pub write_output : ℕ → List ℕ → List ℕ → List ℕ → List ℕ
write_output edition rows pool output = write_memory output (write edition rows pool (length output))
