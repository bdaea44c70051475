-- Order 2: relays, given as bytes, rows and words and not by the definition: each refusal in its order, each bound at it and one over, chains of relays.
use Rattle.std.specs.Prelude.{ℕ, zero, suc, ◌+◌, List, [], ◌∷◌, ◌++◌, map, Bool, ◌&&◌, length, replicate}
use Rattle.meaning.specs.Basics.{every}
use Rattle.meaning.specs.Memory.{Numbers, row, table_of}
use Rattle.meaning.specs.Relay.{Relayed, relayed, unrelayed, relay, moved, bytes_of, relay_answer, relay_rows, relay_words, relay_output}
use Rattle.meaning.specs.Cases.{same, hex, a_date, base_with, in_memory, reply_is}
use Rattle.meaning.specs.AcceptedCases.{base_rows_at}

-- M, and X: an extension, received by `a`
abbrev a_base : List ℕ
a_base = base_with 0x0f 0x20 (hex 0x1_01)

abbrev a_new : List ℕ
a_new = hex 0x1_fd_00_11_61_00_20 ++ (a_date ++ hex 0x1_01_01)

abbrev new_rows_at : ℕ → List Numbers
new_rows_at at = row 1 0 at 0 ∷ row 8 0 (at + 3) 1 ∷ row 5 1 (at + 6) 9 ∷ []

abbrev table : List ℕ
table = in_memory (new_rows_at 0)

-- so much lent, each 99
abbrev lent : ℕ → List ℕ
lent n = replicate n 99

-- edition, old input, new table; rows, words and output lent; answer, place, rows; and what the lent memory holds after the call
pub record Case : Type 0 where
  pub edition : ℕ
  pub input : List ℕ
  pub table : List ℕ
  pub rows : ℕ
  pub words : ℕ
  pub output : ℕ
  pub answer : ℕ
  pub place : ℕ
  pub count : ℕ
  pub rows_after : List ℕ
  pub words_after : List ℕ
  pub output_after : List ℕ

-- every table of these has X as its pool
abbrev relays : Case → Bool
relays c =
    let rows = lent c.rows in
    let words = lent c.words in
    let output = lent c.output in
    reply_is c.answer c.place c.count (relay_answer c.edition c.input c.table a_new rows words output) &&
    same (relay_rows c.edition c.input c.table a_new rows words output) c.rows_after && same (relay_words c.edition c.input c.table a_new rows words output) c.words_after &&
    same (relay_output c.edition c.input c.table a_new rows words output) c.output_after

-- nothing lent changes
abbrev refusing : ℕ → List ℕ → List ℕ → ℕ → ℕ → ℕ → ℕ → ℕ → ℕ → Case
refusing e input table rows words output answer place count =
    record { edition = e; input = input; table = table; rows = rows; words = words; output = output; answer = answer; place = place; count = count; rows_after = lent rows; words_after = lent words; output_after = lent output }

-- X in front of M, with the payload 50 41 59 behind M
abbrev joined_rows : List ℕ
joined_rows =
    1 ∷ 0 ∷ 0 ∷ 0 ∷ 3 ∷ 8 ∷ 0 ∷ 3 ∷ 1 ∷ 3 ∷ 5 ∷ 1 ∷ 6 ∷ 9 ∷ 3 ∷
    2 ∷ 0 ∷ 17 ∷ 0 ∷ 6 ∷ 3 ∷ 0 ∷ 20 ∷ 1 ∷ 5 ∷ 5 ∷ 0 ∷ 22 ∷ 9 ∷ 6 ∷ []

-- lent so many numbers, words and bytes more than are needed
abbrev joining : ℕ → ℕ → ℕ → ℕ → Case
joining e r w o =
    record { edition = e; input = a_base ++ hex 0x1_50_41_59; table = table; rows = 30 + r; words = 16 + w; output = 32 + o; answer = 0; place = 32; count = 6; rows_after = joined_rows ++ lent r; words_after = 1024 ∷ 16 ∷ lent (14 + w); output_after = a_new ++ (a_base ++ lent o) }

-- a new envelope with a comment, whose bytes are X's `a`, in front of a base with one: starts move by 20, skip numbers by 4. The new rows' own starts are
-- those of the joined header, wherever in the pool their bytes are
abbrev commenting : ℕ → Case
commenting e =
    record { edition = e; input = base_with 0x12 0x20 (hex 0x1_05_63_00_01); table = in_memory (row 1 0 17 0 ∷ row 8 0 3 1 ∷ row 5 1 6 9 ∷ row 22 0 3 1 ∷ []); rows = 41; words = 16; output = 39; answer = 0; place = 38; count = 8; rows_after = 1 ∷ 0 ∷ 0 ∷ 0 ∷ 4 ∷ 8 ∷ 0 ∷ 3 ∷ 1 ∷ 3 ∷ 5 ∷ 1 ∷ 6 ∷ 9 ∷ 3 ∷ 22 ∷ 0 ∷ 17 ∷ 1 ∷ 4 ∷ 2 ∷ 0 ∷ 20 ∷ 0 ∷ 8 ∷ 3 ∷ 0 ∷ 23 ∷ 1 ∷ 6 ∷ 5 ∷ 0 ∷ 25 ∷ 9 ∷ 7 ∷ 22 ∷ 0 ∷ 35 ∷ 1 ∷ 8 ∷ 99 ∷ []; words_after = 1056 ∷ 48 ∷ lent 14; output_after = hex 0x1_fd_00_14_61_00_20 ++ (a_date ++ (hex 0x1_01_05_61_00_01 ++ (base_with 0x12 0x20 (hex 0x1_05_63_00_01) ++ lent 1))) }

-- X in front of X and M
abbrev twice : ℕ → Case
twice e =
    record { edition = e; input = a_new ++ a_base; table = table; rows = 45; words = 17; output = 49; answer = 0; place = 49; count = 9; rows_after = in_memory (new_rows_at 0 ++ (new_rows_at 17 ++ base_rows_at 34)); words_after = 1024 ∷ 1024 ∷ 16 ∷ lent 14; output_after = a_new ++ (a_new ++ a_base) }

-- what D has alone: a forward date and an extra, before a forward date; and what B has: an encrypted item, before a date with a designator
abbrev forward : Case
forward =
    record { edition = 2; input = base_with 0x0f 0x21 (hex 0x1_01); table = in_memory (row 1 0 0 0 ∷ row 8 0 3 1 ∷ row 6 1 6 9 ∷ row 19 1 3 1 ∷ row 20 1 3 1 ∷ []); rows = 40; words = 16; output = 38; answer = 0; place = 38; count = 8; rows_after = 1 ∷ 0 ∷ 0 ∷ 0 ∷ 5 ∷ 8 ∷ 0 ∷ 3 ∷ 1 ∷ 5 ∷ 6 ∷ 1 ∷ 6 ∷ 9 ∷ 3 ∷ 19 ∷ 1 ∷ 16 ∷ 1 ∷ 5 ∷ 20 ∷ 1 ∷ 19 ∷ 1 ∷ 5 ∷ 2 ∷ 0 ∷ 23 ∷ 0 ∷ 8 ∷ 3 ∷ 0 ∷ 26 ∷ 1 ∷ 7 ∷ 6 ∷ 0 ∷ 28 ∷ 9 ∷ 8 ∷ []; words_after = 1024 ∷ 16 ∷ lent 14; output_after = hex 0x1_fd_00_17_61_00_21 ++ (a_date ++ (hex 0x1_05_61_00_14_61_00_01_01 ++ base_with 0x0f 0x21 (hex 0x1_01))) }

abbrev encrypted : Case
encrypted =
    record { edition = 1; input = base_with 0x10 0x21 (hex 0x1_5a_01); table = in_memory (new_rows_at 0 ++ (row 25 0 0 0 ∷ row 26 0 3 1 ∷ [])); rows = 40; words = 16; output = 37; answer = 0; place = 37; count = 8; rows_after = 1 ∷ 0 ∷ 0 ∷ 0 ∷ 5 ∷ 8 ∷ 0 ∷ 3 ∷ 1 ∷ 3 ∷ 5 ∷ 1 ∷ 6 ∷ 9 ∷ 3 ∷ 25 ∷ 0 ∷ 16 ∷ 0 ∷ 5 ∷ 26 ∷ 0 ∷ 17 ∷ 1 ∷ 5 ∷ 2 ∷ 0 ∷ 21 ∷ 0 ∷ 8 ∷ 3 ∷ 0 ∷ 24 ∷ 1 ∷ 7 ∷ 5 ∷ 0 ∷ 26 ∷ 10 ∷ 8 ∷ []; words_after = 1280 ∷ 16 ∷ lent 14; output_after = hex 0x1_fd_00_15_61_00_20 ++ (a_date ++ (hex 0x1_01_08_61_00_01_01 ++ base_with 0x10 0x21 (hex 0x1_5a_01))) }

abbrev accepted : List Case
accepted =
    forward ∷ encrypted ∷ joining 1 0 0 0 ∷ joining 2 0 0 0 ∷ joining 1 4 1 3 ∷ joining 2 5 0 1 ∷ commenting 1 ∷ commenting 2 ∷ twice 1 ∷ twice 2 ∷ []

-- "the new ones, then the old with starts moved by the new envelope's length", as rows
abbrev rows_in : Relayed → List ℕ
rows_in (relayed j) = table_of (j.new ++ map (moved (length j.envelope)) j.old)
rows_in (unrelayed refusal place) = []

abbrev moved_rows : Bool
moved_rows = same (rows_in (relay 1 a_base table a_new)) joined_rows && same (rows_in (relay 2 a_base table a_new)) joined_rows

-- each room at its bound and one less: 14 for rows or words comes before 16
abbrev rooms : List Case
rooms =
    refusing 1 a_base table 29 16 32 14 32 6 ∷ refusing 2 a_base table 30 15 32 14 32 6 ∷ refusing 1 a_base table 30 16 31 16 32 0 ∷
    refusing 2 a_base table 29 16 0 14 32 6 ∷ refusing 1 a_base table 30 0 0 14 32 6 ∷ refusing 1 (a_base ++ hex 0x1_50_41_59) table 30 16 31 16 32 0 ∷ []

-- 15, by the row of the new table; rooms enough
abbrev wrong : ℕ → List ℕ → ℕ → Case
wrong e t at = refusing e a_base t 60 16 99 15 at 0

abbrev tables : List Case
tables =
    -- no rows, a base, a first row that is none of an envelope; an extension's row with a level or a length, or a start past the pool
    wrong 1 [] 0 ∷ wrong 2 (in_memory (base_rows_at 0)) 0 ∷ wrong 1 (8 ∷ 0 ∷ 3 ∷ 1 ∷ 2 ∷ 5 ∷ 1 ∷ 6 ∷ 9 ∷ 2 ∷ []) 0 ∷
    wrong 2 (1 ∷ 1 ∷ 0 ∷ 0 ∷ 3 ∷ 8 ∷ 0 ∷ 3 ∷ 1 ∷ 3 ∷ 5 ∷ 1 ∷ 6 ∷ 9 ∷ 3 ∷ []) 0 ∷ wrong 1 (1 ∷ 0 ∷ 0 ∷ 1 ∷ 3 ∷ 8 ∷ 0 ∷ 3 ∷ 1 ∷ 3 ∷ 5 ∷ 1 ∷ 6 ∷ 9 ∷ 3 ∷ []) 0 ∷
    wrong 2 (1 ∷ 0 ∷ 18 ∷ 0 ∷ 3 ∷ 8 ∷ 0 ∷ 3 ∷ 1 ∷ 3 ∷ 5 ∷ 1 ∷ 6 ∷ 9 ∷ 3 ∷ []) 0 ∷
    -- a second envelope: an extension or the base
    wrong 1 (in_memory (new_rows_at 0 ++ new_rows_at 0)) 3 ∷ wrong 2 (in_memory (new_rows_at 0 ++ base_rows_at 0)) 3 ∷
    -- rows that end early, a slice that is not whole rows, a row that fits nowhere
    wrong 1 (in_memory (row 1 0 0 0 ∷ [])) 1 ∷ wrong 2 (in_memory (row 1 0 0 0 ∷ row 8 0 3 1 ∷ [])) 2 ∷ wrong 1 (table ++ (22 ∷ [])) 3 ∷ wrong 2 (in_memory (new_rows_at 0 ++ (row 24 1 3 1 ∷ []))) 3 ∷
    -- skip numbers last: row 0's is the row count of the new table alone
    wrong 1 (1 ∷ 0 ∷ 0 ∷ 0 ∷ 6 ∷ 8 ∷ 0 ∷ 3 ∷ 1 ∷ 3 ∷ 5 ∷ 1 ∷ 6 ∷ 9 ∷ 3 ∷ []) 0 ∷ wrong 2 (1 ∷ 0 ∷ 0 ∷ 0 ∷ 3 ∷ 8 ∷ 0 ∷ 3 ∷ 1 ∷ 3 ∷ 5 ∷ 1 ∷ 6 ∷ 9 ∷ 0 ∷ []) 2 ∷
    wrong 1 (1 ∷ 0 ∷ 0 ∷ 0 ∷ 9 ∷ 8 ∷ 0 ∷ 3 ∷ 1 ∷ 3 ∷ 5 ∷ 1 ∷ 6 ∷ 9 ∷ 3 ∷ 1 ∷ 0 ∷ []) 3 ∷ []

-- "First the edition, then the old input, then the new table", then 5
abbrev order : List Case
order =
    refusing 0 [] [] 0 0 0 1 0 0 ∷ refusing 3 a_base table 60 16 99 1 0 0 ∷ refusing 1 [] [] 0 0 0 2 0 0 ∷ refusing 2 (base_with 0x0f 0x20 []) [] 60 16 99 2 14 0 ∷
    refusing 1 (base_with 0x0f 0x21 (hex 0x1_01)) [] 60 16 99 9 14 0 ∷ refusing 2 (hex 0x1_fc) [] 60 16 99 3 0 0 ∷
    -- "Old headers are read strictly"
    refusing 1 (base_with 0x13 0x20 (hex 0x1_0b_17_00_00_01)) table 60 16 99 11 15 0 ∷ refusing 2 (a_new ++ base_with 0x15 0x20 (hex 0x1_0b_19_00_00_00_00_01)) table 60 16 99 11 32 0 ∷ []

-- n relays of X, the first in front of M
abbrev bytes_in : Relayed → List ℕ
bytes_in (relayed j) = bytes_of j
bytes_in (unrelayed refusal place) = []

abbrev chain : ℕ → ℕ → List ℕ
chain e zero = a_base
chain e (suc n) = bytes_in (relay e (chain e n) table a_new)

abbrev stacked : ℕ → List ℕ
stacked zero = a_base
stacked (suc n) = a_new ++ stacked n

-- fifteen relays make sixteen envelopes; a sixteenth is 5 at row 0, after 15 and before every room; an old header of seventeen is the reader's
abbrev chains : Bool
chains =
    same (chain 1 15) (stacked 15) && same (chain 2 15) (stacked 15) &&
    every relays (refusing 1 (stacked 15) table 0 0 0 5 0 0 ∷ refusing 2 (stacked 15) table 999 16 999 5 0 0 ∷ refusing 1 (stacked 15) [] 0 0 0 15 0 0 ∷ refusing 2 (stacked 16) table 0 0 0 5 272 0 ∷
    -- a wrong skip number is a fault of the table, and so before 5
    refusing 2 (stacked 15) (1 ∷ 0 ∷ 0 ∷ 0 ∷ 3 ∷ 8 ∷ 0 ∷ 3 ∷ 1 ∷ 3 ∷ 5 ∷ 1 ∷ 6 ∷ 9 ∷ 4 ∷ []) 0 0 0 15 2 0 ∷ [])

abbrev pub relaying : Bool
relaying = every relays accepted && moved_rows && every relays rooms && every relays tables && every relays order && chains
