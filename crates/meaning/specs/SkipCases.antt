-- Order 7: the skip numbers of every kind of row, given as numbers and not by the definition; and tables with a wrong one.
use Rattle.std.specs.Prelude.{ℕ, zero, suc, ◌+◌, List, [], ◌∷◌, ◌++◌, Bool, false, take}
use Rattle.meaning.specs.Headers.{Answer, refused, accepted}
use Rattle.meaning.specs.Headers as headers
use Rattle.meaning.specs.Memory.{Numbers, row, numbers_in, table_of, skips_of}
use Rattle.meaning.specs.Cases.{same, hex, a_date, base_with, Writing, writes}
use Rattle.meaning.specs.AcceptedCases.{with_parameters, an_extension, extension_rows, base_rows_at}

-- a header, and the skip numbers of its rows
pub record Hops : Type 0 where
  pub edition : ℕ
  pub input : List ℕ
  pub skips : List ℕ

abbrev hops : ℕ → List ℕ → List ℕ → Hops
hops e s skips = record { edition = e; input = s; skips = skips }

abbrev table_read : Answer → List ℕ
table_read (refused refusal place) = []
table_read (accepted place rs) = table_of rs

abbrev pub skips_read : Hops → Bool
skips_read c = same (skips_of (table_read (headers.read c.edition c.input))) c.skips

abbrev a_base : List ℕ
a_base = base_with 0x0f 0x20 (hex 0x1_01)

-- a `to` list: an agent with two addresses, resolvers and two extras, whose first resolver has an empty list of each sort; an agent more;
-- then an encrypted list, transport behaviour and an own parameter
abbrev deep : List ℕ
deep =
    hex 0x1_02_02_61_00_02_78_00_79_00_01_03_02_62_00_02_01_03_01_01_02_63_00_01_01_04_6b_00_14_74_00_04_6c_00_16_01_7f_01_02_64_00_01_01 ++
    hex 0x1_08_78_00_79_00_01_0b_14_74_00_00_6b_00_76_00

-- a received object with two extras, and a comment behind it
abbrev received : List ℕ
received = hex 0x1_0a_62_00_20 ++ (a_date ++ hex 0x1_02_66_00_05_6b_00_14_74_00_05_6c_00_16_01_7f_01_05_63_00)

abbrev pub read : List Hops
read =
    hops 1 a_base (3 ∷ 2 ∷ 3 ∷ []) ∷
    -- envelopes: each up to the next, the last up to the row count
    hops 1 (an_extension ++ (an_extension ++ a_base)) (3 ∷ 3 ∷ 3 ∷ 6 ∷ 6 ∷ 6 ∷ 9 ∷ 8 ∷ 9 ∷ []) ∷
    hops 2 (an_extension ++ a_base) (3 ∷ 3 ∷ 3 ∷ 6 ∷ 5 ∷ 6 ∷ []) ∷
    -- empty lists: the next row
    hops 2 (with_parameters (hex 0x1_02_01_09_01_05_63_00)) (6 ∷ 2 ∷ 3 ∷ 4 ∷ 5 ∷ 6 ∷ []) ∷
    hops 1 (with_parameters (hex 0x1_08_01_05_63_00)) (5 ∷ 2 ∷ 3 ∷ 4 ∷ 5 ∷ []) ∷
    -- every kind that has rows; agents of two levels
    hops 1 (with_parameters deep) (
    25 ∷ 2 ∷ 3 ∷ 18 ∷ 17 ∷ 8 ∷ 7 ∷ 8 ∷ 13 ∷ 12 ∷ 11 ∷ 12 ∷ 13 ∷ 15 ∷ 15 ∷ 17 ∷ 17 ∷ 18 ∷ 21 ∷ 20 ∷ 21 ∷ 23 ∷ 23 ∷ 25 ∷ 25 ∷ []
    ) ∷
    hops 2 (with_parameters received) (11 ∷ 2 ∷ 3 ∷ 10 ∷ 5 ∷ 6 ∷ 8 ∷ 8 ∷ 10 ∷ 10 ∷ 11 ∷ []) ∷
    -- from and intended receiver, behind each other; two own parameters, two behaviours
    hops 2 (with_parameters (hex 0x1_03_02_61_00_01_09_02_61_00_01_02_62_00_01_01)) (8 ∷ 2 ∷ 3 ∷ 5 ∷ 5 ∷ 8 ∷ 7 ∷ 8 ∷ []) ∷
    hops 2 (with_parameters (hex 0x1_00_6b_00_76_00_00_6b_00_76_00_0b_14_00_0b_16_00)) (11 ∷ 2 ∷ 3 ∷ 5 ∷ 5 ∷ 7 ∷ 7 ∷ 9 ∷ 9 ∷ 11 ∷ 11 ∷ []) ∷ []

-- Writing

-- rows with these skip numbers
abbrev rows_with : List Numbers → List ℕ → List ℕ
rows_with [] skips = []
rows_with (r ∷ rs) [] = []
rows_with (r ∷ rs) (x ∷ skips) = numbers_in r x ++ rows_with rs skips

-- what was read is written, with the input as pool
abbrev written_again : Hops → Answer → Bool
written_again c (refused refusal place) = false
written_again c (accepted place rs) =
    writes (record { edition = c.edition; table = table_of rs; pool = c.input; room = place; answer = 0; place = place; bytes = take place c.input })

abbrev pub rewritten : Hops → Bool
rewritten c = written_again c (headers.read c.edition c.input)

abbrev refused_in : ℕ → ℕ → List Numbers → List ℕ → List ℕ → ℕ → ℕ → Writing
refused_in e room table skips over refusal at =
    record { edition = e; table = rows_with table skips ++ over; pool = an_extension ++ a_base; room = room; answer = refusal; place = at; bytes = [] }

abbrev fifteen : ℕ → List Numbers → List ℕ → ℕ → Writing
fifteen e table skips at = refused_in e 1000 table skips [] 15 at

abbrev a_table : List Numbers
a_table = base_rows_at 17

-- an own parameter, and an agent with an extra
abbrev keyed : List Numbers
keyed = a_table ++ (row 27 0 3 1 ∷ row 28 0 3 1 ∷ row 13 0 0 0 ∷ row 15 1 3 1 ∷ row 19 1 3 1 ∷ row 20 1 3 1 ∷ [])

-- 3, 2, 3 are right
abbrev pub wrong : List Writing
wrong =
    -- off by one either way, 0, the row itself, past the row count, the largest; the lowest row decides
    fifteen 1 a_table (2 ∷ 2 ∷ 3 ∷ []) 0 ∷ fifteen 2 a_table (4 ∷ 2 ∷ 3 ∷ []) 0 ∷ fifteen 1 a_table (3 ∷ 1 ∷ 3 ∷ []) 1 ∷ fifteen 2 a_table (3 ∷ 3 ∷ 3 ∷ []) 1 ∷
    fifteen 1 a_table (3 ∷ 2 ∷ 2 ∷ []) 2 ∷ fifteen 2 a_table (3 ∷ 2 ∷ 4 ∷ []) 2 ∷ fifteen 1 a_table (0 ∷ 2 ∷ 3 ∷ []) 0 ∷ fifteen 2 a_table (3 ∷ 2 ∷ 0 ∷ []) 2 ∷
    fifteen 1 a_table (3 ∷ 2 ∷ 4294967295 ∷ []) 2 ∷ fifteen 2 a_table (3 ∷ 0 ∷ 0 ∷ []) 1 ∷ fifteen 1 a_table (1 ∷ 2 ∷ 3 ∷ []) 0 ∷
    -- swapped between neighbours
    fifteen 1 a_table (3 ∷ 3 ∷ 2 ∷ []) 1 ∷ fifteen 2 a_table (2 ∷ 3 ∷ 3 ∷ []) 0 ∷
    -- an own key without its value, an agent without its extras, an extra key without its value
    fifteen 1 keyed (9 ∷ 2 ∷ 3 ∷ 4 ∷ 5 ∷ 9 ∷ 9 ∷ 9 ∷ 9 ∷ []) 3 ∷ fifteen 1 keyed (9 ∷ 2 ∷ 3 ∷ 5 ∷ 5 ∷ 9 ∷ 7 ∷ 9 ∷ 9 ∷ []) 6 ∷ fifteen 1 keyed (9 ∷ 2 ∷ 3 ∷ 5 ∷ 5 ∷ 9 ∷ 9 ∷ 8 ∷ 9 ∷ []) 7 ∷
    fifteen 1 keyed (9 ∷ 2 ∷ 3 ∷ 5 ∷ 5 ∷ 9 ∷ 9 ∷ 9 ∷ 8 ∷ []) 8 ∷ refused_in 1 0 keyed (9 ∷ 2 ∷ 3 ∷ 5 ∷ 5 ∷ 9 ∷ 9 ∷ 9 ∷ 9 ∷ []) [] 16 31 ∷
    -- an extension that takes the base with it, and one that ends before its received object does
    fifteen 2 (extension_rows 0 ++ a_table) (6 ∷ 3 ∷ 3 ∷ 6 ∷ 5 ∷ 6 ∷ []) 0 ∷ fifteen 1 (extension_rows 0 ++ a_table) (3 ∷ 2 ∷ 3 ∷ 6 ∷ 5 ∷ 6 ∷ []) 1 ∷ []

abbrev extensions : ℕ → List Numbers
extensions zero = []
extensions (suc n) = extension_rows 0 ++ extensions n

-- the skip numbers of n extensions from row i on, and of a base behind them
abbrev envelope_skips : ℕ → ℕ → List ℕ
envelope_skips i zero = (i + 3) ∷ (i + 2) ∷ (i + 3) ∷ []
envelope_skips i (suc n) = (i + 3) ∷ (i + 3) ∷ (i + 3) ∷ envelope_skips (i + 3) n

-- "after 15's other faults", and before 5 and 16
abbrev pub first : List Writing
first =
    fifteen 1 (row 2 0 17 0 ∷ row 3 0 20 1 ∷ row 5 1 22 9 ∷ []) (0 ∷ 2 ∷ 3 ∷ []) 2 ∷
    fifteen 2 (row 2 0 17 0 ∷ row 3 0 20 1 ∷ []) (0 ∷ 2 ∷ []) 2 ∷ refused_in 1 1000 a_table (0 ∷ 2 ∷ 3 ∷ []) (22 ∷ []) 15 3 ∷ refused_in 2 1000 a_table (3 ∷ 2 ∷ 3 ∷ []) (22 ∷ 0 ∷ 0 ∷ 0 ∷ []) 15 3 ∷
    refused_in 1 0 a_table (3 ∷ 2 ∷ 2 ∷ []) [] 15 2 ∷ refused_in 1 0 a_table (3 ∷ 2 ∷ 3 ∷ []) [] 16 15 ∷
    refused_in 2 0 (extensions 16 ++ a_table) (envelope_skips 0 16) [] 5 48 ∷ refused_in 2 0 (extensions 16 ++ a_table) (4 ∷ 3 ∷ 3 ∷ envelope_skips 3 15) [] 15 0 ∷ []
