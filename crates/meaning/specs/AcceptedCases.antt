-- For each move of each edition an input that takes it. Offsets count from the first parameter's byte, at 14 of the envelope.
use Rattle.std.specs.Prelude.{ℕ, zero, suc, ◌+◌, ◌/◌, ◌%◌, List, [], ◌∷◌, ◌++◌, length, replicate}
use Rattle.meaning.specs.Memory.{Numbers, row}
use Rattle.meaning.specs.Cases.{joined, hex, a_date, base_with, base_rows, Reading, accepts}

abbrev pub offset : List Numbers → List Numbers
offset [] = []
offset (r ∷ rows) = record { kind = r.kind; level = r.level; start = 14 + r.start; length = r.length } ∷ offset rows

-- a base with these parameters, and a payload byte behind it
abbrev pub with_parameters : List ℕ → List ℕ
with_parameters s = let n = 15 + length s in 0xfe ∷ n / 256 ∷ n % 256 ∷ 0x12 ∷ 0x20 ∷ (a_date ++ (s ++ hex 0x1_01_28))

abbrev takes : ℕ → List ℕ → List Numbers → Reading
takes e s rows = accepts e (with_parameters s) (15 + length s) (base_rows 5 9 (offset rows))

abbrev both : List ℕ → List Numbers → List Reading
both s rows = takes 1 s rows ∷ takes 2 s rows ∷ []

-- a base with this date code, ten bytes of date where it has a designator
abbrev dated : ℕ → ℕ → ℕ → Reading
dated e code kind = accepts e (base_with 0x0f code (hex 0x1_01)) 15 (base_rows kind 9 [])

abbrev designated : ℕ → ℕ → ℕ → Reading
designated e code kind = accepts e (base_with 0x10 code (hex 0x1_5a_01)) 16 (base_rows kind 10 [])

-- a received object: by `b`, a date of this kind and length, then this, and these rows behind the date's
abbrev received : ℕ → ℕ → ℕ → List ℕ → List Numbers → Reading
received e kind len s rows = takes e (hex 0x1_0a_62_00 ++ s) (row 8 0 1 1 ∷ row kind 1 4 len ∷ rows)

abbrev received_both : List ℕ → List Numbers → List Reading
received_both s rows = received 1 5 9 ((0x20 ∷ a_date) ++ s) rows ∷ received 2 5 9 ((0x20 ∷ a_date) ++ s) rows ∷ []

abbrev received_extra : List ℕ → List Numbers → Reading
received_extra s rows = received 2 5 9 ((0x20 ∷ a_date) ++ s) rows

-- the agent `a` of `from`, then this
abbrev agent : ℕ → List ℕ → List Numbers → Reading
agent e s rows = takes e (hex 0x1_03_02_61_00 ++ s) (row 13 0 0 0 ∷ row 15 1 2 1 ∷ rows)

abbrev agent_both : List ℕ → List Numbers → List Reading
agent_both s rows = agent 1 s rows ∷ agent 2 s rows ∷ []

abbrev pub heads : List Reading
heads =
    accepts 1 (hex 0x1_fe_00_0f_10_20 ++ (a_date ++ hex 0x1_01)) 15 (base_rows 5 9 []) ∷
    accepts 2 (hex 0x1_fe_00_0f_11_20 ++ (a_date ++ hex 0x1_01)) 15 (base_rows 5 9 []) ∷
    accepts 1 (hex 0x1_fe_00_11_00_72_00_20 ++ (a_date ++ hex 0x1_01)) 17 (row 2 0 0 0 ∷ row 4 0 4 1 ∷ row 5 0 7 9 ∷ []) ∷
    accepts 2 (hex 0x1_fe_00_10_00_00_20 ++ (a_date ++ hex 0x1_01)) 16 (row 2 0 0 0 ∷ row 4 0 4 0 ∷ row 5 0 6 9 ∷ []) ∷
    dated 1 0x20 5 ∷ dated 2 0x20 5 ∷ dated 2 0x21 6 ∷ dated 2 0x22 7 ∷
    designated 1 0x21 5 ∷ designated 2 0x24 5 ∷ designated 2 0x25 6 ∷ designated 2 0x26 7 ∷ []

abbrev pub parameters : List Reading
parameters =
    joined (
    both (hex 0x1_00_6b_00_76_00) (row 27 0 1 1 ∷ row 28 0 3 1 ∷ []) ∷
    both (hex 0x1_02_01) (row 12 0 0 0 ∷ []) ∷
    both (hex 0x1_02_02_61_00_01_02_62_00_01_01) (row 12 0 0 0 ∷ row 15 1 2 1 ∷ row 15 1 6 1 ∷ []) ∷
    both (hex 0x1_04_10) (row 3 0 1 1 ∷ []) ∷
    both (hex 0x1_04_11) (row 3 0 1 1 ∷ []) ∷
    both (hex 0x1_04_12) (row 3 0 1 1 ∷ []) ∷
    both (hex 0x1_04_00_72_00) (row 4 0 2 1 ∷ []) ∷
    both (hex 0x1_05_63_00) (row 22 0 1 1 ∷ []) ∷
    both (hex 0x1_06_80) (row 23 0 1 1 ∷ []) ∷
    both (hex 0x1_06_23_00) (row 23 0 1 2 ∷ []) ∷
    both (hex 0x1_06_53_a5_a7_83_a6_00) (row 23 0 1 6 ∷ []) ∷
    both (hex 0x1_07_65_00) (row 24 0 1 1 ∷ []) ∷
    both (hex 0x1_09_02_61_00_01_01) (row 14 0 0 0 ∷ row 15 1 2 1 ∷ []) ∷
    both (hex 0x1_0b_14_74_00) (row 29 0 0 0 ∷ row 20 0 2 1 ∷ []) ∷
    both (hex 0x1_0b_16_01_7f) (row 29 0 0 0 ∷ row 21 0 3 1 ∷ []) ∷
    both (hex 0x1_0b_17_01_00 ++ replicate 256 7) (row 29 0 0 0 ∷ row 21 0 4 256 ∷ []) ∷
    (takes 1 (hex 0x1_08_01) (row 25 0 0 0 ∷ []) ∷
    takes 1 (hex 0x1_08_78_00_00_01) (row 25 0 0 0 ∷ row 26 0 1 1 ∷ row 26 0 3 0 ∷ []) ∷
    -- any order, repeats allowed; behind every list, agent and object the level is 0 again
    takes 1 (hex 0x1_02_02_61_00_01_01_05_63_00) (row 12 0 0 0 ∷ row 15 1 2 1 ∷ row 22 0 7 1 ∷ []) ∷
    takes 2 (hex 0x1_03_02_61_00_01_05_63_00) (row 13 0 0 0 ∷ row 15 1 2 1 ∷ row 22 0 6 1 ∷ []) ∷
    takes 1 (hex 0x1_08_00_01_05_63_00) (row 25 0 0 0 ∷ row 26 0 1 0 ∷ row 22 0 4 1 ∷ []) ∷
    takes 2 (hex 0x1_0b_14_00_05_63_00) (row 29 0 0 0 ∷ row 20 0 2 0 ∷ row 22 0 4 1 ∷ []) ∷
    takes 2 (hex 0x1_07_00_05_00_05_00_04_10) (row 24 0 1 0 ∷ row 22 0 3 0 ∷ row 22 0 5 0 ∷ row 3 0 7 1 ∷ []) ∷ []) ∷ [])

abbrev pub objects : List Reading
objects =
    joined (
    received_both (hex 0x1_01) [] ∷
    received_both (hex 0x1_02_66_00_03_69_00_04_76_00_01) (row 9 1 14 1 ∷ row 10 1 17 1 ∷ row 11 1 20 1 ∷ []) ∷
    received_both (hex 0x1_01_05_63_00) (row 22 0 15 1 ∷ []) ∷
    received_both (hex 0x1_02_66_00_01) (row 9 1 14 1 ∷ []) ∷
    received_both (hex 0x1_03_69_00_01) (row 10 1 14 1 ∷ []) ∷
    received_both (hex 0x1_04_76_00_01_05_63_00) (row 11 1 14 1 ∷ row 22 0 18 1 ∷ []) ∷
    received_both (hex 0x1_02_66_00_04_76_00_01) (row 9 1 14 1 ∷ row 11 1 17 1 ∷ []) ∷
    received_both (hex 0x1_03_69_00_04_76_00_01) (row 10 1 14 1 ∷ row 11 1 17 1 ∷ []) ∷
    (received_extra (hex 0x1_05_6b_00_14_74_00_01) (row 19 1 14 1 ∷ row 20 1 17 1 ∷ []) ∷
    received_extra (hex 0x1_02_66_00_05_6b_00_16_01_7f_01) (row 9 1 14 1 ∷ row 19 1 17 1 ∷ row 21 1 21 1 ∷ []) ∷
    received_extra (hex 0x1_03_69_00_05_6b_00_17_01_00 ++ (replicate 256 7 ++ hex 0x1_01)) (row 10 1 14 1 ∷ row 19 1 17 1 ∷ row 21 1 22 256 ∷ []) ∷
    received_extra (hex 0x1_04_76_00_05_6b_00_14_00_05_6c_00_14_00_01)
    (row 11 1 14 1 ∷ row 19 1 17 1 ∷ row 20 1 20 0 ∷ row 19 1 22 1 ∷ row 20 1 25 0 ∷ []) ∷
    received 1 5 10 ((0x21 ∷ a_date) ++ hex 0x1_5a_02_66_00_01) (row 9 1 15 1 ∷ []) ∷
    received 2 6 9 ((0x21 ∷ a_date) ++ hex 0x1_02_66_00_01) (row 9 1 14 1 ∷ []) ∷
    received 2 7 9 ((0x22 ∷ a_date) ++ hex 0x1_01) [] ∷
    received 2 5 10 ((0x24 ∷ a_date) ++ hex 0x1_41_01) [] ∷
    received 2 6 10 ((0x25 ∷ a_date) ++ hex 0x1_61_01) [] ∷
    received 2 7 10 ((0x26 ∷ a_date) ++ hex 0x1_7a_01) [] ∷ []) ∷ [])

-- so many agents, each the one resolver of the one above, around what the innermost has; and their rows, before its rows
abbrev nested_around : ℕ → List ℕ → List ℕ
nested_around zero s = s
nested_around (suc n) s = hex 0x1_02_61_00_03 ++ (nested_around n s ++ hex 0x1_01_01)

abbrev nested_rows : ℕ → ℕ → ℕ → List Numbers → List Numbers
nested_rows zero level at rows = rows
nested_rows (suc n) level at rows = row 15 level (at + 1) 1 ∷ row 18 level (at + 3) 0 ∷ nested_rows n (suc level) (at + 4) rows

-- an agent of level 8 with an address and with a list of resolvers, which is empty: a ninth agent list; and one whose address is its last row.
-- Behind them all a representation
abbrev eighth : List ℕ
eighth = hex 0x1_02_61_00_02_78_00_01_03_01_01

abbrev eighth_addressed : List ℕ
eighth_addressed = hex 0x1_02_61_00_02_78_00_01_01

abbrev eighth_rows : List Numbers
eighth_rows = row 15 8 30 1 ∷ row 16 8 32 0 ∷ row 17 8 33 1 ∷ []

abbrev pub agents : List Reading
agents =
    joined (
    both (0x02 ∷ (nested_around 7 eighth ++ hex 0x1_01_04_10)) (row 12 0 0 0 ∷ nested_rows 7 1 1 (eighth_rows ++ (row 18 8 36 0 ∷ row 3 0 55 1 ∷ []))) ∷
    both (0x03 ∷ nested_around 7 eighth) (row 13 0 0 0 ∷ nested_rows 7 1 1 (eighth_rows ++ (row 18 8 36 0 ∷ []))) ∷
    both (0x02 ∷ (nested_around 7 eighth_addressed ++ hex 0x1_01_04_10)) (row 12 0 0 0 ∷ nested_rows 7 1 1 (eighth_rows ++ (row 3 0 53 1 ∷ []))) ∷
    both (0x03 ∷ (nested_around 7 eighth_addressed ++ hex 0x1_04_00_72_00)) (row 13 0 0 0 ∷ nested_rows 7 1 1 (eighth_rows ++ (row 4 0 53 1 ∷ []))) ∷
    agent_both (hex 0x1_01) [] ∷
    agent_both (hex 0x1_02_01_01) (row 16 1 4 0 ∷ []) ∷
    agent_both (hex 0x1_02_78_00_00_01_01) (row 16 1 4 0 ∷ row 17 1 5 1 ∷ row 17 1 7 0 ∷ []) ∷
    agent_both (hex 0x1_03_01_01) (row 18 1 4 0 ∷ []) ∷
    agent_both (hex 0x1_03_02_62_00_01_01_01) (row 18 1 4 0 ∷ row 15 2 6 1 ∷ []) ∷
    agent_both (hex 0x1_02_01_03_01_01) (row 16 1 4 0 ∷ row 18 1 6 0 ∷ []) ∷
    (agent 1 (hex 0x1_04_6b_00_14_74_00_01) (row 19 1 5 1 ∷ row 20 1 8 1 ∷ []) ∷
    agent 2 (hex 0x1_05_6b_00_14_74_00_01) (row 19 1 5 1 ∷ row 20 1 8 1 ∷ []) ∷
    agent 1 (hex 0x1_02_01_04_6b_00_16_01_7f_01) (row 16 1 4 0 ∷ row 19 1 7 1 ∷ row 21 1 11 1 ∷ []) ∷
    agent 2 (hex 0x1_02_01_05_6b_00_16_01_7f_01) (row 16 1 4 0 ∷ row 19 1 7 1 ∷ row 21 1 11 1 ∷ []) ∷
    agent 1 (hex 0x1_03_01_04_6b_00_14_00_04_6c_00_14_00_01) (row 18 1 4 0 ∷ row 19 1 7 1 ∷ row 20 1 10 0 ∷ row 19 1 12 1 ∷ row 20 1 15 0 ∷ []) ∷
    agent 2 (hex 0x1_03_01_05_6b_00_14_00_05_6c_00_14_00_01) (row 18 1 4 0 ∷ row 19 1 7 1 ∷ row 20 1 10 0 ∷ row 19 1 12 1 ∷ row 20 1 15 0 ∷ []) ∷
    agent 2 (hex 0x1_05_6b_00_17_01_00 ++ (replicate 256 7 ++ hex 0x1_01)) (row 19 1 5 1 ∷ row 21 1 10 256 ∷ []) ∷ []) ∷ [])

-- an extension before the base, and one whose parameters follow its received object
abbrev pub an_extension : List ℕ
an_extension = hex 0x1_fd_00_11_62_00_20 ++ (a_date ++ hex 0x1_01_01)

abbrev pub extension_rows : ℕ → List Numbers
extension_rows at = row 1 0 at 0 ∷ row 8 0 (at + 3) 1 ∷ row 5 1 (at + 6) 9 ∷ []

abbrev pub base_rows_at : ℕ → List Numbers
base_rows_at at = row 2 0 at 0 ∷ row 3 0 (at + 3) 1 ∷ row 5 0 (at + 5) 9 ∷ []

abbrev a_base : List ℕ
a_base = base_with 0x0f 0x20 (hex 0x1_01)

abbrev pub envelopes : List Reading
envelopes =
    accepts 1 (an_extension ++ a_base) 32 (extension_rows 0 ++ base_rows_at 17) ∷
    accepts 2 (an_extension ++ a_base) 32 (extension_rows 0 ++ base_rows_at 17) ∷
    accepts 2 (hex 0x1_fd_00_13_62_00_20 ++ (a_date ++ (hex 0x1_01_05_00_01 ++ a_base))) 34 (extension_rows 0 ++ (row 22 0 17 0 ∷ base_rows_at 19)) ∷ []
