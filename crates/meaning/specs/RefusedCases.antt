-- For each room a code that it refuses; each bound of a reading at it and one over. Offsets count from the first parameter's byte, at 14.
use Rattle.std.specs.Prelude.{ℕ, zero, suc, ◌+◌, List, [], ◌∷◌, ◌++◌, length, take, drop, replicate}
use Rattle.meaning.specs.Memory.{Numbers, row}
use Rattle.meaning.specs.Cases.{joined, hex, a_date, base_with, base_rows, Reading, accepts, refuses}
use Rattle.meaning.specs.AcceptedCases.{offset, with_parameters, an_extension, extension_rows, base_rows_at}

abbrev stops : ℕ → List ℕ → ℕ → ℕ → Reading
stops e s refusal at = refuses e (with_parameters s) refusal (14 + at)

abbrev both : List ℕ → ℕ → ℕ → List Reading
both s refusal at = stops 1 s refusal at ∷ stops 2 s refusal at ∷ []

abbrev goes : ℕ → List ℕ → List Numbers → Reading
goes e s rows = accepts e (with_parameters s) (15 + length s) (base_rows 5 9 (offset rows))

-- a received object of `b`, with this behind its date
abbrev after_date : List ℕ → List ℕ
after_date s = hex 0x1_0a_62_00_20 ++ (a_date ++ s)

abbrev pub codes : List Reading
codes =
    joined (
    -- an envelope's head: received object, representation, date
    (refuses 1 (hex 0x1_fd_00_04_1f) 8 3 ∷ refuses 2 (hex 0x1_fd_00_04_01) 8 3 ∷
    refuses 1 (hex 0x1_fe_00_04_13) 7 3 ∷ refuses 2 (hex 0x1_fe_00_04_01) 7 3 ∷
    refuses 1 (base_with 0x0f 0x1f (hex 0x1_01)) 9 4 ∷ refuses 1 (base_with 0x0f 0x22 (hex 0x1_01)) 9 4 ∷ refuses 1 (base_with 0x10 0x24 (hex 0x1_5a_01)) 9 4 ∷
    refuses 2 (base_with 0x0f 0x23 (hex 0x1_01)) 9 4 ∷ refuses 2 (base_with 0x0f 0x27 (hex 0x1_01)) 9 4 ∷ []) ∷
    -- parameters
    both (hex 0x1_0c) 7 0 ∷ both (hex 0x1_20) 7 0 ∷ both (hex 0x1_ff) 7 0 ∷ (stops 2 (hex 0x1_08_01) 7 0 ∷ []) ∷
    both (hex 0x1_00_6b_00_1f) 8 3 ∷ both (hex 0x1_04_13) 7 1 ∷ both (hex 0x1_04_0f) 7 1 ∷
    both (hex 0x1_0b_13) 7 1 ∷ both (hex 0x1_0b_15) 7 1 ∷ both (hex 0x1_0b_18) 7 1 ∷ both (hex 0x1_0b_1a) 7 1 ∷
    (stops 1 (hex 0x1_08_02) 8 1 ∷ stops 1 (hex 0x1_08_1f) 8 1 ∷ []) ∷
    -- received object
    both (hex 0x1_0a_62_00_1f) 9 3 ∷ (stops 1 (hex 0x1_0a_62_00_22) 9 3 ∷ stops 2 (hex 0x1_0a_62_00_23) 9 3 ∷ []) ∷
    both (after_date (hex 0x1_00)) 7 13 ∷ both (after_date (hex 0x1_06)) 7 13 ∷ (stops 1 (after_date (hex 0x1_05)) 7 13 ∷ []) ∷
    both (after_date (hex 0x1_02_00_02)) 7 15 ∷ both (after_date (hex 0x1_03_00_02)) 7 15 ∷ both (after_date (hex 0x1_03_00_03)) 7 15 ∷
    both (after_date (hex 0x1_04_00_04)) 7 15 ∷ both (after_date (hex 0x1_04_00_03)) 7 15 ∷
    (stops 1 (after_date (hex 0x1_02_00_05)) 7 15 ∷ stops 1 (after_date (hex 0x1_04_00_05)) 7 15 ∷
    stops 2 (after_date (hex 0x1_05_00_15)) 7 15 ∷ stops 2 (after_date (hex 0x1_05_00_14_00_04)) 7 17 ∷ []) ∷
    -- agents
    both (hex 0x1_02_03) 7 1 ∷ both (hex 0x1_09_00) 7 1 ∷ both (hex 0x1_03_01) 7 1 ∷ both (hex 0x1_03_02_61_00_06) 7 4 ∷
    (stops 1 (hex 0x1_03_02_61_00_05) 7 4 ∷ stops 2 (hex 0x1_03_02_61_00_04) 7 4 ∷ []) ∷
    both (hex 0x1_03_02_61_00_02_02) 8 5 ∷ both (hex 0x1_03_02_61_00_02_01_02) 7 6 ∷
    both (hex 0x1_03_02_61_00_03_01_03) 7 6 ∷ both (hex 0x1_03_02_61_00_03_01_02) 7 6 ∷ both (hex 0x1_03_02_61_00_03_03) 7 5 ∷
    (stops 1 (hex 0x1_03_02_61_00_04_00_15) 7 6 ∷ stops 2 (hex 0x1_03_02_61_00_05_00_15) 7 6 ∷
    stops 1 (hex 0x1_03_02_61_00_04_00_14_00_02) 7 8 ∷ stops 2 (hex 0x1_03_02_61_00_05_00_14_00_03) 7 8 ∷ []) ∷
    -- behind the closing 01
    both (hex 0x1_01) 13 1 ∷ [])

-- a base whose date has another byte at n, and a tenth one where there is a designator
abbrev changed : ℕ → ℕ → List ℕ
changed n b = take n a_date ++ (b ∷ drop (suc n) a_date)

abbrev date_with : ℕ → ℕ → ℕ → List ℕ
date_with code n b = hex 0x1_fe_00_0f_12 ++ (code ∷ (changed n b ++ hex 0x1_01))

-- the last byte that byte n of a date may be, and the next one, which is refused
abbrev up_to : ℕ → ℕ → ℕ → List Reading
up_to n b over = accepts 1 (date_with 0x20 n b) 15 (base_rows 5 9 []) ∷ accepts 2 (date_with 0x20 n b) 15 (base_rows 5 9 []) ∷ refuses 1 (date_with 0x20 n over) 9 (5 + n) ∷ refuses 2 (date_with 0x20 n over) 9 (5 + n) ∷ []

abbrev forward : ℕ → ℕ → Reading
forward n b = accepts 2 (date_with 0x21 n b) 15 (base_rows 6 9 [])

abbrev not_forward : ℕ → ℕ → Reading
not_forward n b = refuses 2 (date_with 0x22 n b) 9 (5 + n)

abbrev designator : ℕ → ℕ → List Reading
designator b over = accepts 1 (base_with 0x10 0x21 (b ∷ 1 ∷ [])) 16 (base_rows 5 10 []) ∷ accepts 2 (base_with 0x10 0x25 (b ∷ 1 ∷ [])) 16 (base_rows 6 10 []) ∷ refuses 1 (base_with 0x10 0x21 (over ∷ 1 ∷ [])) 9 14 ∷ refuses 2 (base_with 0x10 0x24 (over ∷ 1 ∷ [])) 9 14 ∷ []

-- the largest digits and the smallest, with each code of D for a relative date; the codes for an absolute one refuse their month
abbrev nines : List ℕ
nines = replicate 8 0xaa ++ hex 0x1_a0

abbrev noughts : List ℕ
noughts = replicate 8 0x11 ++ hex 0x1_10

abbrev undesignated_any : ℕ → ℕ → List ℕ → Reading
undesignated_any code kind date = accepts 2 (hex 0x1_fe_00_0f_12 ++ (code ∷ (date ++ hex 0x1_01))) 15 (base_rows kind 9 [])

abbrev designated_any : ℕ → ℕ → List ℕ → Reading
designated_any code kind date = accepts 2 (hex 0x1_fe_00_10_12 ++ (code ∷ (date ++ hex 0x1_6d_01))) 16 (base_rows kind 10 [])

abbrev refused_month : ℕ → ℕ → List ℕ → Reading
refused_month e code date = refuses e (hex 0x1_fe_00_10_12 ++ (code ∷ (date ++ hex 0x1_6d_01))) 9 7

abbrev pub any_digits : List Reading
any_digits =
    undesignated_any 0x21 6 nines ∷ undesignated_any 0x21 6 noughts ∷ undesignated_any 0x22 7 nines ∷ undesignated_any 0x22 7 noughts ∷
    designated_any 0x25 6 nines ∷ designated_any 0x25 6 noughts ∷ designated_any 0x26 7 nines ∷ designated_any 0x26 7 noughts ∷
    refused_month 1 0x20 nines ∷ refused_month 2 0x20 noughts ∷ refused_month 1 0x21 nines ∷ refused_month 1 0x21 noughts ∷ refused_month 2 0x24 nines ∷ refused_month 2 0x24 noughts ∷ []

abbrev pub dates : List Reading
dates =
    joined (
    any_digits ∷
    -- year, month 1 to 12, day 1 to 31, hour to 23, minute and second to 59, millisecond and its padding
    up_to 0 0xaa 0xab ∷ up_to 0 0x11 0x01 ∷ up_to 0 0xa1 0xb1 ∷ up_to 1 0x1a 0x1b ∷ up_to 1 0x11 0x10 ∷
    up_to 2 0x23 0x24 ∷ up_to 2 0x12 0x11 ∷ up_to 3 0x42 0x43 ∷ up_to 3 0x12 0x11 ∷ up_to 4 0x34 0x35 ∷ up_to 4 0x11 0x10 ∷
    up_to 5 0x6a 0x71 ∷ up_to 5 0x11 0x10 ∷ up_to 6 0x6a 0x71 ∷ up_to 6 0x11 0x10 ∷
    up_to 7 0xaa 0xba ∷ up_to 7 0x11 0x10 ∷ up_to 8 0xa0 0xb0 ∷ up_to 8 0x10 0x00 ∷ up_to 8 0x10 0x11 ∷
    -- relative dates: any digits
    (forward 2 0xaa ∷ forward 2 0x11 ∷ forward 3 0xaa ∷ forward 3 0x11 ∷ forward 4 0xaa ∷ forward 5 0xaa ∷ forward 6 0xaa ∷ forward 7 0xaa ∷ forward 8 0xa0 ∷
    not_forward 0 0xab ∷ not_forward 1 0x10 ∷ not_forward 2 0xab ∷ not_forward 3 0x10 ∷ not_forward 4 0xb1 ∷ not_forward 5 0x0a ∷ not_forward 6 0x10 ∷ not_forward 7 0xab ∷ not_forward 8 0x22 ∷ []) ∷
    designator 0x41 0x40 ∷ designator 0x5a 0x5b ∷ designator 0x61 0x60 ∷ designator 0x7a 0x7b ∷ [])

-- an agent with so many agents below it, each the one resolver of the one above, and its rows
abbrev nested : ℕ → List ℕ
nested zero = hex 0x1_02_61_00_01
nested (suc n) = hex 0x1_02_61_00_03 ++ (nested n ++ hex 0x1_01_01)

abbrev nested_rows : ℕ → ℕ → ℕ → List Numbers
nested_rows zero level at = row 15 level (at + 1) 1 ∷ []
nested_rows (suc n) level at = row 15 level (at + 1) 1 ∷ row 18 level (at + 3) 0 ∷ nested_rows n (suc level) (at + 4)

abbrev listed : ℕ → List ℕ
listed n = 2 ∷ (nested n ++ hex 0x1_01)

abbrev single : ℕ → List ℕ
single n = 3 ∷ nested n

abbrev pub values : List Reading
values =
    joined (
    -- text byte 1F and 20; no text goes past the envelope's end, though the input does
    both (hex 0x1_05_1f) 8 1 ∷ both (hex 0x1_05_63_01) 8 2 ∷ (goes 1 (hex 0x1_05_20_00) (row 22 0 1 1 ∷ []) ∷ goes 2 (hex 0x1_05_ff_00) (row 22 0 1 1 ∷ []) ∷
    refuses 1 (base_with 0x10 0x20 (hex 0x1_05_63_00_01)) 6 16 ∷ refuses 2 (base_with 0x0f 0x20 (hex 0x1_05_00_01)) 6 15 ∷ []) ∷
    -- payload length; an envelope that ends inside one, and inside a date
    (goes 1 (hex 0x1_06_21_10) (row 23 0 1 2 ∷ []) ∷ goes 2 (hex 0x1_06_10) (row 23 0 1 1 ∷ []) ∷
    refuses 1 (base_with 0x10 0x20 (hex 0x1_06_23_00_01)) 6 16 ∷ refuses 2 (base_with 0x0a 0x20 (hex 0x1_01)) 6 10 ∷ []) ∷
    both (hex 0x1_06_53_a5_a7_83_a7_00) 10 5 ∷ both (hex 0x1_06_53_a5_a7_83_a6_10) 10 6 ∷ both (hex 0x1_06_12) 10 1 ∷ both (hex 0x1_06_00) 10 1 ∷ both (hex 0x1_06_0b) 10 1 ∷ both (hex 0x1_06_b0) 10 1 ∷ both (hex 0x1_06_2b) 10 1 ∷
    -- byte blocks of 255 and 256, of 65,535 and 65,536
    (goes 1 (hex 0x1_0b_16_ff ++ replicate 255 7) (row 29 0 0 0 ∷ row 21 0 3 255 ∷ []) ∷ goes 2 (hex 0x1_0b_16_00) (row 29 0 0 0 ∷ row 21 0 3 0 ∷ []) ∷ []) ∷
    both (hex 0x1_0b_17_00_ff) 11 1 ∷ both (hex 0x1_0b_17_ff_ff) 6 5 ∷ both (hex 0x1_0b_19_00_00_ff_ff) 11 1 ∷ both (hex 0x1_0b_19_00_01_00_00) 6 7 ∷ both (hex 0x1_0b_19_00) 6 4 ∷ both (hex 0x1_0b_16_03_01) 6 5 ∷
    -- agent level 8 and 9, in a list and under `from`
    (goes 1 (listed 7) (row 12 0 0 0 ∷ nested_rows 7 1 1) ∷ goes 2 (single 7) (row 13 0 0 0 ∷ nested_rows 7 1 1) ∷ []) ∷
    both (listed 8) 12 33 ∷ both (single 8) 12 33 ∷ [])

abbrev times : ℕ → List ℕ → List ℕ
times zero s = []
times (suc n) s = s ++ times n s

abbrev times_rows : ℕ → ℕ → List Numbers
times_rows zero at = base_rows_at at
times_rows (suc n) at = extension_rows at ++ times_rows n (at + 17)

abbrev a_base : List ℕ
a_base = base_with 0x0f 0x20 (hex 0x1_01)

abbrev either_edition : List ℕ → ℕ → ℕ → List Reading
either_edition s refusal at = refuses 1 s refusal at ∷ refuses 2 s refusal at ∷ []

abbrev pub envelopes : List Reading
envelopes =
    joined (
    (refuses 0 a_base 1 0 ∷ refuses 3 a_base 1 0 ∷ refuses 0 [] 1 0 ∷ []) ∷
    either_edition (hex 0x1_fc) 3 0 ∷ either_edition (hex 0x1_ff_00) 3 0 ∷
    either_edition (hex 0x1_fe) 2 1 ∷ either_edition (hex 0x1_fd_00) 2 2 ∷ either_edition (hex 0x1_fe_00_00_00_10) 2 5 ∷
    -- short lengths 1, 2 and 3; the longest short one; long lengths 65,539 and 65,540, 1,048,576 and one more
    either_edition (hex 0x1_fe_00_01) 4 1 ∷ either_edition (hex 0x1_fd_00_02) 4 1 ∷ either_edition (hex 0x1_fe_00_03) 6 3 ∷ either_edition (hex 0x1_fd_00_03) 6 3 ∷ either_edition (hex 0x1_fe_ff_ff) 2 3 ∷
    either_edition (hex 0x1_fe_00_00_00_01_00_03) 4 1 ∷ either_edition (hex 0x1_fd_00_00_00_01_00_04) 2 7 ∷
    either_edition (hex 0x1_fe_00_00_00_10_00_00) 2 7 ∷ either_edition (hex 0x1_fe_00_00_00_10_00_01) 5 1 ∷ either_edition (hex 0x1_fe_00_00_00_00_00_00) 4 1 ∷
    -- envelope 16 and 17; places count from the input's first byte
    (accepts 1 (times 15 an_extension ++ a_base) 270 (times_rows 15 0) ∷ accepts 2 (times 15 an_extension ++ a_base) 270 (times_rows 15 0) ∷ []) ∷
    either_edition (times 16 an_extension ++ a_base) 5 272 ∷ either_edition (times 16 an_extension ++ hex 0x1_fc) 3 272 ∷ either_edition (times 16 an_extension) 2 272 ∷ either_edition (times 16 an_extension ++ hex 0x1_fd) 5 272 ∷
    either_edition an_extension 2 17 ∷ either_edition (an_extension ++ hex 0x1_fc) 3 17 ∷ either_edition (an_extension ++ hex 0x1_fe_00_02) 4 18 ∷
    either_edition (an_extension ++ hex 0x1_fe_00_05_12_1f) 9 21 ∷ either_edition (an_extension ++ hex 0x1_fe_00_04_12) 6 21 ∷ either_edition (an_extension ++ hex 0x1_fe_00_05_12) 2 21 ∷ [])
