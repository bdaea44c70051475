-- Tables written, lent memory, the payload's part, plain values and the listing: each at its bounds and one over.
use Rattle.std.specs.Prelude.{ℕ, zero, suc, ◌+◌, ◌-◌, ◌*◌, List, [], ◌∷◌, ◌++◌, Bool, ◌&&◌, not, eqb, length, take, replicate}
use Rattle.meaning.specs.Headers.{read}
use Rattle.meaning.specs.Bytes.{one_byte, two_bytes, four_bytes, past, length_bytes, block_ok}
use Rattle.meaning.specs.Writing.{envelope_size, within_limit, envelope_length}
use Rattle.meaning.specs.Memory.{row_width, Numbers, row, read_answer, read_rows, write_answer, write_output}
use Rattle.meaning.specs.Payload.{payload_start, payload_end, payload_bytes}
use Rattle.meaning.specs.Plain.{Date, number_encoded, number_output, date_bytes, date_output}
use Rattle.meaning.specs.Listing.{rows_lent, viewed, listing_of, listing}
use Rattle.meaning.specs.Cases.{same, hex, a_date, base_with, base_rows, reply_is, in_memory, Writing, writing, unwriting_part, unwriting, outcome_is, Number, number, encodes, DateRead, DateWritten}
use Rattle.meaning.specs.AcceptedCases.{an_extension, extension_rows, base_rows_at}

abbrev a_base : List ℕ
a_base = base_with 0x0f 0x20 (hex 0x1_01)

-- refused with 15, over a pool of the base and `a`, 1F, 13, 12, 00, `Z` behind it
abbrev fifteen_part : ℕ → List Numbers → List ℕ → ℕ → Writing
fifteen_part e table over at = unwriting_part e table over (a_base ++ hex 0x1_61_1f_13_12_00_5a) 1000 15 at

abbrev fifteen : ℕ → List Numbers → ℕ → Writing
fifteen e table at = fifteen_part e table [] at

abbrev extensions : ℕ → List Numbers
extensions zero = []
extensions (suc n) = extension_rows 0 ++ extensions n

-- an agent's row and its resolvers' for each level up to n, then one agent more
abbrev levels : ℕ → ℕ → List Numbers
levels zero level = row 15 level 15 1 ∷ []
levels (suc n) level = row 15 level 15 1 ∷ row 18 level 0 0 ∷ levels n (suc level)

abbrev pub written : List Writing
written =
    writing 1 (base_rows 5 9 []) a_base 15 a_base ∷
    writing 2 (base_rows 5 9 []) a_base 1000 a_base ∷
    -- an opening row's start may be any place of the pool, its end too
    writing 1 (row 2 0 15 0 ∷ row 3 0 3 1 ∷ row 5 0 5 9 ∷ []) a_base 15 a_base ∷
    -- length 10 picks the code with designator: 21 in B, 24 in D
    writing 1 (row 2 0 0 0 ∷ row 3 0 3 1 ∷ row 5 0 5 10 ∷ []) (base_with 0x00 0x00 (hex 0x1_5a)) 16 (base_with 0x10 0x21 (hex 0x1_5a_01)) ∷
    writing 2 (row 2 0 0 0 ∷ row 3 0 3 1 ∷ row 5 0 5 10 ∷ []) (base_with 0x00 0x00 (hex 0x1_5a)) 16 (base_with 0x10 0x24 (hex 0x1_5a_01)) ∷
    writing 2 (row 2 0 0 0 ∷ row 3 0 3 1 ∷ row 7 0 5 10 ∷ []) (base_with 0x00 0x00 (hex 0x1_5a)) 16 (base_with 0x10 0x26 (hex 0x1_5a_01)) ∷
    -- one pool's bytes for many rows, in any order
    writing 1 (extensions 15 ++ base_rows_at 17) (an_extension ++ a_base) 270
    (an_extension ++ (an_extension ++ (an_extension ++ (an_extension ++ (an_extension ++ (an_extension ++ (an_extension ++ (an_extension ++ (an_extension ++ (an_extension ++ (an_extension ++ (an_extension ++ (an_extension ++ (an_extension ++ (an_extension ++ a_base))))))))))))))) ∷ []

abbrev pub unwritten : List Writing
unwritten =
    -- 1, before all else
    unwriting 0 [] [] 0 1 0 ∷ unwriting 3 (base_rows 5 9 []) a_base 0 1 0 ∷
    -- rows or slice end early
    fifteen 1 [] 0 ∷ fifteen_part 2 [] (2 ∷ []) 0 ∷ fifteen 1 (row 2 0 0 0 ∷ []) 1 ∷ fifteen 2 (row 2 0 0 0 ∷ row 3 0 3 1 ∷ []) 2 ∷ unwriting 1 (extension_rows 0) an_extension 1000 15 3 ∷
    fifteen_part 1 (base_rows 5 9 []) (22 ∷ []) 3 ∷ fifteen_part 2 (base_rows 5 9 []) (22 ∷ 0 ∷ 15 ∷ 1 ∷ []) 3 ∷ fifteen 1 (base_rows 5 9 (row 27 0 15 1 ∷ [])) 4 ∷ fifteen 2 (base_rows 5 9 (row 13 0 0 0 ∷ [])) 4 ∷
    -- envelopes: none first, one behind the base, an own row of another level or length, a head that is not whole
    fifteen 1 (row 3 0 3 1 ∷ []) 0 ∷ fifteen 2 (base_rows 5 9 (row 1 0 0 0 ∷ [])) 3 ∷ fifteen 1 (base_rows 5 9 (row 2 0 0 0 ∷ [])) 3 ∷
    fifteen 1 (row 2 1 0 0 ∷ []) 0 ∷ fifteen 2 (row 1 0 0 1 ∷ []) 0 ∷ fifteen 1 (row 1 0 0 0 ∷ row 8 0 15 1 ∷ base_rows 5 9 []) 2 ∷
    -- views past the pool
    unwriting 1 (row 2 0 16 0 ∷ []) a_base 0 15 0 ∷ unwriting 2 (row 2 0 0 0 ∷ row 3 0 15 1 ∷ []) a_base 0 15 1 ∷
    unwriting 1 (row 2 0 0 0 ∷ row 3 0 4294967295 4294967295 ∷ []) a_base 0 15 1 ∷ unwriting 2 (row 2 0 0 0 ∷ row 3 0 0 16 ∷ []) a_base 0 15 1 ∷
    -- kinds that are none, levels, opening rows with bytes
    fifteen 1 (base_rows 5 9 (row 0 0 0 0 ∷ [])) 3 ∷ fifteen 2 (base_rows 5 9 (row 30 0 0 0 ∷ [])) 3 ∷ fifteen 1 (base_rows 5 9 (row 22 1 15 1 ∷ [])) 3 ∷
    fifteen 2 (base_rows 5 9 (row 12 0 15 1 ∷ [])) 3 ∷ fifteen 1 (base_rows 5 9 (row 12 0 0 0 ∷ row 15 0 15 1 ∷ [])) 4 ∷ fifteen 2 (base_rows 5 9 (row 12 0 0 0 ∷ row 15 2 15 1 ∷ [])) 4 ∷
    fifteen 1 (base_rows 5 9 (row 17 1 15 1 ∷ [])) 3 ∷ fifteen 2 (base_rows 5 9 (row 13 0 0 0 ∷ row 15 1 15 1 ∷ row 15 1 15 1 ∷ [])) 5 ∷
    fifteen 1 (base_rows 5 9 (row 13 0 0 0 ∷ row 15 1 15 1 ∷ row 18 1 0 0 ∷ row 16 1 0 0 ∷ [])) 6 ∷
    -- values: text, number, representation, date; what the edition lacks
    fifteen 1 (base_rows 5 9 (row 22 0 15 2 ∷ [])) 3 ∷ fifteen 2 (base_rows 5 9 (row 22 0 19 1 ∷ [])) 3 ∷ fifteen 1 (base_rows 5 9 (row 23 0 18 1 ∷ [])) 3 ∷ fifteen 2 (base_rows 5 9 (row 23 0 18 2 ∷ [])) 3 ∷ fifteen 2 (base_rows 5 9 (row 23 0 0 0 ∷ [])) 3 ∷
    fifteen 1 (base_rows 5 9 (row 3 0 17 1 ∷ [])) 3 ∷ fifteen 2 (base_rows 5 9 (row 3 0 3 2 ∷ [])) 3 ∷ fifteen 1 (base_rows 5 9 (row 3 0 3 0 ∷ [])) 3 ∷ fifteen 1 (row 2 0 0 0 ∷ row 3 0 3 1 ∷ row 5 0 5 8 ∷ []) 2 ∷ fifteen 2 (row 2 0 0 0 ∷ row 3 0 3 1 ∷ row 5 0 6 9 ∷ []) 2 ∷
    fifteen 1 (row 2 0 0 0 ∷ row 3 0 3 1 ∷ row 6 0 5 9 ∷ []) 2 ∷ fifteen 2 (base_rows 5 9 (row 25 0 0 0 ∷ [])) 3 ∷ unwriting 1 (extension_rows 0 ++ (row 19 1 3 1 ∷ [])) an_extension 1000 15 3 ∷ unwriting 1 (extension_rows 0 ++ (row 11 1 3 1 ∷ row 10 1 3 1 ∷ [])) an_extension 1000 15 4 ∷
    -- agent level 9
    fifteen 1 (base_rows 5 9 (row 12 0 0 0 ∷ levels 8 1)) 20 ∷ fifteen 2 (base_rows 5 9 (row 13 0 0 0 ∷ levels 8 1)) 20 ∷
    -- 5 behind 15 and before 16: the 17th envelope's row
    unwriting 1 (extensions 16 ++ base_rows_at 17) (an_extension ++ a_base) 0 5 48 ∷ unwriting 2 (extensions 17 ++ base_rows_at 17) (an_extension ++ a_base) 0 5 48 ∷ unwriting 1 (extensions 17) (an_extension ++ a_base) 0 15 51 ∷
    unwriting 1 (base_rows 5 9 []) a_base 14 16 15 ∷ unwriting 2 (base_rows 5 9 []) a_base 0 16 15 ∷ []

-- the short form up to 65,535 bytes, the limit 1,048,576; a block's length form by its bytes, up to the one that it cannot hold
abbrev pub sizes : Bool
sizes =
    eqb (envelope_size 65532) 65535 && eqb (envelope_size 65533) 65540 && within_limit 1048569 && not (within_limit 1048570) &&
    same (envelope_length 65532) (hex 0x1_ff_ff) && same (envelope_length 65533) (hex 0x1_00_00_00_01_00_04) &&
    same (length_bytes two_bytes 0x1234) (hex 0x1_12_34) && same (length_bytes four_bytes 0x12345678) (hex 0x1_12_34_56_78) && eqb (past four_bytes) 4294967296 &&
    block_ok one_byte (replicate 255 7) && not (block_ok one_byte (replicate 256 7)) && not (block_ok two_bytes (replicate 255 7)) &&
    block_ok two_bytes (replicate 65535 7) && not (block_ok two_bytes (replicate 65536 7)) && not (block_ok four_bytes (replicate 65535 7)) && block_ok four_bytes (replicate 65536 7)

-- lent memory, and the payload's part
abbrev lent : ℕ → List ℕ
lent n = replicate n 99

abbrev pub memory : Bool
memory =
    reply_is 0 15 3 (read_answer 1 a_base (lent (3 * row_width)) (lent 16)) && same (read_rows 1 a_base (lent (3 * row_width + 1)) (lent 16)) (in_memory (base_rows 5 9 []) ++ lent 1) &&
    reply_is 14 15 3 (read_answer 2 a_base (lent (3 * row_width - 1)) (lent 16)) && same (read_rows 2 a_base (lent (3 * row_width - 1)) (lent 16)) (lent (3 * row_width - 1)) &&
    reply_is 6 3 0 (read_answer 2 (hex 0x1_fe_00_03) (lent 8) (lent 16)) && same (read_rows 2 (hex 0x1_fe_00_03) (lent 8) (lent 16)) (lent 8) &&
    reply_is 0 15 3 (write_answer 2 (in_memory (base_rows 5 9 [])) a_base (lent 15)) && same (write_output 2 (in_memory (base_rows 5 9 [])) a_base (lent 17)) (a_base ++ lent 2) &&
    reply_is 16 15 0 (write_answer 1 (in_memory (base_rows 5 9 [])) a_base (lent 14)) && same (write_output 1 (in_memory (base_rows 5 9 [])) a_base (lent 14)) (lent 14)

abbrev pub payload : Bool
payload =
    eqb (payload_start 1 (a_base ++ hex 0x1_07_08)) 15 && eqb (payload_end 1 (a_base ++ hex 0x1_07_08)) 17 && same (payload_bytes 2 (a_base ++ hex 0x1_07_08)) (hex 0x1_07_08) &&
    eqb (payload_start 3 a_base) 0 && eqb (payload_end 2 (hex 0x1_fe_00)) 0 && same (payload_bytes 1 (hex 0x1_fe_00)) []

abbrev pub numbers_read : List Number
numbers_read =
    number [] 10 0 0 ∷ number (hex 0x1_23) 10 1 0 ∷ number (hex 0x1_80_00) 10 1 0 ∷ number (hex 0x1_23_00_00) 10 2 0 ∷ number (hex 0x1_23_40) 0 2 123 ∷ number (hex 0x1_21_10) 0 2 100 ∷
    number (hex 0x1_11_00) 10 0 0 ∷ number (hex 0x1_ab) 10 0 0 ∷ number (hex 0x1_53_a5_a7_83_a6_10) 10 5 0 ∷ []

abbrev pub numbers_written : Bool
numbers_written =
    encodes 0 (hex 0x1_10) && encodes 7 (hex 0x1_80) && encodes 12 (hex 0x1_23_00) && encodes 99 (hex 0x1_aa_00) && encodes 100 (hex 0x1_21_10) &&
    encodes 4294967295 (hex 0x1_53_a5_a7_83_a6_00) && outcome_is 10 0 (number_encoded 4294967296 99) && outcome_is 16 2 (number_encoded 12 1) &&
    same (number_output 12 (lent 3)) (0x23 ∷ 0x00 ∷ 99 ∷ []) && same (number_output 4294967295 (lent 6)) (hex 0x1_53_a5_a7_83_a6_00) && same (number_output 12 (lent 1)) (lent 1) && same (number_output 4294967296 (lent 9)) (lent 9)

abbrev decoding : ℕ → List ℕ → ℕ → ℕ → List ℕ → DateRead
decoding kind s answer place xs = record { kind = kind; bytes = s; answer = answer; place = place; components = xs }

abbrev undecoding : ℕ → List ℕ → ℕ → DateRead
undecoding kind s at = decoding kind s 9 at (replicate 8 0)

abbrev a_date_is : ℕ → List ℕ
a_date_is z = 2000 ∷ 5 ∷ 8 ∷ 4 ∷ 26 ∷ 51 ∷ 481 ∷ z ∷ []

abbrev pub dates_read : List DateRead
dates_read =
    decoding 5 a_date 0 9 (a_date_is 0) ∷ decoding 6 a_date 0 9 (a_date_is 0) ∷ decoding 7 (a_date ++ hex 0x1_5a) 0 10 (a_date_is 90) ∷ decoding 6 (replicate 8 0xaa ++ hex 0x1_a0) 0 9 (9999 ∷ 99 ∷ 99 ∷ 99 ∷ 99 ∷ 99 ∷ 999 ∷ 0 ∷ []) ∷
    undecoding 4 a_date 0 ∷ undecoding 8 a_date 0 ∷ undecoding 5 [] 0 ∷ undecoding 5 (take 8 a_date) 8 ∷ undecoding 5 (a_date ++ hex 0x1_5b) 9 ∷ undecoding 6 (a_date ++ hex 0x1_5a_5a) 10 ∷ undecoding 5 (replicate 8 0xaa ++ hex 0x1_a0) 2 ∷ []

abbrev date_of : ℕ → ℕ → ℕ → ℕ → ℕ → ℕ → ℕ → ℕ → Date
date_of y mo d h mi s ms z = record { year = y; month = mo; day = d; hour = h; minute = mi; second = s; millisecond = ms; designator = z }

abbrev encoding : ℕ → Date → ℕ → ℕ → ℕ → DateWritten
encoding kind d room answer place = record { kind = kind; date = d; answer = answer; place = place; room = room }

-- within its range, and one over
abbrev fine : ℕ → Date → DateWritten
fine kind d = encoding kind d 9 0 9

abbrev over : ℕ → Date → DateWritten
over kind d = encoding kind d 9 9 0

abbrev pub dates_written : List DateWritten
dates_written =
    fine 5 (date_of 9999 12 31 23 59 59 999 0) ∷ fine 5 (date_of 0 1 1 0 0 0 0 0) ∷ over 5 (date_of 10000 12 31 23 59 59 999 0) ∷ over 5 (date_of 9999 13 31 23 59 59 999 0) ∷ over 5 (date_of 9999 0 31 23 59 59 999 0) ∷ over 5 (date_of 9999 12 32 23 59 59 999 0) ∷
    over 5 (date_of 9999 12 0 23 59 59 999 0) ∷ over 5 (date_of 9999 12 31 24 59 59 999 0) ∷ over 5 (date_of 9999 12 31 23 60 59 999 0) ∷ over 5 (date_of 9999 12 31 23 59 60 999 0) ∷ over 5 (date_of 9999 12 31 23 59 59 1000 0) ∷
    fine 6 (date_of 9999 99 99 99 99 99 999 0) ∷ fine 7 (date_of 0 0 0 0 0 0 0 0) ∷ over 6 (date_of 10000 99 99 99 99 99 999 0) ∷ over 7 (date_of 9999 100 99 99 99 99 999 0) ∷ over 6 (date_of 9999 99 100 99 99 99 999 0) ∷
    over 6 (date_of 9999 99 99 100 99 99 999 0) ∷ over 6 (date_of 9999 99 99 99 100 99 999 0) ∷ over 6 (date_of 9999 99 99 99 99 100 999 0) ∷ over 6 (date_of 9999 99 99 99 99 99 1000 0) ∷
    encoding 5 (date_of 2000 5 8 4 26 51 481 90) 10 0 10 ∷ encoding 7 (date_of 2000 5 8 4 26 51 481 90) 9 16 10 ∷ encoding 6 (date_of 2000 5 8 4 26 51 481 0) 8 16 9 ∷
    over 5 (date_of 2000 5 8 4 26 51 481 0x40) ∷ over 5 (date_of 2000 5 8 4 26 51 481 0x7b) ∷ over 6 (date_of 2000 5 8 4 26 51 481 0x141) ∷ over 4 (date_of 2000 5 8 4 26 51 481 0) ∷ over 8 (date_of 2000 5 8 4 26 51 481 0) ∷ []

abbrev pub date_outputs : Bool
date_outputs =
    same (date_bytes (date_of 2000 5 8 4 26 51 481 90)) (a_date ++ hex 0x1_5a) && same (date_output 5 (date_of 2000 5 8 4 26 51 481 0) (lent 10)) (a_date ++ lent 1) &&
    same (date_output 5 (date_of 2000 5 8 4 26 51 481 0) (lent 8)) (lent 8) && same (date_output 4 (date_of 2000 5 8 4 26 51 481 0) (lent 10)) (lent 10)

-- document 01's own listing, with order 7's skip numbers; a refusal; an input at the limit and one byte over
abbrev example : List ℕ
example =
    hex 0x1_30_09_32_30_09_35_0a ++ (
    hex 0x1_32_09_30_09_30_09_30_09_35_09_2d_0a ++ (
    hex 0x1_33_09_30_09_33_09_31_09_32_09_31_32_0a ++ (
    hex 0x1_35_09_30_09_35_09_39_09_33_09_33_31_31_31_31_36_31_39_31_35_33_37_36_32_35_39_32_30_0a ++ (
    hex 0x1_31_33_09_30_09_31_34_09_30_09_35_09_2d_0a ++ (
    hex 0x1_31_35_09_31_09_31_36_09_31_09_35_09_36_31_0a)))))

abbrev pub listings : Bool
listings =
    same (listing 2 (base_with 0x14 0x20 (hex 0x1_03_02_61_00_01_01_28))) example && same (listing 1 (hex 0x1_fe_00)) (hex 0x1_32_09_32_09_30_0a) &&
    same (listing 1 (base_with 0x13 0x20 (hex 0x1_0b_17_00_00_01))) (hex 0x1_31_31_09_31_35_09_30_0a) && same (listing 1 (base_with 0x0f 0x21 (hex 0x1_01))) (hex 0x1_39_09_31_34_09_30_0a) && eqb rows_lent 3072 &&
    same (listing_of 2 (read 1 a_base)) (hex 0x1_31_34_09_31_35_09_33_0a) && eqb (length (listing_of 3 (read 1 a_base))) 61 && same (viewed (hex 0x1_9a_f0_0b)) (hex 0x1_39_61_66_30_30_62) &&
    -- each hex digit in each half of a byte
    same (viewed (hex 0x1_01_23_45_67_89_ab_cd_ef)) (hex 0x1_30_31_32_33_34_35_36_37_38_39_61_62_63_64_65_66) && same (viewed (hex 0x1_fe_dc_ba_98_76_54_32_10)) (hex 0x1_66_65_64_63_62_61_39_38_37_36_35_34_33_32_31_30) &&
    same (listing 1 (replicate 65536 0)) (hex 0x1_33_09_30_09_30_0a) && same (listing 2 (replicate 65537 0)) (hex 0x1_74_6f_6f_20_6c_6f_6e_67_0a)
