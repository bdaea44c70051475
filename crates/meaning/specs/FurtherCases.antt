-- What a wrong definition could hide between the bounds: bytes inside a range, faults in later envelopes and in the long form, numbers left over, lent memory and the payload's
-- part after each refusal, the coders' kinds and order of refusals, levels far from the one expected.
use Rattle.std.specs.Prelude.{ℕ, zero, suc, ◌+◌, List, [], ◌∷◌, ◌++◌, Bool, ◌&&◌, ◌||◌, eqb, take, drop, replicate}
use Rattle.meaning.specs.Basics.{pick, every}
use Rattle.meaning.specs.Told.{B, told}
use Rattle.meaning.specs.Reading.{Row, seen, row_of}
use Rattle.meaning.specs.Headers.{placed_row, meant, header}
use Rattle.meaning.specs.Memory.{Numbers, row, read_reply, read_answer, read_rows, read_words, write_answer, write_output}
use Rattle.meaning.specs.Present.{present_answer}
use Rattle.meaning.specs.Relay.{relay_answer, relay_output}
use Rattle.meaning.specs.Listing.{listing}
use Rattle.meaning.specs.Payload.{payload_start, payload_end, payload_bytes}
use Rattle.meaning.specs.Plain.{Date, number_encoded, date_encoded}
use Rattle.meaning.specs.Cases.{same, joined, up_from, hex, a_date, base_with, base_rows, reply_is, in_memory, Reading, refuses, reads, Writing, unwriting, unwriting_part, writes, outcome_is, Number, number, decodes, encodes, DateRead, dates_read}
use Rattle.meaning.specs.AcceptedCases.{an_extension, extension_rows, base_rows_at}

abbrev a_base : List ℕ
a_base = base_with 0x0f 0x20 (hex 0x1_01)

-- Values

-- each digit in each half of a byte, in numbers of ten digits; and ten and eleven that are too large
abbrev pub numbers : List Number
numbers =
    number (hex 0x1_23_45_67_89_a1_00) 0 6 1234567890 ∷ number (hex 0x1_43_21_a9_87_65_00) 0 6 3210987654 ∷ number (hex 0x1_a9_87_65_43_20) 0 5 987654321 ∷
    number (hex 0x1_aa_aa_aa_aa_aa_00) 10 4 0 ∷ number (hex 0x1_21_11_11_11_11_10) 10 5 0 ∷
    -- several bytes left over: the first of them
    number (hex 0x1_80_00_00) 10 1 0 ∷ number (hex 0x1_10_23_45_60) 10 1 0 ∷ number (hex 0x1_23_00_80_23_00) 10 2 0 ∷ []

abbrev decoding : ℕ → List ℕ → ℕ → ℕ → List ℕ → DateRead
decoding kind s answer place xs = record { kind = kind; bytes = s; answer = answer; place = place; components = xs }

-- digits in each half of a date's bytes; kinds that are no date's, with a date's bytes and with none
abbrev pub dates : List DateRead
dates =
    decoding 6 (hex 0x1_12_34_56_78_9a_21_43_65_80) 0 9 (123 ∷ 45 ∷ 67 ∷ 89 ∷ 10 ∷ 32 ∷ 547 ∷ 0 ∷ []) ∷ decoding 7 (hex 0x1_a9_87_65_43_21_aa_19_28_70) 0 9 (9876 ∷ 54 ∷ 32 ∷ 10 ∷ 99 ∷ 8 ∷ 176 ∷ 0 ∷ []) ∷
    decoding 0 a_date 9 0 (replicate 8 0) ∷ decoding 4 [] 9 0 (replicate 8 0) ∷ decoding 8 (a_date ++ hex 0x1_5a) 9 0 (replicate 8 0) ∷ decoding 0 [] 9 0 (replicate 8 0) ∷
    decoding 5 (a_date ++ hex 0x1_5a_5a_5a) 9 10 (replicate 8 0) ∷ decoding 7 (a_date ++ (hex 0x1_5a ++ a_date)) 9 10 (replicate 8 0) ∷ []

abbrev a_plain_date : ℕ → Date
a_plain_date month = record { year = 2000; month = month; day = 8; hour = 4; minute = 26; second = 51; millisecond = 481; designator = 0 }

-- range before room, a kind before both; more room than is needed
abbrev encoders : Bool
encoders =
    outcome_is 0 2 (number_encoded 12 3) && outcome_is 0 6 (number_encoded 4294967295 99) && outcome_is 0 9 (date_encoded 5 (a_plain_date 12) 10) && outcome_is 0 9 (date_encoded 7 (a_plain_date 99) 99) &&
    encodes 1234567890 (hex 0x1_23_45_67_89_a1_00) && encodes 3210987654 (hex 0x1_43_21_a9_87_65_00) && outcome_is 10 0 (number_encoded 4294967296 0) && outcome_is 10 0 (number_encoded 18446744073709551615 6) &&
    outcome_is 9 0 (date_encoded 5 (a_plain_date 13) 0) && outcome_is 9 0 (date_encoded 6 (a_plain_date 100) 0) && outcome_is 16 9 (date_encoded 5 (a_plain_date 12) 0) &&
    outcome_is 9 0 (date_encoded 0 (a_plain_date 5) 9) && outcome_is 9 0 (date_encoded 4 (a_plain_date 5) 0) && outcome_is 9 0 (date_encoded 8 (a_plain_date 5) 99)

-- Faults in an extension, and in the second and third envelope: the same number, so many bytes later

abbrev later : List ℕ → ℕ → ℕ → List Reading
later s refusal at =
    refuses 1 s refusal at ∷ refuses 2 (an_extension ++ s) refusal (17 + at) ∷ refuses 1 (an_extension ++ (an_extension ++ s)) refusal (34 + at) ∷ []

-- 65,540 bytes, the least that the long form has
abbrev long_form : ℕ → ℕ → List ℕ
long_form identifier first = identifier ∷ 0 ∷ 0 ∷ 0 ∷ 1 ∷ 0 ∷ 4 ∷ first ∷ replicate 65532 0x77

abbrev faults : List Reading
faults =
    joined (
    -- identifier and length; a date's byte, a parameter's code, a text's byte; closed early, needed at the end; the input's end
    later (hex 0x1_fd) 2 1 ∷ later (hex 0x1_fe_00) 2 2 ∷ later (hex 0x1_fe_00_00) 2 3 ∷ later (hex 0x1_fd_00_00_00) 2 4 ∷ later (hex 0x1_fe_00_00_00_01) 2 5 ∷ later (hex 0x1_fd_00_00_00_01_00) 2 6 ∷
    later (hex 0x1_fe_00_00_00_01_00_04) 2 7 ∷ later (hex 0x1_fd_00_00_00_01_00_04_61) 2 8 ∷ later (hex 0x1_fe_00_04) 2 3 ∷
    later (hex 0x1_fb) 3 0 ∷ later (hex 0x1_fd_00_02) 4 1 ∷ later (hex 0x1_fe_00_00_00_01_00_03) 4 1 ∷ later (hex 0x1_fd_00_00_00_10_00_01) 5 1 ∷
    later (take 8 an_extension ++ (0x06 ∷ drop 9 an_extension)) 9 8 ∷ later (hex 0x1_fd_00_12_61_00_20 ++ (a_date ++ hex 0x1_01_0c_01)) 7 16 ∷ later (hex 0x1_fd_00_05_61_1f) 8 4 ∷
    later (hex 0x1_fd_00_12_61_00_20 ++ (a_date ++ hex 0x1_01_01_77)) 13 17 ∷ later (hex 0x1_fd_00_10_61_00_20 ++ (a_date ++ hex 0x1_01)) 6 16 ∷ later (hex 0x1_fe_00_10_12) 2 4 ∷
    (refuses 1 (long_form 0xfe 0x13) 7 7 ∷ refuses 2 (long_form 0xfd 0x1f) 8 7 ∷ refuses 2 (an_extension ++ long_form 0xfe 0x13) 7 24 ∷ []) ∷ [])

-- "3: identifier not FD or FE": every byte, in front, behind an extension and as the seventeenth
abbrev is_identifier : ℕ → Bool
is_identifier b = eqb b 0xfd || eqb b 0xfe

abbrev identifies : ℕ → Bool
identifies b =
    let is = is_identifier b in
    reads (refuses 1 (b ∷ []) (pick is 2 3) (pick is 1 0)) && reads (refuses 2 (an_extension ++ (b ∷ [])) (pick is 2 3) (pick is 18 17)) && reply_is (pick is 5 3) 272 0 (read_reply 0 (header 0 (told B) 272 (b ∷ [])))

-- Lent memory and the payload's part after each refusal: nothing changes, and the part is the empty one at the front

abbrev nested : ℕ → List ℕ
nested zero = 2 ∷ []
nested (suc n) = hex 0x1_02_61_00_03 ++ nested n

abbrev refusals : List Reading
refusals =
    refuses 3 a_base 1 0 ∷ refuses 1 [] 2 0 ∷ refuses 1 (hex 0x1_fc) 3 0 ∷ refuses 2 (hex 0x1_fe_00_02) 4 1 ∷ refuses 1 (hex 0x1_fe_00_00_00_10_00_01) 5 1 ∷ refuses 2 (hex 0x1_fe_00_03) 6 3 ∷
    refuses 1 (base_with 0x10 0x20 (hex 0x1_0c_01)) 7 14 ∷ refuses 2 (base_with 0x11 0x20 (hex 0x1_05_1f_01)) 8 15 ∷ refuses 1 (base_with 0x0f 0x1f (hex 0x1_01)) 9 4 ∷
    refuses 2 (base_with 0x11 0x20 (hex 0x1_06_12_01)) 10 15 ∷ refuses 1 (base_with 0x13 0x20 (hex 0x1_0b_17_00_00_01)) 11 15 ∷ refuses 2 (base_with 0x31 0x20 (2 ∷ (nested 8 ++ hex 0x1_01))) 12 47 ∷
    refuses 2 (base_with 0x10 0x20 (hex 0x1_01_77)) 13 15 ∷ []

abbrev lent : ℕ → List ℕ
lent n = replicate n 99

abbrev keeps : Reading → Bool
keeps c =
    reply_is c.answer c.place 0 (read_answer c.edition c.input (lent 40) (lent 17)) && same (read_rows c.edition c.input (lent 40) (lent 17)) (lent 40) &&
    same (read_words c.edition c.input (lent 40) (lent 17)) (lent 17) && eqb (payload_start c.edition c.input) 0 && eqb (payload_end c.edition c.input) 0 && same (payload_bytes c.edition c.input) []

abbrev extensions : ℕ → List Numbers
extensions zero = base_rows_at 17
extensions (suc n) = extension_rows 0 ++ extensions n

abbrev keeps_output : ℕ → List ℕ → ℕ → ℕ → ℕ → Bool
keeps_output e table room answer place =
    let pool = an_extension ++ a_base in
    reply_is answer place 0 (write_answer e table pool (lent room)) && same (write_output e table pool (lent room)) (lent room)

abbrev outputs : Bool
outputs =
    keeps_output 3 (in_memory (base_rows_at 17)) 20 1 0 && keeps_output 1 (in_memory (row 2 0 0 0 ∷ [])) 20 15 1 && keeps_output 2 (in_memory (base_rows_at 17) ++ (0 ∷ [])) 20 15 3 && keeps_output 1 (2 ∷ 0 ∷ 0 ∷ 0 ∷ 3 ∷ 3 ∷ 0 ∷ 20 ∷ 1 ∷ 2 ∷ 5 ∷ 0 ∷ 22 ∷ 9 ∷ 4 ∷ []) 20 15 2 &&
    keeps_output 1 (in_memory (extensions 16)) 400 5 48 && keeps_output 2 (in_memory (extensions 16)) 0 5 48 && keeps_output 1 (in_memory (base_rows_at 17)) 14 16 15 && keeps_output 2 (in_memory (extensions 1)) 31 16 32

-- Tables: every count of numbers left over; levels far from the one expected

abbrev left_over : ℕ → Writing
left_over n = unwriting_part 1 (base_rows 5 9 []) (replicate n 0) a_base 99 15 3

abbrev nothing_but_over : ℕ → Writing
nothing_but_over n = unwriting_part 2 [] (replicate n 2) a_base 99 15 0

abbrev far_level : ℕ → List Writing
far_level n =
    unwriting 1 (row 2 n 0 0 ∷ []) a_base 99 15 0 ∷ unwriting 2 (base_rows 5 9 (row 22 n 3 1 ∷ [])) a_base 99 15 3 ∷ unwriting 1 (base_rows 5 9 (row 12 0 0 0 ∷ row 15 (suc n) 3 1 ∷ [])) a_base 99 15 4 ∷
    unwriting 2 (base_rows 5 9 (row 13 n 0 0 ∷ [])) a_base 99 15 3 ∷ []

abbrev tables : List Writing
tables =
    joined ((left_over 1 ∷ left_over 2 ∷ left_over 3 ∷ left_over 4 ∷ nothing_but_over 1 ∷ nothing_but_over 2 ∷ nothing_but_over 3 ∷ nothing_but_over 4 ∷ []) ∷ far_level 1 ∷ far_level 7 ∷ far_level 100 ∷ far_level 4294967294 ∷ [])

-- "1: edition not 1 or 2; before all else": in every call that takes an edition
abbrev not_known : ℕ → Bool
not_known e =
    reads (refuses e a_base 1 0) && reads (refuses e [] 1 0) && keeps (refuses e a_base 1 0) && writes (unwriting e (base_rows 5 9 []) a_base 99 1 0) && writes (unwriting e [] [] 0 1 0) &&
    same (write_output e (in_memory (base_rows 5 9 [])) a_base (lent 17)) (lent 17) && reply_is 1 0 0 (present_answer e (in_memory (base_rows 5 9 [])) a_base 0x04) && reply_is 1 0 0 (present_answer e [] [] 0xff) &&
    reply_is 1 0 0 (relay_answer e a_base (in_memory (extension_rows 0)) an_extension (lent 30) (lent 16) (lent 32)) && same (relay_output e a_base (in_memory (extension_rows 0)) an_extension (lent 30) (lent 16) (lent 32)) (lent 32) &&
    same (listing e a_base) (hex 0x1_31_09_30_09_30_0a)

abbrev editions : List ℕ
editions = 0 ∷ 3 ∷ 4 ∷ 12 ∷ 255 ∷ 256 ∷ 257 ∷ 258 ∷ 65537 ∷ 65538 ∷ 4294967295 ∷ []

-- "Two tables mean the same .. if they have equal .. kinds, levels, lengths and viewed bytes; starts may differ": what a row says, where it starts aside
abbrev says : ℕ → ℕ → List ℕ → Row → Bool
says kind level view r = eqb r.kind kind && eqb r.level level && same r.view view

abbrev meanings : Bool
meanings = says 17 3 (hex 0x1_61_62) (row_of (seen 17 3 40 (hex 0x1_61_62))) && says 17 3 (hex 0x1_61_62) (meant (placed_row 17 3 40 (hex 0x1_61_62)))

abbrev pub further : Bool
further =
    meanings &&
    every not_known editions && every decodes numbers && every dates_read dates && encoders && every reads faults && every identifies (up_from 0 256) && every reads refusals && every keeps refusals && outputs && every writes tables
