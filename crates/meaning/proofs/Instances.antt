-- Document 01, "Checked instances": those with *, one table under one theorem.
use Rattle.std.specs.Prelude.{ℕ, List, [], ◌∷◌, ◌&&◌, T}
use Rattle.meaning.specs.Basics.{every}
use Rattle.meaning.specs.Bytes.{text_byte, take_text, turn, take_number, last_day, passes, take_date, high_first, too_wide, take_bytes, block_of, take_block}
use Rattle.meaning.specs.Editions.{shared, own, moves}
use Rattle.meaning.specs.Reading.{take_value, find, look, step_move, step, run, inside}
use Rattle.meaning.specs.Skips.{belongs, belonging}
use Rattle.meaning.specs.Headers.{envelope, header, read_by}
use Rattle.meaning.specs.Plain.{number_value, decode_number, number_decoded, number_plain}
use Rattle.meaning.specs.Memory.{row}
use Rattle.meaning.specs.Cases.{hex, base_with, base_rows, Reading, accepts, refuses, reads, Number, number, decodes}

abbrev month06 : List ℕ
month06 = hex 0x1_fe_00_0f_12_20_31_11_06_19_15_37_62_59_20_01

abbrev readings : List Reading
readings =
    -- M, either edition: 0, 15, 3 rows. Empty input: 2 at 0
    accepts 1 (base_with 0x0f 0x20 (hex 0x1_01)) 15 (base_rows 5 9 []) ∷
    accepts 2 (base_with 0x0f 0x20 (hex 0x1_01)) 15 (base_rows 5 9 []) ∷
    refuses 1 [] 2 0 ∷
    refuses 2 [] 2 0 ∷
    -- M with month 06: 9 at 7. With length 0E: 6 at 14. With length 10: 2 at 15; with one byte more behind it, 13 at 15
    refuses 1 month06 9 7 ∷
    refuses 2 month06 9 7 ∷
    refuses 1 (base_with 0x0e 0x20 (hex 0x1_01)) 6 14 ∷
    refuses 2 (base_with 0x0e 0x20 (hex 0x1_01)) 6 14 ∷
    refuses 1 (base_with 0x10 0x20 (hex 0x1_01)) 2 15 ∷
    refuses 2 (base_with 0x10 0x20 (hex 0x1_01)) 2 15 ∷
    refuses 1 (base_with 0x10 0x20 (hex 0x1_01_77)) 13 15 ∷
    refuses 2 (base_with 0x10 0x20 (hex 0x1_01_77)) 13 15 ∷
    -- M with date code 21: D accepts kind 6; B gives 9 at 14
    accepts 2 (base_with 0x0f 0x21 (hex 0x1_01)) 15 (base_rows 6 9 []) ∷
    refuses 1 (base_with 0x0f 0x21 (hex 0x1_01)) 9 14 ∷
    -- with length 10, date code 21 and a designator: B accepts, date length 10; D gives 7 at 14
    accepts 1 (base_with 0x10 0x21 (hex 0x1_5a_01)) 16 (base_rows 5 10 []) ∷
    refuses 2 (base_with 0x10 0x21 (hex 0x1_5a_01)) 7 14 ∷
    -- with 08 01 01: B accepts 4 rows; D gives 7 at 14
    accepts 1 (base_with 0x11 0x20 (hex 0x1_08_01_01)) 17 (base_rows 5 9 (row 25 0 14 0 ∷ [])) ∷
    refuses 2 (base_with 0x11 0x20 (hex 0x1_08_01_01)) 7 14 ∷ []

abbrev numbers : List Number
numbers =
    number (hex 0x1_80) 0 1 7 ∷
    number (hex 0x1_23_00) 0 2 12 ∷
    number (hex 0x1_10) 0 1 0 ∷
    number (hex 0x1_12) 10 0 0 ∷
    number (hex 0x1_00) 10 0 0 ∷
    number (hex 0x1_53_a5_a7_83_a6_00) 0 6 4294967295 ∷
    number (hex 0x1_53_a5_a7_83_a7_00) 10 4 0 ∷ []

pub starred : T (every reads readings && every decodes numbers)
unfolding text_byte take_text turn take_number last_day passes take_date high_first too_wide take_bytes block_of take_block shared own moves take_value find look step_move step run inside envelope header read_by belongs belonging number_value decode_number number_decoded number_plain
starred = tt
