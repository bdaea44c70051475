-- One case for each of the wrong definitions that the other tables tell late: it stands before them, so that such a definition is told in seconds.
use Rattle.std.specs.Prelude.{ℕ, ◌+◌, List, [], ◌∷◌, ◌++◌, Bool, ◌&&◌, not, length, replicate}
use Rattle.meaning.specs.Basics.{every}
use Rattle.meaning.specs.Told.{tolerant}
use Rattle.meaning.specs.Headers.{read_by}
use Rattle.meaning.specs.Writing.{is_short}
use Rattle.meaning.specs.Memory.{Numbers, row, read_reply}
use Rattle.meaning.specs.Cases.{joined, hex, a_date, base_rows, reply_is, Reading, accepts, refuses, reads, writes, unwriting}
use Rattle.meaning.specs.AcceptedCases.{offset, with_parameters, an_extension}

abbrev stops : List ℕ → ℕ → ℕ → Reading
stops s refusal at = refuses 1 (with_parameters s) refusal (14 + at)

abbrev goes : List ℕ → List Numbers → Reading
goes s rows = accepts 1 (with_parameters s) (15 + length s) (base_rows 5 9 (offset rows))

-- agents of levels 1 to 8, each in the resolvers of the one before it, and the list that the last one opens
abbrev eight_levels : List ℕ
eight_levels = 0x02 ∷ joined (replicate 8 (hex 0x1_02_61_00_03))

abbrev readings : List Reading
readings =
    -- texts, by their rule
    stops (hex 0x1_07_61_1f) 8 2 ∷ stops (hex 0x1_05_0b) 8 1 ∷ stops (hex 0x1_02_02_61_09) 8 3 ∷ goes (hex 0x1_00_6b_00_09_00) (row 27 0 1 1 ∷ row 28 0 3 1 ∷ []) ∷
    -- received objects: a date's code, and what stands after via
    stops (hex 0x1_0a_62_00_1f) 9 3 ∷ stops (hex 0x1_0a_62_00_20 ++ (a_date ++ hex 0x1_04_00_03)) 7 15 ∷
    -- a relative date has any digits
    accepts 2 (hex 0x1_fe_00_10_12_25 ++ (replicate 8 0xaa ++ hex 0x1_a0_6d_01)) 16 (base_rows 6 10 []) ∷
    -- resolvers, and the deepest that there are
    goes (hex 0x1_03_02_61_00_03_01_01) (row 13 0 0 0 ∷ row 15 1 2 1 ∷ row 18 1 4 0 ∷ []) ∷ stops (eight_levels ++ hex 0x1_02_61_00) 12 33 ∷
    -- an input that ends in a later envelope's length
    refuses 1 (an_extension ++ hex 0x1_fe_00) 2 (length an_extension + 2) ∷ []

-- the ninth list may be opened, if it is empty
abbrev ninth_list : Bool
ninth_list = reply_is 0 65 20 (read_reply 64 (read_by tolerant 1 (with_parameters (eight_levels ++ replicate 17 0x01))))

-- a wide length read tolerantly, in a base that stands after an extension
abbrev wide_after : Bool
wide_after = reply_is 0 (length an_extension + 20) 8 (read_reply 64 (read_by tolerant 1 (an_extension ++ with_parameters (hex 0x1_0b_17_00_01_07))))

abbrev pub quick : Bool
quick = every reads readings && ninth_list && wide_after && is_short 65532 && not (is_short 65533) && writes (unwriting 1 (base_rows 5 9 (row 23 0 14 1 ∷ [])) (with_parameters (0x23 ∷ [])) 64 15 3)
