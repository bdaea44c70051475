-- The long length form: a header that has it, and each place and number of its stage, for a base and for an extension that others follow; and a table of more
-- rows than the listing lends.
use Rattle.std.specs.Prelude.{ℕ, List, [], ◌∷◌, ◌++◌, map, Bool, true, false, ◌&&◌, length, replicate}
use Rattle.meaning.specs.Told.{Edition, B, D, told}
use Rattle.meaning.specs.Headers.{Placed, Answer, header, envelope, read}
use Rattle.meaning.specs.Listing.{listing}
use Rattle.meaning.specs.Memory.{Numbers, row, numbers_of, read_reply}
use Rattle.meaning.specs.Cases.{same, hex, a_date, base_with, reply_is, table_is, rows_in, in_memory}
use Rattle.meaning.specs.AcceptedCases.{base_rows_at}

abbrev a_base : List ℕ
a_base = base_with 0x0f 0x20 (hex 0x1_01)

-- an extension of 65,566 bytes: received by `a`, transport behaviour of 65,536 bytes, a comment
abbrev long_extension : List ℕ
long_extension = hex 0x1_fd_00_00_00_01_00_1e_61_00_20 ++ (a_date ++ (hex 0x1_01_0b_19_00_01_00_00 ++ (replicate 65536 7 ++ hex 0x1_05_63_00_01)))

abbrev start_of : Placed → ℕ
start_of r = r.start

abbrev length_of : Placed → ℕ
length_of r = (numbers_of r).length

abbrev accepted : Bool
accepted =
    let a = read 2 (long_extension ++ a_base) in
    reply_is 0 65581 9 (read_reply 64 a) && same (map start_of (rows_in a)) (0 ∷ 7 ∷ 10 ∷ 20 ∷ 26 ∷ 65563 ∷ 65566 ∷ 65569 ∷ 65571 ∷ []) && same (map length_of (rows_in a)) (0 ∷ 1 ∷ 9 ∷ 0 ∷ 65536 ∷ 1 ∷ 0 ∷ 1 ∷ 9 ∷ [])

-- The stage behind the length's six bytes: an envelope of n declared bytes from 17 on, seven of them before these. So few bytes as can be computed, where the
-- long form has 65,540 at least; `least` says from how many on it is none too few

abbrev staged : Edition → Bool → ℕ → ℕ → List ℕ → Answer
staged e base least n s = envelope (told e) base least 17 7 n s (header 15 (told e))

abbrev stage_accepts : Edition → Bool → ℕ → List ℕ → ℕ → List Numbers → Bool
stage_accepts e base n s place rows = let a = staged e base n n s in reply_is 0 place (length rows) (read_reply 64 a) && table_is (replicate 24 0 ++ s) (in_memory rows) a

abbrev stage_refuses : Bool → ℕ → ℕ → List ℕ → ℕ → ℕ → Bool
stage_refuses base least n s answer place = reply_is answer place 0 (read_reply 64 (staged B base least n s)) && reply_is answer place 0 (read_reply 64 (staged D base least n s))

-- M's inside, a payload byte behind it; an extension's, and M behind it
abbrev inside_base : List ℕ
inside_base = hex 0x1_12_20 ++ (a_date ++ hex 0x1_01_77)

abbrev inside_extension : List ℕ
inside_extension = hex 0x1_61_00_20 ++ (a_date ++ (hex 0x1_01_01 ++ a_base))

abbrev pub stages : Bool
stages =
    stage_accepts B true 19 inside_base 36 (row 2 0 17 0 ∷ row 3 0 24 1 ∷ row 5 0 26 9 ∷ []) && stage_accepts D true 19 inside_base 36 (row 2 0 17 0 ∷ row 3 0 24 1 ∷ row 5 0 26 9 ∷ []) &&
    stage_accepts B false 21 inside_extension 53 (row 1 0 17 0 ∷ row 8 0 24 1 ∷ row 5 1 27 9 ∷ base_rows_at 38) && stage_accepts D false 21 inside_extension 53 (row 1 0 17 0 ∷ row 8 0 24 1 ∷ row 5 1 27 9 ∷ base_rows_at 38) &&
    -- needed at the declared end, closed before it, the input's end before it; too few, too many
    stage_refuses true 18 18 inside_base 6 35 && stage_refuses true 19 20 inside_base 13 36 && stage_refuses true 19 21 inside_base 2 37 && stage_refuses true 20 19 inside_base 4 18 && stage_refuses true 19 1048577 inside_base 5 18 && stage_refuses true 19 1048576 inside_base 2 37 &&
    stage_refuses false 20 20 inside_extension 6 37 && stage_refuses false 21 22 inside_extension 13 38 && stage_refuses false 21 37 inside_extension 2 53 && stage_refuses false 22 21 inside_extension 4 18 && stage_refuses false 21 1048577 inside_extension 5 18 &&
    -- inside: the representation, the date; the next envelope's identifier and inside
    stage_refuses true 12 12 (hex 0x1_13_20_31_11_16) 7 24 && stage_refuses true 12 12 (hex 0x1_12_20_31_11_06) 9 28 && stage_refuses false 9 9 (hex 0x1_61_1f) 8 25 &&
    stage_refuses false 21 21 (hex 0x1_61_00_20 ++ (a_date ++ hex 0x1_01_01_fc)) 3 38 && stage_refuses false 21 21 (hex 0x1_61_00_20 ++ (a_date ++ hex 0x1_01_01_fe_00_04_13)) 7 41

-- "the listing program lends 3,072 rows": 3,069 empty encrypted items make 3,073
abbrev many_rows : Bool
many_rows = same (listing 1 (hex 0x1_fe_0c_0e_12_20 ++ (a_date ++ (0x08 ∷ (replicate 3069 0 ++ hex 0x1_01_01))))) (hex 0x1_31_34_09_33_30_38_36_09_33_30_37_33_0a)

abbrev pub long : Bool
long = accepted && many_rows
