-- Order 6: the words of headers, given as numbers and not by the definition; the room that they take; and counts of ones.
use Rattle.std.specs.Prelude.{ℕ, zero, suc, List, [], ◌∷◌, ◌++◌, Bool, ◌&&◌, eqb, replicate}
use Rattle.meaning.specs.Basics.{every}
use Rattle.meaning.specs.Told.{strict, tolerant}
use Rattle.meaning.specs.Skips.{rank}
use Rattle.meaning.specs.Words.{ones_of, codes_in}
use Rattle.meaning.specs.Headers.{Answer, refused, accepted, read_by}
use Rattle.meaning.specs.Memory.{words_read, answer_by, rows_by, words_by}
use Rattle.meaning.specs.Cases.{same, hex, a_date, base_with, reply_is}
use Rattle.meaning.specs.AcceptedCases.{with_parameters, an_extension}

-- a header, and the words of its envelopes
pub record Presence : Type 0 where
  pub edition : ℕ
  pub input : List ℕ
  pub words : List ℕ

abbrev has : ℕ → List ℕ → List ℕ → Presence
has e s words = record { edition = e; input = s; words = words }

abbrev words_in : Answer → List ℕ
words_in (refused refusal place) = []
words_in (accepted place rs) = words_read rs

abbrev carries : Presence → Bool
carries c = same (words_in (read_by strict c.edition c.input)) c.words && same (words_in (read_by tolerant c.edition c.input)) c.words

abbrev a_base : List ℕ
a_base = base_with 0x0f 0x20 (hex 0x1_01)

abbrev extensions : ℕ → List ℕ
extensions zero = a_base
extensions (suc n) = an_extension ++ extensions n

abbrev headers : List Presence
headers =
    -- the fixed heads: bit 4 of a base, which has none for its date; bit 10 of an extension
    has 1 a_base (16 ∷ []) ∷
    has 2 (an_extension ++ a_base) (1024 ∷ 16 ∷ []) ∷
    has 1 (extensions 15) (replicate 15 1024 ++ (16 ∷ [])) ∷
    -- each code by itself, beside bit 4
    has 1 (with_parameters (hex 0x1_00_6b_00_76_00)) (17 ∷ []) ∷
    has 1 (with_parameters (hex 0x1_02_01)) (20 ∷ []) ∷
    has 1 (with_parameters (hex 0x1_03_02_61_00_01)) (24 ∷ []) ∷
    has 1 (with_parameters (hex 0x1_04_12)) (16 ∷ []) ∷
    has 1 (with_parameters (hex 0x1_04_00_78_00)) (16 ∷ []) ∷
    has 1 (with_parameters (hex 0x1_05_00)) (48 ∷ []) ∷
    has 2 (with_parameters (hex 0x1_06_80)) (80 ∷ []) ∷
    has 2 (with_parameters (hex 0x1_07_00)) (144 ∷ []) ∷
    has 1 (with_parameters (hex 0x1_08_01)) (272 ∷ []) ∷
    has 2 (with_parameters (hex 0x1_09_01)) (528 ∷ []) ∷
    has 2 (with_parameters (hex 0x1_0a_61_00_20 ++ (a_date ++ hex 0x1_01))) (1040 ∷ []) ∷
    has 2 (with_parameters (hex 0x1_0b_14_00)) (2064 ∷ []) ∷
    -- twice is once; codes inside agents and received objects are none
    has 2 (with_parameters (hex 0x1_05_00_05_00_06_80_05_61_00)) (112 ∷ []) ∷
    has 2 (with_parameters (hex 0x1_02_02_61_00_02_78_00_01_03_02_62_00_01_01_05_6b_00_14_74_00_01_01)) (20 ∷ []) ∷
    has 2 (with_parameters (hex 0x1_0a_61_00_20 ++ (a_date ++ hex 0x1_02_66_00_03_69_00_04_76_00_05_6b_00_16_00_01))) (1040 ∷ []) ∷ []

-- so many words lent, each 99
abbrev lent : ℕ → List ℕ
lent n = replicate n 99

-- fifteen words are too few, even for one envelope; what is lent past the words of the table is unchanged
abbrev room : Bool
room =
    reply_is 14 15 3 (answer_by strict 1 a_base (lent 15) (lent 15)) && same (words_by strict 1 a_base (lent 15) (lent 15)) (lent 15) &&
    same (rows_by strict 1 a_base (lent 15) (lent 15)) (lent 15) && same (rows_by tolerant 2 a_base (lent 20) (lent 15)) (lent 20) &&
    reply_is 0 15 3 (answer_by strict 1 a_base (lent 15) (lent 16)) && same (words_by strict 1 a_base (lent 15) (lent 16)) (16 ∷ lent 15) &&
    reply_is 0 15 3 (answer_by tolerant 2 a_base (lent 15) (lent 17)) && same (words_by tolerant 2 a_base (lent 15) (lent 17)) (16 ∷ lent 16) &&
    reply_is 14 15 3 (answer_by tolerant 2 a_base (lent 14) (lent 16)) && same (words_by tolerant 2 a_base (lent 14) (lent 16)) (lent 16) &&
    reply_is 14 15 3 (answer_by strict 2 a_base (lent 15) []) && reply_is 6 3 0 (answer_by strict 2 (hex 0x1_fe_00_03) (lent 8) (lent 15)) &&
    same (words_by strict 2 (an_extension ++ a_base) (lent 30) (lent 16)) (1024 ∷ 16 ∷ lent 14) && same (words_by strict 1 (extensions 15) (lent 240) (lent 17)) (replicate 15 1024 ++ (16 ∷ 99 ∷ []))

abbrev ones : Bool
ones =
    eqb (ones_of 0) 0 && eqb (ones_of 16) 1 && eqb (ones_of 1040) 2 && eqb (ones_of 4093) 11 && eqb (ones_of 2147483648) 1 && eqb (ones_of 4294967294) 31 && eqb (ones_of 4294967295) 32

-- the codes that rows carry, each once, in the order of the bits; values, items and what stands deeper are none
abbrev codes : Bool
codes =
    same (codes_in []) [] && same (codes_in (rank 3 0 ∷ rank 5 0 ∷ [])) (0x04 ∷ []) && same (codes_in (rank 8 0 ∷ rank 5 1 ∷ rank 22 0 ∷ rank 27 0 ∷ rank 28 0 ∷ rank 22 0 ∷ [])) (0x00 ∷ 0x05 ∷ 0x0a ∷ []) &&
    same (codes_in (rank 4 0 ∷ rank 5 0 ∷ rank 29 0 ∷ rank 20 0 ∷ rank 14 0 ∷ rank 25 0 ∷ rank 26 0 ∷ rank 24 0 ∷ rank 23 0 ∷ rank 22 0 ∷ rank 13 0 ∷ rank 15 1 ∷ rank 12 0 ∷ rank 8 0 ∷ rank 27 0 ∷ []))
    (hex 0x1_00_02_03_04_05_06_07_08_09_0a_0b)

abbrev pub presence : Bool
presence = every carries headers && room && ones && codes
