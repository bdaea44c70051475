-- Order 1: present values, given as rows and not by the procedure: each code at its bounds and one over, repeats, empty values, fixed heads, refusals in order.
use Rattle.std.specs.Prelude.{ℕ, zero, suc, ◌+◌, ◌/◌, ◌%◌, List, [], ◌∷◌, ◌++◌, Bool, false, ◌&&◌, eqb, length}
use Rattle.meaning.specs.Basics.{pick, every}
use Rattle.meaning.specs.Headers.{Answer, refused, accepted, read}
use Rattle.meaning.specs.Memory.{Numbers, row, table_of, room_of}
use Rattle.meaning.specs.Present.{present_answer}
use Rattle.meaning.specs.Cases.{up_from, among, hex, a_date, base_with, in_memory, reply_is}
use Rattle.meaning.specs.AcceptedCases.{with_parameters, an_extension, extension_rows, base_rows_at}

-- edition, rows, pool and code to answer and place
abbrev replied : ℕ → List ℕ → List ℕ → ℕ → ℕ → ℕ → Bool
replied e table pool code answer place = reply_is answer place (pick (eqb answer 0) (room_of table) 0) (present_answer e table pool code)

-- a code, and the row that it is answered with
pub record Asked : Type 0 where
  pub code : ℕ
  pub place : ℕ

infix 90 of◌▸◌
abbrev of◌▸◌ : ℕ → ℕ → Asked
of c ▸ p = record { code = c; place = p }

-- the rows of a header, asked with the header as pool
abbrev asked_of : ℕ → List ℕ → List Asked → Answer → Bool
asked_of e input cases (refused refusal place) = false
asked_of e input cases (accepted place rs) = every (λ c. replied e (table_of rs) input c.code 0 c.place) cases

abbrev under : ℕ → List ℕ → List Asked → Bool
under e input cases = asked_of e input cases (read e input)

abbrev both : List ℕ → List Asked → Bool
both input cases = under 1 input cases && under 2 input cases

abbrev a_base : List ℕ
a_base = base_with 0x0f 0x20 (hex 0x1_01)

-- an extension with these parameters
abbrev extended : List ℕ → List ℕ
extended s = let n = 17 + length s in 0xfd ∷ n / 256 ∷ n % 256 ∷ (hex 0x1_61_00_20 ++ (a_date ++ (0x01 ∷ (s ++ hex 0x1_01))))

-- a received object, an agent `a` of each list
abbrev received : List ℕ
received = hex 0x1_0a_62_00_20 ++ (a_date ++ hex 0x1_01)

abbrev to_agent : List ℕ
to_agent = hex 0x1_02_02_61_00_01_01

-- every code: the head's rows are 1 and 2, the parameters' begin at 3
abbrev codes : Bool
codes =
    both a_base (of 0x02 ▸ 3 ∷ of 0x03 ▸ 3 ∷ of 0x04 ▸ 1 ∷ of 0x05 ▸ 3 ∷ of 0x06 ▸ 3 ∷ of 0x07 ▸ 3 ∷ of 0x08 ▸ 3 ∷ of 0x09 ▸ 3 ∷ of 0x0a ▸ 3 ∷ of 0x0b ▸ 3 ∷ of 0x20 ▸ 2 ∷ []) &&
    both (with_parameters (to_agent ++ hex 0x1_03_02_61_00_01_09_01)) (of 0x02 ▸ 3 ∷ of 0x03 ▸ 5 ∷ of 0x09 ▸ 7 ∷ of 0x04 ▸ 1 ∷ []) &&
    both (with_parameters (hex 0x1_05_63_00_06_80_07_65_00)) (of 0x05 ▸ 3 ∷ of 0x06 ▸ 4 ∷ of 0x07 ▸ 5 ∷ []) &&
    both (with_parameters (received ++ hex 0x1_0b_14_74_00_05_63_00)) (of 0x0a ▸ 3 ∷ of 0x0b ▸ 5 ∷ of 0x05 ▸ 7 ∷ of 0x20 ▸ 2 ∷ []) &&
    -- 08 is a code under D too, which no table has
    under 1 (with_parameters (hex 0x1_08_78_00_01)) (of 0x08 ▸ 3 ∷ []) && under 2 a_base (of 0x08 ▸ 3 ∷ []) &&
    -- relative dates
    under 2 (base_with 0x0f 0x21 (hex 0x1_01)) (of 0x20 ▸ 2 ∷ []) && under 2 (base_with 0x0f 0x22 (hex 0x1_01)) (of 0x20 ▸ 2 ∷ [])

-- "the first value found stands", "empty or not"
abbrev repeats : Bool
repeats =
    -- in one envelope: two comments, an empty comment, an empty `to` list, two behaviours
    both (with_parameters (hex 0x1_05_63_00_05_64_00)) (of 0x05 ▸ 3 ∷ []) && both (with_parameters (hex 0x1_05_00_05_64_00)) (of 0x05 ▸ 3 ∷ []) &&
    both (with_parameters (hex 0x1_02_01 ++ to_agent)) (of 0x02 ▸ 3 ∷ []) && both (with_parameters (hex 0x1_0b_14_00_0b_14_74_00)) (of 0x0b ▸ 3 ∷ []) &&
    under 1 (with_parameters (hex 0x1_08_01_08_78_00_01)) (of 0x08 ▸ 3 ∷ []) &&
    -- a fixed head before a parameter: the representation, and with an extension its received object
    both (with_parameters (hex 0x1_04_10_04_00_72_00)) (of 0x04 ▸ 1 ∷ []) && both (extended received ++ with_parameters received) (of 0x0a ▸ 1 ∷ of 0x20 ▸ 7 ∷ of 0x04 ▸ 6 ∷ []) &&
    -- in several envelopes, in the last alone, in none
    both (extended (hex 0x1_05_63_00) ++ with_parameters (hex 0x1_05_64_00_07_65_00)) (of 0x05 ▸ 3 ∷ of 0x07 ▸ 8 ∷ of 0x06 ▸ 9 ∷ of 0x20 ▸ 6 ∷ []) &&
    both (extended (hex 0x1_02_01) ++ with_parameters to_agent) (of 0x02 ▸ 3 ∷ []) && both (an_extension ++ (extended to_agent ++ with_parameters (hex 0x1_02_01))) (of 0x02 ▸ 6 ∷ of 0x04 ▸ 9 ∷ []) &&
    both (extended (hex 0x1_04_10) ++ a_base) (of 0x04 ▸ 3 ∷ of 0x20 ▸ 6 ∷ []) &&
    both (an_extension ++ (an_extension ++ a_base)) (of 0x20 ▸ 8 ∷ of 0x0a ▸ 1 ∷ of 0x04 ▸ 7 ∷ of 0x05 ▸ 9 ∷ []) &&
    -- values and items are no parameters: an own parameter's, a behaviour's
    both (with_parameters (hex 0x1_00_6b_00_76_00_0b_14_74_00)) (of 0x05 ▸ 7 ∷ of 0x0b ▸ 5 ∷ [])

abbrev table : List ℕ
table = in_memory (base_rows_at 0)

abbrev sixteen : ℕ → List Numbers → List Numbers
sixteen zero rows = rows
sixteen (suc n) rows = extension_rows 0 ++ sixteen n rows

-- "1; then 17 at place 0, code not one of these; then 15 and 5 as the writer gives them"
abbrev refusals : Bool
refusals =
    every (λ c. replied 1 table a_base c 17 0 && replied 2 table a_base c 17 0) (0x00 ∷ 0x01 ∷ 0x0c ∷ 0x1f ∷ 0x21 ∷ 0xff ∷ 0x100 ∷ 0x102 ∷ 4294967295 ∷ []) &&
    replied 1 table a_base 0x02 0 3 && replied 1 table a_base 0x0b 0 3 && replied 1 table a_base 0x20 0 2 &&
    replied 0 table a_base 0x02 1 0 && replied 3 [] [] 0x00 1 0 && replied 1 [] [] 0x01 17 0 && replied 2 [] [] 0x02 15 0 &&
    -- no whole rows, a view past the pool, a wrong skip number, a date of D under B
    replied 1 (table ++ (22 ∷ [])) a_base 0x04 15 3 && replied 1 table [] 0x04 15 1 && replied 2 (in_memory (row 2 0 0 0 ∷ row 3 0 3 1 ∷ [])) a_base 0x04 15 2 &&
    replied 1 (2 ∷ 0 ∷ 0 ∷ 0 ∷ 2 ∷ 3 ∷ 0 ∷ 3 ∷ 1 ∷ 2 ∷ 5 ∷ 0 ∷ 5 ∷ 9 ∷ 3 ∷ []) a_base 0x20 15 0 && replied 1 (in_memory (row 2 0 0 0 ∷ row 3 0 3 1 ∷ row 6 0 5 9 ∷ [])) a_base 0x20 15 2 &&
    -- the sixteenth envelope is the base, or the seventeenth
    replied 2 (in_memory (sixteen 15 (base_rows_at 17))) (an_extension ++ a_base) 0x20 0 47 && replied 2 (in_memory (sixteen 16 (base_rows_at 17))) (an_extension ++ a_base) 0x20 5 48 &&
    replied 2 (in_memory (sixteen 16 (base_rows_at 17))) (an_extension ++ a_base) 0x21 17 0

-- every code: 17, or else what the writer makes of no rows
abbrev asking : ℕ → Bool
asking code = let asked = among code (up_from 2 10 ++ (0x20 ∷ [])) in replied 1 [] [] code (pick asked 15 17) 0 && replied 2 [] [] code (pick asked 15 17) 0

abbrev pub presents : Bool
presents = codes && repeats && refusals && every asking (up_from 0 300)
