-- Order 9: headers of both editions, of one alone and of none, with room and one short of it; and what is lent after each.
use Rattle.std.specs.Prelude.{ℕ, zero, suc, ◌*◌, List, [], ◌∷◌, ◌++◌, Bool, ◌&&◌, eqb}
use Rattle.meaning.specs.Basics.{every}
use Rattle.meaning.specs.Memory.{read_rows, read_words}
use Rattle.meaning.specs.Which.{editions_of, Sorted, which_answer, which_rows, which_words}
use Rattle.meaning.specs.Cases.{same, hex, base_with, reply_is}
use Rattle.meaning.specs.AcceptedCases.{with_parameters, an_extension}

-- an input, the rows and words lent, to answer, place, rows and editions
record Sorting : Type 0 where
  pub input : List ℕ
  pub rows : ℕ
  pub words : ℕ
  pub answer : ℕ
  pub place : ℕ
  pub count : ℕ
  pub editions : ℕ

abbrev sorting : List ℕ → ℕ → ℕ → ℕ → ℕ → ℕ → ℕ → Sorting
sorting input rows words answer place count editions = record { input = input; rows = rows; words = words; answer = answer; place = place; count = count; editions = editions }

abbrev sevens : ℕ → List ℕ
sevens zero = []
sevens (suc n) = 7 ∷ sevens n

abbrev sorts_to : Sorting → Sorted → Bool
sorts_to c s = reply_is c.answer c.place c.count s.reply && eqb s.editions c.editions

abbrev sorts : Sorting → Bool
sorts c = sorts_to c (which_answer c.input (sevens (c.rows * 5)) (sevens c.words))

-- the lent rows and words are those of a reading under this edition, or untouched
abbrev fills_as : ℕ → Sorting → Bool
fills_as edition c =
    let rows = sevens (c.rows * 5) in
    let words = sevens c.words in
    same (which_rows c.input rows words) (read_rows edition c.input rows words) && same (which_words c.input rows words) (read_words edition c.input rows words)

abbrev leaves : Sorting → Bool
leaves c =
    let rows = sevens (c.rows * 5) in
    let words = sevens c.words in
    same (which_rows c.input rows words) rows && same (which_words c.input rows words) words

abbrev plain : List ℕ
plain = base_with 0x0f 0x20 (hex 0x1_01)

-- 21 is a date with a designator in B, and a forward one in D; 08 is B's; 22 a backward date, D's
abbrev designated : List ℕ
designated = base_with 0x10 0x21 (hex 0x1_5a_01)

abbrev forward : List ℕ
forward = base_with 0x0f 0x21 (hex 0x1_01)

abbrev encrypted : List ℕ
encrypted = with_parameters (hex 0x1_08_01)

abbrev by_both : List Sorting
by_both = sorting plain 3 16 0 15 3 3 ∷ sorting (plain ++ (0xff ∷ [])) 4 17 0 15 3 3 ∷ sorting (an_extension ++ plain) 6 16 0 32 6 3 ∷ []

abbrev by_first : List Sorting
by_first = sorting designated 3 16 0 16 3 1 ∷ sorting encrypted 4 16 0 17 4 1 ∷ []

abbrev by_second : List Sorting
by_second = sorting forward 3 16 0 15 3 2 ∷ sorting (base_with 0x0f 0x22 (hex 0x1_01)) 3 16 0 15 3 2 ∷ sorting (an_extension ++ forward) 6 16 0 32 6 2 ∷ []

-- "if neither edition allows the bytes, edition 2's answer and place": where the two differ, too; and too little room
abbrev by_none : List Sorting
by_none =
    sorting [] 3 16 2 0 0 0 ∷
    sorting (base_with 0x10 0x21 (hex 0x1_00_01)) 3 16 8 15 0 0 ∷
    sorting (with_parameters (hex 0x1_08_02)) 4 16 7 14 0 0 ∷
    sorting (base_with 0x0f 0x23 (hex 0x1_01)) 3 16 9 4 0 0 ∷
    -- both read strictly: 11 where a length is wider than it needs
    sorting (with_parameters (hex 0x1_0b_17_00_00)) 5 16 11 15 0 0 ∷
    sorting (base_with 0x15 0x21 (hex 0x1_5a_0b_19_00_00_00_00_01)) 5 16 7 14 0 0 ∷
    sorting plain 2 16 14 15 3 0 ∷
    sorting plain 3 15 14 15 3 0 ∷
    sorting designated 2 16 14 16 3 0 ∷
    sorting encrypted 4 0 14 17 4 0 ∷
    sorting forward 3 15 14 15 3 0 ∷ []

-- the editions that allow the bytes, whatever is lent
abbrev allowed : Bool
allowed =
    eqb (editions_of []) 0 && eqb (editions_of (with_parameters (hex 0x1_08_02))) 0 && eqb (editions_of (with_parameters (hex 0x1_0b_17_00_00))) 0 && eqb (editions_of plain) 3 && eqb (editions_of designated) 1 &&
    eqb (editions_of encrypted) 1 && eqb (editions_of forward) 2 && eqb (editions_of (an_extension ++ forward)) 2

abbrev pub sortings : Bool
sortings =
    allowed &&
    every sorts by_both && every (fills_as 1) by_both && every (fills_as 2) by_both && every sorts by_first && every (fills_as 1) by_first && every sorts by_second && every (fills_as 2) by_second &&
    every sorts by_none && every leaves by_none
