-- Order 10: blocks whose length stands in a wider form than it needs, read strictly, read tolerantly, and written from the rows.
use Rattle.std.specs.Prelude.{ℕ, ◌+◌, ◌-◌, ◌/◌, ◌%◌, List, [], ◌∷◌, ◌++◌, Bool, ◌&&◌, leb, length, replicate}
use Rattle.meaning.specs.Basics.{pick, every}
use Rattle.meaning.specs.Told.{Strictness, strict, tolerant}
use Rattle.meaning.specs.Headers.{read_by, read_tolerant}
use Rattle.meaning.specs.Memory.{table_of, read_reply, answer_by, rows_by, words_by, write}
use Rattle.meaning.specs.Cases.{same, hex, a_date, reply_is, rows_in, views_from, bytes_are}
use Rattle.meaning.specs.AcceptedCases.{an_extension}

-- a base with these parameters, in the length form that its size asks for
abbrev pub sized_base : List ℕ → List ℕ
sized_base s =
    let n = 15 + length s in
    let short : List ℕ = n / 256 ∷ n % 256 ∷ [] in
    let long : List ℕ = 0 ∷ 0 ∷ 0 ∷ (n + 4) / 65536 ∷ (n + 4) / 256 % 256 ∷ (n + 4) % 256 ∷ [] in
    0xfe ∷ (pick (leb n 65535) short long ++ (0x12 ∷ 0x20 ∷ (a_date ++ (s ++ hex 0x1_01))))

-- where a block stands: the edition, and what is before its code and behind its bytes among the parameters
pub record Place : Type 0 where
  pub edition : ℕ
  pub before : List ℕ
  pub behind : List ℕ

abbrev at : ℕ → List ℕ → List ℕ → Place
at e before behind = record { edition = e; before = before; behind = behind }

-- a block of n bytes behind this code and length
abbrev input_with : Place → List ℕ → ℕ → List ℕ
input_with p front n = sized_base (p.before ++ (front ++ (replicate n 7 ++ p.behind)))

abbrev answer_is : Strictness → Place → List ℕ → ℕ → ℕ → Bool
answer_is strictness p input answer place = reply_is answer place 0 (read_reply 64 (read_by strictness p.edition input))

-- all of an input is accepted, with rows that show its own bytes
abbrev takes : Strictness → Place → List ℕ → Bool
takes strictness p input =
    let rs = rows_in (read_by strictness p.edition input) in
    reply_is 0 (length input) (length rs) (read_reply 64 (read_by strictness p.edition input)) && views_from input rs

-- the rows of an answer over the input, written into as much room
abbrev rewritten : Strictness → Place → List ℕ → List ℕ → Bool
rewritten strictness p input bytes =
    bytes_are bytes (write p.edition (table_of (rows_in (read_by strictness p.edition input))) input (length input))

-- "the same rows as if the block had the short form": a wide length is 11 at its code, or taken; written from its rows the block has its
-- short form, which both readings take; "doing this a second time changes no byte"
abbrev wide_is : ℕ → List ℕ → List ℕ → Place → Bool
wide_is n wide brief p =
    let input = input_with p wide n in
    let short = input_with p brief n in
    answer_is strict p input 11 (length input - (1 + length p.behind + n + length wide)) && takes tolerant p input && rewritten tolerant p input short &&
    takes strict p short && takes tolerant p short && rewritten strict p short short && rewritten tolerant p short short

-- the short form is no wider under either reading
abbrev brief_is : ℕ → List ℕ → Place → Bool
brief_is n brief p = let input = input_with p brief n in takes strict p input && takes tolerant p input && rewritten tolerant p input input

abbrev behaviour : List Place
behaviour = at 1 (hex 0x1_0b) [] ∷ at 2 (hex 0x1_0b) [] ∷ []

-- in extras too: of an agent in each edition, of a received object in D
abbrev places : List Place
places =
    at 1 (hex 0x1_0b) (hex 0x1_05_63_00) ∷ at 2 (hex 0x1_0b) (hex 0x1_05_63_00) ∷
    at 1 (hex 0x1_03_02_61_00_04_6b_00) (hex 0x1_01) ∷ at 2 (hex 0x1_03_02_61_00_05_6b_00) (hex 0x1_01) ∷
    at 2 (hex 0x1_0a_62_00_20 ++ (a_date ++ hex 0x1_05_6b_00)) (hex 0x1_01) ∷ []

-- each bound of the three forms, at it and one over
abbrev forms : Bool
forms =
    every (wide_is 0 (hex 0x1_17_00_00) (hex 0x1_16_00)) places && every (wide_is 5 (hex 0x1_17_00_05) (hex 0x1_16_05)) places &&
    every (wide_is 255 (hex 0x1_17_00_ff) (hex 0x1_16_ff)) places && every (brief_is 256 (hex 0x1_17_01_00)) places &&
    every (wide_is 0 (hex 0x1_19_00_00_00_00) (hex 0x1_16_00)) places && every (wide_is 255 (hex 0x1_19_00_00_00_ff) (hex 0x1_16_ff)) places &&
    every (wide_is 256 (hex 0x1_19_00_00_01_00) (hex 0x1_17_01_00)) places

-- faults: each reading's answer and place, counted from the block's code
abbrev fault_is : List ℕ → ℕ → ℕ → ℕ → ℕ → Place → Bool
fault_is s answer place answer' place' p =
    let input = sized_base (0x0b ∷ s) in
    answer_is strict p input answer (15 + place) && answer_is tolerant p input answer' (15 + place')

abbrev faults : Bool
faults =
    -- a block that reaches past the declared end; one that ends there; the length's bytes are missing
    every (fault_is (hex 0x1_19_00_00_00_09_ff) 11 0 6 7) behaviour && every (fault_is (hex 0x1_17_00_02_ff) 11 0 6 5) behaviour &&
    every (fault_is (hex 0x1_19_00_00) 6 4 6 4) behaviour && every (fault_is (hex 0x1_19_ff_ff_ff_ff) 6 6 6 6) behaviour &&
    -- a fault behind a wide length, and one before it
    every (fault_is (hex 0x1_17_00_01_ff_0c) 11 0 7 4) behaviour && every (fault_is (hex 0x1_19_00_00_00_00_0b_15_00) 11 0 7 6) behaviour &&
    every (fault_is (hex 0x1_18_00_00) 7 0 7 0) behaviour && every (fault_is (hex 0x1_16_01_ff_05_1f_00_0b_17_00_00) 8 4 8 4) behaviour

-- the envelope's own length form stays strict: 4 under both readings
abbrev length_forms : Bool
length_forms =
    every (λ p. answer_is strict p (hex 0x1_fe_00_00_00_00_00_13 ++ (0x12 ∷ 0x20 ∷ (a_date ++ hex 0x1_01))) 4 1) behaviour &&
    every (λ p. answer_is tolerant p (hex 0x1_fe_00_00_00_00_00_13 ++ (0x12 ∷ 0x20 ∷ (a_date ++ hex 0x1_01))) 4 1) behaviour

-- an edition that is not known is refused first
abbrev unknown_edition : Bool
unknown_edition = answer_is tolerant (at 3 [] []) (hex 0x1_fe) 1 0 && answer_is tolerant (at 0 [] []) [] 1 0

-- what is lent: the tolerant reading lays its rows and words there, the strict one refuses and changes nothing
abbrev lent : ℕ → List ℕ
lent n = replicate n 99

abbrev memory : ℕ → Bool
memory e =
    let input = sized_base (hex 0x1_0b_17_00_01_7f) in
    reply_is 0 20 5 (answer_by tolerant e input (lent 26) (lent 17)) && same (words_by tolerant e input (lent 26) (lent 17)) (2064 ∷ lent 16) &&
    same (rows_by tolerant e input (lent 26) (lent 17)) (2 ∷ 0 ∷ 0 ∷ 0 ∷ 5 ∷ 3 ∷ 0 ∷ 3 ∷ 1 ∷ 2 ∷ 5 ∷ 0 ∷ 5 ∷ 9 ∷ 3 ∷ 29 ∷ 0 ∷ 14 ∷ 0 ∷ 5 ∷ 21 ∷ 0 ∷ 18 ∷ 1 ∷ 5 ∷ 99 ∷ []) &&
    reply_is 11 15 0 (answer_by strict e input (lent 26) (lent 17)) && same (rows_by strict e input (lent 26) (lent 17)) (lent 26) && same (words_by strict e input (lent 26) (lent 17)) (lent 17)

-- a wide length in an extension, in a later envelope, and in both
abbrev wide_extension : List ℕ
wide_extension = hex 0x1_fd_00_17_61_00_20 ++ (a_date ++ hex 0x1_01_0b_19_00_00_00_00_01)

abbrev wide_base : List ℕ
wide_base = sized_base (hex 0x1_0b_17_00_01_7f)

abbrev later_is : List ℕ → ℕ → ℕ → Bool
later_is input rows place =
    reply_is 0 (length input) rows (read_reply 64 (read_tolerant 1 input)) && reply_is 0 (length input) rows (read_reply 64 (read_tolerant 2 input)) &&
    reply_is 11 place 0 (read_reply 64 (read_by strict 1 input)) && reply_is 11 place 0 (read_reply 64 (read_by strict 2 input))

abbrev later : Bool
later = later_is (an_extension ++ wide_base) 8 32 && later_is (wide_extension ++ wide_base) 10 17 && later_is (an_extension ++ (wide_extension ++ wide_base)) 13 34

abbrev pub widths : Bool
widths = memory 1 && memory 2 && later && forms && faults && length_forms && unknown_edition
