-- Derivations by hand: the papers' rules, applied to document 01's instances, with the rows and the skip numbers that the trees give.
use Rattle.std.specs.Prelude.{ℕ, ◌≤◌, List, [], ◌∷◌, ◌++◌, ◌≡◌, refl}
use Rattle.std.proofs.Common.{arith, leb→le, ltb→lt}
use Rattle.meaning.specs.Told.{Edition, D, told}
use Rattle.meaning.specs.Bytes.{Rule, absolute, last_day}
use Rattle.meaning.specs.Cases.{hex}
use Rattle.meaning.specs.Kinds.{base_opens, standard_representation, date_absolute, from_opens, agent_name, addresses_open, address, resolvers_open}
use Rattle.papers.specs.ExampleTexts.{may_date}
use Rattle.papers.specs.Notation.{Trees, end, tree, laid, ◌then◌, first, other, absent, present, many, up_to, byte, these, shows, holds, coded, opens, itself}
use Rattle.papers.specs.Values.{plain, empty, character, NullTerminatedString, string, BinDate, in_time, short, BinNumber, bin_number, digit, another, odd, even}
use Rattle.papers.specs.Papers.{of, any, AgentIdentifier, MessageEnvelope}
use Rattle.papers.specs.Values

-- M = FE 00 0F 12 20 31 11 16 19 15 37 62 59 20 01
abbrev M : List ℕ
M = hex 0x1_fe_00_0f_12_20_31_11_16_19_15_37_62_59_20_01

-- 8 May 2000, 04:26:51.481
pub the_date : BinDate absolute may_date 0 may_date
unfolding last_day
the_date = in_time 2000 5 8 4 26 51 481 (omega arith) (omega arith) (omega arith) (omega arith) (omega arith) (omega arith) (omega arith) (omega arith) (omega arith)

abbrev M_trees : Trees
M_trees = tree base_opens 0 0 [] (tree standard_representation 0 3 (0x12 ∷ []) end (tree date_absolute 0 5 may_date end end)) end

pub M_is : (e : Edition) → MessageEnvelope (told e) 0 M M_trees
M_is e =
    (up_to.none then of {bytes = M} (leb→le 15 1048576 tt) ((byte.it then first (these (short (ltb→lt 15 65536 tt))) then other (other (other (shows itself.it))) then first (shows (coded the_date))) then many.none then byte.it)) then
    any

pub M_laid : laid 0 M_trees ≡ (2 ∷ 0 ∷ 0 ∷ 0 ∷ 3 ∷ []) ++ ((3 ∷ 0 ∷ 3 ∷ 1 ∷ 2 ∷ []) ++ (5 ∷ 0 ∷ 5 ∷ 9 ∷ 3 ∷ []))
M_laid = refl

-- one letter, a null-terminated string
letter : {rule : Rule} (b : ℕ) → 0x20 ≤ b → NullTerminatedString rule (b ∷ (0x00 ∷ [])) 0 (b ∷ [])
letter b h = string (character (plain h) empty)

-- document 01's listing: edition 2 on FE 00 14 12 20 31 11 16 19 15 37 62 59 20 03 02 61 00 01 01 28; the 28 is the payload
abbrev listed : List ℕ
listed = hex 0x1_fe_00_14_12_20_31_11_16_19_15_37_62_59_20_03_02_61_00_01_01

abbrev listed_trees : Trees
listed_trees = tree base_opens 0 0 [] (tree standard_representation 0 3 (0x12 ∷ []) end (tree date_absolute 0 5 may_date end (tree from_opens 0 14 [] (tree agent_name 1 16 (0x61 ∷ []) end end) end))) end

pub listed_is : MessageEnvelope (told D) 0 (listed ++ (0x28 ∷ [])) listed_trees
listed_is =
    (up_to.none then of {bytes = listed} (leb→le 20 1048576 tt) ((byte.it then first (these (short (ltb→lt 20 65536 tt))) then other (other (other (shows itself.it))) then first (shows (coded the_date))) then
    many.more (first (other (first (holds opens.it (holds (coded (letter 0x61 (leb→le 0x20 0x61 tt))) (absent then absent then many.none then byte.it)))))) many.none then byte.it)) then
    any {a = 0x28 ∷ []}

-- the rows as the listing prints them, each with its skip number
pub listed_laid : laid 0 listed_trees ≡ (2 ∷ 0 ∷ 0 ∷ 0 ∷ 5 ∷ []) ++ ((3 ∷ 0 ∷ 3 ∷ 1 ∷ 2 ∷ []) ++ ((5 ∷ 0 ∷ 5 ∷ 9 ∷ 3 ∷ []) ++ ((13 ∷ 0 ∷ 14 ∷ 0 ∷ 5 ∷ []) ++ (15 ∷ 1 ∷ 16 ∷ 1 ∷ 5 ∷ []))))
listed_laid = refl

-- an agent `a` with an address `b` and a resolver `c`: 02 61 00 02 62 00 01 03 02 63 00 01 01 01
abbrev agent_trees : Trees
agent_trees = tree agent_name 1 1 (0x61 ∷ []) (tree addresses_open 1 3 [] (tree address 1 4 (0x62 ∷ []) end end) (tree resolvers_open 1 7 [] (tree agent_name 2 9 (0x63 ∷ []) end end) end)) end

pub agent_is : (e : Edition) → AgentIdentifier (told e) 8 1 0 (hex 0x1_02_61_00_02_62_00_01_03_02_63_00_01_01_01) agent_trees
agent_is e =
    holds (coded (letter 0x61 (leb→le 0x20 0x61 tt))) (present (holds opens.it (many.more (shows (letter 0x62 (leb→le 0x20 0x62 tt))) many.none then byte.it)) then
    present (holds opens.it (many.more (holds (coded (letter 0x63 (leb→le 0x20 0x63 tt))) (absent then absent then many.none then byte.it)) many.none then byte.it)) then
    many.none then byte.it)

-- row 0, the agent, holds all five; the addresses open at row 1 and hold row 2; the resolvers open at row 3 and hold row 4
pub agent_laid : laid 0 agent_trees ≡ (15 ∷ 1 ∷ 1 ∷ 1 ∷ 5 ∷ []) ++ ((16 ∷ 1 ∷ 3 ∷ 0 ∷ 3 ∷ []) ++ ((17 ∷ 1 ∷ 4 ∷ 1 ∷ 3 ∷ []) ++ ((18 ∷ 1 ∷ 7 ∷ 0 ∷ 5 ∷ []) ++ (15 ∷ 2 ∷ 9 ∷ 1 ∷ 5 ∷ []))))
agent_laid = refl

-- "Payload length 80 is 7; 23 00 is 12"; 53 A5 A7 83 A6 00 is 4,294,967,295
pub seven_is : BinNumber (0x80 ∷ []) 0 (0x80 ∷ [])
seven_is = bin_number {n = 7} (leb→le 7 4294967295 tt) (digit {d = 7} (leb→le 7 9 tt)) odd

pub twelve_is : BinNumber (0x23 ∷ (0x00 ∷ [])) 0 (0x23 ∷ (0x00 ∷ []))
twelve_is = bin_number {n = 12} (leb→le 12 4294967295 tt) (another {n = 1} {d = 2} (digit {d = 1} (leb→le 1 9 tt)) (leb→le 1 1 tt) (leb→le 2 9 tt)) (Values.Digits.both even)
