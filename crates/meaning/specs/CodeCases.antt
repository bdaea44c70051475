-- In every room of each edition every byte: those that the room takes, as document 01 lists them, and every other one refused, with its number, at that byte;
-- and the declared end.
use Rattle.std.specs.Prelude.{ℕ, List, [], ◌∷◌, Bool, true, false, ◌&&◌, eqb}
use Rattle.meaning.specs.Basics.{pick, every}
use Rattle.meaning.specs.Told.{Edition, B, D, told}
use Rattle.meaning.specs.Editions.{Room, received_begins, head_representation, head_date, parameters, own_text, parameter_representation, behaviour_value, encrypted_texts, received_date, after_date, after_from, after_id, after_via, received_extra, agent_list, one_agent, after_name, address_texts, after_addresses, after_resolvers, agent_extra, closed, state}
use Rattle.meaning.specs.Reading.{Step, fails, over, next, step}
use Rattle.meaning.specs.Cases.{up_from, among, hex}

-- a room at a level, the bytes that it takes in each edition, and the number with which it refuses any other
record Expected : Type 0 where
  pub room : Room
  pub level : ℕ
  pub in_b : List ℕ
  pub in_d : List ℕ
  pub refusal : ℕ

abbrev expected : Room → ℕ → List ℕ → List ℕ → ℕ → Expected
expected r n b d k = record { room = r; level = n; in_b = b; in_d = d; refusal = k }

-- a text's bytes: 00, which ends it, and 20 to FF; in notes the line breaks 09, 0A and 0D
abbrev line_bytes : List ℕ
line_bytes = 0 ∷ up_from 32 224

abbrev note_bytes : List ℕ
note_bytes = 0x09 ∷ 0x0a ∷ 0x0d ∷ line_bytes

abbrev any_codes : List ℕ
any_codes = hex 0x1_14_16_17_19

abbrev in_both : Room → ℕ → List ℕ → ℕ → Expected
in_both r n codes k = expected r n codes codes k

-- document 01, "Bytes", in its order
abbrev rooms : List Expected
rooms =
    in_both head_representation 0 (hex 0x1_00_10_11_12) 7 ∷
    expected head_date 0 (hex 0x1_20_21) (hex 0x1_20_21_22_24_25_26) 9 ∷
    expected parameters 0 (hex 0x1_00_01_02_03_04_05_06_07_08_09_0a_0b) (hex 0x1_00_01_02_03_04_05_06_07_09_0a_0b) 7 ∷
    in_both own_text 0 note_bytes 8 ∷
    in_both parameter_representation 0 (hex 0x1_00_10_11_12) 7 ∷
    in_both behaviour_value 0 any_codes 7 ∷
    in_both encrypted_texts 0 (1 ∷ line_bytes) 8 ∷
    in_both received_begins 0 line_bytes 8 ∷
    expected received_date 1 (hex 0x1_20_21) (hex 0x1_20_21_22_24_25_26) 9 ∷
    expected after_date 1 (hex 0x1_01_02_03_04) (hex 0x1_01_02_03_04_05) 7 ∷
    expected after_from 1 (hex 0x1_01_03_04) (hex 0x1_01_03_04_05) 7 ∷
    expected after_id 1 (hex 0x1_01_04) (hex 0x1_01_04_05) 7 ∷
    expected after_via 1 (hex 0x1_01) (hex 0x1_01_05) 7 ∷
    in_both received_extra 1 any_codes 7 ∷
    in_both agent_list 1 (hex 0x1_01_02) 7 ∷
    in_both agent_list 8 (hex 0x1_01_02) 7 ∷
    in_both agent_list 9 (hex 0x1_01_02) 7 ∷
    in_both one_agent 1 (hex 0x1_02) 7 ∷
    expected after_name 1 (hex 0x1_01_02_03_04) (hex 0x1_01_02_03_05) 7 ∷
    in_both address_texts 1 (1 ∷ line_bytes) 8 ∷
    expected after_addresses 1 (hex 0x1_01_03_04) (hex 0x1_01_03_05) 7 ∷
    expected after_resolvers 1 (hex 0x1_01_04) (hex 0x1_01_05) 7 ∷
    in_both agent_extra 1 any_codes 7 ∷ []

-- a byte that is taken never fails with the room's own number at itself; any other does. Behind it stand three bytes, so that the place tells
abbrev fails_here : ℕ → Step → Bool
fails_here refusal (fails k left) = eqb k refusal && eqb left 4
fails_here refusal (over s) = false
fails_here refusal (next st rows rest) = false

abbrev whether : Bool → Bool → Bool
whether true b = b
whether false true = false
whether false false = true

abbrev byte_is : Edition → Expected → List ℕ → ℕ → Bool
byte_is e x taken b = whether (fails_here x.refusal (step (told e) (state x.room x.level false) (b ∷ 0 ∷ 0 ∷ 0 ∷ []))) (pick (among b taken) false true)

abbrev room_is : Expected → Bool
room_is x = every (byte_is B x x.in_b) (up_from 0 256) && every (byte_is D x x.in_d) (up_from 0 256)

-- "6: a byte is needed at the declared end": in every room but the one behind the envelope's closing 01
abbrev needs_byte : Step → Bool
needs_byte (fails k left) = eqb k 6 && eqb left 0
needs_byte (over s) = false
needs_byte (next st rows rest) = false

abbrev end_is : Expected → Bool
end_is x = needs_byte (step (told B) (state x.room x.level false) []) && needs_byte (step (told D) (state x.room x.level true) [])

abbrev is_over : Step → Bool
is_over (fails k left) = false
is_over (over s) = true
is_over (next st rows rest) = false

-- "12: agent of level 9, its 02"; the list itself may stand there, and end
abbrev too_deep_at : ℕ → Bool
too_deep_at n = fails_here 12 (step (told B) (state agent_list n false) (hex 0x1_02_61_00_01)) && fails_here 12 (step (told D) (state agent_list n true) (hex 0x1_02_61_00_01))

abbrev pub strange : Bool
strange = every end_is rooms && is_over (step (told B) (state closed 0 false) []) && is_over (step (told D) (state closed 0 false) (hex 0x1_01)) && every too_deep_at (9 ∷ 10 ∷ 255 ∷ []) && every room_is rooms
