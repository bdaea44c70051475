-- Order 8: hops over rows and words lent, given as numbers; true tables, wrong words, skip numbers that do not lead on, and each refusal at its bound.
use Rattle.std.specs.Prelude.{ℕ, zero, suc, List, [], ◌∷◌, ◌++◌, Bool, ◌&&◌}
use Rattle.meaning.specs.Basics.{pick, every}
use Rattle.meaning.specs.Lookup.{lookup}
use Rattle.meaning.specs.Cases.{up_from, among, reply_is}

-- rows and words lent and a code, to answer, place and rows looked at
record Looking : Type 0 where
  pub rows : List ℕ
  pub words : List ℕ
  pub code : ℕ
  pub answer : ℕ
  pub place : ℕ
  pub looked : ℕ

abbrev looking : List ℕ → List ℕ → ℕ → ℕ → ℕ → ℕ → Looking
looking rows words code answer place looked = record { rows = rows; words = words; code = code; answer = answer; place = place; looked = looked }

abbrev looks_up : Looking → Bool
looks_up c = reply_is c.answer c.place c.looked (lookup c.rows c.words c.code)

abbrev zeros : ℕ → List ℕ
zeros zero = []
zeros (suc n) = 0 ∷ zeros n

-- a row of a kind with a skip number; its level, start and length say nothing here
abbrev hop : ℕ → ℕ → List ℕ
hop kind skip = kind ∷ 9 ∷ 0 ∷ 0 ∷ skip ∷ []

-- an extension received by `a`, and a base with a `to` list of two agents, a comment and two payload lengths
abbrev relayed : List ℕ
relayed = hop 1 3 ++ (hop 8 3 ++ (hop 5 3 ++ (hop 2 11 ++ (hop 3 5 ++ (hop 5 6 ++ (hop 12 9 ++ (hop 15 8 ++ (hop 15 9 ++ (hop 22 10 ++ hop 23 11)))))))))

abbrev true_words : List ℕ
true_words = 1024 ∷ 116 ∷ zeros 14

-- so many extensions without a value, each its own row alone
abbrev extensions : ℕ → ℕ → List ℕ
extensions zero i = []
extensions (suc n) i = hop 1 (suc i) ++ extensions n (suc i)

abbrev found : List Looking
found =
    -- no rows; the extension's head, the base's head, its date, its list; what is not there, and left out unseen
    looking [] (zeros 16) 0x02 0 0 0 ∷
    looking relayed true_words 0x0a 0 1 2 ∷
    looking relayed true_words 0x04 0 4 3 ∷
    looking relayed true_words 0x20 0 5 4 ∷
    looking relayed true_words 0x02 0 6 5 ∷
    looking relayed true_words 0x05 0 9 6 ∷
    looking relayed true_words 0x06 0 10 7 ∷
    looking relayed true_words 0x07 0 11 2 ∷
    looking relayed true_words 0x0b 0 11 2 ∷
    -- words that say too much are entered in vain; words that say too little hide a value
    looking relayed (2047 ∷ 2047 ∷ zeros 14) 0x07 0 11 8 ∷
    looking relayed (zeros 16) 0x06 0 11 2 ∷
    -- 20 asks no word: extensions are left out, bases are entered
    looking relayed (zeros 16) 0x20 0 5 4 ∷
    looking (hop 1 2 ++ hop 5 2) (zeros 16) 0x20 0 2 1 ∷
    looking (hop 2 2 ++ hop 7 2) (zeros 16) 0x20 0 1 2 ∷
    -- no envelope at all; two kinds of representation; a word more is not looked at
    looking (hop 23 1) (zeros 17) 0x06 0 0 1 ∷
    looking (hop 9 1 ++ hop 4 2) (zeros 16) 0x04 0 1 2 ∷
    -- the sixteenth has a word, the seventeenth has none and lacks no code, whatever stands there
    looking (extensions 15 0 ++ (hop 1 17 ++ hop 23 17)) (zeros 16) 0x06 0 17 16 ∷
    looking (extensions 16 0 ++ (hop 1 18 ++ hop 23 18)) (zeros 17) 0x06 0 17 18 ∷
    looking (extensions 16 0 ++ (hop 1 18 ++ hop 5 18)) (zeros 16) 0x20 0 18 17 ∷ []

abbrev refused : List Looking
refused =
    -- codes: before all else
    looking (1 ∷ []) [] 0x00 17 0 0 ∷
    looking relayed true_words 0x01 17 0 0 ∷
    looking relayed true_words 0x0c 17 0 0 ∷
    looking relayed true_words 0x1f 17 0 0 ∷
    looking relayed true_words 0x21 17 0 0 ∷
    looking relayed true_words 0xffffffff 17 0 0 ∷
    -- fewer than sixteen words, before the rows are looked at
    looking (1 ∷ []) (zeros 15) 0x02 14 0 0 ∷
    looking relayed [] 0x20 14 0 0 ∷
    -- a slice that is not whole rows, before any skip number
    looking (1 ∷ []) (zeros 16) 0x02 15 0 0 ∷
    looking (hop 1 0 ++ (7 ∷ 7 ∷ 7 ∷ 7 ∷ [])) (zeros 16) 0x02 15 1 0 ∷
    -- a skip number that is the row's own, below it, past the row count; also of the row that would answer, and of an envelope that is left out
    looking (hop 2 0) (zeros 16) 0x02 15 0 0 ∷
    looking (hop 2 2) (zeros 16) 0x02 15 0 0 ∷
    looking (hop 12 1 ++ hop 12 1) (zeros 16) 0x03 15 1 0 ∷
    looking (hop 12 1 ++ hop 12 0) (zeros 16) 0x03 15 1 0 ∷
    looking (hop 23 2) (zeros 16) 0x06 15 0 0 ∷
    looking (hop 12 0xffffffff) (zeros 16) 0x02 15 0 0 ∷
    -- only rows looked at
    looking (hop 12 2 ++ (hop 12 0 ++ hop 23 3)) (zeros 16) 0x06 0 2 2 ∷ []

-- One row of every kind, asked by every code: the kinds that hold or open each. Items, values and what stands in agents and received objects hold none
record Held : Type 0 where
  pub code : ℕ
  pub kinds : List ℕ

abbrev held : ℕ → List ℕ → Held
held code kinds = record { code = code; kinds = kinds }

abbrev codes : List Held
codes =
    held 0x02 (12 ∷ []) ∷ held 0x03 (13 ∷ []) ∷ held 0x04 (3 ∷ 4 ∷ []) ∷ held 0x05 (22 ∷ []) ∷ held 0x06 (23 ∷ []) ∷ held 0x07 (24 ∷ []) ∷ held 0x08 (25 ∷ []) ∷ held 0x09 (14 ∷ []) ∷ held 0x0a (8 ∷ []) ∷
    held 0x0b (29 ∷ []) ∷ held 0x20 (5 ∷ 6 ∷ 7 ∷ []) ∷ []

abbrev answers_for : Held → ℕ → Bool
answers_for h kind = looks_up (looking (hop kind 1) (zeros 16) h.code 0 (pick (among kind h.kinds) 0 1) 1)

abbrev every_kind : Held → Bool
every_kind h = every (answers_for h) (up_from 0 40)

-- A row of every kind over a `to` list: an envelope is entered, any other row that does not answer is left for its skip number
abbrev entered : List ℕ
entered = 1 ∷ 2 ∷ []

abbrev over_list : ℕ → Bool
over_list kind = looks_up (looking (hop kind 2 ++ hop 12 2) (4 ∷ zeros 15) 0x02 0 (pick (among kind entered) 1 (pick (among kind (12 ∷ [])) 0 2)) (pick (among kind entered) 2 1))

-- the codes that can be asked, and no other
abbrev asked : List ℕ
asked = up_from 2 10 ++ (0x20 ∷ [])

abbrev every_code : ℕ → Bool
every_code code = looks_up (looking [] (zeros 16) code (pick (among code asked) 0 17) 0 0)

abbrev pub lookings : Bool
lookings = every looks_up found && every looks_up refused && every every_kind codes && every over_list (up_from 0 40) && every every_code (up_from 0 300)
