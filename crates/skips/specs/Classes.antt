-- What a row's kind is to a pass over a whole table: the bit of its parameter, and above the bits how its own rows are found.
use Rattle.std.specs.Prelude.{ℕ, ◌+◌, ◌≤◌, List, [], ◌∷◌, ◌≡◌, eqb, get_or}
use Rattle.meaning.specs.Basics.{pick}
use Rattle.meaning.specs.Kinds.{agent_name}
use Rattle.meaning.specs.Skips.{rank, is_envelope, holds_deeper}
use Rattle.meaning.specs.Words.{word_of}
use Rattle.laws_tables.specs.Neighbours.{is_follower, kind_most}

-- the bit of the parameter that a row of this kind opens or holds at level 0
abbrev pub bit_of : ℕ → ℕ
bit_of kind = word_of (rank kind 0 ∷ [])

-- an envelope's own row, one that follows another, an agent's, one to which deeper rows belong; or one that has no rows when the pass comes to it
abbrev pub way_of : ℕ → ℕ
way_of kind = pick (is_envelope kind) 0x4000 (pick (is_follower kind) 0x3000 (pick (eqb kind agent_name) 0x2000 (pick (holds_deeper kind) 0x1000 0)))

abbrev pub class_of : ℕ → ℕ
class_of kind = way_of kind + bit_of kind

-- numbers by which a kind's class is looked up
abbrev pub ClassesAre : List ℕ → Type 0
ClassesAre numbers = (kind : ℕ) → kind ≤ kind_most → get_or numbers kind 0 ≡ class_of kind
