-- The open lists as `meaning` has them: the level is how many they are, and the first says whether the agent is the one of `from`.
use Rattle.std.specs.Prelude.{◌-◌, ◌≤◌, Bool, true, false, Option, None, Some, ◌≡◌, eqb, get_or}
use Rattle.meaning.specs.Basics.{pick}
use Rattle.meaning.specs.Editions.{State, state}
use Rattle.moves.specs.declared.rooms.Next.{Next}
use Rattle.moves.specs.declared.rooms.Next.TheVariants.{ListEnds}
use Rattle.moves.specs.Words.{room_of}
use Rattle.plain.specs.declared.lists.ListKind.{ListKind}
use Rattle.plain.specs.declared.lists.ListKind.TheVariants.{Many, One, Resolvers}
use Rattle.plain.specs.declared.lists.Lists.{Lists}
use Rattle.plain.specs.declared.standing.Standing.{Standing}

abbrev pub is_one : ListKind → Bool
is_one Many = false
is_one One = true
is_one Resolvers = false

abbrev pub single_of : Lists → Bool
single_of l = pick (eqb l.depth 0) false (is_one (get_or l.kinds 0 Many))

-- the innermost open list
abbrev pub innermost : Lists → Option ListKind
innermost l = pick (eqb l.depth 0) None (Some (get_or l.kinds (l.depth - 1) Many))

-- where a reading stands, as `meaning` has it
abbrev pub state_of : Standing → State
state_of r = state (room_of r.room) r.lists.depth (single_of r.lists)

-- where the ninth list is open, a move ends it
abbrev pub Leads : Next → Lists → Type 0
Leads n l = (n ≡ ListEnds → ⊥) → l.depth ≤ 8
