-- What holds of the open lists of a reading, and of the room beside them.
use Rattle.std.specs.Prelude.{ℕ, ◌≤◌, ◌<◌, List, ◌≡◌, length, get_or}
use Rattle.moves.specs.declared.rooms.Room.{Room}
use Rattle.moves.specs.declared.rooms.Room.TheVariants.{AgentList}
use Rattle.plain.specs.declared.lists.ListKind.{ListKind}
use Rattle.plain.specs.declared.lists.ListKind.TheVariants.{Many, Resolvers}

abbrev pub lists_most : ℕ
lists_most = 9

-- behind the first all are resolvers, and the first is none
pub record Nested (kinds : List ListKind) (depth : ℕ) : Type 0 where
  pub size : length kinds ≡ lists_most
  pub most : depth ≤ lists_most
  pub first : 0 < depth → get_or kinds 0 Many ≡ Resolvers → ⊥
  pub deep : (j : ℕ) → 0 < j → j < depth → get_or kinds j Many ≡ Resolvers

-- the ninth is open only where an agent may begin
abbrev pub Bounded : Room → ℕ → Type 0
Bounded r depth = (r ≡ AgentList → ⊥) → depth ≤ 8
