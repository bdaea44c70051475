-- `texts::texts`: the list from its first item to where the code stands, for every room that has such a list.
use Prim.Native.Nat.{◌-◌, ◌≤◌}
use Rattle.meaning.specs.Editions.{Room, State, state}
use Rattle.meaning.specs.Told.{Edition}
use Rattle.meaning.specs.Memory.{room_of}
use Rattle.write_rows.specs.Laying.{Layable}
use Rattle.write_rows.specs.Rooms.{TextsIn}
use Rattle.write_rows.specs.Stages.{Onward}
use lib.ListN.{length}
use mathlib.Core.Bool.{Bool}
use mathlib.Core.Path.{◌≡◌}
use Rattle.write_rows.proofs.texts.texts.Given as goal

abbrev pub invariant-loop-q : goal.invariant-loop-q
invariant-loop-q l =
    (l.i ≤ room_of l.table.rows.now) × Layable l.output l.p × (length l.output ≡ length l.initial.output)
    × ((edition : Edition) (room : Room) (single : Bool) (st₁ : State) → TextsIn edition room l.kind l.level single st₁ → Onward edition l.table.pool.now l.table.rows.now l.from (state room l.level single) l.i (state room l.level single) l.initial.output l.at l.output l.p)

abbrev pub decreases-loop-q : goal.decreases-loop-q
decreases-loop-q l = room_of l.table.rows.now - l.i
