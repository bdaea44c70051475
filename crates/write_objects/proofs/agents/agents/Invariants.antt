-- `agents::agents`: turn by turn, until the list of level 1 or the one agent has ended.
use Prim.Native.Nat.{◌+◌, ◌≤◌}
use Rattle.meaning.specs.Memory.{room_of}
use Rattle.meaning.specs.Reading.{level_most}
use Rattle.table.specs.Told.{edition_of}
use Rattle.write_rows.specs.Laying.{Layable}
use Rattle.write_rows.specs.Stages.{Onward}
use Rattle.write_objects.specs.Turns.{agents_at, rows_and_levels}
use lib.ListN.{length}
use mathlib.Core.Path.{◌≡◌}
use Rattle.write_objects.proofs.agents.agents.Given as goal

abbrev pub invariant-loop-turn : goal.invariant-loop-turn
invariant-loop-turn l =
    (l.here.row ≤ room_of l.table.rows.now) × (1 ≤ l.level) × (l.level ≤ level_most + 1) × Layable l.output l.here.at × (length l.output ≡ length l.initial.output) × Onward (edition_of l.edition) l.table.pool.now l.table.rows.now l.from (agents_at 1 l.single) l.here.row (agents_at l.level l.single) l.initial.output l.at l.output l.here.at

abbrev pub decreases-loop-turn : goal.decreases-loop-turn
decreases-loop-turn l = rows_and_levels l.table.rows.now l.here.row l.level
