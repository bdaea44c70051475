-- `parameters::parameters`: parameter by parameter, until the row ahead begins none.
use Prim.Native.Nat.{◌-◌, ◌≤◌}
use Rattle.meaning.specs.Memory.{room_of}
use Rattle.table.specs.Told.{edition_of}
use Rattle.write_rows.specs.Laying.{Layable}
use Rattle.write_rows.specs.Stages.{at_parameters, Onward}
use lib.ListN.{length}
use mathlib.Core.Path.{◌≡◌}
use Rattle.write_inside.proofs.parameters.parameters.Given as goal

abbrev pub invariant-loop-next : goal.invariant-loop-next
invariant-loop-next l =
    (l.here.row ≤ room_of l.table.rows.now) × Layable l.output l.here.at × (length l.output ≡ length l.initial.output) × Onward (edition_of l.edition) l.table.pool.now l.table.rows.now l.from at_parameters l.here.row at_parameters l.initial.output l.at l.output l.here.at

abbrev pub decreases-loop-next : goal.decreases-loop-next
decreases-loop-next l = room_of l.table.rows.now - l.here.row
