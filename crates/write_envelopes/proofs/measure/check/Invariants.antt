-- `measure::check`: envelope by envelope, what the sizes says of the rest is the verdict over all; and the lengths are noted.
use Prim.Native.Nat.{◌+◌, ◌-◌, ◌*◌, ◌≤◌}
use Rattle.meaning.specs.Writing.{fine, whole_plan}
use Rattle.meaning.specs.Memory.{room_of}
use Rattle.meaning.specs.Headers.{envelope_most, envelopes_most}
use Rattle.write_envelopes.proofs.Checking.{rest}
use Rattle.write_envelopes.proofs.Noting.{Noting}
use Rattle.laws_steps.specs.Rows.{cells_at}
use Rattle.table.specs.Told.{edition_of}
use Rattle.write_envelopes.specs.Whole.{limit_of, verdict}
use mathlib.Core.Path.{◌≡◌}
use Rattle.write_envelopes.proofs.measure.check.Given as goal

abbrev pub invariant-loop-base : goal.invariant-loop-base
invariant-loop-base l = (l.t.total + l.t.left * envelope_most ≤ envelopes_most * envelope_most) × (verdict envelopes_most 0 fine (whole_plan (edition_of l.edition) (cells_at l.table.pool.now l.table.rows.now 0)) ≡ verdict l.t.left l.t.total (limit_of l.t.over) (rest (edition_of l.edition) l.table.pool.now l.table.rows.now l.i)) × Noting (edition_of l.edition) l.table.pool.now l.table.rows.now l.t.left l.i l.lengths × (l.i ≤ room_of l.table.rows.now)

abbrev pub decreases-loop-base : goal.decreases-loop-base
decreases-loop-base l = room_of l.table.rows.now - l.i
