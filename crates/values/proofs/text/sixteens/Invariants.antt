-- `text::sixteens` passes text alone: the invariant is its promise at the place reached, and a turn is one run of sixteen.
use Rattle.std.specs.Prelude.{length}
use Prim.Native.Nat.{◌-◌}
use Rattle.meaning.specs.Bytes.{Rule}
use Rattle.values.specs.Stages.{Skipped}
use Rattle.values.proofs.text.sixteens.Given as goal

abbrev pub invariant-loop-i : goal.invariant-loop-i
invariant-loop-i l = (rule : Rule) → Skipped rule l.s (length l.s) l.at l.i

abbrev pub decreases-loop-i : goal.decreases-loop-i
decreases-loop-i l = (length l.s) - l.i
