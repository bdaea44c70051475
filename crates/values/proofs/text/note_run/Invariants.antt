-- `text::note_run`: all before the place reached a note allows.
use Rattle.std.specs.Prelude.{length}
use Prim.Native.Nat.{◌-◌}
use Rattle.meaning.specs.Bytes.{note}
use Rattle.values.specs.Stages.{Skipped}
use Rattle.values.proofs.text.note_run.Given as goal

abbrev pub invariant-loop-i : goal.invariant-loop-i
invariant-loop-i l = Skipped note l.s (length l.s) l.at l.i

abbrev pub decreases-loop-i : goal.decreases-loop-i
decreases-loop-i l = (length l.s) - l.i
