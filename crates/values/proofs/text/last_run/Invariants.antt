-- `text::last_run`: byte by byte; the invariant is that all before is of a line.
use Rattle.std.specs.Prelude.{length}
use Rattle.values.specs.Stages.{Skipped}
use Rattle.meaning.specs.Bytes.{Rule}
use Rattle.values.proofs.text.last_run.Given as goal

abbrev pub invariant-loop-i : goal.invariant-loop-i
invariant-loop-i l = (rule : Rule) → Skipped rule l.s (length l.s) l.at l.i
