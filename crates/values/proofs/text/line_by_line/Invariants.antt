-- `text::line_by_line`: all before the place reached is allowed, and what stands there is of no line.
use Rattle.std.specs.Prelude.{length}
use Prim.Native.Nat.{◌-◌, ◌<◌}
use mathlib.Core.Bool.{false}
use mathlib.Core.Path.{◌≡◌}
use lib.ListN.{get_or}
use Rattle.meaning.specs.Bytes.{line, note, text_byte}
use Rattle.values.specs.Stages.{Skipped}
use Rattle.values.proofs.text.line_by_line.Given as goal

abbrev pub invariant-loop-i : goal.invariant-loop-i
invariant-loop-i l = Skipped note l.s (length l.s) l.at l.i × (l.i < (length l.s) → text_byte line (get_or l.s l.i 0) ≡ false)

abbrev pub decreases-loop-i : goal.decreases-loop-i
decreases-loop-i l = (length l.s) - l.i
