-- `fields`: the invariant says that the numbers before this one are printed.
use Prim.Native.Nat.{◌+◌, ◌*◌, ◌≤◌}
use mathlib.Core.Path.{◌≡◌}
use lib.ListN.{length}
use Rattle.pen.specs.Written.{Printing}
use Rattle.pen.specs.Fields.{fields_of}
use Rattle.figures.specs.Stages.{field_most}
use Rattle.figures.proofs.report.fields.Given as goal

abbrev pub invariant-loop-number : goal.invariant-loop-number
invariant-loop-number l = (l.end ≤ l.at + field_most * l.number-index) × (length l.out ≡ length l.initial.out) × Printing fields_of l.numbers l.number-index l.initial.out l.out l.at l.end
