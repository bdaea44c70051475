-- `row::numbers`: the invariant says that the numbers before this one are printed.
use Prim.Native.Nat.{◌*◌, ◌≤◌}
use mathlib.Core.Path.{◌≡◌}
use lib.ListN.{length}
use Rattle.pen.specs.Fields.{fields_of}
use Rattle.pen.specs.Written.{Printing}
use Rattle.listing.proofs.row.numbers.Given as goal

abbrev pub invariant-loop-number : goal.invariant-loop-number
invariant-loop-number l = (l.end ≤ 11 * l.number-index) × (length l.out ≡ length l.initial.out) × Printing fields_of l.row l.number-index l.initial.out l.out 0 l.end
