-- `pen::hex`: the invariant says that the bytes before this one are printed.
use Prim.Native.Nat.{◌+◌, ◌*◌}
use mathlib.Core.Path.{◌≡◌}
use lib.ListN.{length}
use Rattle.meaning.specs.Listing.{hex_of}
use Rattle.pen.specs.Written.{Printing}
use Rattle.pen.proofs.hex.Given as goal

abbrev pub invariant-loop-b : goal.invariant-loop-b
invariant-loop-b l = (l.end ≡ l.at + 2 * l.b-index) × (length l.out ≡ length l.initial.out) × Printing hex_of l.bytes l.b-index l.initial.out l.out l.at l.end
