-- `first_value`: the invariant says that the first value of all rows is the first from row i on.
use Prim.Native.Nat.{◌-◌}
use Rattle.present.proofs.Walk.{Looked}
use Rattle.present.proofs.first_value.Given as goal

abbrev pub invariant-loop-i : goal.invariant-loop-i
invariant-loop-i l = Looked l.rows l.code l.n l.i

abbrev pub decreases-loop-i : goal.decreases-loop-i
decreases-loop-i l = l.n - l.i
