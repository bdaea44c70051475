-- `hop::owned_end`: the invariant says that all rows up to j belong to row i, and that what is left of its rows begins there.
use Prim.Native.Nat.{◌-◌}
use Rattle.laws_steps.specs.Hopping.{HopsTo}
use Rattle.skips.proofs.hop.owned_end.Given as goal

abbrev pub invariant-loop-j : goal.invariant-loop-j
invariant-loop-j g l = HopsTo l.rows l.n l.i l.j

abbrev pub decreases-loop-j : goal.decreases-loop-j
decreases-loop-j g l = l.n - l.j
