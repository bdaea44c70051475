-- `walked_end`: the invariant says that all rows up to j belong to row i, and that what is left of its rows begins there.
use Rattle.laws_steps.specs.Hopping.{HopsTo}
use Rattle.hold_skips.proofs.walked_end.Given as goal

abbrev pub invariant-loop-j : goal.invariant-loop-j
invariant-loop-j l = HopsTo l.rows l.n l.i l.j
