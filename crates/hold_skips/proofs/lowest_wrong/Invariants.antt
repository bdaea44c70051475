-- `lowest_wrong`: the invariant says that the skip numbers before row i are right.
use mathlib.Core.Path.{◌≡◌}
use Rattle.laws_steps.specs.Hopping.{held_at}
use Rattle.hold_skips.proofs.lowest_wrong.Given as goal

abbrev pub invariant-loop-i : goal.invariant-loop-i
invariant-loop-i l = held_at l.rows l.n 0 ≡ held_at l.rows l.n l.i
