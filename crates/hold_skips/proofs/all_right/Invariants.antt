-- `all_right`: the invariant says that the skip numbers from `next` on are right, and how the rows up to `end` stand.
use Rattle.hold_skips.specs.Holding.{HeldFrom}
use Rattle.hold_skips.proofs.all_right.Given as goal

abbrev pub invariant-loop-next : goal.invariant-loop-next
invariant-loop-next l = HeldFrom l.rows l.n l.next l.end

abbrev pub decreases-loop-next : goal.decreases-loop-next
decreases-loop-next l = l.next
