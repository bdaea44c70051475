-- `all_right`: the invariant says that the skip numbers from `next` on are right, and how the rows up to `end` stand.
use Rattle.hold_skips.specs.Holding.{HeldTurn}
use Rattle.hold_skips.proofs.all_right.Goals as goal

pub loop-next-smaller : goal.loop-next-smaller
unfolding HeldTurn
loop-next-smaller c = c.in-Some.ensures.1

pub loop-next-preserved : goal.loop-next-preserved
unfolding HeldTurn
loop-next-preserved c = c.in-Some.ensures.0
