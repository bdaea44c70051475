-- `finish`: the invariant says that the rows from `next` on have their skip numbers, and that their envelopes' words stand in front.
use Rattle.lay_skips.proofs.Finishing.{FinishedFrom}
use Rattle.lay_skips.proofs.finish.Given as goal

abbrev pub invariant-loop-next : goal.invariant-loop-next
invariant-loop-next l = FinishedFrom l.initial.rows l.initial.words l.n l.rows l.words l.next l.k

abbrev pub decreases-loop-next : goal.decreases-loop-next
decreases-loop-next l = l.next
