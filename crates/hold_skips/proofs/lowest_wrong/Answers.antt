-- `lowest_wrong`: the invariant says that the skip numbers before row i are right.
use Rattle.skips.specs.Passes.{held_ends, held_on, held_stops}
use Rattle.hold_skips.proofs.lowest_wrong.Goals as goal

pub returns-then-skip_at-walked_end : goal.returns-then-skip_at-walked_end
returns-then-skip_at-walked_end c =
    let a = c.args in
    let l = c.loop-i in
    held_stops a.rows.now a.n l.i l.invariant c.loop-i-test.true c.skip_at.ensures c.walked_end.ensures c.if-skip_at-walked_end.true

pub loop-i-preserved : goal.loop-i-preserved
loop-i-preserved c =
    let a = c.args in
    let l = c.loop-i in
    held_on a.rows.now a.n l.i l.invariant c.loop-i-test.true c.skip_at.ensures c.walked_end.ensures c.if-skip_at-walked_end.false

pub returns : goal.returns
returns c = let a = c.args in held_ends a.rows.now a.n c.loop-i.i c.loop-i.invariant c.loop-i-test.false
