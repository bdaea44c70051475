-- `first_wrong`: all are right, or the lowest that is not.
use Rattle.skips.specs.Passes.{all_right_held, lowest_held}
use Rattle.hold_skips.proofs.first_wrong.Goals as goal

pub returns-then-all_right : goal.returns-then-all_right
returns-then-all_right c = all_right_held c.args.rows.now c.room-n.result c.room-n.ensures (c.all_right.ensures c.if-all_right.true)

pub returns : goal.returns
returns c = lowest_held c.args.rows.now c.room-n.result c.lowest_wrong.result c.room-n.ensures c.lowest_wrong.ensures
