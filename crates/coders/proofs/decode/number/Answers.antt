-- `decode::number`: the number at the front, and whether it is all of the slice.
use Rattle.coders.proofs.Decoding.{number_refused, number_left, number_whole}
use Rattle.coders.proofs.decode.number.Goals as goal

pub returns-in-Fails : goal.returns-in-Fails
returns-in-Fails c = rw c.unread.ensures (number_refused c.args.bytes.now c.count.ensures c.in-Fails.is)

pub returns-in-Counts : goal.returns-in-Counts
returns-in-Counts c = rw c.unread-in-Counts.ensures (number_left c.args.bytes.now c.count.ensures c.in-Counts.is c.if-after-end.true)

pub returns-in-Counts-2 : goal.returns-in-Counts-2
returns-in-Counts-2 c = number_whole c.args.bytes.now c.count.ensures c.in-Counts.is c.if-after-end.false
