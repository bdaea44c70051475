-- `feed::feed_block`: the last byte of the block, or one before it.
use Rattle.plain.proofs.Feeding.{block_further, block_ended}
use Rattle.plain.proofs.feed.feed_block.Goals as goal

pub returns-then-after-until : goal.returns-then-after-until
returns-then-after-until c = λ t s. block_further t s c.args.at c.args.until c.args.of c.requires c.if-after-until.true

pub returns : goal.returns
returns c = λ t s. block_ended t s c.args.at c.args.until c.args.of c.requires c.if-after-until.false
