-- `feed::Taking::feed`: by what is being taken.
use Rattle.table.specs.Told.{told_of}
use Rattle.plain.proofs.feed.Taking.feed.Goals as goal

pub returns-in-Text : goal.returns-in-Text
returns-in-Text c = let q = c.in-Text.is in rw q (c.feed_text.ensures (told_of c.args.told))

pub returns-in-Date : goal.returns-in-Date
returns-in-Date c = let q = c.in-Date.is in rw q (c.feed_date.ensures (told_of c.args.told))

pub returns-in-Number : goal.returns-in-Number
returns-in-Number c = let q = c.in-Number.is in rw q (c.feed_number.ensures (told_of c.args.told))

pub returns-in-Block : goal.returns-in-Block
returns-in-Block c = let q = c.in-Block.is in rw q (c.feed_block.ensures (told_of c.args.told) c.args.s.now)
