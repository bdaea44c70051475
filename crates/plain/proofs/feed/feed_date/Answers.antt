-- `feed::feed_date`: a byte that passes, the last one among them, or one that does not.
use native.Mathlib.Omega.{arith}
use Rattle.plain.proofs.Feeding.{date_further, date_ended, date_refused}
use Rattle.plain.proofs.feed.feed_date.Goals as goal

pub returns-then-length-length_of : goal.returns-then-length-length_of
returns-then-length-length_of c = λ t. date_further t c.args.s.now c.args.at c.args.absolute c.args.designated c.args.of c.requires.0 c.byte_passes.ensures c.if-byte_passes.true (omega (arith, c.if-length-length_of.true, c.length_of.ensures))

pub returns-then-byte_passes : goal.returns-then-byte_passes
returns-then-byte_passes c = λ t. date_ended t c.args.s.now c.args.at c.args.absolute c.args.designated c.args.of c.requires.0 c.byte_passes.ensures c.if-byte_passes.true (omega (arith, c.if-length-length_of.false, c.length_of.ensures))

pub returns : goal.returns
returns c = λ t. date_refused t c.args.s.now c.args.at c.args.absolute c.args.designated c.args.of c.requires.0 c.byte_passes.ensures c.if-byte_passes.false c.at.ensures
