-- `pen::number`: a tenth's digits, then the last one.
use Rattle.std.proofs.Common.{arith}
use Rattle.pen.specs.Decimals.{wrote_small, wrote_more, decimal_longer, decimal_some}
use Rattle.pen.proofs.+number.Goals as goal

pub put-requires : goal.put-requires
put-requires t c = omega (arith, decimal_some c.args.value)

pub returns-then-value-lt10 : goal.returns-then-value-lt10
returns-then-value-lt10 t c = wrote_small c.args.value c.if-value-lt10.true c.digit.ensures c.put.ensures

pub number-end-requires : goal.number-end-requires
number-end-requires t c = (omega (arith, c.decreases), omega (arith, c.requires, decimal_longer c.args.value c.if-value-lt10.false))

pub put-requires-2 : goal.put-requires-2
put-requires-2 t c = omega (arith, c.requires, c.number-end.ensures.ends, c.number-end.auto.out, decimal_longer c.args.value c.if-value-lt10.false)

pub returns : goal.returns
returns t c = wrote_more c.args.value c.if-value-lt10.false c.number-end.ensures c.digit-2.ensures c.put-2.ensures
