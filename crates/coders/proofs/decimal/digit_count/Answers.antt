-- `decimal::digit_count`: between two powers of ten.
use Rattle.coders.proofs.Encoding.{digits_counted}
use Rattle.coders.proofs.decimal.digit_count.Goals as goal

pub returns : goal.returns
returns c = let l = c.ilog10.ensures in digits_counted c.ilog10.result c.args.value c.max.ensures l.power_le l.next_power_gt c.requires
