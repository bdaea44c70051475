-- `rows::number`: the value's stage, and its row kept.
use Rattle.read_rows.proofs.Values.{value_fits, value_row}
use Rattle.read_rows.proofs.rows.number.Goals as goal

pub keep-requires-clause-fits : goal.keep-requires-clause-fits
keep-requires-clause-fits c = value_fits c.take-v.result c.requires c.take-v.ensures

pub returns : goal.returns
returns c t q = value_row 0 c.args.rows.now q c.requires c.take-v.ensures c.keep.ensures
