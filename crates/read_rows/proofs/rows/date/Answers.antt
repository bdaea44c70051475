-- `rows::date`: the value's stage in the edition, and its row kept.
use Rattle.table.specs.Told.{told_of}
use Rattle.read_rows.proofs.Values.{coded_fits, coded_row}
use Rattle.read_rows.proofs.rows.date.Goals as goal

pub keep-requires-clause-fits : goal.keep-requires-clause-fits
keep-requires-clause-fits c = coded_fits c.requires (c.take-v.ensures (told_of c.args.told))

pub returns : goal.returns
returns c q d h = coded_row c.args.rows.now c.requires h (c.take-v.ensures (told_of c.args.told)) c.keep.ensures
