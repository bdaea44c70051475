-- `rows::behaviour`: as `rows::any`, at level 0.
use Rattle.read_rows.proofs.Values.{coded_fits, coded_row}
use Rattle.read_rows.proofs.rows.behaviour.Goals as goal

pub keep-requires-clause-fits : goal.keep-requires-clause-fits
keep-requires-clause-fits c = coded_fits c.requires c.take_in_place-v.ensures

pub returns : goal.returns
returns c q d h = coded_row c.args.rows.now c.requires h c.take_in_place-v.ensures c.keep.ensures
