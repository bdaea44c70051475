-- `rows::representation`: the value's stage, and its row kept.
use Rattle.meaning.specs.Told.{B, told}
use Rattle.read_rows.proofs.Values.{coded_fits, coded_row}
use Rattle.read_rows.proofs.rows.representation.Goals as goal

pub keep-requires-clause-fits : goal.keep-requires-clause-fits
keep-requires-clause-fits c = coded_fits c.requires (c.take-v.ensures (told B))

pub returns : goal.returns
returns c t q d h = coded_row c.args.rows.now c.requires h (c.take-v.ensures t) c.keep.ensures
