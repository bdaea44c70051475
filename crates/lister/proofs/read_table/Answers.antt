-- `read_table`: the reader's promise, and that its text is the listing.
use Rattle.lister.proofs.Tables.{table_listed}
use Rattle.lister.proofs.read_table.Goals as goal

pub returns : goal.returns
returns c = let a = c.args in table_listed a.edition a.input.now a.rows.now a.words.now _ _ _ c.read.ensures
