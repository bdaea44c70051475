-- `check_rows`: the verdict of the whole check, its notes put by.
use Rattle.table.specs.Told.{edition_of}
use Rattle.writer.proofs.Answers.{checked_as}
use Rattle.writer.proofs.check_rows.Goals as goal

pub returns : goal.returns
returns c = let a = c.args in checked_as (edition_of a.edition) a.pool.now a.rows.now c.check_all.ensures
