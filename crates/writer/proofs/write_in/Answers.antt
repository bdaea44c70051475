-- `write_in`: the verdict's answer, and the output where it is written.
use Rattle.table.specs.Reply.{fault_reply}
use Rattle.table.specs.Told.{edition_of}
use Rattle.writer.proofs.Answers.{accepts, refuses, too_short}
use mathlib.Core.Path.{◌∙◌, ap}
use Rattle.writer.proofs.write_in.Goals as goal

pub returns-in-Err : goal.returns-in-Err
returns-in-Err c =
    let a = c.args in
    refuses (edition_of a.edition) a.table.now.pool.now a.table.now.rows.now a.output.now c.check_all.ensures c.in-Err.is c.from.ensures

pub returns-then-output-many : goal.returns-then-output-many
returns-then-output-many c =
    let a = c.args in
    too_short (edition_of a.edition) a.table.now.pool.now a.table.now.rows.now a.output.now c.check_all.ensures c.in-Ok.is c.if-output-many.true (c.from-then-output-many.ensures ∙ ap fault_reply c.at.ensures)

pub returns : goal.returns
returns c =
    let a = c.args in
    accepts (edition_of a.edition) a.table.now.pool.now a.table.now.rows.now a.output.now c.check_all.ensures c.in-Ok.is c.if-output-many.false c.put_all.ensures c.room.ensures
