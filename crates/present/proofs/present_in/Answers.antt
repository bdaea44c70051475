-- `present_in`: what the check refuses, else the walk's row.
use Rattle.table.specs.Told.{edition_of}
use Rattle.present.proofs.Answers.{answers, walkable}
use Rattle.present.proofs.present_in.Goals as goal

pub first_value-requires : goal.first_value-requires
first_value-requires c =
    (walkable (edition_of c.args.edition) c.args.rows.now c.args.pool.now c.args.code c.check_rows.ensures c.in-Ok.is, c.requires)

pub returns-in-Ok : goal.returns-in-Ok
returns-in-Ok c =
    answers (edition_of c.args.edition) c.args.rows.now c.args.pool.now c.args.code c.check_rows.ensures c.in-Ok.is c.requires c.first_value.ensures c.room.ensures
