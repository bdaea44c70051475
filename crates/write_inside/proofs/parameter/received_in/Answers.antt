-- `parameter::received_in`: the code 0A leads to the received object.
use Rattle.meaning.specs.Kinds.{received_by}
use Rattle.laws_steps.specs.Rows.{cells_at}
use Rattle.table.specs.Told.{edition_of}
use Rattle.write_inside.proofs.Rooms.{none_represents, pass_receives}
use Rattle.write_inside.proofs.Choosing.{found_advance, pass_on, way_ahead}
use Rattle.write_rows.specs.Onward.{advance_then}
use Rattle.write_rows.specs.Stages.{at_parameters}
use native.Mathlib.Omega.{arith}
use Rattle.write_inside.proofs.parameter.received_in.Goals as goal

pub returns : goal.returns
returns c =
    let a = c.args in
    let d = edition_of a.edition in
    let way = way_ahead d received_by (cells_at a.table.now.pool.now a.table.now.rows.now a.i) c.requires.1 (omega arith) (none_represents d).2 in
    let pass = pass_on d _ _ _ 0x0a (pass_receives d) c.requires.0.inside way c.put-p.ensures in
    let received = c.received in
    found_advance d _ _ _ _ _ received.result _ (advance_then c.requires.0.layable.small pass at_parameters _ received.result received.ensures.0) received.ensures.1 c.begun.ensures
