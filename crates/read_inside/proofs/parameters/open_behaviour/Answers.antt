-- `parameters::open_behaviour`: the opening row, then the any-value's stage.
use Rattle.laws_steps.specs.Rooms.{behaviour_any}
use Rattle.read_inside.proofs.parameters.open_behaviour.Goals as goal

pub returns : goal.returns
returns c =
    let opened = c.open-opened.ensures in
    rw (opened.at, opened.rows, opened.put) at (c.behaviour.ensures _ _ (behaviour_any _))
