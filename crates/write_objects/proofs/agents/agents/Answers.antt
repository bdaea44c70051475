-- `agents::agents`: turn by turn, until the list of level 1 or the one agent has ended.
use Rattle.write_rows.specs.Laying.{laid_length}
use Rattle.write_rows.specs.Onward.{advance_as, handed_up, onward_layable, onward_stuck, onward_then}
use Rattle.write_objects.proofs.Turning.{turn_as}
use Rattle.std.specs.Prelude.{Ok}
use mathlib.Core.Path.{◌∙◌, ap}
use Rattle.write_objects.proofs.agents.agents.Goals as goal

pub returns-in_err-turn : goal.returns-in_err-turn
returns-in_err-turn c = advance_as _ _ _ _ _ _ _ _ _ (handed_up _ c.from_residual.ensures) (onward_stuck c.requires.layable.small c.loop-turn.invariant.5 c.in_err-turn.ensures)

pub returns-in-Done : goal.returns-in-Done
returns-in-Done c = onward_then c.requires.layable.small c.loop-turn.invariant.5 (turn_as _ _ _ _ _ _ _ _ _ _ (ap Ok c.in-Done.is) c.in_ok-turn.ensures)

pub loop-turn-preserved : goal.loop-turn-preserved
loop-turn-preserved c =
    let l = c.loop-turn in
    let on = turn_as _ _ _ _ _ _ _ _ _ _ (ap Ok c.in-On.is) c.in_ok-turn.ensures in
    (on.0.inside, on.1, on.2, onward_layable on.0 l.invariant.3, laid_length on.0.onto.laid ∙ l.invariant.4, onward_then c.requires.layable.small l.invariant.5 on.0)
