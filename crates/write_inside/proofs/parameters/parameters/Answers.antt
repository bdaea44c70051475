-- `parameters::parameters`: parameter by parameter, until the row ahead begins none.
use Rattle.table.specs.Told.{edition_of}
use Rattle.write_inside.proofs.Choosing.{found_as, parameters_end}
use Rattle.write_rows.specs.Laying.{laid_length}
use Rattle.write_rows.specs.Onward.{advance_as, handed_up, laid_from, onward_layable, onward_stuck, onward_then}
use Rattle.std.specs.Prelude.{Ok}
use mathlib.Core.Path.{◌∙◌, ap}
use Rattle.write_inside.proofs.parameters.parameters.Goals as goal

pub returns-in_err-next : goal.returns-in_err-next
returns-in_err-next c = advance_as _ _ _ _ _ _ _ _ _ (handed_up _ c.from_residual.ensures) (onward_stuck c.requires.layable.small c.loop-next.invariant.3 c.in_err-next.ensures)

pub returns : goal.returns
returns c =
    let l = c.loop-next in
    let last = found_as _ _ _ _ _ _ _ (ap Ok c.in_default.is) c.in_ok-next.ensures in
    onward_then c.requires.layable.small l.invariant.3 (parameters_end (edition_of c.args.edition) _ _ _ last.1 last.2 l.invariant.0 (laid_from last.0 c.put.ensures))

pub loop-next-preserved : goal.loop-next-preserved
loop-next-preserved c =
    let l = c.loop-next in
    let went = found_as _ _ _ _ _ _ _ (ap Ok c.in-Some.is) c.in_ok-next.ensures in
    (went.0.inside, onward_layable went.0 l.invariant.1, laid_length went.0.onto.laid ∙ l.invariant.2, onward_then c.requires.layable.small l.invariant.3 went.0)
