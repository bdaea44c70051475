-- `body::stages`: the front, then the parameters.
use Rattle.write_rows.specs.Onward.{advance_as, advance_then, handed_up}
use Rattle.meaning.specs.Editions.{closed, state}
use mathlib.Core.Bool.{false}
use Rattle.write_inside.proofs.body.stages.Goals as goal

pub returns-in_err-behind : goal.returns-in_err-behind
returns-in_err-behind c = advance_as _ _ _ _ _ _ _ _ _ (handed_up _ c.from_residual.ensures) c.in_err-behind.ensures

pub returns : goal.returns
returns c = advance_then c.requires.1 c.in_ok-behind.ensures (state closed 0 false) _ c.parameters.result c.parameters.ensures
