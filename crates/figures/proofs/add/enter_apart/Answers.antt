-- `enter_apart`: one number raised.
use Rattle.figures.proofs.Raising.{apart_raised}
use Rattle.figures.proofs.add.enter_apart.Goals as goal

pub returns : goal.returns
returns c = apart_raised c.args.figures.now c.requires.long
