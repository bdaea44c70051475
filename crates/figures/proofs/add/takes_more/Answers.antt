-- `takes_more`: the lent numbers are judged.
use Rattle.figures.proofs.Answers.{not_more, more_by}
use Rattle.figures.proofs.add.takes_more.Goals as goal

pub returns-in_default : goal.returns-in_default
returns-in_default c = not_more c.args.figures.now c.in_default.ensures

pub returns : goal.returns
returns c = more_by c.args.figures.now c.in-Some.ensures
