-- `text::allows`: what a line allows, or in a note a break.
use Rattle.values.proofs.Texts.{allowed}
use Rattle.values.proofs.text.allows.Goals as goal

pub returns : goal.returns
returns g c = allowed g.row.NOTE c.args.b c.is_break.ensures
