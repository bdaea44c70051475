-- `text::first_below`: the mask's lowest bit.
use Rattle.values.proofs.Masks.{none_below, some_below}
use Rattle.values.proofs.text.first_below.Goals as goal

pub returns-then-below-eq0 : goal.returns-then-below-eq0
returns-then-below-eq0 c = let a = c.args in none_below a.s.now a.at c.requires c.if-below-eq0.true

pub returns : goal.returns
returns c = let a = c.args in some_below a.s.now a.at c.requires c.if-below-eq0.false
