-- `Standing::coded`: an agent of level 9, or by the form of the value.
use mathlib.Core.Path.{sym, ◌∙◌}
use Rattle.plain.proofs.Coding.{coded_deep}
use Rattle.plain.proofs.standing.Standing.coded.Goals as goal

pub returns-then-too_deep : goal.returns-then-too_deep
returns-then-too_deep c = λ t s here. coded_deep t s c.args.at c.args.self here (sym c.too_deep.ensures ∙ c.if-too_deep.true) c.at.ensures

pub returns : goal.returns
returns c = λ t s here. c.begun.ensures t s c.args.self (sym c.too_deep.ensures ∙ c.if-too_deep.false) here
