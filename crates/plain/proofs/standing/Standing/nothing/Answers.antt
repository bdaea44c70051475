-- `Standing::nothing`: behind the envelope's 01, or elsewhere.
use mathlib.Core.Path.{sym, ◌∙◌}
use Rattle.plain.proofs.Coding.{none_closed, none_strange}
use Rattle.plain.proofs.standing.Standing.nothing.Goals as goal

pub returns-then-is_closed : goal.returns-then-is_closed
returns-then-is_closed c = λ t s here. none_closed t s c.args.at c.args.self (sym c.is_closed.ensures ∙ c.if-is_closed.true)

pub returns : goal.returns
returns c = λ t s here. none_strange t s c.args.at c.args.self here (sym c.is_closed.ensures ∙ c.if-is_closed.false) c.strange.ensures c.at.ensures
