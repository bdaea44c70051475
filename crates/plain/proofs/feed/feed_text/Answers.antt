-- `feed::feed_text`: the closing 00, a byte that the rule allows, or another.
use mathlib.Core.Path.{sym, ◌∙◌}
use Rattle.plain.proofs.Feeding.{text_ended, text_further, text_refused}
use Rattle.plain.proofs.feed.feed_text.Goals as goal

pub returns-then-b-eq0 : goal.returns-then-b-eq0
returns-then-b-eq0 c = λ t. text_ended t c.args.s.now c.args.at c.args.rule c.args.of c.requires.0 c.if-b-eq0.true

pub returns-then-allows : goal.returns-then-allows
returns-then-allows c = λ t. text_further t c.args.s.now c.args.at c.args.rule c.args.of c.requires.0 (sym c.allows.ensures ∙ c.if-allows.true)

pub returns : goal.returns
returns c = λ t. text_refused t c.args.s.now c.args.at c.args.rule c.args.of c.requires.0 c.if-b-eq0.false (sym c.allows.ensures ∙ c.if-allows.false) c.at.ensures
