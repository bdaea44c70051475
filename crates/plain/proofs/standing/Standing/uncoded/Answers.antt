-- `Standing::uncoded`: an agent of level 9, or the text's first byte.
use mathlib.Core.Path.{sym, ◌∙◌}
use native.Mathlib.Omega.{arith}
use Rattle.plain.specs.Values.{Valid}
use Rattle.plain.proofs.Landing.{fed_steps, steps_onward}
use Rattle.plain.proofs.Coding.{uncoded_deep, uncoded_leads, uncoded_span}
use Rattle.plain.proofs.standing.Standing.uncoded.Goals as goal

pub returns-then-too_deep : goal.returns-then-too_deep
returns-then-too_deep c = λ t here. uncoded_deep t c.args.s.now c.args.at c.args.self here (sym c.too_deep.ensures ∙ c.if-too_deep.true) c.at.ensures

pub feed_text-requires : goal.feed_text-requires
unfolding Valid
feed_text-requires c = (omega arith, c.requires)

pub returns : goal.returns
returns c = λ t here.
    let flat = sym c.too_deep.ensures ∙ c.if-too_deep.false in
    steps_onward (uncoded_span t c.args.s.now c.args.at c.args.self here flat)
    (fed_steps t c.args.s.now c.args.at c.args.self (c.feed_text.ensures t) (uncoded_leads t c.args.s.now c.args.at c.args.self here flat))
