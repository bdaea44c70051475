-- `add`: where the lent numbers take one more message it is entered.
use Rattle.std.proofs.Common.{ap, sym, ◌∙◌, arith}
use Rattle.laws_steps.specs.Logic.{slice_of_bytes}
use Rattle.figures.specs.Stages.{fault_figured}
use Rattle.figures.proofs.Bounds.{bounded}
use Rattle.figures.proofs.Answers.{more_figures, add_full, add_done}
use Rattle.figures.proofs.add.add.Goals as goal

pub returns-then-not-takes_more : goal.returns-then-not-takes_more
returns-then-not-takes_more c =
    let a = c.args in
    add_full a.edition a.input.now a.figures.now (slice_of_bytes a.input.now (λ i. omega (arith, c.type_inv.input i))) (sym c.takes_more.ensures ∙ c.if-not-takes_more.true) (c.into.ensures ∙ ap fault_figured c.at.ensures)

pub enter-requires : goal.enter-requires
enter-requires c = let a = c.args in bounded a.figures.now (more_figures a.figures.now (sym c.takes_more.ensures ∙ c.if-not-takes_more.false))

pub returns : goal.returns
returns c =
    let a = c.args in
    add_done a.edition a.input.now a.figures.now _ (slice_of_bytes a.input.now (λ i. omega (arith, c.type_inv.input i))) (sym c.takes_more.ensures ∙ c.if-not-takes_more.false) c.enter.ensures
