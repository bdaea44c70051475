-- `join`: where both are figures of few enough messages each number is a sum.
use Rattle.std.proofs.Common.{ap, sym, ◌∙◌}
use Rattle.figures.specs.Stages.{fault_figured}
use Rattle.figures.proofs.Bounds.{bounded}
use Rattle.figures.proofs.Answers.{joined_figures, join_full, join_done}
use Rattle.figures.proofs.join.join.Goals as goal

pub returns-then-not-are_joinable : goal.returns-then-not-are_joinable
returns-then-not-are_joinable c = let a = c.args in join_full a.figures.now a.others.now (sym c.are_joinable.ensures ∙ c.if-not-are_joinable.true) (c.into.ensures ∙ ap fault_figured c.at.ensures)

pub sum_all-requires : goal.sum_all-requires
sum_all-requires c =
    let a = c.args in
    let (f, g) = joined_figures a.figures.now a.others.now (sym c.are_joinable.ensures ∙ c.if-not-are_joinable.false) in
    (bounded a.others.now g, bounded a.figures.now f)

pub returns : goal.returns
returns c = let a = c.args in join_done a.figures.now a.others.now _ (sym c.are_joinable.ensures ∙ c.if-not-are_joinable.false) c.sum_all.ensures
