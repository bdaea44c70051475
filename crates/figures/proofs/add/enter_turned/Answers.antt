-- `enter_turned`: one number raised, by the refusal.
use Prim.Native.Nat.{◌+◌, ◌-◌}
use mathlib.Core.Path.{ap, ◌∙◌}
use Rattle.table.specs.Refusals.{answer_of}
use Rattle.figures.specs.Stages.{raised}
use Rattle.figures.proofs.Raising.{turned_raised}
use Rattle.figures.proofs.add.enter_turned.Goals as goal

pub returns : goal.returns
returns c =
    let a = c.args in
    λ e q.
    ap (λ r. raised a.figures.now (a.first + r - 1) 1) c.answer.ensures ∙ ap (λ f. raised a.figures.now (f + answer_of a.refusal - 1) 1) q ∙ turned_raised a.figures.now c.requires.0.long e (answer_of a.refusal) c.requires.2 c.requires.3
