-- `are_joinable`: both are judged.
use native.Mathlib.Omega.{arith}
use Rattle.figures.proofs.Answers.{judged_few, not_joined, others_not, joined_by}
use Rattle.figures.proofs.join.are_joinable.Goals as goal

pub returns-in_default : goal.returns-in_default
returns-in_default c = let a = c.args in not_joined a.figures.now a.others.now c.in_default.ensures

pub returns-in_default-messages : goal.returns-in_default-messages
returns-in_default-messages c = let a = c.args in others_not a.figures.now a.others.now c.in-Some.ensures c.in_default-messages.ensures

pub overflow_add-result : goal.overflow_add-result
overflow_add-result c = let a = c.args in omega (arith, judged_few a.figures.now c.in-Some.ensures, judged_few a.others.now c.in-Some-messages.ensures)

pub returns : goal.returns
returns c = let a = c.args in joined_by a.figures.now a.others.now c.in-Some.ensures c.in-Some-messages.ensures
