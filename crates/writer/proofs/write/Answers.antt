-- `write`: the edition by its number.
use Rattle.writer.proofs.Answers.{in_edition, in_none}
use Rattle.table.specs.Reply.{fault_reply}
use Rattle.laws_steps.specs.Logic.{slice_of_bytes}
use mathlib.Core.Path.{◌∙◌, ap, refl, sym}
use native.Mathlib.Omega.{arith}
use Rattle.writer.proofs.write.Goals as goal

pub returns-in_default : goal.returns-in_default
returns-in_default c =
    let a = c.args in
    in_none a.edition a.rows.now a.pool.now a.output.now (slice_of_bytes a.pool.now (λ i. omega (arith, c.shared_slice_known-2-1.given i))) (sym c.in_default.ensures) (c.from.ensures ∙ ap fault_reply c.at.ensures) refl

pub returns : goal.returns
returns c =
    let a = c.args in
    in_edition a.edition a.rows.now a.pool.now a.output.now (slice_of_bytes a.pool.now (λ i. omega (arith, c.shared_slice_known-2-1.given i))) (sym c.in-Ok.ensures) c.write_in.ensures
