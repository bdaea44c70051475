-- `present`: the edition by its number, then the code.
use Rattle.present.proofs.Answers.{can_be_asked, cannot_be_asked, in_none}
use Rattle.table.specs.Reply.{fault_reply}
use Rattle.laws_steps.specs.Logic.{slice_of_bytes}
use mathlib.Core.Path.{◌∙◌, ap, sym}
use native.Mathlib.Omega.{arith}
use Rattle.present.proofs.present.Goals as goal

pub returns-in_default : goal.returns-in_default
returns-in_default c =
    let a = c.args in
    in_none a.edition a.rows.now a.pool.now a.code (slice_of_bytes a.pool.now (λ i. omega (arith, c.shared_slice_known-2-1.given i))) (sym c.in_default.ensures) (c.from.ensures ∙ ap fault_reply c.at.ensures)

pub returns-then-can_ask : goal.returns-then-can_ask
returns-then-can_ask c =
    let a = c.args in
    can_be_asked a.edition a.rows.now a.pool.now a.code (slice_of_bytes a.pool.now (λ i. omega (arith, c.shared_slice_known-2-1.given i))) (sym c.in-Ok.ensures) c.can_ask.ensures c.if-can_ask.true c.present_in.ensures

pub returns : goal.returns
returns c =
    let a = c.args in
    cannot_be_asked a.edition a.rows.now a.pool.now a.code (slice_of_bytes a.pool.now (λ i. omega (arith, c.shared_slice_known-2-1.given i))) (sym c.in-Ok.ensures) c.can_ask.ensures c.if-can_ask.false (c.from-2.ensures ∙ ap fault_reply c.at-2.ensures)
