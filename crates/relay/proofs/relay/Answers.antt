-- `relay`: the edition, then what refuses both parts; else they are joined.
use Rattle.std.specs.Prelude.{refl}
use Rattle.std.proofs.Common.{ap, ◌∙◌}
use native.Mathlib.Omega.{arith}
use Rattle.laws_steps.specs.Logic.{slice_of_bytes}
use Rattle.table.specs.Reply.{fault_reply}
use Rattle.table.specs.declared.refusals.Refusal.TheVariants.{EditionUnknown}
use Rattle.relay.proofs.Refusing.{refuses}
use Rattle.relay.proofs.relay.Goals as goal

pub returns-in_default : goal.returns-in_default
returns-in_default c =
    let a = c.args in
    let bytes = slice_of_bytes a.input.now (λ i. omega (arith, c.type_inv.input i)) in
    let pool_bytes = slice_of_bytes a.pool.now (λ i. omega (arith, c.type_inv.pool i)) in
    refuses a.edition a.input.now a.table.now a.pool.now a.rows.now a.words.now a.output.now bytes pool_bytes (record { refusal = EditionUnknown; at = 0 }) c.in_default.ensures refl (c.from.ensures ∙ ap fault_reply c.at.ensures)

pub returns-in-Err : goal.returns-in-Err
returns-in-Err c =
    let a = c.args in
    let bytes = slice_of_bytes a.input.now (λ i. omega (arith, c.type_inv.input i)) in
    let pool_bytes = slice_of_bytes a.pool.now (λ i. omega (arith, c.type_inv.pool i)) in
    refuses a.edition a.input.now a.table.now a.pool.now a.rows.now a.words.now a.output.now bytes pool_bytes c.in-Err.fault c.in-Ok.ensures c.in-Err.ensures c.from-in-Err.ensures
