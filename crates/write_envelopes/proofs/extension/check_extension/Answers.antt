-- `extension::check_extension`: an extension opens at row 0, and the table ends behind its inside.
use mathlib.Core.Path.{◌∙◌, ap, sym}
use native.Mathlib.Omega.{arith}
use Rattle.std.specs.Prelude.{Err, Result, Some, ℕ}
use Rattle.table.specs.Told.{edition_of}
use Rattle.table.specs.declared.answers.Fault.{Fault}
use Rattle.write_rows.specs.Onward.{handed_up}
use Rattle.write_envelopes.specs.Whole.{verdict_is}
use Rattle.write_envelopes.proofs.Checking.{measured_ended, measured_stuck}
use Rattle.write_envelopes.proofs.Extensions.{extension_ended, extension_stuck, no_extension, some_row}
use Rattle.write_envelopes.proofs.extension.check_extension.Goals as goal

pub returns-in_default : goal.returns-in_default
returns-in_default c =
    let a = c.args in
    ap (λ (f : Fault). verdict_is (Err f)) c.at.ensures ∙ no_extension (edition_of a.edition) a.table.now.pool.now a.table.now.rows.now (λ q. let z = c.in_default.ensures ∙ q in cc)

pub returns-then-base : goal.returns-then-base
returns-then-base c =
    let a = c.args in
    ap (λ (f : Fault). verdict_is (Err f)) c.at-then-base.ensures ∙ no_extension (edition_of a.edition) a.table.now.pool.now a.table.now.rows.now (λ q. let z = c.in-Some.ensures ∙ q in let y = c.if-base.true in cc)

pub measure-requires : goal.measure-requires
measure-requires c = let a = c.args in omega (arith, some_row (edition_of a.edition) a.table.now.pool.now a.table.now.rows.now (ap Some (sym c.if-base.false) ∙ c.in-Some.ensures))

pub returns-in_err-inside : goal.returns-in_err-inside
returns-in_err-inside c =
    let a = c.args in
    ap (λ (r : Result ℕ Fault). verdict_is r) (sym (handed_up _ c.from_residual.ensures)) ∙ extension_stuck (edition_of a.edition) a.table.now.pool.now a.table.now.rows.now (ap Some (sym c.if-base.false) ∙ c.in-Some.ensures) (measured_stuck _ a.table.now.pool.now a.table.now.rows.now c.in_err-inside.ensures)

pub returns : goal.returns
returns c =
    let a = c.args in
    c.ended.ensures ∙ extension_ended (edition_of a.edition) a.table.now.pool.now a.table.now.rows.now (ap Some (sym c.if-base.false) ∙ c.in-Some.ensures) (measured_ended _ a.table.now.pool.now a.table.now.rows.now c.in_ok-inside.ensures)
