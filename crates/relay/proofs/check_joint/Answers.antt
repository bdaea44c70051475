-- `check_joint`: the old header, the new table, the limits; what passes them may be joined.
use Rattle.std.proofs.Common.{ap, sym, subst, ◌∙◌}
use Rattle.table.specs.Told.{edition_of}
use Rattle.table.specs.Refusals.{answer_of}
use Rattle.meaning.specs.Relay.{unrelayed}
use Rattle.table.specs.declared.answers.Fault.{Fault}
use Rattle.write_rows.specs.Onward.{handed_up}
use Rattle.relay.specs.Promise.{JudgedAs}
use Rattle.relay.proofs.Refusing.{counted_header, may_join, no_header, no_table, past_limit}
use Rattle.relay.proofs.check_joint.Goals as goal

pub returns-in-Refused : goal.returns-in-Refused
returns-in-Refused c =
    let a = c.args in
    let e = edition_of a.edition in
    no_header e a.input.now a.new.now.rows.now a.new.now.pool.now c.count_in.ensures c.in-Refused.is

pub returns-in_err-inside : goal.returns-in_err-inside
returns-in_err-inside c =
    let a = c.args in
    let e = edition_of a.edition in
    let old = counted_header e a.input.now a.new.now.rows.now a.new.now.pool.now c.count_in.ensures c.in-Go.is in
    subst (JudgedAs e a.input.now a.new.now.rows.now a.new.now.pool.now) (handed_up _ c.from_residual.ensures) (no_table e a.input.now a.new.now.rows.now a.new.now.pool.now old _ c.in_err-inside.ensures)

pub returns-then-one_more_fits : goal.returns-then-one_more_fits
returns-then-one_more_fits c =
    let a = c.args in
    let e = edition_of a.edition in
    let old = counted_header e a.input.now a.new.now.rows.now a.new.now.pool.now c.count_in.ensures c.in-Go.is in
    may_join e a.input.now a.new.now.rows.now a.new.now.pool.now old c.in_ok-inside.ensures c.one_more_fits.ensures c.if-one_more_fits.true

pub returns : goal.returns
returns c =
    let a = c.args in
    let e = edition_of a.edition in
    let old = counted_header e a.input.now a.new.now.rows.now a.new.now.pool.now c.count_in.ensures c.in-Go.is in
    past_limit e a.input.now a.new.now.rows.now a.new.now.pool.now old c.in_ok-inside.ensures c.one_more_fits.ensures c.if-one_more_fits.false ∙ ap (λ (f : Fault). unrelayed (answer_of f.refusal) f.at) (sym c.at.ensures)
