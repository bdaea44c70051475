-- `value::date_ok`: of the right length, and the reader's stage takes all of the bytes; or they are no such date.
use Rattle.meaning.specs.Bytes.{date_checks}
use Rattle.date.specs.Dates.{reaching}
use Rattle.write_rows.proofs.Values.{date_length_lem, date_refused, date_whole}
use mathlib.Core.Path.{◌∙◌, refl, sym}
use Rattle.write_rows.proofs.value.date_ok.Goals as goal

pub returns-then-end-length_of : goal.returns-then-end-length_of
returns-then-end-length_of c =
    let form = c.args.form in
    date_length_lem (reaching form.absolute) form.designated c.args.bytes.now (λ q. c.if-end-length_of.true (q ∙ sym c.length_of.ensures))

pub returns-in_default : goal.returns-in_default
returns-in_default c =
    let form = c.args.form in
    date_refused c.args.bytes.now (date_checks (reaching form.absolute) form.designated) (c.in_default.ensures 0) refl

pub returns : goal.returns
returns c =
    let form = c.args.form in
    date_whole c.args.bytes.now (date_checks (reaching form.absolute) form.designated) (c.in-Ok.ensures 0) refl
