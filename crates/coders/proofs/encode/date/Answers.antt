-- `encode::date`: the reach of each kind.
use mathlib.Core.Path.{refl, ap, ◌∙◌}
use Rattle.meaning.specs.Plain.{date_bytes, no_reach}
use Rattle.coders.specs.Plain.{plain_of, reached_by}
use Rattle.coders.proofs.Encoding.{encodes_out}
use Rattle.coders.proofs.EncodingDates.{reach_encodes, kind_encodes}
use Rattle.coders.proofs.encode.date.Goals as goal

pub returns-in_default : goal.returns-in_default
returns-in_default c =
    let a = c.args in
    let d = plain_of a.date in
    kind_encodes a.kind d a.output.now a.output.now (c.is_absolute.ensures ∙ ap reached_by c.in_default.is)
    (rw (c.into.ensures, c.at.ensures) (reach_encodes no_reach d a.output.now a.output.now (encodes_out 9 a.output.now (date_bytes d) refl)))

pub returns : goal.returns
returns c =
    let a = c.args in
    kind_encodes a.kind (plain_of a.date) a.output.now c.reached.new.output (c.is_absolute.ensures ∙ ap reached_by c.in-Some.is) c.reached.ensures
