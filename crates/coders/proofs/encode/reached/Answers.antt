-- `encode::reached`: a date that does not fit its digits or a byte is out of range.
use mathlib.Core.Path.{sym, ◌∙◌}
use Rattle.date.specs.Dates.{reaching}
use Rattle.coders.specs.Plain.{plain_of}
use Rattle.coders.proofs.Encoding.{encodes_out}
use Rattle.meaning.specs.Plain.{date_bytes, dated}
use Rattle.coders.proofs.EncodingDates.{unfit, reach_encodes}
use Rattle.coders.proofs.encode.reached.Goals as goal

pub returns-then-not-fits : goal.returns-then-not-fits
returns-then-not-fits c =
    let a = c.args in
    let d = plain_of a.date in
    rw (c.into.ensures, c.at.ensures) (reach_encodes (dated (reaching a.absolute)) d a.output.now a.output.now (encodes_out 9 a.output.now (date_bytes d) (unfit d a.absolute (sym c.fits.ensures ∙ c.if-not-fits.true))))
