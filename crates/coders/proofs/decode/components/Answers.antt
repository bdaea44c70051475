-- `decode::components`: all bytes have passed, and each component is what its byte codes.
use mathlib.Core.Path.{refl}
use Rattle.meaning.specs.Plain.{date_of}
use Rattle.coders.proofs.Decoding.{date_whole}
use Rattle.coders.proofs.decode.components.Goals as goal

pub returns : goal.returns
returns c =
    let a = c.args in
    let (letter, long, passed) = c.in_ok-designator.ensures in
    date_whole a.bytes.now a.absolute passed long (rw (c.in_ok-century.ensures.0, c.in_ok-year.ensures.0, c.in_ok-month.ensures.0, c.in_ok-day.ensures.0, c.in_ok-hour.ensures.0, c.in_ok-minute.ensures.0, c.in_ok-second.ensures.0, c.in_ok-hundredths.ensures.0, c.digit.ensures, c.in_ok-thousandths.ensures.0, letter) (refl {a = date_of a.bytes.now}))
