-- `encode::fitting`: the bytes made, taken as a date, and laid over the front where there is room.
use mathlib.Core.Path.{sym, ap, ◌∙◌}
use Rattle.date.specs.Dates.{reaching}
use Rattle.coders.specs.Plain.{plain_of}
use Rattle.meaning.specs.Memory.{laid_over}
use Rattle.coders.proofs.Encoding.{encodes_out, encodes_short, encodes_laid}
use Rattle.meaning.specs.Plain.{date_bytes, dated}
use Rattle.coders.proofs.EncodingDates.{bytes_here, many_long, date_allows, date_denies, reach_encodes}
use Rattle.coders.proofs.encode.fitting.Goals as goal

pub returns-then-is_err : goal.returns-then-is_err
returns-then-is_err c =
    let a = c.args in
    let d = plain_of a.date in
    let denied = date_denies d a.absolute c.length_of-many.ensures c.ten_bytes-bytes.ensures 0 c.bytes.result (c.bytes.ensures 0) c.requires (sym c.is_err.ensures.value ∙ c.if-is_err.true) in
    rw (c.into.ensures, c.at.ensures) (reach_encodes (dated (reaching a.absolute)) d a.output.now a.output.now (encodes_out 9 a.output.now (date_bytes d) denied))

pub returns-then-output-many : goal.returns-then-output-many
returns-then-output-many c =
    let a = c.args in
    let d = plain_of a.date in
    let allowed = date_allows d a.absolute c.length_of-many.ensures c.ten_bytes-bytes.ensures 0 c.bytes.result (c.bytes.ensures 0) c.requires (sym c.is_err.ensures.value ∙ c.if-is_err.false) in
    let long = many_long d a.absolute c.length_of-many.ensures c.ten_bytes-bytes.ensures in
    rw (c.into-then-output-many.ensures, c.at-then-output-many.ensures) (reach_encodes (dated (reaching a.absolute)) d a.output.now a.output.now (encodes_short 9 a.output.now (date_bytes d) allowed long c.if-output-many.true))

pub returns : goal.returns
returns c =
    let a = c.args in
    let d = plain_of a.date in
    let allowed = date_allows d a.absolute c.length_of-many.ensures c.ten_bytes-bytes.ensures 0 c.bytes.result (c.bytes.ensures 0) c.requires (sym c.is_err.ensures.value ∙ c.if-is_err.false) in
    let long = many_long d a.absolute c.length_of-many.ensures c.ten_bytes-bytes.ensures in
    let here = bytes_here d a.absolute c.length_of-many.ensures c.ten_bytes-bytes.ensures in
    reach_encodes (dated (reaching a.absolute)) d a.output.now c.lay.new.output
    (encodes_laid 9 a.output.now (date_bytes d) allowed long c.if-output-many.false (c.lay.ensures ∙ ap (laid_over a.output.now) here))
