-- `encode::number`: the digits counted, the bytes made, and laid over the front where there is room.
use mathlib.Core.Path.{ap, ◌∙◌}
use borrow.Author.Tests.{le-leb, lt-leb}
use Rattle.meaning.specs.Bytes.{number_most}
use Rattle.meaning.specs.Memory.{laid_over}
use Rattle.meaning.specs.Plain.{number_bytes}
use Rattle.coders.proofs.Encoding.{bytes_of, encodes_out, encodes_short, encodes_laid, number_encodes, bytes_made}
use Rattle.coders.proofs.encode.number.Goals as goal

pub returns-then-value-gt-MOST : goal.returns-then-value-gt-MOST
returns-then-value-gt-MOST c =
    let a = c.args in
    rw (c.into.ensures, c.at.ensures) (number_encodes a.value a.output.now a.output.now (encodes_out 10 a.output.now (number_bytes a.value) (lt-leb a.value number_most c.if-value-gt-MOST.true)))

pub returns-then-output-many : goal.returns-then-output-many
returns-then-output-many c =
    let a = c.args in
    let d = c.digit_count-n.ensures in
    rw (c.into-then-output-many.ensures, c.at-then-output-many.ensures) (number_encodes a.value a.output.now a.output.now
    (encodes_short 10 a.output.now (number_bytes a.value) (le-leb a.value number_most c.if-value-gt-MOST.false) (bytes_of a.value c.digit_count-n.result d.0 d.1 d.2).1 c.if-output-many.true))

pub returns : goal.returns
returns c =
    let a = c.args in
    let n = c.digit_count-n.result in
    let d = c.digit_count-n.ensures in
    let made = bytes_made a.value n d.0 d.1 d.2 c.coded_byte.ensures c.coded_byte-2.ensures c.coded_byte-3.ensures c.coded_byte-4.ensures c.coded_byte-5.ensures c.coded_byte-6.ensures in
    number_encodes a.value a.output.now c.lay.new.output
    (encodes_laid 10 a.output.now (number_bytes a.value) (le-leb a.value number_most c.if-value-gt-MOST.false) (bytes_of a.value n d.0 d.1 d.2).1 c.if-output-many.false (c.lay.ensures ∙ ap (laid_over a.output.now) made))
