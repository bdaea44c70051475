-- `first_line`: three fields; each number has twenty digits at most.
use native.Mathlib.Omega.{arith}
use Rattle.pen.specs.Written.{wrote_then, wrote_as}
use Rattle.pen.specs.Decimals.{ten_digits, twenty_digits, field_end}
use Rattle.listing.specs.Cursors.{first_line_fields}
use Rattle.listing.proofs.first_line.Goals as goal

pub field-answered-requires : goal.field-answered-requires
field-answered-requires c = omega (arith, c.requires, ten_digits c.from.result (omega (arith, c.from.ensures)))

pub field-placed-requires : goal.field-placed-requires
field-placed-requires c =
    let r = c.args.reply.now in
    omega (arith, c.requires, c.field-answered.auto.out, field_end c.from.result 9 c.field-answered.ensures, ten_digits c.from.result (omega (arith, c.from.ensures)), twenty_digits r.place (omega arith))

pub field-requires : goal.field-requires
field-requires c =
    let r = c.args.reply.now in
    omega (arith, c.requires, c.field-answered.auto.out, c.field-placed.auto.out, field_end c.from.result 9 c.field-answered.ensures, field_end r.place 9 c.field-placed.ensures, ten_digits c.from.result (omega (arith, c.from.ensures)), twenty_digits r.place (omega arith), twenty_digits r.rows (omega arith))

pub returns : goal.returns
returns c =
    let r = c.args.reply.now in
    let answered = rw c.from.ensures at c.field-answered.ensures in
    wrote_as (first_line_fields r.answer r.place r.rows) (wrote_then answered (wrote_then c.field-placed.ensures c.field.ensures))
