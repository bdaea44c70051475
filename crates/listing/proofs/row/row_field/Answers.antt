-- `row::row_field`: a u32 has ten digits at most.
use native.Mathlib.Omega.{arith}
use Rattle.pen.specs.Decimals.{ten_digits, field_end}
use Rattle.listing.proofs.row.row_field.Goals as goal

pub field-requires : goal.field-requires
field-requires c = omega (arith, c.requires, ten_digits c.args.number (omega arith))

pub returns : goal.returns
returns c =
    let w = c.field.ensures in record { wrote = w; few = omega (arith, field_end c.args.number 9 w, ten_digits c.args.number (omega arith)) }
