-- `print_field`: a u64 has twenty digits at most.
use native.Mathlib.Omega.{arith}
use Rattle.pen.specs.Decimals.{twenty_digits, field_end}
use Rattle.figures.proofs.report.print_field.Goals as goal

pub field-requires : goal.field-requires
field-requires c = omega (arith, c.requires, twenty_digits c.args.value (omega arith))

pub returns : goal.returns
returns c =
    let a = c.args in
    let w = c.field.ensures in
    record { wrote = w; few = omega (arith, field_end a.value a.closing w, twenty_digits a.value (omega arith)) }
