-- `line`: the edition's number, its fifteen, mean and remainder.
use native.Mathlib.Omega.{arith}
use Prim.Native.Nat.{◌+◌, ◌-◌}
use mathlib.Core.Path.{◌≡◌, ap}
use lib.ListN.{take, drop}
use Rattle.figures.proofs.Reporting.{line_printed}
use Rattle.figures.proofs.report.line.Goals as goal

pub returns : goal.returns
returns c =
    let a = c.args in
    let long : a.first + 15 - a.first ≡ 15 = omega arith in
    let part = ap (λ n. take n (drop a.first a.figures.now)) long in
    line_printed a.figures.now a.first a.edition part c.requires.0 c.print_field-named.ensures c.fields-numbered.ensures c.mean_of.ensures c.print_field-meant.ensures c.remainder_of.ensures c.print_field.ensures
