-- `row::numbers`: the invariant says that the numbers before this one are printed.
use mathlib.Core.List.{[], ◌∷◌, ◌++◌}
use mathlib.Core.Path.{◌∙◌}
use native.Mathlib.Omega.{arith}
use Rattle.meaning.specs.Listing.{decimal}
use Rattle.pen.specs.Fields.{fields_next, fields_none}
use Rattle.pen.specs.Written.{printing_goes, printing_ends}
use Rattle.listing.proofs.row.numbers.Goals as goal

pub loop-number-preserved : goal.loop-number-preserved
loop-number-preserved c =
    let l = c.loop-number in
    let w = c.row_field-end.ensures in
    (omega (arith, w.few), c.row_field-end.auto.out ∙ l.invariant.1, printing_goes (λ n. decimal n ++ (0x09 ∷ [])) fields_next l.invariant.2 (omega arith) w.wrote)

pub returns : goal.returns
returns c = printing_ends fields_none c.loop-number.invariant.2 (omega arith)
