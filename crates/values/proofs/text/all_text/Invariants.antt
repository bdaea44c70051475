-- `text::all_text`: the bytes before the one reached are allowed.
use mathlib.Core.Bool.{not}
use mathlib.Core.Path.{◌≡◌}
use Rattle.values.specs.Stages.{all_text, rule_by}
use lib.Dec.{eqb}
use Rattle.values.proofs.text.all_text.Given as goal

abbrev pub invariant-loop-b : goal.invariant-loop-b
invariant-loop-b g l = l.all ≡ all_text (rule_by (not (eqb g.row.NOTE 0))) l.s l.at l.b-index
