-- `parameter::one_text`: its one row.
use Rattle.meaning.specs.Editions.{parameters, outer, text, on◌▸◌▸◌▸◌}
use Rattle.table.specs.Kinds.{number_of}
use Rattle.values.specs.Stages.{rule_of}
use Rattle.write_inside.proofs.Choosing.{after_single}
use mathlib.Core.Path.{refl}
use Rattle.write_inside.proofs.parameter.one_text.Goals as goal

pub returns : goal.returns
returns c edition q d = let a = c.args in after_single edition _ _ _ (on a.code ▸ number_of a.kind ▸ text (rule_of a.rule) ▸ outer parameters) _ _ c.text-t.result _ q d refl (rw c.number.ensures at (c.text-t.ensures (outer parameters))) c.single.ensures
