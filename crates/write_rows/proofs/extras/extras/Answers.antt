-- `extras::extras`: no key is ahead and the 01 is laid, or the extras are.
use Rattle.meaning.specs.Kinds.{extra_key}
use Rattle.meaning.specs.Bytes.{line}
use Rattle.meaning.specs.Editions.{text, stay, on◌▸◌▸◌▸◌}
use Rattle.table.specs.Codes.{code_number}
use Rattle.write_rows.specs.Among.{cells_none}
use Rattle.write_rows.proofs.Lists.{extras_end}
use mathlib.Core.Path.{refl}
use Rattle.write_rows.proofs.extras.extras.Goals as goal

pub returns-in_default : goal.returns-in_default
returns-in_default c edition room single st₁ t =
    let none = cells_none (on code_number c.args.code ▸ extra_key ▸ text line ▸ stay t.value) c.args.level refl _ c.in_default.ensures in
    extras_end edition _ _ t none c.requires.inside c.put.ensures
