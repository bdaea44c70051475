-- `parameter::encrypted_in_b`: its row, and the texts behind it.
use Rattle.meaning.specs.Told.{B}
use Rattle.write_rows.specs.Onward.{onward_then}
use Rattle.write_rows.specs.Laying.{laid_layable}
use Rattle.write_inside.proofs.Choosing.{parameter_row}
use Rattle.meaning.specs.Editions.{encrypted_texts, outer, opens, on◌▸◌▸◌▸◌}
use Rattle.meaning.specs.Kinds.{encrypted_opens}
use Rattle.write_inside.proofs.Rooms.{encrypted_first, encrypted_texts_lem}
use Rattle.write_rows.specs.Stages.{at_parameters}
use mathlib.Core.Bool.{false}
use mathlib.Core.Path.{refl}
use native.Mathlib.Omega.{arith}
use Rattle.write_inside.proofs.parameter.encrypted_in_b.Goals as goal

pub texts-requires : goal.texts-requires
texts-requires c =
    let first = (c.in-Some.ensures (outer encrypted_texts)) in
    record { inside = omega (arith, first.ahead.within); inner = omega arith; layable = laid_layable first.laid c.requires.layable }

pub returns : goal.returns
returns c =
    let first = (c.in-Some.ensures (outer encrypted_texts)) in
    let items = c.texts.ensures B encrypted_texts false at_parameters encrypted_texts_lem in
    (onward_then c.requires.layable.small (parameter_row B _ _ (on 0x08 ▸ encrypted_opens ▸ opens ▸ outer encrypted_texts) encrypted_first refl first) items, omega (arith, items.later))
