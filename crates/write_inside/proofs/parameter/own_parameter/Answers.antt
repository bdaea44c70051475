-- `parameter::own_parameter`: a key, and the value that it needs.
use Rattle.write_rows.specs.Onward.{needed_is}
use Rattle.write_rows.specs.Laying.{laid_layable}
use Rattle.write_inside.proofs.Choosing.{after_first, parameter_row}
use Rattle.meaning.specs.Bytes.{line}
use Rattle.meaning.specs.Editions.{state, parameters, own_text, outer, text, on◌▸◌▸◌▸◌}
use Rattle.meaning.specs.Kinds.{own_key}
use Rattle.write_inside.proofs.Rooms.{own_first, own_text_lem}
use mathlib.Core.Bool.{false}
use mathlib.Core.Path.{refl}
use native.Mathlib.Omega.{arith}
use Rattle.write_inside.proofs.parameter.own_parameter.Goals as goal

pub text-value-requires : goal.text-value-requires
text-value-requires c =
    let first = (c.in-Some.ensures (outer own_text)) in
    record { inside = omega (arith, first.ahead.within); inner = omega arith; layable = laid_layable first.laid c.requires.layable }

pub returns : goal.returns
returns c edition =
    let first = (c.in-Some.ensures (outer own_text)) in
    after_first edition _ c.requires.layable.small (parameter_row edition _ _ (on 0x00 ▸ own_key ▸ text line ▸ outer own_text) (own_first edition) refl first) c.needed.result _
    (needed_is edition _ _ _ (state own_text 0 false) (own_text_lem edition) _ _ c.text-value.result _ (c.text-value.ensures (outer parameters)) c.needed.ensures) c.begun.ensures
