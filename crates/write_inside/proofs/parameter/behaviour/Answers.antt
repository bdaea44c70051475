-- `parameter::behaviour`: its row, and the any-value that it needs.
use Rattle.write_rows.specs.Onward.{needed_is}
use Rattle.write_rows.specs.Laying.{laid_layable}
use Rattle.write_inside.proofs.Choosing.{after_first, parameter_row}
use Rattle.meaning.specs.Editions.{state, parameters, behaviour_value, outer, opens, on◌▸◌▸◌▸◌}
use Rattle.meaning.specs.Kinds.{behaviour_opens}
use Rattle.write_inside.proofs.Rooms.{behaviour_first, behaviour_value_lem}
use mathlib.Core.Bool.{false}
use mathlib.Core.Path.{refl}
use native.Mathlib.Omega.{arith}
use Rattle.write_inside.proofs.parameter.behaviour.Goals as goal

pub any-requires : goal.any-requires
any-requires c =
    let first = (c.in-Some.ensures (outer behaviour_value)) in
    record { inside = omega (arith, first.ahead.within); layable = laid_layable first.laid c.requires.layable }

pub returns : goal.returns
returns c edition =
    let first = (c.in-Some.ensures (outer behaviour_value)) in
    after_first edition _ c.requires.layable.small (parameter_row edition _ _ (on 0x0b ▸ behaviour_opens ▸ opens ▸ outer behaviour_value) (behaviour_first edition) refl first) c.needed.result _
    (needed_is edition _ _ _ (state behaviour_value 0 false) (behaviour_value_lem edition) _ _ c.any.result _ (c.any.ensures (outer parameters)) c.needed.ensures) c.begun.ensures
