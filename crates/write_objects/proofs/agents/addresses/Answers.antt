-- `agents::addresses`: the list is there, or the room behind it does as well.
use Rattle.meaning.specs.Editions.{state, stay, after_name, address_texts, after_addresses}
use Rattle.write_rows.specs.Onward.{unmoved, onward_then}
use Rattle.write_rows.specs.Laying.{laid_layable}
use Rattle.write_rows.specs.Optional.{part_off, part_on}
use Rattle.write_objects.proofs.Rooms.{address_texts_lem, agent_addresses}
use mathlib.Core.Path.{refl}
use native.Mathlib.Omega.{arith}
use Rattle.write_objects.proofs.agents.addresses.Goals as goal

pub returns-in_default : goal.returns-in_default
returns-in_default c edition single =
    let other = (c.in_default.ensures (stay address_texts)) in
    unmoved other.0 (part_off edition _ _ after_name after_addresses (agent_addresses edition) c.args.level single refl refl refl c.requires.inside c.requires.layable other.1)

pub texts-requires : goal.texts-requires
texts-requires c =
    let taken = (c.in-Some.ensures (stay address_texts)) in
    record { inside = omega (arith, taken.ahead.within); inner = omega arith; layable = laid_layable taken.laid c.requires.layable }

pub returns : goal.returns
returns c edition single =
    let level = c.args.level in
    let taken = (c.in-Some.ensures (stay address_texts)) in
    onward_then c.requires.layable.small (part_on edition _ _ after_name after_addresses (agent_addresses edition) level single taken refl) (c.texts.ensures edition address_texts single (state after_addresses level single) (address_texts_lem edition level single))
