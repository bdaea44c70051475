-- `agents::behind_name`: addresses, then up to the resolvers; or without them, to the agent's end.
use Rattle.meaning.specs.Editions.{deeper, agent_list, after_addresses, after_resolvers}
use Rattle.table.specs.Told.{edition_of}
use Rattle.write_rows.specs.Onward.{layable_from, unmoved, onward_layable, onward_then}
use Rattle.write_rows.specs.Optional.{part_off, part_on}
use Rattle.write_objects.proofs.Rooms.{agent_resolvers}
use Rattle.write_objects.proofs.Turning.{resolvers_on_lem, turn_then}
use Rattle.write_objects.specs.Turns.{rows_and_levels}
use borrow.Author.Rules.{rules}
use mathlib.Core.Path.{refl}
use native.Mathlib.Omega.{arith}
use Rattle.write_objects.proofs.agents.behind_name.Goals as goal

pub opened-o-requires : goal.opened-o-requires
opened-o-requires c =
    let s = c.addresses-s.ensures (edition_of c.args.edition) c.args.single in
    record { inside = s.inside; inner = omega arith; layable = onward_layable s c.requires.0.layable }

pub agent_ends-requires : goal.agent_ends-requires
agent_ends-requires c =
    let pre = c.requires.0 in
    let s = c.addresses-s.ensures (edition_of c.args.edition) c.args.single in
    let other = (c.in_default.ensures (deeper agent_list)) in
    record { inside = s.inside; least = pre.least; most = pre.most; layable = layable_from other.0 (onward_layable s pre.layable) }

pub returns-in_default : goal.returns-in_default
returns-in_default c =
    let a = c.args in
    let d = edition_of a.edition in
    let layable = c.requires.0.layable in
    let s = c.addresses-s.ensures d a.single in
    let other = (c.in_default.ensures (deeper agent_list)) in
    let none = unmoved other.0 (part_off d _ _ after_addresses after_resolvers (agent_resolvers d) a.level a.single refl refl refl s.inside (onward_layable s layable) other.1) in
    turn_then a.single (rows_and_levels a.table.now.rows.now c.addresses-s.result.row a.level) (rows_and_levels a.table.now.rows.now a.i a.level) c.agent_ends.result _ layable.small (omega (arith, s.later, s.inside)) (onward_then layable.small s none) c.agent_ends.ensures

pub overflow_add-result : goal.overflow_add-result
overflow_add-result c =
    let a = c.args in
    let s = (c.addresses-s.ensures (edition_of a.edition) a.single).inside in
    search (rules, s)

pub returns : goal.returns
returns c =
    let a = c.args in
    let pre = c.requires.0 in
    let d = edition_of a.edition in
    let s = c.addresses-s.ensures d a.single in
    let resolvers = (c.in-Some.ensures (deeper agent_list)) in
    let on = onward_then pre.layable.small s (part_on d _ _ after_addresses after_resolvers (agent_resolvers d) a.level a.single resolvers refl) in
    (resolvers_on_lem a.level a.single pre.least on, omega arith, omega (arith, c.requires.1), omega (arith, s.later, resolvers.ahead.within))
