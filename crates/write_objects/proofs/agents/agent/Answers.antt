-- `agents::agent`: a name that is too deep; a name, and what stands behind it; or the end of the list.
use Rattle.meaning.specs.Editions.{stay, after_name}
use Rattle.table.specs.Told.{edition_of}
use Rattle.write_rows.specs.Onward.{layable_from}
use Rattle.write_rows.specs.Laying.{laid_layable}
use Rattle.write_objects.proofs.Turning.{name_deep, name_on, turn_from, turn_then}
use Prim.Native.Nat.{◌+◌, ◌-◌}
use Rattle.write_objects.specs.Turns.{rows_and_levels}
use native.Mathlib.Omega.{arith}
use Rattle.write_objects.proofs.agents.agent.Goals as goal

pub list_ends-requires : goal.list_ends-requires
list_ends-requires c =
    let pre = c.requires in
    let other = (c.in_default.ensures (stay after_name)) in
    (record { inside = pre.inside; least = pre.least; most = pre.most; layable = layable_from other.0 pre.layable }, other.1)

pub returns-in_default : goal.returns-in_default
returns-in_default c = turn_from _ _ _ _ _ _ _ _ c.list_ends.result _ ((c.in_default.ensures (stay after_name))).0 c.list_ends.ensures

pub returns-then-level-gt-LEVEL_MOST : goal.returns-then-level-gt-LEVEL_MOST
returns-then-level-gt-LEVEL_MOST c = let a = c.args in name_deep (edition_of a.edition) _ _ a.level a.single c.if-level-gt-LEVEL_MOST.true ((c.in-Some.ensures (stay after_name)))

pub behind_name-requires : goal.behind_name-requires
behind_name-requires c =
    let pre = c.requires in
    let taken = (c.in-Some.ensures (stay after_name)) in
    (record { inside = omega (arith, taken.ahead.within); least = pre.least; most = pre.most; layable = laid_layable taken.laid pre.layable }, omega (arith, c.if-level-gt-LEVEL_MOST.false))

pub returns : goal.returns
returns c =
    let a = c.args in
    let taken = (c.in-Some.ensures (stay after_name)) in
    let on = name_on (edition_of a.edition) _ _ a.level a.single (omega (arith, c.if-level-gt-LEVEL_MOST.false)) taken in
    turn_then a.single (rows_and_levels a.table.now.rows.now (a.i + 1) a.level) (rows_and_levels a.table.now.rows.now a.i a.level - 1) c.behind_name.result _ c.requires.layable.small (omega (arith, taken.ahead.within)) on c.behind_name.ensures
