-- `agents::list_ends`: the one agent of `from` is missing; a list of level 1 ends; a deeper one ends, and the agent above it.
use Rattle.table.specs.Told.{edition_of}
use Rattle.write_objects.proofs.Turning.{list_done, list_up, one_missing, turn_then}
use Prim.Native.Nat.{◌-◌}
use Rattle.write_objects.specs.Turns.{rows_and_levels}
use native.Mathlib.Omega.{arith}
use Rattle.write_objects.proofs.agents.list_ends.Goals as goal

pub returns-then-single : goal.returns-then-single
returns-then-single c = let a = c.args in one_missing (edition_of a.edition) _ _ a.level a.single c.requires.1 c.if-single.true c.if-level-eq1.true

pub returns-then-level-eq1 : goal.returns-then-level-eq1
returns-then-level-eq1 c =
    let a = c.args in
    list_done (edition_of a.edition) _ _ a.level a.single c.requires.1 c.if-single.false c.if-level-eq1.true c.requires.0.inside c.put-end.ensures

pub returns : goal.returns
returns c =
    let a = c.args in
    let pre = c.requires.0 in
    turn_then a.single (rows_and_levels a.table.now.rows.now a.i (a.level - 1)) (rows_and_levels a.table.now.rows.now a.i a.level - 1) c.agent_ends.result _ pre.layable.small (omega (arith, pre.least)) (list_up (edition_of a.edition) _ _ a.level a.single c.requires.1 (omega (arith, pre.least, c.if-level-eq1.false)) pre.inside c.put-p.ensures) c.agent_ends.ensures
