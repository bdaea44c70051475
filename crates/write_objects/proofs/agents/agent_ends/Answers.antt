-- `agents::agent_ends`: the extras, and where the agent's 01 leads.
use Rattle.meaning.specs.Editions.{state, after_resolvers, agent_ends, go}
use Rattle.table.specs.Told.{edition_of}
use Rattle.write_rows.specs.Onward.{handed_up}
use Rattle.write_objects.proofs.Turning.{agent_done, agent_listed, extras_coded, turn_as}
use native.Mathlib.Omega.{arith}
use Rattle.write_objects.proofs.agents.agent_ends.Goals as goal

pub returns-in_err-onto : goal.returns-in_err-onto
returns-in_err-onto c =
    let a = c.args in
    turn_as _ _ _ _ _ _ _ _ _ _ (handed_up _ c.from_residual.ensures) (c.in_err-onto.ensures (edition_of a.edition) after_resolvers a.single (go agent_ends (state after_resolvers a.level a.single)) (extras_coded (edition_of a.edition) a.level a.single c.agent_extra.ensures))

pub returns-then-single-level : goal.returns-then-single-level
returns-then-single-level c =
    let a = c.args in
    agent_done a.level a.single (c.in_ok-onto.ensures (edition_of a.edition) after_resolvers a.single (go agent_ends (state after_resolvers a.level a.single)) (extras_coded (edition_of a.edition) a.level a.single c.agent_extra.ensures)) c.if-single-level.true

pub returns : goal.returns
returns c =
    let a = c.args in
    let pre = c.requires in
    let on = agent_listed a.level a.single (c.in_ok-onto.ensures (edition_of a.edition) after_resolvers a.single (go agent_ends (state after_resolvers a.level a.single)) (extras_coded (edition_of a.edition) a.level a.single c.agent_extra.ensures)) c.if-single-level.false in
    (on, pre.least, pre.most, omega (arith, on.later))
