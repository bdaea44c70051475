-- `agents::behind_resolvers`: an agent's extras are a run of extras with the edition's code.
use Rattle.std.specs.Prelude.{length}
use Rattle.std.specs.Prelude.{refl}
use mathlib.Core.Path.{◌∙◌}
use Rattle.meaning.specs.Editions.{after_resolvers, agent_extra, agent_ends, go, state}
use Rattle.laws_steps.specs.AgentRooms.{agent_extras_lem}
use Rattle.laws_steps.specs.Pouring.{source}
use Rattle.table.specs.Told.{told_of}
use Rattle.read_rows.specs.Joining.{found_is, no_extras}
use Rattle.read_rows.specs.Stages.{found}
use Rattle.read_objects.proofs.agents.behind_resolvers.Goals as goal

pub returns-then-eq : goal.returns-then-eq
returns-then-eq c single =
    let p = c.peek in
    let a = c.args in
    no_extras (source (told_of a.told) a.s.now (length a.s.now)) a.from a.rows.now (found p.result) p.ensures (found_is p.result 1 c.eq.ensures c.if-eq.true) c.requires.few (state after_resolvers a.level single) (agent_extras_lem (told_of a.told) a.level single refl) c.passed.ensures.at c.passed.ensures.rows

pub returns : goal.returns
returns c single =
    let level = c.args.level in
    rw c.in_parts.ensures
    (c.extras.ensures (state after_resolvers level single) (state agent_extra level single) (go agent_ends (state after_resolvers level single)) (agent_extras_lem _ level single (c.from.ensures ∙ c.agent_extra-code.ensures)))
