-- `Engine::ended`: inside a value, behind the envelope's 01, or where a code is needed.
use mathlib.Core.Path.{sym, ◌∙◌}
use Rattle.plain.proofs.Running.{ended_value, ended_closed, ended_open}
use Rattle.plain.proofs.engine.Engine.ended.Goals as goal
use Rattle.plain.proofs.engine.Engine.ended.Goals.{in_default-via-in-None+else-is_closed, in_default-via-in_default}

pub returns-in-None : goal.returns-in-None
returns-in-None c = ended_closed c.args.self c.args.here.at c.args.here.rows c.in-None.is (sym c.is_closed.ensures ∙ c.if-is_closed.true)

pub returns-in_default : goal.returns-in_default
returns-in_default c = elim c.in_default.branch [
  | in_default-via-in-None+else-is_closed w ↦ ended_open c.args.self c.args.here.at c.args.here.rows c.at.ensures w.in-None.is (sym w.is_closed.ensures ∙ w.if-is_closed.false)
  | in_default-via-in_default w ↦ ended_value c.args.self c.args.here.at c.args.here.rows c.at.ensures w.in_default.is
]
