-- `Engine::step`: a code, or a value's byte.
use Rattle.plain.proofs.Landing.{step_code, step_value, value_holds}
use Rattle.plain.proofs.engine.Engine.step.Goals as goal

pub feed-requires : goal.feed-requires
feed-requires c = ((value_holds c.args.self c.args.at c.in-Some.is c.requires.0).1, c.requires.1, c.requires.2)

pub returns-in-None : goal.returns-in-None
returns-in-None c = step_code c.args.self c.in-None.is c.code_step.ensures

pub returns-in-Some : goal.returns-in-Some
returns-in-Some c = step_value c.args.self c.in-Some.is (value_holds c.args.self c.args.at c.in-Some.is c.requires.0).0 c.feed.ensures
