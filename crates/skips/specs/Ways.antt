-- What a class says of how a row's own rows are found: it is a number between these.
use Rattle.std.specs.Prelude.{ℕ, ◌≤◌, ◌<◌}
use Rattle.skips.specs.declared.class.Way.{Way}
use Rattle.skips.specs.declared.class.Way.TheVariants.{Alone, Deeper, Agent, Follows, Envelope}

abbrev pub WayIs : ℕ → Way → Type 0
WayIs class Alone = class < 0x1000
WayIs class Deeper = (0x1000 ≤ class) × (class < 0x2000)
WayIs class Agent = (0x2000 ≤ class) × (class < 0x3000)
WayIs class Follows = (0x3000 ≤ class) × (class < 0x4000)
WayIs class Envelope = 0x4000 ≤ class
