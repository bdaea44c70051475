-- `day_passes`: a day that every month has, or one up to the month's last.
use native.Mathlib.Omega.{arith}
use Rattle.date.specs.Dates.{earlier}
use Rattle.date.proofs.Days.{after_between, early_passes}
use Rattle.date.proofs.day_passes.Goals as goal

pub returns-then-within : goal.returns-then-within
returns-then-within c = let a = c.args in early_passes a.b (earlier a.s.now a.at 3) c.within.ensures c.if-within.true

pub within-requires-2 : goal.within-requires-2
within-requires-2 c =
    let a = c.args in
    (c.requires.1, omega arith, omega (arith, c.last_day.ensures, (after_between (earlier a.s.now a.at 3)).1))
