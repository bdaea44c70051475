-- `last_day`: the month and its year, from the bytes before the day.
use Rattle.date.proofs.Days.{last_day_is}
use Rattle.date.proofs.last_day.Goals as goal

pub returns : goal.returns
returns c =
    let a = c.args in
    last_day_is a.s.now a.at c.pair_at.ensures c.pair_at-2.ensures c.pair_at-3.ensures c.month_days.ensures
