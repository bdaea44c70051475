-- `number::take` is `number::count` without the value.
use native.Mathlib.Omega.{arith}
use Rattle.values.specs.Counting.{counted_to, counted_is, counted_refused}
use Rattle.values.proofs.number.take.Goals as goal

pub overflow_sub-result : goal.overflow_sub-result
overflow_sub-result c = let p = counted_to c.count.ensures c.in-Counts.is in omega arith

pub returns-in-Counts : goal.returns-in-Counts
returns-in-Counts c = counted_is c.count.ensures c.in-Counts.is

pub returns-in-Fails : goal.returns-in-Fails
returns-in-Fails c = counted_refused c.count.ensures c.in-Fails.is
