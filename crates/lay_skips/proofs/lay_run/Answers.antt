-- `lay_run`: the invariant says that the rows behind row i up to the last are of the run, and laid.
use native.Mathlib.Omega.{arith}
use Rattle.lay_skips.proofs.Running.{run_inside, next_small, not_first, run_again, last_small, run_ended}
use Rattle.lay_skips.proofs.lay_run.Goals as goal

pub kind_at-requires : goal.kind_at-requires
kind_at-requires c = let (m, n, b) = c.requires in run_inside b (c.loop-rows.invariant m n b)

pub put_skip-requires : goal.put_skip-requires
put_skip-requires c = let (m, n, b) = c.requires in let r = c.loop-rows.invariant m n b in (run_inside b r, next_small b r)

pub overflow_sub-i : goal.overflow_sub-i
overflow_sub-i c = let (m, n, b) = c.requires in not_first b (c.loop-rows.invariant m n b) c.kind_at.ensures c.loop-rows-test.true

pub loop-rows-smaller : goal.loop-rows-smaller
loop-rows-smaller c = let (m, n, b) = c.requires in omega (arith, not_first b (c.loop-rows.invariant m n b) c.kind_at.ensures c.loop-rows-test.true)

pub loop-rows-preserved : goal.loop-rows-preserved
loop-rows-preserved c m n b = run_again b (c.loop-rows.invariant m n b) c.kind_at.ensures c.loop-rows-test.true c.put_skip.ensures

pub put_skip-requires-2 : goal.put_skip-requires-2
put_skip-requires-2 c = let (m, n, b) = c.requires in let r = c.loop-rows.invariant m n b in (run_inside b r, last_small b r c.kind_at.ensures c.loop-rows-test.false)

pub returns : goal.returns
returns c m n b = run_ended b (c.loop-rows.invariant m n b) c.kind_at.ensures c.loop-rows-test.false c.put_skip-2.ensures
