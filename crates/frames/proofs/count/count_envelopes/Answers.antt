-- `count::count_envelopes`: each turn passes an extension; the base is the last.
use native.Mathlib.Omega.{arith}
use Rattle.frames.proofs.Counting.{none_passed, may_come, counted_none, counted_base, passed_one}
use Rattle.frames.proofs.count.count_envelopes.Goals as goal

pub loop-base-init : goal.loop-base-init
loop-base-init c = (omega arith, omega arith, none_passed c.args.s.now)

pub returns-in_default : goal.returns-in_default
returns-in_default c = counted_none c.frame_at.ensures c.loop-base.invariant.2 c.in_default.is

pub returns-then-base : goal.returns-then-base
returns-then-base c = counted_base c.frame_at.ensures c.loop-base.invariant.2 c.loop-base.invariant.1 c.in-Opens.is c.if-base.true

pub overflow_sub-left : goal.overflow_sub-left
overflow_sub-left c = (may_come c.frame_at.ensures c.in-Opens.is).0

pub loop-base-smaller : goal.loop-base-smaller
loop-base-smaller c = omega (arith, (may_come c.frame_at.ensures c.in-Opens.is).0)

pub loop-base-preserved : goal.loop-base-preserved
loop-base-preserved c = ((may_come c.frame_at.ensures c.in-Opens.is).1, omega (arith, c.loop-base.invariant.1), passed_one c.frame_at.ensures c.loop-base.invariant.2 c.loop-base.invariant.1 c.in-Opens.is c.if-base.false)
