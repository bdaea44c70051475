-- `summed`: what is left to be summed falls; where the sum passes 1,000,000, so does the whole.
use Prim.Native.Nat.{◌+◌}
use mathlib.Core.Path.{◌≡◌}
use native.Mathlib.Omega.{arith}
use Rattle.meaning.specs.Figures.{sum_of}
use Rattle.figures.proofs.Judging.{sum_next, sum_none, capped_few, capped_many}
use Rattle.figures.proofs.judge.summed.Goals as goal

pub returns-then-sum-n : goal.returns-then-sum-n
returns-then-sum-n c =
    let a = c.args in
    let l = c.loop-n in
    let n = sum_next a.numbers.now l.n-index c.loop-n-test.true in
    capped_many (a.before + sum_of a.numbers.now) (omega (arith, l.invariant.1, n, c.if-sum-n.true))

pub loop-n-preserved : goal.loop-n-preserved
loop-n-preserved c =
    let a = c.args in
    let l = c.loop-n in
    let n = sum_next a.numbers.now l.n-index c.loop-n-test.true in
    (omega (arith, l.invariant.0, c.if-sum-n.false), omega (arith, l.invariant.1, n))

pub returns : goal.returns
returns c =
    let a = c.args in
    let l = c.loop-n in
    let none = sum_none a.numbers.now l.n-index c.loop-n-test.false in
    let all : a.before + sum_of a.numbers.now ≡ l.sum = omega (arith, l.invariant.1, none) in
    rw all (capped_few l.sum l.invariant.0)
