-- `enter_taken`: three numbers raised.
use Prim.Native.Nat.{◌+◌}
use mathlib.Core.Path.{ap, ◌∙◌}
use native.Mathlib.Omega.{arith}
use Rattle.figures.specs.Stages.{raised}
use Rattle.figures.proofs.Raising.{raised_other, taken_raised}
use Rattle.figures.proofs.add.enter_taken.Goals as goal

pub overflow_add-figures-2 : goal.overflow_add-figures-2
overflow_add-figures-2 c =
    let a = c.args in
    let f = a.first in
    omega (arith, raised_other a.figures.now (f + 14) (f + 13) a.bytes (λ q. omega arith), c.requires.0.most (f + 13))

pub overflow_add-figures-3 : goal.overflow_add-figures-3
overflow_add-figures-3 c =
    let a = c.args in
    let f = a.first in
    omega (arith, raised_other (raised a.figures.now (f + 14) a.bytes) (f + 13) f a.envelopes (λ q. omega arith), raised_other a.figures.now (f + 14) f a.bytes (λ q. omega arith), c.requires.0.most f)

pub returns : goal.returns
returns c =
    let a = c.args in
    λ e q.
    ap (λ f. raised (raised (raised a.figures.now (f + 14) a.bytes) (f + 13) a.envelopes) f 1) q ∙ taken_raised a.figures.now c.requires.0.long e a.envelopes a.bytes
