-- `decimal::digit_at`: each turn takes one digit off.
use Prim.Native.Nat.{ℕ, ◌%◌}
use mathlib.Core.Path.{◌≡◌, ap, ◌∙◌}
use native.Mathlib.Omega.{arith}
use Rattle.coders.specs.Decimal.{quotient}
use Rattle.coders.proofs.Encoding.{quotient_next}
use Rattle.coders.proofs.decimal.digit_at.Goals as goal

pub loop-preserved : goal.loop-preserved
loop-preserved c = quotient_next c.loop.counter c.args.value c.loop.invariant

pub returns : goal.returns
returns c =
    let there : c.loop.counter ≡ c.args.behind = omega arith in
    ap (λ (x : ℕ). x % 10) (c.loop.invariant ∙ ap (λ (k : ℕ). quotient k c.args.value) there)
