-- `decimal::digit_at`: each turn takes one digit off.
use mathlib.Core.Path.{◌≡◌}
use Rattle.coders.specs.Decimal.{quotient}
use Rattle.coders.proofs.decimal.digit_at.Given as goal

abbrev pub invariant-loop : goal.invariant-loop
invariant-loop l = l.rest ≡ quotient l.counter l.value
