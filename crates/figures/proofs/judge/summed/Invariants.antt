-- `summed`: what is left to be summed falls; where the sum passes 1,000,000, so does the whole.
use Prim.Native.Nat.{◌+◌, ◌≤◌}
use mathlib.Core.Path.{◌≡◌}
use lib.ListN.{drop}
use Rattle.meaning.specs.Figures.{sum_of, messages_most}
use Rattle.figures.proofs.judge.summed.Given as goal

abbrev pub invariant-loop-n : goal.invariant-loop-n
invariant-loop-n l = (l.sum ≤ messages_most) × (l.before + sum_of l.numbers ≡ l.sum + sum_of (drop l.n-index l.numbers))
