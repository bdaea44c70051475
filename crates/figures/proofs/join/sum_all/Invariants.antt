-- `sum_all`: the invariant says that the first i numbers are sums.
use mathlib.Core.Path.{◌≡◌}
use lib.ListN.{length}
use Rattle.meaning.specs.Figures.{figures_borrowed}
use Rattle.figures.proofs.Raising.{first_sums}
use Rattle.figures.proofs.join.sum_all.Given as goal

abbrev pub invariant-loop-i : goal.invariant-loop-i
invariant-loop-i l = (length l.figures ≡ figures_borrowed) × (l.figures ≡ first_sums l.i l.initial.figures l.others)
