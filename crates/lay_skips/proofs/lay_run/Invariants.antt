-- `lay_run`: the invariant says that the rows behind row i up to the last are of the run, and laid.
use Prim.Native.Nat.{ℕ}
use mathlib.Core.List.{List}
use Rattle.lay_skips.specs.Laying.{RunBefore}
use Rattle.lay_skips.proofs.Running.{RunBack}
use Rattle.lay_skips.proofs.lay_run.Given as goal

abbrev pub invariant-loop-rows : goal.invariant-loop-rows
invariant-loop-rows l = (m : List ℕ) (n : ℕ) → RunBefore m n l.initial.rows l.last l.kind → RunBack m n l.rows l.last l.kind l.i

abbrev pub decreases-loop-rows : goal.decreases-loop-rows
decreases-loop-rows l = l.i
