-- `count::count_envelopes`: each turn passes an extension; the base is the last.
use Prim.Native.Nat.{◌≤◌}
use lib.ListN.{length}
use Rattle.meaning.specs.Headers.{envelopes_most}
use Rattle.frames.proofs.Counting.{Passed}
use Rattle.frames.proofs.count.count_envelopes.Given as goal

abbrev pub invariant-loop-base : goal.invariant-loop-base
invariant-loop-base l = (l.at ≤ length l.s) × (l.left ≤ envelopes_most) × Passed l.s l.left l.at

abbrev pub decreases-loop-base : goal.decreases-loop-base
decreases-loop-base l = l.left
