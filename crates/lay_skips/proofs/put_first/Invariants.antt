-- `put_first`: the invariant says that the words before place i have moved one place on, and which one is in hand.
use mathlib.Core.Path.{◌≡◌}
use Rattle.lay_skips.proofs.Pushing.{pushed, in_hand}
use Rattle.lay_skips.proofs.put_first.Given as goal

abbrev pub invariant-loop-i : goal.invariant-loop-i
invariant-loop-i l = (l.words ≡ pushed l.word l.initial.words l.i) × (l.held ≡ in_hand l.word l.initial.words l.i)
