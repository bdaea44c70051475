-- `lay_inside`: the invariant says that the rows from `next` up to `end` are inside an envelope, have their skip numbers, and what is seen of its word.
use Prim.Native.Nat.{ℕ}
use mathlib.Core.List.{List}
use Rattle.lay_skips.specs.Laying.{LaidFrom, LaidBack}
use Rattle.lay_skips.proofs.lay_inside.Given as goal

abbrev pub invariant-loop-laid : goal.invariant-loop-laid
invariant-loop-laid l = (m : List ℕ) → LaidFrom m l.n l.initial.rows l.end → LaidBack m l.n l.end l.rows l.next l.word

abbrev pub decreases-loop-laid : goal.decreases-loop-laid
decreases-loop-laid l = l.next
