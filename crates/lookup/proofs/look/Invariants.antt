-- `look`: the invariant says that the definition goes on from where the loop stands.
use Prim.Native.Nat.{◌-◌}
use Rattle.lookup.proofs.Looks.{Standing}
use Rattle.lookup.proofs.look.Given as goal

abbrev pub invariant-loop-i : goal.invariant-loop-i
invariant-loop-i l = Standing l.rows l.words l.code l.looked l.envelopes l.i

abbrev pub decreases-loop-i : goal.decreases-loop-i
decreases-loop-i l = l.n - l.i
