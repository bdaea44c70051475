-- `lay::lay`: byte by byte, the bytes so far are laid.
use Prim.Native.Nat.{◌-◌, ◌≤◌}
use lib.ListN.{length, take}
use lib.Seq.{sets}
use mathlib.Core.Path.{◌≡◌}
use Rattle.write_rows.proofs.lay.lay.Given as goal

abbrev pub invariant-loop-i : goal.invariant-loop-i
invariant-loop-i l = (l.i ≤ l.n) × (l.output ≡ sets l.initial.output l.at (take l.i l.bytes)) × (length l.output ≡ length l.initial.output)

abbrev pub decreases-loop-i : goal.decreases-loop-i
decreases-loop-i l = l.n - l.i
