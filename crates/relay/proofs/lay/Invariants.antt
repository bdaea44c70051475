-- `lay`: byte by byte, the bytes so far are laid.
use Rattle.std.proofs.Common.{◌≡◌, length, take}
use lib.Seq.{sets}
use Rattle.relay.proofs.lay.Given as goal

abbrev pub invariant-loop-i : goal.invariant-loop-i
invariant-loop-i l = (l.output ≡ sets l.initial.output 0 (take l.i l.bytes)) × (length l.output ≡ length l.initial.output)
