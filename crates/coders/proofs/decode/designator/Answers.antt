-- `decode::designator`: a byte behind the designator is left over.
use native.Mathlib.Omega.{arith}
use Rattle.coders.proofs.Decoding.{left_over, ten_long}
use Rattle.coders.proofs.decode.designator.Goals as goal

pub returns-then-bytes-gt10 : goal.returns-then-bytes-gt10
returns-then-bytes-gt10 c = let a = c.args in left_over a.bytes.now a.absolute c.in_ok-letter.ensures.2 (ten_long a.bytes.now (omega arith)) c.if-bytes-gt10.true
