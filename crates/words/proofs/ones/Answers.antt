-- `ones`: the machine's count is that of 32 binary digits.
use native.Mathlib.Omega.{arith}
use Rattle.words.proofs.Counts.{ones_are}
use Rattle.words.proofs.ones.Goals as goal

pub returns : goal.returns
returns c = ones_are c.args.word (omega arith)
