-- `padded` is its check.
use mathlib.Core.Path.{refl}
use Rattle.meaning.specs.Bytes.{passes}
use Rattle.date.proofs.padded.Goals as goal

pub returns : goal.returns
unfolding passes
returns c before = rw c.is_digit.ensures refl
