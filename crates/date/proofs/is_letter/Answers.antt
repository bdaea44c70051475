-- `is_letter` is its check.
use Rattle.meaning.specs.Bytes.{passes}
use Rattle.date.proofs.is_letter.Goals as goal

pub returns : goal.returns
unfolding passes
returns c before = c.is_ascii_alphabetic.ensures.value
