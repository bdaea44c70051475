-- `payload_part`: what is behind an accepted header, else the empty part at the front.
use Rattle.reader.proofs.Memory.{no_part, the_part}
use Rattle.reader.proofs.payload_part.Goals as goal

pub returns-in_default : goal.returns-in_default
returns-in_default c = let a = c.args in no_part a.edition a.input.now c.in_default.is c.count-r.ensures

pub returns : goal.returns
returns c = let a = c.args in the_part a.edition a.input.now c.in-Go.is c.count-r.ensures
