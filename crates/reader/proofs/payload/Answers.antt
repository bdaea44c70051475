-- `payload`: the bytes of the part that `payload_part` names.
use Rattle.reader.proofs.Memory.{payload_of}
use Rattle.reader.proofs.payload.Goals as goal

pub returns : goal.returns
returns c = payload_of c.args.edition c.args.input.now c.payload_part-part.ensures.starts c.payload_part-part.ensures.ends
