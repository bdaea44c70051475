-- `count_in`: one pass over no rows.
use Rattle.reader.proofs.Memory.{counted, known_edition}
use Rattle.reader.proofs.count_in.Goals as goal

pub returns : goal.returns
returns c number is = counted number c.args.input.now _ _ (known_edition _ number c.args.input.now _ is c.read_header.ensures)
