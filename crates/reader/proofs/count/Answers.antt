-- `count`: an unknown edition is refused before all else.
use Rattle.std.specs.Prelude.{[], ◌≡◌}
use Rattle.std.proofs.Common.{sym}
use Rattle.meaning.specs.Told.{label_of, unknown}
use Rattle.reader.proofs.Memory.{counted, unknown_edition}
use Rattle.reader.proofs.count.Goals as goal

pub returns-in_default : goal.returns-in_default
returns-in_default c =
    let is : label_of c.args.edition ≡ unknown = sym (rw c.in_default.is at c.try_from.ensures) in
    rw c.at.ensures (counted c.args.edition c.args.input.now [] [] (unknown_edition _ c.args.edition c.args.input.now [] is))
