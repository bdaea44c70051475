-- `texts::extra`: the key's stage, then the any-value's.
use Rattle.std.specs.Prelude.{false}
use Rattle.meaning.specs.Editions.{parameters, state}
use Rattle.meaning.specs.Told.{B, told}
use Rattle.table.specs.Told.{told_of}
use Rattle.read_rows.specs.Joining.{handed, onward, ready_on}
use Rattle.read_rows.proofs.texts.extra.Goals as goal

pub returns-in_default : goal.returns-in_default
returns-in_default c q d h = handed c.in_default.is (c.text-key.ensures (told_of c.args.told) q)

pub any-requires : goal.any-requires
any-requires c = ready_on c.requires c.in-Go.is (c.text-key.ensures (told B) (state parameters 0 false))

pub returns : goal.returns
returns c q d h = onward c.in-Go.is (c.text-key.ensures (told_of c.args.told) q) (c.any.ensures q d h)
