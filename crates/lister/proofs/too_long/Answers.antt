-- `too_long`: the bytes are `meaning`'s line, and the listing's test picks it.
use mathlib.Core.Path.{refl}
use borrow.Author.Tests.{lt-ltb}
use lib.ListN.{length}
use Rattle.meaning.specs.Listing.{input_most, listing}
use Rattle.lister.proofs.too_long.Goals as goal

pub returns : goal.returns
unfolding listing
returns c = record { lists = λ edition input long. rw (lt-ltb input_most (length input) long) refl }
