-- The public promise: the whole answer, for all rows, words and codes. Nothing that is lent can change.
use Rattle.std.specs.Prelude.{ℕ, List, ◌≡◌}
use Rattle.meaning.specs.Lookup.{lookup}
use Rattle.table.specs.declared.reply.Reply.{Reply}
use Rattle.table.specs.Reply.{reply_of}

pub record LookupPromise (rows words : List ℕ) (code : ℕ) (answer : Reply) : Type 0 where
  pub answers : reply_of answer ≡ lookup rows words code
