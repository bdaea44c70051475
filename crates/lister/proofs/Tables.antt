-- The text of what the reader answers is the listing: a law of `listing`, for an input whose numbers are bytes, as the reader's promise says.
use Prim.Native.Nat.{ℕ}
use mathlib.Core.List.{List}
use Rattle.table.specs.declared.reply.Reply.{Reply}
use Rattle.reader.specs.Promises.{ReadPromise}
use Rattle.listing.specs.Listed.{text_whole}
use Rattle.lister.specs.Promise.{TablePromise}

pub table_listed : (edition : ℕ) (input before words after words' : List ℕ) (answer : Reply) → ReadPromise edition input before words answer after words' → TablePromise edition input before words answer after words'
table_listed edition input before words after words' answer p = record { reads = p; lists = λ few room enough. text_whole edition input before words p.bytes p.answers p.rows enough few room }
