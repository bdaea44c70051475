-- Document 02, order 9: "a reading that is told no edition and answers the rows and the editions that allow the bytes: 1, 2, or 3 for both".
use Rattle.std.specs.Prelude.{ℕ, List, eqb}
use Rattle.meaning.specs.Basics.{pick}
use Rattle.meaning.specs.Headers.{Answer, refused, accepted, read}
use Rattle.meaning.specs.Memory.{Reply, read_reply, read_memory, room_with, table_of, words_read}

-- edition 1's answer and edition 2's, to the editions that allow the bytes: "Allows" means that no refusal but 14 arises, which a reading of the bytes alone has not
abbrev pub allowing : Answer → Answer → ℕ
allowing (refused refusal place) (refused other there) = 0
allowing (accepted place rs) (refused other there) = 1
allowing (refused refusal place) (accepted there ts) = 2
allowing (accepted place rs) (accepted there ts) = 3

-- .. and to the answer that is given: "if neither edition allows the bytes, edition 2's answer and place"; where both do, their tables are one
abbrev pub either : Answer → Answer → Answer
either (accepted place rs) (refused other there) = accepted place rs
either (accepted place rs) (accepted there ts) = accepted there ts
either (refused refusal place) answer = answer

unfoldable pub editions_of : List ℕ → ℕ
editions_of input = allowing (read 1 input) (read 2 input)

unfoldable pub read_either : List ℕ → Answer
read_either input = either (read 1 input) (read 2 input)

pub record Sorted : Type 0 where
  pub reply : Reply
  pub editions : ℕ

-- "Refusals, each with editions 0"; "14 if at least one allows them and the room is short"
abbrev pub sorted : ℕ → Reply → Sorted
sorted editions r = record { reply = r; editions = pick (eqb r.answer 0) editions 0 }

-- input, lent rows and lent words to the answer, and to the rows and the words after the call: lent as the reader's are
unfoldable pub which_answer : List ℕ → List ℕ → List ℕ → Sorted
which_answer input rows words = sorted (editions_of input) (read_reply (room_with rows words) (read_either input))

unfoldable pub which_rows : List ℕ → List ℕ → List ℕ → List ℕ
which_rows input rows words = read_memory (room_with rows words) table_of rows (read_either input)

unfoldable pub which_words : List ℕ → List ℕ → List ℕ → List ℕ
which_words input rows words = read_memory (room_with rows words) words_read words (read_either input)
