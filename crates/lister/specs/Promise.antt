-- What the listing programs' body promises, over `meaning`'s `listing`; nothing here speaks of standard input or output.
use Rattle.std.specs.Prelude.{ℕ, ◌*◌, ◌≤◌, ◌<◌, List, [], ◌++◌, ◌≡◌, length, replicate}
use Rattle.meaning.specs.Memory.{row_width, room_of, words_borrowed}
use Rattle.meaning.specs.Listing.{input_most, rows_lent, listing}
use Rattle.listing.specs.declared.Piece.{Piece}
use Rattle.listing.specs.Text.{text_at}
use Rattle.table.specs.declared.reply.Reply.{Reply}
use Rattle.reader.specs.Promises.{ReadPromise}

-- what the reader answers and lends back, and that the text of it is the listing, where 3,072 rows and sixteen words are lent and the input is not too long
pub record TablePromise (edition : ℕ) (input before words : List ℕ) (answer : Reply) (after words' : List ℕ) : Type 0 where
  pub reads : ReadPromise edition input before words answer after words'
  pub lists : length input ≤ input_most → room_of before ≡ rows_lent → words_borrowed ≤ length words → text_at answer.answer answer.place answer.rows after input 0 0 ≡ listing edition input

-- "lends 3,072 rows": the answer is the reader's, lent zeros for as many rows and sixteen words
pub record PrintPromise (edition : ℕ) (input : List ℕ) (answer : Reply) : Type 0 where
  pub after : List ℕ
  pub words : List ℕ
  pub table : TablePromise edition input (replicate (rows_lent * row_width) 0) (replicate words_borrowed 0) answer after words

-- "(longer: the one line `too long`)": these bytes are the listing of any longer input, in any edition
pub record LongPromise (bytes : List ℕ) : Type 0 where
  pub lists : (edition : ℕ) (input : List ℕ) → input_most < length input → bytes ≡ listing edition input

-- a turn of the printing: the text from its cursor on is a piece and the text from the next cursor on; only the text's end has an empty piece
pub record Turned (answer place count : ℕ) (rows bytes : List ℕ) (line byte : ℕ) (next : Piece) : Type 0 where
  pub piece : List ℕ
  pub is : text_at answer place count rows bytes line byte ≡ piece ++ text_at answer place count rows bytes next.line next.byte
  pub long : next.length ≡ length piece
  pub ends : next.length ≡ 0 → text_at answer place count rows bytes line byte ≡ []
