-- What the printing of a piece promises: where it stops, and that it is the text up to there.
use Rattle.std.specs.Prelude.{ℕ, zero, suc, ◌+◌, ◌-◌, ◌/◌, ◌≤◌, List, [], ◌++◌, ◌≡◌, leb, ltb, length}
use Rattle.meaning.specs.Basics.{pick}
use Rattle.meaning.specs.Memory.{laid_over}
use Rattle.listing.specs.declared.Piece.{Piece}
use Rattle.listing.specs.Text.{row_of, view_of, lines_of, text_at}

-- memory that never fails to hold the next piece: a first line has 53 bytes at most, a row's numbers 44
abbrev pub piece_least : ℕ
piece_least = 64

-- where a piece stops
pub record Cursor : Type 0 where
  pub line : ℕ
  pub byte : ℕ

abbrev pub cursor : ℕ → ℕ → Cursor
cursor l b = record { line = l; byte = b }

-- a view of so many bytes, some of them printed: behind its line's end if the memory holds all, else behind as many bytes as it holds
abbrev pub view_stop : ℕ → ℕ → ℕ → ℕ → Cursor
view_stop room line there gone = pick (leb (there - gone) ((room - 1) / 2)) (cursor (line + 1) 0) (cursor line (gone + (room - 1) / 2 + 1))

-- a row's line: behind its numbers, or in its view
abbrev pub row_stop : ℕ → ℕ → ℕ → ℕ → Cursor
row_stop room line there zero = cursor line 1
row_stop room line there (suc gone) = view_stop room line there gone

abbrev pub line_stop : ℕ → ℕ → List ℕ → List ℕ → ℕ → ℕ → Cursor
line_stop room many rows bytes zero byte = cursor 1 0
line_stop room many rows bytes (suc i) byte = pick (ltb i many) (row_stop room (suc i) (length (view_of (row_of rows i) bytes)) byte) (cursor (suc i) byte)

-- where the piece from a cursor on stops, in memory of so many bytes
unfoldable pub stop_at : ℕ → ℕ → List ℕ → List ℕ → ℕ → ℕ → ℕ → Cursor
stop_at answer count rows bytes line byte room = pick (ltb room piece_least) (cursor line byte) (line_stop room (lines_of answer count rows) rows bytes line byte)

-- A piece of a text that each cursor has: it stands over the front of the memory and nothing behind it changes, the text from the cursor on
-- is the piece and the text from the next cursor on, and it is empty only at the text's end or where the memory is short.
pub record PieceOf (text : ℕ → ℕ → List ℕ) (stop : Cursor) (line byte : ℕ) (before after : List ℕ) (answer : Piece) : Type 0 where
  pub piece : List ℕ
  pub is : text line byte ≡ piece ++ text answer.line answer.byte
  pub stops : cursor answer.line answer.byte ≡ stop
  pub lays : after ≡ laid_over before piece
  pub long : answer.length ≡ length piece
  pub goes : piece_least ≤ length before → answer.length ≡ 0 → text line byte ≡ []

-- the next piece of a lent table's text
abbrev pub NextPiece : ℕ → ℕ → ℕ → List ℕ → List ℕ → ℕ → ℕ → List ℕ → List ℕ → Piece → Type 0
NextPiece answer place count rows bytes line byte before after piece =
    PieceOf (text_at answer place count rows bytes) (stop_at answer count rows bytes line byte (length before)) line byte before after piece
