-- What the stages under a piece promise: the parts of a row's line.
use Rattle.std.specs.Prelude.{ℕ, ◌+◌, ◌≤◌, ◌<◌, List, [], ◌∷◌, ◌++◌, ◌≡◌, length}
use Rattle.meaning.specs.Listing.{decimal}
use Rattle.pen.specs.Wrote.{Wrote}
use Rattle.pen.specs.Fields.{fields_of}
use Rattle.listing.specs.declared.Piece.{Piece}
use Rattle.listing.specs.Text.{view_of, view_from}
use Rattle.listing.specs.Pieces.{piece_least, view_stop, row_stop, PieceOf}

-- a number of a row has ten digits at most
pub record WroteField (before after : List ℕ) (at number end : ℕ) : Type 0 where
  pub wrote : Wrote before after at (decimal number ++ (0x09 ∷ [])) end
  pub few : end ≤ at + 11

-- A row's line is its numbers, then its view and the line's end. A stage promises its piece for any text that has the line so.
abbrev pub ViewAt : (ℕ → ℕ → List ℕ) → List ℕ → ℕ → Type 0
ViewAt text view line = (k : ℕ) → text line (k + 1) ≡ view_from view k ++ (0x0a ∷ text (line + 1) 0)

-- what a stage of a view asks
pub record ViewRoom (line : ℕ) (out : List ℕ) : Type 0 where
  pub room : piece_least ≤ length out
  pub next : line + 1 < 18446744073709551616

-- behind all bytes of a view: its line's end, after `-` if it has none
pub record WroteEnd (before after : List ℕ) (gone end : ℕ) : Type 0 where
  pub is : (view : List ℕ) → length view ≤ gone → Wrote before after 0 (view_from view gone ++ (0x0a ∷ [])) end
  pub some : 1 ≤ end

-- a view behind so many of its bytes
pub record ViewPiece (view : List ℕ) (gone line : ℕ) (before after : List ℕ) (answer : Piece) : Type 0 where
  pub is : (text : ℕ → ℕ → List ℕ) → ViewAt text view line → PieceOf text (view_stop (length before) line (length view) gone) line (gone + 1) before after answer

pub record RowPiece (row bytes : List ℕ) (line byte : ℕ) (before after : List ℕ) (answer : Piece) : Type 0 where
  pub is : (text : ℕ → ℕ → List ℕ) → text line 0 ≡ fields_of row ++ text line 1 → ViewAt text (view_of row bytes) line → PieceOf text (row_stop (length before) line (length (view_of row bytes)) byte) line byte before after answer
