-- A turn of the printing, from the promise of `next`: what is left to print falls by the piece's length.
use Prim.Native.Nat.{ℕ, ◌+◌, ◌≤◌}
use mathlib.Core.List.{List}
use mathlib.Core.Path.{◌≡◌, ap}
use native.Mathlib.Omega.{arith}
use lib.ListN.{length, length-append}
use Rattle.listing.specs.declared.Piece.{Piece}
use Rattle.listing.specs.Text.{text_at}
use Rattle.listing.specs.Pieces.{Cursor, PieceOf, piece_least}
use Rattle.lister.specs.Promise.{Turned}

module _ (answer place count : ℕ) (rows bytes : List ℕ) where
  pub piece_turned : {stop : Cursor} {line byte : ℕ} {before after : List ℕ} {next : Piece} → PieceOf (text_at answer place count rows bytes) stop line byte before after next → piece_least ≤ length before → Turned answer place count rows bytes line byte next
  piece_turned p h = record { piece = p.piece; is = p.is; long = p.long; ends = p.goes h }

  -- what is printed by a turn and what is left behind it
  pub turn_falls : {line byte : ℕ} {next : Piece} → Turned answer place count rows bytes line byte next → next.length + length (text_at answer place count rows bytes next.line next.byte) ≡ length (text_at answer place count rows bytes line byte)
  turn_falls {next = next} t = omega (arith, t.long, ap length t.is, length-append t.piece (text_at answer place count rows bytes next.line next.byte))
