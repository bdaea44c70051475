-- What the pen wrote, as a piece of the text.
use Prim.Native.Nat.{ℕ, ◌≤◌}
use mathlib.Core.List.{List, [], ◌++◌}
use mathlib.Core.Path.{◌≡◌, refl, ◌∙◌}
use native.Mathlib.Omega.{arith}
use lib.ListN.{length}
use Rattle.meaning.specs.Memory.{laid_over}
use Rattle.listing.specs.declared.Piece.{Piece}
use Rattle.listing.specs.Pieces.{piece_least, Cursor, cursor, PieceOf}
use Rattle.pen.specs.Wrote.{Wrote}

-- what was written from the front on is the next piece
pub piece_of : {text : ℕ → ℕ → List ℕ} {line byte : ℕ} {before after : List ℕ} {bytes : List ℕ} {end next place : ℕ} → Wrote before after 0 bytes end → text line byte ≡ bytes ++ text next place → 1 ≤ end
    → PieceOf text (cursor next place) line byte before after (record { length = end; line = next; byte = place })
unfolding laid_over
piece_of {before = before} {bytes = bytes} w q h =
    record { piece = bytes; is = q; stops = refl; lays = w.over before [] refl refl; long = w.ends ∙ omega arith; goes = λ room none. absurd (omega arith) }

-- no piece: the text ends here, or the memory is short
pub no_piece : {text : ℕ → ℕ → List ℕ} {line byte : ℕ} {before : List ℕ} → (piece_least ≤ length before → text line byte ≡ []) → PieceOf text (cursor line byte) line byte before before (record { length = 0; line = line; byte = byte })
unfolding laid_over
no_piece e = record { piece = []; is = refl; stops = refl; lays = refl; long = refl; goes = λ room none. e room }

pub stops_at : {text : ℕ → ℕ → List ℕ} {stop other : Cursor} {line byte : ℕ} {before after : List ℕ} {r : Piece} → stop ≡ other → PieceOf text stop line byte before after r → PieceOf text other line byte before after r
stops_at q p = record { piece = p.piece; is = p.is; stops = p.stops ∙ q; lays = p.lays; long = p.long; goes = p.goes }
