-- The four answers of `next`, each from the test that led to it: where its piece stops, and the text up to there.
use Prim.Native.Nat.{ℕ, zero, suc, ◌-◌, ◌≤◌, ◌<◌}
use mathlib.Core.List.{List}
use mathlib.Core.Path.{◌≡◌, refl, ap, sym, ◌∙◌}
use native.Mathlib.Omega.{arith}
use borrow.Author.Tests.{lt-ltb, le-ltb}
use lib.ListN.{length}
use Rattle.meaning.specs.Memory.{reply}
use Rattle.meaning.specs.Listing.{first_line}
use Rattle.listing.specs.declared.Piece.{Piece}
use Rattle.listing.specs.Text.{row_of, view_of, lines_of, text_at}
use Rattle.listing.specs.Pieces.{piece_least, cursor, row_stop, line_stop, stop_at, NextPiece}
use Rattle.pen.specs.Wrote.{Wrote}
use Rattle.listing.specs.Stages.{RowPiece}
use Rattle.listing.proofs.Written.{piece_of, no_piece, stops_at}
use Rattle.listing.specs.Cursors.{first_then, first_some, text_over, line_numbers, line_views}

-- where a piece stops, by the tests of the code
module _ (answer count : ℕ) (rows bytes : List ℕ) (line byte room : ℕ) where
  stop_short : room < piece_least → cursor line byte ≡ stop_at answer count rows bytes line byte room
  unfolding stop_at
  stop_short h = rw (lt-ltb room piece_least h) refl

  module _ (h : piece_least ≤ room) where
    in_line : line_stop room (lines_of answer count rows) rows bytes line byte ≡ stop_at answer count rows bytes line byte room
    unfolding stop_at
    in_line = rw (le-ltb room piece_least h) refl

    stop_first : line ≡ 0 → cursor 1 0 ≡ stop_at answer count rows bytes line byte room
    stop_first l = sym (ap (λ (k : ℕ). line_stop room (lines_of answer count rows) rows bytes k byte) l) ∙ in_line

    stop_over : lines_of answer count rows < line → cursor line byte ≡ stop_at answer count rows bytes line byte room
    stop_over l = over line l ∙ in_line
      where
        over : (line : ℕ) → lines_of answer count rows < line → cursor line byte ≡ line_stop room (lines_of answer count rows) rows bytes line byte
        over zero l = absurd (omega arith)
        over (suc i) l = rw (le-ltb i (lines_of answer count rows) (omega arith)) refl

    stop_row : 1 ≤ line → line ≤ lines_of answer count rows → row_stop room line (length (view_of (row_of rows (line - 1)) bytes)) byte ≡ stop_at answer count rows bytes line byte room
    stop_row some l = row line some l ∙ in_line
      where
        row : (line : ℕ) → 1 ≤ line → line ≤ lines_of answer count rows → row_stop room line (length (view_of (row_of rows (line - 1)) bytes)) byte ≡ line_stop room (lines_of answer count rows) rows bytes line byte
        row zero some l = absurd (omega arith)
        row (suc i) some l = let q : suc i - 1 ≡ i = omega arith in rw (q, lt-ltb i (lines_of answer count rows) (omega arith)) refl

module _ (answer place count : ℕ) (rows bytes : List ℕ) (line byte : ℕ) {before : List ℕ} where
  pub next_short : length before < piece_least → NextPiece answer place count rows bytes line byte before before (record { length = 0; line = line; byte = byte })
  next_short h = stops_at (stop_short answer count rows bytes line byte (length before) h) (no_piece (λ room. absurd (omega arith)))

  pub next_first : {after : List ℕ} {end : ℕ} → piece_least ≤ length before → line ≡ 0 → Wrote before after 0 (first_line (reply answer place count)) end → NextPiece answer place count rows bytes line byte before after (record { length = end; line = 1; byte = 0 })
  next_first {end = end} h l w =
      let some : 1 ≤ end = omega (arith, w.ends, first_some answer place count) in
      stops_at (stop_first answer count rows bytes line byte (length before) h l) (piece_of w (ap (λ (k : ℕ). text_at answer place count rows bytes k byte) l ∙ first_then answer place count rows bytes byte) some)

  pub next_over : piece_least ≤ length before → lines_of answer count rows < line → NextPiece answer place count rows bytes line byte before before (record { length = 0; line = line; byte = byte })
  next_over h l = stops_at (stop_over answer count rows bytes line byte (length before) h l) (no_piece (λ room. text_over answer place count rows bytes line byte l))

  pub next_row : {after : List ℕ} {r : Piece} → piece_least ≤ length before → 1 ≤ line → line ≤ lines_of answer count rows → RowPiece (row_of rows (line - 1)) bytes line byte before after r → NextPiece answer place count rows bytes line byte before after r
  next_row h some l p =
      stops_at (stop_row answer count rows bytes line byte (length before) h some l)
      (p.is (text_at answer place count rows bytes) (line_numbers answer place count rows bytes line some l) (line_views answer place count rows bytes line some l))
