-- Every call of `listing::next` has an answer that its promise allows, whatever table, cursor and memory it is lent.
use Rattle.std.specs.Prelude.{ℕ, zero, suc, ◌+◌, ◌-◌, ◌*◌, ◌/◌, ◌≤◌, ◌<◌, List, [], ◌∷◌, ◌++◌, Bool, ◌≡◌, leb, length, take, drop}
use Rattle.std.proofs.Common.{append_assoc, ap, sym, ◌∙◌, add-one, arith, length-append, length-take, length-drop}
use Rattle.std.proofs.Math.Bool.{true, false}
use Rattle.std.proofs.Math.Path.{refl}
use borrow.Author.Tests.{leb-false, ltb-true, ltb-false, lt-ltb}
use Rattle.std.proofs.Math.Dec.{ltb}
use Rattle.meaning.specs.Memory.{row_width, room_of, reply, laid_over}
use Rattle.meaning.specs.Listing.{hex_of, first_line}
use Rattle.listing.specs.declared.Piece.{Piece}
use Rattle.listing.specs.Text.{row_of, view_of, lines_of, view_from, text_at}
use Rattle.listing.specs.Pieces.{piece_least, Cursor, cursor, view_stop, row_stop, line_stop, stop_at, NextPiece}
use Rattle.pen.specs.Fields.{fields_of}
use Rattle.listing.specs.Stages.{ViewAt}
use Rattle.listing.specs.Cursors.{first_then, first_some, fields_some, hex_length, view_chunk, lines_within, text_over, numbers_at, views_at}

-- a row that is lent has numbers
row_some : (rows : List ℕ) (i : ℕ) → i < room_of rows → 1 ≤ length (row_of rows i)
unfolding row_of
row_some rows i h = omega (arith, length-take row_width (drop (i * row_width) rows), length-drop (i * row_width) rows)

module _ (answer place count : ℕ) (rows bytes before : List ℕ) where
  abbrev text : ℕ → ℕ → List ℕ
  text = text_at answer place count rows bytes

  abbrev many : ℕ
  many = lines_of answer count rows

  abbrev room : ℕ
  room = length before

  -- a piece of the text from a cursor on, up to a stop
  pub record UpTo (line byte : ℕ) (stop : Cursor) : Type 0 where
    pub piece : List ℕ
    pub is : text line byte ≡ piece ++ text stop.line stop.byte
    pub goes : piece_least ≤ room → length piece ≡ 0 → text line byte ≡ []

  -- .. that has bytes
  some_bytes : (line byte : ℕ) (stop : Cursor) (piece : List ℕ) → text line byte ≡ piece ++ text stop.line stop.byte → 1 ≤ length piece → UpTo line byte stop
  some_bytes line byte stop piece is some = record { piece = piece; is = is; goes = λ h none. absurd (omega arith) }

  -- .. of a view
  module _ (line gone : ℕ) (view : List ℕ) (v : ViewAt text view line) (least : piece_least ≤ room) where
    view_up_to : UpTo line (gone + 1) (view_stop room line (length view) gone)
    view_up_to = by (leb (length view - gone) ((room - 1) / 2)) refl
      where
        by : (z : Bool) → leb (length view - gone) ((room - 1) / 2) ≡ z → UpTo line (gone + 1) (view_stop room line (length view) gone)
        by true q =
            let rest = view_from view gone in
            rw q (some_bytes line (gone + 1) (cursor (line + 1) 0) (rest ++ (0x0a ∷ [])) (v gone ∙ sym (append_assoc rest (0x0a ∷ []) (text (line + 1) 0))) (omega (arith, length-append rest (0x0a ∷ []))))
        by false q =
            let h = leb-false (length view - gone) ((room - 1) / 2) q in
            let shown = gone + (room - 1) / 2 in
            let chunk = take (shown - gone) (drop gone view) in
            let is : text line (gone + 1) ≡ hex_of chunk ++ text line (shown + 1)
            = v gone ∙ ap (λ (x : List ℕ). x ++ (0x0a ∷ text (line + 1) 0)) (view_chunk view gone shown (omega arith) (omega arith)) ∙ append_assoc (hex_of chunk) (view_from view shown) (0x0a ∷ text (line + 1) 0) ∙ ap (λ (x : List ℕ). hex_of chunk ++ x) (sym (v shown)) in
            rw q (some_bytes line (gone + 1) (cursor line (shown + 1)) (hex_of chunk) is (omega (arith, hex_length chunk, length-take (shown - gone) (drop gone view), length-drop gone view)))

  -- .. of a row's line
  row_up_to : (i byte : ℕ) → i < many → piece_least ≤ room → UpTo (suc i) byte (line_stop room many rows bytes (suc i) byte)
  row_up_to i byte h least = rw (lt-ltb i many h) (by byte)
    where
      by : (byte : ℕ) → UpTo (suc i) byte (row_stop room (suc i) (length (view_of (row_of rows i) bytes)) byte)
      by zero = some_bytes (suc i) 0 (cursor (suc i) 1) (fields_of (row_of rows i)) (numbers_at answer place count rows bytes i h) (fields_some (row_of rows i) (row_some rows i (omega (arith, lines_within answer count rows))))
      by (suc gone) = rw (add-one gone) at (view_up_to (suc i) gone (view_of (row_of rows i) bytes) (views_at answer place count rows bytes i h) least)

  line_up_to : (line byte : ℕ) → piece_least ≤ room → UpTo line byte (line_stop room many rows bytes line byte)
  line_up_to zero byte least = some_bytes 0 byte (cursor 1 0) (first_line (reply answer place count)) (first_then answer place count rows bytes byte) (first_some answer place count)
  line_up_to (suc i) byte least = by (ltb i many) refl
    where
      by : (z : Bool) → ltb i many ≡ z → UpTo (suc i) byte (line_stop room many rows bytes (suc i) byte)
      by true q = row_up_to i byte (ltb-true i many q) least
      by false q = let h = ltb-false i many q in rw q (record { piece = []; is = refl; goes = λ k none. text_over answer place count rows bytes (suc i) byte (omega arith) })

  up_to : (line byte : ℕ) → UpTo line byte (stop_at answer count rows bytes line byte room)
  unfolding stop_at
  up_to line byte = by (ltb room piece_least) refl
    where
      by : (z : Bool) → ltb room piece_least ≡ z → UpTo line byte (stop_at answer count rows bytes line byte room)
      by true q = let h = ltb-true room piece_least q in rw q (record { piece = []; is = refl; goes = λ k none. absurd (omega arith) })
      by false q = rw q (line_up_to line byte (ltb-false room piece_least q))

  pub some_piece : (line byte : ℕ) → (after : List ℕ) × (r : Piece) × NextPiece answer place count rows bytes line byte before after r
  some_piece line byte =
      let stop = stop_at answer count rows bytes line byte room in
      let u = up_to line byte in
      (laid_over before u.piece, record { length = length u.piece; line = stop.line; byte = stop.byte }, record { piece = u.piece; is = u.is; stops = refl; lays = refl; long = refl; goes = u.goes })
