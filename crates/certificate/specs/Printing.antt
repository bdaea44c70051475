-- The listing program's text, of calls: the pieces from the first on, put together, whatever memory each call is lent.
-- By what a piece promises: the text from its cursor on is the piece, then the text from the next cursor on.
use Rattle.std.specs.Prelude.{ℕ, suc, ◌*◌, ◌≤◌, List, [], ◌++◌, ◌≡◌, length, take}
use Rattle.std.proofs.Common.{ap, sym, ◌∙◌, subst, arith, length-append}
use Rattle.std.proofs.lemmas.List.{length-replicate}
use Rattle.meaning.specs.Memory.{row_width, room_of, words_borrowed}
use Rattle.meaning.specs.Listing.{input_most, rows_lent, listing}
use Rattle.listing.specs.declared.Piece.{Piece}
use Rattle.listing.specs.Text.{text_at}
use Rattle.listing.specs.Pieces.{piece_least, NextPiece}
use Rattle.table.specs.declared.reply.Reply.{Reply}
use Rattle.lister.specs.Promise.{TablePromise, PrintPromise}
use Rattle.certificate.specs.Lent.{laid_front}

-- Calls of `listing::next` over one table from a cursor on, and what they wrote, put together: each begins where the one before it stopped
-- and has memory of its own, of any size; the last one has room for a piece and writes none.
pub data Calls (answer place count : ℕ) (rows bytes : List ℕ) : ℕ → ℕ → List ℕ → Type 0 where
  last : {line byte : ℕ} {before after : List ℕ} {piece : Piece} → NextPiece answer place count rows bytes line byte before after piece → piece_least ≤ length before → piece.length ≡ 0
      → Calls answer place count rows bytes line byte []
  further : {line byte : ℕ} {before after joined : List ℕ} {piece : Piece} → NextPiece answer place count rows bytes line byte before after piece → Calls answer place count rows bytes piece.line piece.byte joined
      → Calls answer place count rows bytes line byte (take piece.length after ++ joined)

-- they write the text from their cursor on
pub pieces_joined : {answer place count : ℕ} {rows bytes : List ℕ} {line byte : ℕ} {joined : List ℕ} → Calls answer place count rows bytes line byte joined → joined ≡ text_at answer place count rows bytes line byte
pieces_joined (last p room none) = sym (p.goes room none)
pieces_joined {answer} {place} {count} {rows = rows} {bytes = bytes} (further {before = before} {after = after} {joined = joined} {piece = piece} p c) =
    ap (λ (x : List ℕ). take piece.length x ++ joined) p.lays ∙ ap (λ (x : List ℕ). x ++ joined) (laid_front before p.piece (sym p.long)) ∙ ap (λ (x : List ℕ). p.piece ++ x) (pieces_joined c) ∙ sym p.is

-- so many calls, one from where the other stopped, none of them empty
pub data Going (answer place count : ℕ) (rows bytes : List ℕ) : ℕ → ℕ → ℕ → Type 0 where
  begun : {line byte : ℕ} → Going answer place count rows bytes 0 line byte
  again : {n line byte : ℕ} {before after : List ℕ} {piece : Piece} → NextPiece answer place count rows bytes line byte before after piece → 1 ≤ piece.length → Going answer place count rows bytes n piece.line piece.byte
      → Going answer place count rows bytes (suc n) line byte

-- they are no more than the text from their cursor on has bytes
pub calls_few : {answer place count : ℕ} {rows bytes : List ℕ} {n line byte : ℕ} → Going answer place count rows bytes n line byte → n ≤ length (text_at answer place count rows bytes line byte)
calls_few begun = omega arith
calls_few {answer} {place} {count} {rows = rows} {bytes = bytes} (again {piece = piece} p some g) =
    let few = calls_few g in
    omega (arith, p.long, ap length p.is, length-append p.piece (text_at answer place count rows bytes piece.line piece.byte))

-- Of a table from `lister::read_table`, lent the definition's 3,072 rows and sixteen words.
module _ {edition : ℕ} {input before words after words' : List ℕ} {a : Reply} (p : TablePromise edition input before words a after words') (few : length input ≤ input_most) (room : room_of before ≡ rows_lent) (enough : words_borrowed ≤ length words) where
  -- the pieces from the first on, put together, are the listing
  pub pieces_are_listing : {joined : List ℕ} → Calls a.answer a.place a.rows after input 0 0 joined → joined ≡ listing edition input
  pieces_are_listing c = pieces_joined c ∙ p.lists few room enough

  -- and calls that each write something are no more than the listing has bytes: then an empty one comes
  pub listing_ends : {n : ℕ} → Going a.answer a.place a.rows after input n 0 0 → n ≤ length (listing edition input)
  listing_ends {n} g = subst (λ (text : List ℕ). n ≤ length text) (p.lists few room enough) (calls_few g)

-- Of a table from `lister::print`: what it lends is that.
pub printed_is_listing : {edition : ℕ} {input joined : List ℕ} {a : Reply} (p : PrintPromise edition input a) → length input ≤ input_most → Calls a.answer a.place a.rows p.after input 0 0 joined → joined ≡ listing edition input
printed_is_listing p few c =
    pieces_are_listing p.table few (omega (arith, length-replicate {A = ℕ} (rows_lent * row_width) 0)) (omega (arith, length-replicate {A = ℕ} words_borrowed 0)) c
