-- What a caller has from a piece: it lies in its memory, and one promise allows one answer.
use Rattle.std.specs.Prelude.{ℕ, ◌≤◌, List, ◌++◌, ◌≡◌, take, drop}
use Rattle.std.proofs.Math.Path.{ap}
use Rattle.std.proofs.Common.{sym, ◌∙◌, arith}
use Rattle.std.proofs.Math.ListN.{length, length-append}
use Rattle.std.proofs.Math.Seq.{take-append_seam}
use Rattle.meaning.specs.Memory.{laid_over}
use Rattle.listing.specs.declared.Piece.{Piece}
use Rattle.listing.specs.Pieces.{Cursor, cursor, PieceOf}

answered : {r s : Piece} → r.length ≡ s.length → cursor r.line r.byte ≡ cursor s.line s.byte → r ≡ s
answered {r} {s} n c = ap (λ (k : ℕ). at k (cursor r.line r.byte)) n ∙ ap (at s.length) c
  where
    at : ℕ → Cursor → Piece
    at k x = record { length = k; line = x.line; byte = x.byte }

module _ {text : ℕ → ℕ → List ℕ} {stop : Cursor} {line byte : ℕ} {before : List ℕ} where
  -- the piece is a part of the memory
  pub piece_inside : {after : List ℕ} {r : Piece} → PieceOf text stop line byte before after r → r.length ≤ length after
  unfolding laid_over
  piece_inside p = omega (arith, p.long, ap length p.lays, length-append p.piece (drop (length p.piece) before))

  piece_left : {after : List ℕ} {r : Piece} (p : PieceOf text stop line byte before after r) → text line byte ≡ p.piece ++ text stop.line stop.byte
  piece_left p = p.is ∙ ap (λ (c : Cursor). p.piece ++ text c.line c.byte) p.stops

  -- the piece is all of the text that is not behind the stop
  one_piece : {after later : List ℕ} {r s : Piece} (p : PieceOf text stop line byte before after r) (q : PieceOf text stop line byte before later s) → p.piece ≡ q.piece
  one_piece p q =
      let left = text stop.line stop.byte in
      let joined : p.piece ++ left ≡ q.piece ++ left = sym (piece_left p) ∙ piece_left q in
      let n : length p.piece ≡ length q.piece = omega (arith, ap length joined, length-append p.piece left, length-append q.piece left) in
      sym (take-append_seam p.piece left) ∙ ap (take (length p.piece)) joined ∙ ap (λ (k : ℕ). take k (q.piece ++ left)) n ∙ take-append_seam q.piece left

  pub one_answer : {after later : List ℕ} {r s : Piece} → PieceOf text stop line byte before after r → PieceOf text stop line byte before later s → (r ≡ s) × (after ≡ later)
  one_answer {r = r} {s = s} p q =
      let same = one_piece p q in
      let n : r.length ≡ s.length = p.long ∙ ap length same ∙ sym q.long in
      let c : cursor r.line r.byte ≡ cursor s.line s.byte = p.stops ∙ sym q.stops in
      (answered n c, p.lays ∙ ap (laid_over before) same ∙ sym q.lays)
