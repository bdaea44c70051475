-- A row's pieces, from what was written: its numbers, the end of its view, and a chunk of it.
use Prim.Native.Nat.{ℕ, zero, suc, ◌+◌, ◌-◌, ◌*◌, ◌/◌, ◌≤◌, ◌<◌, min}
use mathlib.Core.List.{List, [], ◌∷◌, ◌++◌, append_assoc}
use mathlib.Core.Bool.{Bool, true, false}
use mathlib.Core.Path.{◌≡◌, refl, ap, sym, ◌∙◌, subst}
use native.Mathlib.Omega.{arith}
use borrow.Author.Tests.{leb-true, leb-false, le-leb, lt-leb}
use lib.Dec.{leb}
use lib.ListN.{length, get_or, take, drop, length-append, length-take, length-drop, drop_of_length-le}
use lib.Seq.{take_all, take-length, drop-length}
use Rattle.meaning.specs.Memory.{row_width, room_of}
use Rattle.meaning.specs.Listing.{hex_of}
use Rattle.listing.specs.declared.Piece.{Piece}
use Rattle.listing.specs.Text.{row_of, view_of, view_from}
use Rattle.listing.specs.Pieces.{piece_least, cursor, view_stop, row_stop, PieceOf}
use Rattle.pen.specs.Wrote.{Wrote}
use Rattle.pen.specs.Fields.{fields_of}
use Rattle.listing.specs.Stages.{ViewPiece, RowPiece}
use Rattle.pen.specs.Written.{wrote_as}
use Rattle.listing.proofs.Written.{piece_of, stops_at}
use Rattle.listing.specs.Cursors.{view_rest, view_chunk, hex_length, fields_some}

module _ (view : List ℕ) (gone line : ℕ) {before after : List ℕ} {end : ℕ} where
  pub view_ends : length view - gone ≤ (length before - 1) / 2 → Wrote before after 0 (view_from view gone ++ (0x0a ∷ [])) end → 1 ≤ end
      → ViewPiece view gone line before after (record { length = end; line = line + 1; byte = 0 })
  view_ends room w h =
      let q : cursor (line + 1) 0 ≡ view_stop (length before) line (length view) gone = rw (le-leb (length view - gone) ((length before - 1) / 2) room) refl in
      record { is = λ text v. stops_at q (piece_of w (v gone ∙ sym (append_assoc (view_from view gone) (0x0a ∷ []) (text (line + 1) 0))) h) }

  pub view_last : gone < length view → length view - gone ≤ (length before - 1) / 2 → Wrote before after 0 (hex_of (take (length view - gone) (drop gone view)) ++ (0x0a ∷ [])) end
      → ViewPiece view gone line before after (record { length = end; line = line + 1; byte = 0 })
  view_last h room w =
      let rest = take (length view - gone) (drop gone view) in
      let q = ap hex_of (take_all (length view - gone) (drop gone view) (omega (arith, length-drop gone view))) ∙ sym (view_rest view gone h) in
      view_ends room (wrote_as (ap (λ (x : List ℕ). x ++ (0x0a ∷ [])) q) w) (omega (arith, w.ends, length-append (hex_of rest) (0x0a ∷ [])))

  pub view_goes : (shown : ℕ) → shown ≡ gone + (length before - 1) / 2 → piece_least ≤ length before → (length before - 1) / 2 < length view - gone → Wrote before after 0 (hex_of (take (shown - gone) (drop gone view))) end
      → ViewPiece view gone line before after (record { length = end; line = line; byte = shown + 1 })
  view_goes shown is some room w =
      let chunk = take (shown - gone) (drop gone view) in
      let q : cursor line (shown + 1) ≡ view_stop (length before) line (length view) gone = rw (is, lt-leb (length view - gone) ((length before - 1) / 2) room) refl in
      let many : 1 ≤ end = omega (arith, w.ends, hex_length chunk, length-take (shown - gone) (drop gone view), length-drop gone view) in
      record {
        is = λ text v. stops_at q (piece_of w (v gone ∙ ap (λ (x : List ℕ). x ++ (0x0a ∷ text (line + 1) 0)) (view_chunk view gone shown (omega arith) (omega arith)) ∙ append_assoc (hex_of chunk) (view_from view shown) (0x0a ∷ text (line + 1) 0) ∙ ap (λ (x : List ℕ). hex_of chunk ++ x) (sym (v shown))) many);
      }

-- a start or a length past the end, cut at it
cut : (f : ℕ → List ℕ) (n m : ℕ) → (m ≤ n → f m ≡ f n) → f (min n m) ≡ f n
cut f n m past = by (leb n m) refl
  where
    by : (z : Bool) → leb n m ≡ z → f (min n m) ≡ f n
    by true q = let h = leb-true n m q in let e : min n m ≡ n = omega arith in ap f e
    by false q = let h = leb-false n m q in let e : min n m ≡ m = omega arith in ap f e ∙ past (omega arith)

drop_cut : (n : ℕ) (s : List ℕ) → drop (min n (length s)) s ≡ drop n s
drop_cut n s = cut (λ k. drop k s) n (length s) (λ h. drop-length s ∙ sym (drop_of_length-le s h))

take_cut : (n : ℕ) (s : List ℕ) → take (min n (length s)) s ≡ take n s
take_cut n s = cut (λ k. take k s) n (length s) (λ h. take-length s ∙ sym (take_all n s h))

held : (row bytes : List ℕ) {start many : ℕ} → start ≡ min (get_or row 2 0) (length bytes) → many ≡ min (get_or row 3 0) (length bytes - start) → take (start + many - start) (drop start bytes) ≡ view_of row bytes
unfolding view_of
held row bytes {start} {many} p q =
    let d : drop start bytes ≡ drop (get_or row 2 0) bytes = ap (λ (n : ℕ). drop n bytes) p ∙ drop_cut (get_or row 2 0) bytes in
    let n : start + many - start ≡ min (get_or row 3 0) (length (drop start bytes)) = omega (arith, length-drop start bytes) in
    ap (λ (k : ℕ). take k (drop start bytes)) n ∙ take_cut (get_or row 3 0) (drop start bytes) ∙ ap (take (get_or row 3 0)) d

pub view_held : (row bytes : List ℕ) {start many gone line : ℕ} {before after : List ℕ} {r : Piece} → start ≡ min (get_or row 2 0) (length bytes) → many ≡ min (get_or row 3 0) (length bytes - start)
    → ViewPiece (take (start + many - start) (drop start bytes)) gone line before after r → ViewPiece (view_of row bytes) gone line before after r
view_held row bytes {gone = gone} {line = line} {before = before} {after = after} {r = r} p q v = subst (λ (x : List ℕ). ViewPiece x gone line before after r) (held row bytes p q) v

row_stop_lem : (room line there byte : ℕ) → (byte ≡ 0 → ⊥) → view_stop room line there (byte - 1) ≡ row_stop room line there byte
row_stop_lem room line there zero b = absurd (b refl)
row_stop_lem room line there (suc gone) b = let q : suc gone - 1 ≡ gone = omega arith in ap (view_stop room line there) q

-- a row as a part of the rows lent
module _ (rows bytes : List ℕ) (line byte : ℕ) where
  abbrev first : ℕ
  first = (line - 1) * row_width

  abbrev part : List ℕ
  part = take (first + row_width - first) (drop first rows)

  part_is : part ≡ row_of rows (line - 1)
  unfolding row_of
  part_is = let q : first + row_width - first ≡ row_width = omega arith in ap (λ (n : ℕ). take n (drop first rows)) q

  pub numbers_piece : {before after : List ℕ} {end : ℕ} → byte ≡ 0 → 1 ≤ line → line ≤ room_of rows → Wrote before after 0 (fields_of part) end
      → RowPiece (row_of rows (line - 1)) bytes line byte before after (record { length = end; line = line; byte = 1 })
  numbers_piece {before} {after} {end} b some within w =
      let long : 1 ≤ length part = omega (arith, length-take (first + row_width - first) (drop first rows), length-drop first rows) in
      let many : 1 ≤ end = omega (arith, w.ends, fields_some part long) in
      record { is = λ text n v. stops_at (rw b refl) (piece_of (wrote_as (ap fields_of part_is) w) (ap (text line) b ∙ n) many) }

  pub view_piece : {before after : List ℕ} {r : Piece} → (byte ≡ 0 → ⊥) → ViewPiece (view_of part bytes) (byte - 1) line before after r → RowPiece (row_of rows (line - 1)) bytes line byte before after r
  view_piece {before} {after} {r} b p =
      let q : byte - 1 + 1 ≡ byte = omega arith in
      let o : ViewPiece (view_of (row_of rows (line - 1)) bytes) (byte - 1) line before after r = subst (λ (x : List ℕ). ViewPiece (view_of x bytes) (byte - 1) line before after r) part_is p in
      record { is = λ text n v. stops_at (row_stop_lem (length before) line (length (view_of (row_of rows (line - 1)) bytes)) byte b) (subst (λ (k : ℕ). PieceOf text (view_stop (length before) line (length (view_of (row_of rows (line - 1)) bytes)) (byte - 1)) line k before after r) q (o.is text v)) }
