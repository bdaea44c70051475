-- The text from a cursor on, line by line: a line's fields, a view's chunks, and what follows a line.
use Prim.Native.Nat.{ℕ, zero, suc, ◌+◌, ◌-◌, ◌*◌, ◌≤◌, ◌<◌, min}
use mathlib.Core.List.{List, [], ◌∷◌, ◌++◌, append_assoc}
use Rattle.std.specs.Prelude.{Bool, ◌≡◌, eqb, ltb, length, take, drop}
use Rattle.std.proofs.Math.Bool.{true, false}
use Rattle.std.proofs.Math.Path.{refl, ap, sym}
use Rattle.std.proofs.Common.{◌∙◌, subst, add-one, length-append, take-append-drop, drop_of_length-le, drop-drop}
use native.Mathlib.Omega.{arith}
use borrow.Author.Tests.{lt-ltb, le-ltb, ltb-true, ltb-false}
use Rattle.meaning.specs.Basics.{pick}
use Rattle.meaning.specs.Memory.{room_of, reply}
use Rattle.meaning.specs.Listing.{decimal, hex_of, viewed, line_of, first_line}
use Rattle.listing.specs.Text.{row_of, view_of, row_text, lines_from, lines_of, view_from, row_from, text_at}
use Rattle.pen.specs.Fields.{fields_of, line_of_fields}
use Rattle.listing.specs.Stages.{ViewAt}

pub first_line_fields : (answer place count : ℕ) → (decimal answer ++ (0x09 ∷ [])) ++ ((decimal place ++ (0x09 ∷ [])) ++ (decimal count ++ (0x0a ∷ []))) ≡ first_line (reply answer place count)
unfolding line_of
first_line_fields answer place count = simp append_assoc

pub first_some : (answer place count : ℕ) → 1 ≤ length (first_line (reply answer place count))
first_some answer place count =
    let f = decimal answer ++ (0x09 ∷ []) in
    let behind = (decimal place ++ (0x09 ∷ [])) ++ (decimal count ++ (0x0a ∷ [])) in
    omega (arith, ap length (first_line_fields answer place count), length-append f behind, length-append (decimal answer) (0x09 ∷ []))

pub fields_some : (row : List ℕ) → 1 ≤ length row → 1 ≤ length (fields_of row)
unfolding fields_of
fields_some [] h = absurd (omega arith)
fields_some (n ∷ row) h = omega (arith, length-append (decimal n ++ (0x09 ∷ [])) (fields_of row), length-append (decimal n) (0x09 ∷ []))

-- a view's text: behind all its bytes, its last bytes, and a chunk of them
hex_append : (s t : List ℕ) → hex_of (s ++ t) ≡ hex_of s ++ hex_of t
hex_append [] t = refl
hex_append (b ∷ s) t = rw (hex_append s t) refl

pub view_none : (view : List ℕ) (gone : ℕ) → gone ≡ 0 → length view ≤ gone → view_from view gone ≡ 0x2d ∷ []
unfolding view_from viewed
view_none [] gone g h = rw g refl
view_none (b ∷ view) gone g h = absurd (omega arith)

pub view_over : (view : List ℕ) (gone : ℕ) → (gone ≡ 0 → ⊥) → length view ≤ gone → view_from view gone ≡ []
unfolding view_from
view_over view zero g h = absurd (g refl)
view_over view (suc k) g h = ap hex_of (drop_of_length-le view h)

pub view_rest : (view : List ℕ) (gone : ℕ) → gone < length view → view_from view gone ≡ hex_of (drop gone view)
unfolding view_from viewed
view_rest [] zero h = absurd (omega arith)
view_rest (b ∷ view) zero h = refl
view_rest view (suc k) h = refl

pub view_chunk : (view : List ℕ) (gone shown : ℕ) → gone ≤ shown → shown < length view → view_from view gone ≡ hex_of (take (shown - gone) (drop gone view)) ++ view_from view shown
view_chunk view gone shown g h =
    let many = shown - gone in
    let chunk = take many (drop gone view) in
    let q : gone + many ≡ shown = omega arith in
    view_rest view gone (omega arith) ∙ ap hex_of (sym (take-append-drop many (drop gone view))) ∙ hex_append chunk (drop many (drop gone view))
    ∙ ap (λ (x : List ℕ). hex_of chunk ++ hex_of x) (drop-drop many gone view ∙ ap (λ (n : ℕ). drop n view) q) ∙ ap (λ (x : List ℕ). hex_of chunk ++ x) (sym (view_rest view shown h))

pub hex_length : (s : List ℕ) → length (hex_of s) ≡ 2 * length s
hex_length [] = refl
hex_length (b ∷ s) = let q = hex_length s in omega arith

pub lines_within : (answer count : ℕ) (rows : List ℕ) → lines_of answer count rows ≤ room_of rows
unfolding lines_of
lines_within answer count rows = by (eqb answer 0)
  where
    by : (z : Bool) → pick z (min count (room_of rows)) 0 ≤ room_of rows
    by true = omega arith
    by false = omega arith

-- the lines of the rows from i on
module _ (answer place count : ℕ) (rows bytes : List ℕ) where
  abbrev text : ℕ → ℕ → List ℕ
  text = text_at answer place count rows bytes

  abbrev many : ℕ
  many = lines_of answer count rows

  lines_by : (i : ℕ) (z : Bool) → ltb i many ≡ z → pick z (row_text rows bytes i ++ lines_from rows bytes (suc i) (many - suc i)) [] ≡ lines_from rows bytes i (many - i)
  unfolding lines_from
  lines_by i true q = let h = ltb-true i many q in let n : many - i ≡ suc (many - suc i) = omega arith in rw n refl
  lines_by i false q = let h = ltb-false i many q in let n : many - i ≡ 0 = omega arith in rw n refl

  lines_at : (i : ℕ) → text (suc i) 0 ≡ lines_from rows bytes i (many - i)
  unfolding text_at row_from
  lines_at i = lines_by i (ltb i many) refl

  pub first_then : (byte : ℕ) → text 0 byte ≡ first_line (reply answer place count) ++ text 1 0
  unfolding text_at
  first_then byte = let n : many ≡ many - 0 = omega arith in ap (λ (x : List ℕ). first_line (reply answer place count) ++ x) (ap (lines_from rows bytes 0) n ∙ sym (lines_at 0))

  pub text_over : (line byte : ℕ) → many < line → text line byte ≡ []
  unfolding text_at
  text_over zero byte h = absurd (omega arith)
  text_over (suc i) byte h = rw (le-ltb i many (omega arith)) refl

  row_at : (i byte : ℕ) → i < many → text (suc i) byte ≡ row_from rows bytes i byte ++ lines_from rows bytes (suc i) (many - suc i)
  unfolding text_at
  row_at i byte h = rw (lt-ltb i many h) refl

  pub numbers_at : (i : ℕ) → i < many → text (suc i) 0 ≡ fields_of (row_of rows i) ++ text (suc i) 1
  unfolding row_from row_text view_from
  numbers_at i h =
      let behind = lines_from rows bytes (suc i) (many - suc i) in
      let view = viewed (view_of (row_of rows i) bytes) in
      row_at i 0 h ∙ ap (λ (x : List ℕ). x ++ behind) (line_of_fields (row_of rows i) view) ∙ append_assoc (fields_of (row_of rows i)) (view ++ (0x0a ∷ [])) behind ∙ ap (λ (x : List ℕ). fields_of (row_of rows i) ++ x) (sym (row_at i 1 h))

  pub views_at : (i : ℕ) → i < many → ViewAt text (view_of (row_of rows i) bytes) (suc i)
  unfolding row_from
  views_at i h k =
      let view = view_from (view_of (row_of rows i) bytes) k in
      ap (text (suc i)) (add-one k) ∙ row_at i (suc k) h ∙ append_assoc view (0x0a ∷ []) (lines_from rows bytes (suc i) (many - suc i))
      ∙ ap (λ (x : List ℕ). view ++ (0x0a ∷ x)) (sym (lines_at (suc i)) ∙ ap (λ (l : ℕ). text l 0) (sym (add-one (suc i))))

  module _ (line : ℕ) (some : 1 ≤ line) (within : line ≤ many) where
    before_line : suc (line - 1) ≡ line
    before_line = omega arith

    pub line_numbers : text line 0 ≡ fields_of (row_of rows (line - 1)) ++ text line 1
    line_numbers = subst (λ (l : ℕ). text l 0 ≡ fields_of (row_of rows (line - 1)) ++ text l 1) before_line (numbers_at (line - 1) (omega arith))

    pub line_views : ViewAt text (view_of (row_of rows (line - 1)) bytes) line
    line_views = subst (ViewAt text (view_of (row_of rows (line - 1)) bytes)) before_line (views_at (line - 1) (omega arith))
