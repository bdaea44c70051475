-- The text of what the reader answers and lends back is the listing of document 01: accepted, refused, or 14.
-- By rows: where the next row stands in the memory, its line is that row's, since its view is the input's own bytes.
use Rattle.std.specs.Prelude.{ℕ, suc, ◌+◌, ◌*◌, ◌≤◌, Bool, true, false, ◌≡◌, T, leb, length, take, drop}
use mathlib.Core.List.{List, [], ◌∷◌, ◌++◌, map}
use Rattle.std.proofs.Math.Path.{refl, ap}
use Rattle.std.proofs.Common.{sym, ◌∙◌, arith, leb-true, le-leb, le-ltb, ne_eqb, length-append, length-drop, drop-drop}
use Rattle.meaning.specs.Basics.{pick}
use Rattle.meaning.specs.Headers.{Placed, Answer, refused, accepted, read}
use Rattle.meaning.specs.Told.{strict}
use Rattle.meaning.specs.Skips.{skip_of}
use Rattle.meaning.specs.Memory.{row_width, rank_of, numbers_in, numbers_of, rows_from, table_of, room_of, laid_over, Reply, reply, read_reply, read_memory, words_borrowed, room_with, answer_by, rows_by, read_answer, read_rows}
use Rattle.meaning.specs.Listing.{input_most, rows_lent, first_line, row_line, row_lines, listing_of, listing}
use Rattle.laws_steps.specs.Logic.{are_bytes}
use Rattle.laws_tables.specs.Skipping.{table_length as rows-length}
use Rattle.laws_tables.specs.Answered.{ViewsHeader, accepted_shape, refused_shape}
use Rattle.listing.specs.Text.{row_of, view_of, row_text, lines_from, lines_of, text_at}

-- a row's line, where its numbers stand in the memory
row_listed : (rows bytes rest : List ℕ) (i : ℕ) (r : Placed) (skip : ℕ) → drop (i * row_width) rows ≡ numbers_in (numbers_of r) skip ++ rest → take (length r.view) (drop r.start bytes) ≡ r.view → row_text rows bytes i ≡ row_line r skip
unfolding row_text row_of view_of
row_listed rows bytes rest i r skip q v = rw (q, v) refl

pub lines_listed : (rows bytes rest : List ℕ) (place i : ℕ) (rs : List Placed) → drop (i * row_width) rows ≡ rows_from i (map numbers_of rs) ++ rest → ViewsHeader bytes place rs → lines_from rows bytes i (length rs) ≡ row_lines i rs
unfolding lines_from
lines_listed rows bytes rest place i [] q v = refl
lines_listed rows bytes rest place i (r ∷ rs) q ((h, v), vs) =
    let p : i * row_width + row_width ≡ suc i * row_width = omega arith in
    let behind = rows_from (suc i) (map numbers_of rs) ++ rest in
    let next : drop (suc i * row_width) rows ≡ behind = ap (λ (n : ℕ). drop n rows) (sym p) ∙ sym (drop-drop row_width (i * row_width) rows) ∙ ap (drop row_width) q in
    rw (row_listed rows bytes behind i r (skip_of i (rank_of (numbers_of r)) (map rank_of (map numbers_of rs))) q v, lines_listed rows bytes rest place (suc i) rs next vs) refl

pub table_length : (rs : List Placed) → length (table_of rs) ≡ length rs * row_width
table_length rs = rows-length 0 rs

pub refused_lines : (answer count : ℕ) (rows : List ℕ) → 1 ≤ answer → lines_of answer count rows ≡ 0
unfolding lines_of
refused_lines answer count rows h = rw (ne_eqb answer 0 (λ q. omega arith)) refl

laid_lines : (lent : List ℕ) (rs : List Placed) → length rs ≤ room_of lent → lines_of 0 (length rs) (laid_over lent (table_of rs)) ≡ length rs
unfolding lines_of laid_over
laid_lines lent rs h =
    omega (arith, table_length rs, length-append (table_of rs) (drop (length (table_of rs)) lent), length-drop (length (table_of rs)) lent)

-- what the reader answered, with its lent memory
abbrev text_of : Reply → List ℕ → List ℕ → List ℕ
text_of r rows bytes = text_at r.answer r.place r.rows rows bytes 0 0

reply_listed : (edition : ℕ) (input lent : List ℕ) → T (are_bytes input) → (a : Answer) → read edition input ≡ a → text_of (read_reply (room_of lent) a) (read_memory (room_of lent) table_of lent a) input ≡ listing_of (room_of lent) a
unfolding text_at listing_of lines_from laid_over
reply_listed edition input lent t (refused refusal place) q = rw (refused_lines refusal 0 lent (refused_shape strict edition input refusal place q).0) refl
reply_listed edition input lent t (accepted place rs) q = fits (leb (length rs) (room_of lent)) refl (accepted_shape strict edition input place rs t q).2
  where
    fits : (z : Bool) → leb (length rs) (room_of lent) ≡ z → ViewsHeader input place rs
        → text_of (reply (pick z 0 14) place (length rs)) (pick z (laid_over lent (table_of rs)) lent) input ≡ first_line (reply (pick z 0 14) place (length rs)) ++ pick z (row_lines 0 rs) []
    fits true q v = ap (λ (x : List ℕ). first_line (reply 0 place (length rs)) ++ x) (rw (laid_lines lent rs (leb-true (length rs) (room_of lent) q)) (lines_listed (laid_over lent (table_of rs)) input (drop (length (table_of rs)) lent) place 0 rs refl v))
    fits false q v = rw (refused_lines 14 (length rs) lent (omega arith)) refl

module _ (edition : ℕ) (input lent words : List ℕ) (t : T (are_bytes input)) {answer place count : ℕ} {rows : List ℕ} (replies : reply answer place count ≡ read_answer edition input lent words) (lends : rows ≡ read_rows edition input lent words)
    (enough : words_borrowed ≤ length words) where
  roomy : room_with lent words ≡ room_of lent
  roomy = rw (le-leb words_borrowed (length words) enough) refl

  pub text_listed : text_at answer place count rows input 0 0 ≡ listing_of (room_of lent) (read edition input)
  unfolding answer_by rows_by
  text_listed =
      ap (λ (r : Reply). text_of r rows input) replies ∙ ap (λ (x : List ℕ). text_of (read_answer edition input lent words) x input) lends
      ∙ ap (λ (n : ℕ). text_of (read_reply n (read edition input)) (read_memory n table_of lent (read edition input)) input) roomy ∙ reply_listed edition input lent t (read edition input) refl

  -- "reads at most 65,536 bytes from standard input .., lends 3,072 rows"
  pub text_whole : length input ≤ input_most → room_of lent ≡ rows_lent → text_at answer place count rows input 0 0 ≡ listing edition input
  unfolding listing
  text_whole few room = text_listed ∙ ap (λ (n : ℕ). listing_of n (read edition input)) room ∙ rw (le-ltb input_most (length input) few) refl
