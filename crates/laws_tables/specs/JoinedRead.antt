-- Order 2, over the definitions: "the joined rows are the reader's for the joined header", with any payload behind it, and so are the words; the new rows
-- mean the new table; and nothing is relayed that the reader refuses.
use Rattle.std.specs.Prelude.{ℕ, suc, ◌+◌, ◌-◌, List, [], ◌∷◌, ◌++◌, map, false, ◌≡◌, refl, T, length, take, drop}
use Rattle.std.proofs.Common.{append_assoc, ap, sym, ◌∙◌, subst, arith, length-append}
use Rattle.std.proofs.Math.Seq.{drop-append_seam}
use Rattle.meaning.specs.Told.{Label, known, unknown, label_of, strict, told}
use Rattle.meaning.specs.Reading.{Row, Seen, done, inside}
use Rattle.meaning.specs.Headers.{Placed, placed_row, placed, meant, refused, accepted, behind, envelopes_most, start, header, labelled, read_by, read}
use Rattle.meaning.specs.Writing.{cell, envelope_size, wrap}
use Rattle.meaning.specs.Memory.{table_of, cells_of, skips_of, room_of, words_read}
use Rattle.meaning.specs.Relay.{rows_inside, moved, Joint, bytes_of, joined_table, joined_words, joined_count, relayed, unrelayed, behind_old, relay_under, relay}
use Rattle.laws_steps.specs.Logic.{are_bytes, bytes_front}
use Rattle.laws_tables.specs.AllTabled.{ranks_read, accepted_tabled}
use Rattle.laws_steps.specs.Envelopes.{opening_row, rows_of, extension_step, wrap_length, placed_meant}
use Rattle.laws_steps.specs.WrittenRead.{ReadsAll, all_written_read}
use Rattle.laws_steps.specs.Hopping.{ranks_are, ranks_length}
use Rattle.laws_tables.specs.RightSkips.{standing, cells_ranks, skips_same}
use Rattle.laws_tables.specs.Ties.{read_as}
use Rattle.laws_tables.specs.Moving.{ReadsMoved, moved_rows_lem, table_apart}
use Rattle.laws_tables.specs.Joining.{Apart, words_joined, table_joined}
use Rattle.laws_tables.specs.Joined.{Joins, joins, old_whole, old_written, few_old}

-- the joined rows: the new ones, and the old ones with their starts moved
abbrev pub joined_rows : Joint → List Placed
joined_rows j = j.new ++ map (moved (length j.envelope)) j.old

length_moved : (n : ℕ) (rs : List Placed) → length (map (moved n) rs) ≡ length rs
length_moved n [] = refl
length_moved n (r ∷ rs) = ap suc (length_moved n rs)

pub count_joined : (j : Joint) → joined_count j ≡ length (joined_rows j)
count_joined j = omega (arith, length-append j.new (map (moved (length j.envelope)) j.old), length_moved (length j.envelope) j.old)

count_meant : (rs : List Placed) → length (map standing (map meant rs)) ≡ length rs
count_meant [] = refl
count_meant (r ∷ rs) = ap suc (count_meant rs)

module _ {edition : ℕ} {input table pool : List ℕ} {j : Joint} (s : Joins edition input table pool j) where
  new_read : ReadsAll (told s.told_in) (start false) s.body s.extension.rows
  new_read = all_written_read (told s.told_in) s.extension.rows (start false) s.extension.to s.body s.extension.fits_all

  -- the new rows are those of the new envelope at the front
  new_rows_lem : (rs : List Seen) → inside (told s.told_in) (start false) s.body ≡ done rs [] → j.new ≡ rows_of false 0 (envelope_size (length s.body)) rs
  new_rows_lem rs q =
      let n : length (wrap false s.body) ≡ 0 + envelope_size (length s.body) = omega (arith, wrap_length false s.body) in
      s.shows ∙ ap (λ (x : Rattle.meaning.specs.Reading.Out). placed_row 1 0 0 [] ∷ rows_inside (length (wrap false s.body)) x) q ∙ ap (λ (x : ℕ). placed_row 1 0 0 [] ∷ map (placed x) rs) n

  pub new_means : cells_of pool table ≡ map cell (map meant j.new)
  new_means =
      let (rs, q, m) = new_read in
      let means : map meant (rows_of false 0 (envelope_size (length s.body)) rs) ≡ opening_row false ∷ s.extension.rows
      = ap (λ (x : List Row). opening_row false ∷ x) (placed_meant (0 + envelope_size (length s.body)) rs ∙ m) in
      s.extension.cells_are ∙ ap (map cell) (sym means ∙ sym (ap (map meant) (new_rows_lem rs q)))

  pub new_skips : skips_of table ≡ skips_of (table_of j.new)
  new_skips = skips_same pool table j.new s.skips new_means

  -- as many as the new table has
  pub new_count : length j.new ≡ room_of table
  new_count = sym (count_meant j.new) ∙ ap length (sym (cells_ranks pool table (map meant j.new) new_means) ∙ ranks_are table) ∙ ranks_length table 0 (room_of table - 0) ∙ (omega arith)

  pub old_apart : Apart (ranks_read j.old)
  old_apart = let (n, few, t) = accepted_tabled strict edition input s.place j.old s.accepts in table_apart t

  -- in memory: the table of the joined rows, and their words
  pub table_is : joined_table j ≡ table_of (joined_rows j)
  table_is = table_joined (length j.envelope) j.new j.old old_apart

  pub words_are : joined_words j ≡ words_read (joined_rows j)
  words_are = sym (words_joined (length j.envelope) j.new j.old old_apart)

  -- "The old header's bytes are unchanged behind it"
  pub old_unchanged : drop (length j.envelope) (bytes_of j) ≡ take s.place input
  old_unchanged = drop-append_seam j.envelope j.header ∙ s.front

  module _ (t : T (are_bytes input)) where
    old_moves : ReadsMoved (told s.told_in) (old_whole s t).count j.header j.old
    old_moves =
        let w = old_whole s t in
        let e = s.told_in in
        let bytes : w.bytes ≡ j.header = sym (Rattle.laws_tables.specs.Ties.whole_front (told e) input s.place j.old w) ∙ sym s.front in
        let parts : input ≡ j.header ++ w.payload = w.parts ∙ ap (λ (x : List ℕ). x ++ w.payload) bytes in
        let u : T (are_bytes j.header) = bytes_front j.header w.payload (subst (λ (x : List ℕ). T (are_bytes x)) parts t) in
        moved_rows_lem (told e) (old_written s t) u envelopes_most w.few w.payload s.place j.old (ap (header envelopes_most (told e) 0) (sym parts) ∙ sym (read_as strict edition e input s.label) ∙ s.accepts)

    -- the joined rows are exactly the reader's for the joined header, whatever stands behind it
    pub joined_read : (payload : List ℕ) → read edition (bytes_of j ++ payload) ≡ accepted (length (bytes_of j)) (joined_rows j)
    joined_read payload =
        let e = s.told_in in
        let (rs, q, m) = new_read in
        let size = envelope_size (length s.body) in
        let long : length j.envelope ≡ size = ap length s.wraps ∙ wrap_length false s.body in
        let zero_more : 0 + size ≡ size = omega arith in
        let own = rows_of false 0 size rs in
        let behind-new : header 15 (told e) (0 + size) (j.header ++ payload) ≡ accepted (0 + size + length j.header) (map (moved size) j.old)
        = old_moves 15 (omega (arith, few_old s t)) (0 + size) payload ∙ ap (λ (x : ℕ). accepted (0 + size + length j.header) (map (moved x) j.old)) zero_more in
        let all : (j.envelope ++ j.header) ++ payload ≡ wrap false s.body ++ (j.header ++ payload)
        = ap (λ (x : List ℕ). (x ++ j.header) ++ payload) s.wraps ∙ append_assoc (wrap false s.body) j.header payload in
        let place : 0 + size + length j.header ≡ length (bytes_of j) = omega (arith, length-append j.envelope j.header) in
        let rows : own ++ map (moved size) j.old ≡ joined_rows j
        = ap (λ (x : List Placed). x ++ map (moved size) j.old) (sym (new_rows_lem rs q)) ∙ ap (λ (x : ℕ). j.new ++ map (moved x) j.old) (sym long) in
        read_as strict edition e (bytes_of j ++ payload) s.label ∙ ap (header envelopes_most (told e) 0) all ∙ extension_step 15 (told e) 0 s.body (j.header ++ payload) rs s.small q
        ∙ ap (behind own) behind-new ∙ ap (λ (x : ℕ). accepted x (own ++ map (moved size) j.old)) place ∙ ap (accepted (length (bytes_of j))) rows

-- Nothing is relayed that the reader refuses

pub refused_as_read : (edition : ℕ) (input table pool : List ℕ) (refusal place : ℕ) → read edition input ≡ refused refusal place → relay edition input table pool ≡ unrelayed refusal place
unfolding relay read_by
refused_as_read edition input table pool refusal place q = at (label_of edition) q
  where
    at : (l : Label) → labelled strict input l ≡ refused refusal place → relay_under input table pool l ≡ unrelayed refusal place
    at unknown r = let a : 1 ≡ refusal = cc r in let b : 0 ≡ place = cc r in rw (a, b) refl
    at (known e) r = ap (behind_old e input table pool) r

pub relayed_accepted : (edition : ℕ) (input table pool : List ℕ) (j : Joint) → relay edition input table pool ≡ relayed j → (place : ℕ) × (read edition input ≡ accepted place j.old)
relayed_accepted edition input table pool j q = let s = joins edition input table pool j q in (s.place, s.accepts)
