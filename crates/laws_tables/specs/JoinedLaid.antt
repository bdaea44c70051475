-- Order 2, over the definitions: what the lent memory holds after a relay is what the reader would lay there from the output.
use Rattle.std.specs.Prelude.{ℕ, ◌≤◌, List, ◌∷◌, true, false, ◌≡◌, T, leb, length, drop}
use Rattle.std.proofs.Math.Path.{refl, ap, sym}
use Rattle.std.proofs.Common.{◌∙◌, subst, le-leb}
use Rattle.meaning.specs.Basics.{every}
use Rattle.meaning.specs.Told.{told}
use Rattle.meaning.specs.Headers.{Placed, accepted, read}
use Rattle.meaning.specs.Writing.{Cell}
use Rattle.meaning.specs.Memory.{Reply, reply, table_of, room_with, words_read, laid_over, read_reply, read_memory, answer_by, rows_by, words_by, read_answer, read_rows, read_words}
use Rattle.meaning.specs.Relay.{Joint, bytes_of, joined_table, joined_words, joined_count, relayed, relay_reply, relay_memory, relay, relay_answer, relay_rows, relay_words, relay_output}
use Rattle.laws_steps.specs.Logic.{are_bytes, bytes_front, right_of}
use Rattle.laws_steps.specs.Envelopes.{opening_row}
use Rattle.laws_tables.specs.WrittenBytes.{views_bytes, wrap_bytes, all_bytes, cell_bytes, cells_bytes, table_bytes, bytes_append}
use Rattle.laws_tables.specs.Ties.{whole_front}
use Rattle.laws_tables.specs.Joined.{Joins, joins, old_whole}
use Rattle.laws_tables.specs.JoinedRead.{joined_rows, count_joined, table_is, words_are, joined_read}

-- the joined header is of bytes
module _ {edition : ℕ} {input table pool : List ℕ} {j : Joint} (s : Joins edition input table pool j) (t : T (are_bytes input)) (u : T (are_bytes pool)) where
  new_bytes : T (are_bytes j.envelope)
  new_bytes =
      let all = table_bytes (opening_row false ∷ s.extension.rows) (subst (λ (x : List Cell). T (every cell_bytes x)) s.extension.cells_are (cells_bytes pool table u)) in
      let views = right_of (views_bytes (opening_row false)) (every views_bytes s.extension.rows) all in
      let inner = all_bytes s.told_in s.extension.rows _ s.extension.to s.body views s.extension.fits_all in
      subst (λ (x : List ℕ). T (are_bytes x)) (sym s.wraps) (wrap_bytes false s.body s.small inner)

  old_are_bytes : T (are_bytes j.header)
  old_are_bytes =
      let w = old_whole s t in
      let bytes : w.bytes ≡ j.header = sym (whole_front (told s.told_in) input s.place j.old w) ∙ sym s.front in
      subst (λ (x : List ℕ). T (are_bytes x)) bytes (bytes_front w.bytes w.payload (subst (λ (x : List ℕ). T (are_bytes x)) w.parts t))

  pub joined_bytes : T (are_bytes (bytes_of j))
  joined_bytes = bytes_append j.envelope j.header new_bytes old_are_bytes

-- What the lent memory holds

-- a relay with room leaves what the reader would lay there from its output, and answers as it
pub record LaidAsRead (edition : ℕ) (input table pool rows words output : List ℕ) (j : Joint) : Type 0 where
  pub header_laid : relay_output edition input table pool rows words output ≡ laid_over output (bytes_of j)
  pub rows_laid : relay_rows edition input table pool rows words output ≡ read_rows edition (laid_over output (bytes_of j)) rows words
  pub words_laid : relay_words edition input table pool rows words output ≡ read_words edition (laid_over output (bytes_of j)) rows words
  pub answers : relay_answer edition input table pool rows words output ≡ read_answer edition (laid_over output (bytes_of j)) rows words

module _ (edition : ℕ) (input table pool rows words output : List ℕ) (j : Joint) (q : relay edition input table pool ≡ relayed j) (t : T (are_bytes input)) (room_is_lem : joined_count j ≤ room_with rows words) (space-is : length (bytes_of j) ≤ length output) where
  abbrev good : Joins edition input table pool j
  good = joins edition input table pool j q

  pub read_laid : read edition (laid_over output (bytes_of j)) ≡ accepted (length (bytes_of j)) (joined_rows j)
  unfolding laid_over
  read_laid = joined_read good t (drop (length (bytes_of j)) output)

  fits_room : leb (joined_count j) (room_with rows words) ≡ true
  fits_room = le-leb (joined_count j) (room_with rows words) room_is_lem

  fits_space : leb (length (bytes_of j)) (length output) ≡ true
  fits_space = le-leb (length (bytes_of j)) (length output) space-is

  reads_room : leb (length (joined_rows j)) (room_with rows words) ≡ true
  reads_room = ap (λ (x : ℕ). leb x (room_with rows words)) (sym (count_joined j)) ∙ fits_room

  relay_memory_lem : (front : Joint → List ℕ) (lent : List ℕ) → relay_memory (room_with rows words) (length output) front lent (relay edition input table pool) ≡ laid_over lent (front j)
  relay_memory_lem front lent = ap (relay_memory (room_with rows words) (length output) front lent) q ∙ rw (fits_room, fits_space) refl

  read_memory_lem : (front : List Placed → List ℕ) (lent : List ℕ) → read_memory (room_with rows words) front lent (read edition (laid_over output (bytes_of j))) ≡ laid_over lent (front (joined_rows j))
  read_memory_lem front lent = ap (read_memory (room_with rows words) front lent) read_laid ∙ rw reads_room refl

  unfoldable all_well : Reply
  all_well = reply 0 (length (bytes_of j)) (length (joined_rows j))

  relay_reply_lem : relay_reply (room_with rows words) (length output) (relayed j) ≡ all_well
  unfolding all_well
  relay_reply_lem = rw (fits_room, fits_space) (ap (reply 0 (length (bytes_of j))) (count_joined j))

  read_reply_lem : read_reply (room_with rows words) (accepted (length (bytes_of j)) (joined_rows j)) ≡ all_well
  unfolding all_well
  read_reply_lem = rw reads_room refl

  pub laid_as_read : LaidAsRead edition input table pool rows words output j
  unfolding relay_output relay_rows relay_words relay_answer answer_by rows_by words_by
  laid_as_read =
      record {
        header_laid = relay_memory_lem bytes_of output;
        rows_laid = relay_memory_lem joined_table rows ∙ ap (laid_over rows) (table_is good) ∙ sym (read_memory_lem table_of rows);
        words_laid = relay_memory_lem joined_words words ∙ ap (laid_over words) (words_are good) ∙ sym (read_memory_lem words_read words);
        answers = ap (relay_reply (room_with rows words) (length output)) q ∙ relay_reply_lem ∙ sym (ap (read_reply (room_with rows words)) read_laid ∙ read_reply_lem);
      }
