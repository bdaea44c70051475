-- Order 2, over the definitions: "Demands 2 and 3 hold for the joined header". The joined rows with the joined header as their pool are a table that the writer
-- takes, and gives that header for. And what the lent memory holds after a relay is what the reader would lay there from the output.
use Rattle.std.specs.Prelude.{ℕ, ◌≤◌, List, [], ◌∷◌, ◌++◌, map, true, false, ◌⊎◌, ◌≡◌, refl, T, length, take}
use Rattle.std.proofs.Common.{append-nil, ap, sym, ◌∙◌, arith}
use Rattle.std.proofs.Math.Seq.{take-append_seam}
use Rattle.meaning.specs.Told.{strict, told}
use Rattle.meaning.specs.Reading.{Row}
use Rattle.meaning.specs.Headers.{Placed, meant, accepted, read}
use Rattle.meaning.specs.Writing.{Cell, cell, written}
use Rattle.meaning.specs.Memory.{table_of, cells_of, write}
use Rattle.meaning.specs.Relay.{moved, Joint, bytes_of, joined_table}
use Rattle.laws_steps.specs.Logic.{are_bytes}
use Rattle.laws_steps.specs.Envelopes.{map_append}
use Rattle.laws_steps.specs.PlainRows.{other}
use Rattle.laws_tables.specs.Ties.{number_of, plain_table, accepted_known, whole_of, cells_placed, write_known, write_as}
use Rattle.laws_demands.specs.Demands.{ReadsSame, RefusedSevenOrNine, read_then_written, written_then_read, label_cannot_lie}
use Rattle.laws_tables.specs.Joined.{Joins}
use Rattle.laws_tables.specs.JoinedLaid.{joined_bytes}
use Rattle.laws_tables.specs.JoinedRead.{joined_rows, new_means, table_is, joined_read}

-- what the rows of an accepted header say, with the input as their pool
read_cells : (edition : ℕ) (input : List ℕ) (place : ℕ) (rows : List Placed) → T (are_bytes input) → read edition input ≡ accepted place rows → cells_of input (table_of rows) ≡ map cell (map meant rows)
read_cells edition input place rows t q =
    let (e, k, a) = accepted_known strict edition input place rows q in
    let w = whole_of (told e) input place rows t a in
    ap (λ (x : List ℕ). cells_of x (table_of rows)) w.parts ∙ cells_placed w.bytes w.payload rows w.views

moved_meant : (n : ℕ) (rs : List Placed) → map meant (map (moved n) rs) ≡ map meant rs
moved_meant n [] = refl
moved_meant n (r ∷ rs) = ap (λ (x : List Row). meant r ∷ x) (moved_meant n rs)

cells_append : (xs ys : List Row) → map cell (xs ++ ys) ≡ map cell xs ++ map cell ys
cells_append [] ys = refl
cells_append (x ∷ xs) ys = ap (λ (l : List Cell). cell x ∷ l) (cells_append xs ys)

module _ {edition : ℕ} {input table pool : List ℕ} {j : Joint} (s : Joins edition input table pool j) (t : T (are_bytes input)) (u : T (are_bytes pool)) where
  alone : read edition (bytes_of j) ≡ accepted (length (bytes_of j)) (joined_rows j)
  alone = ap (read edition) (sym (append-nil (bytes_of j))) ∙ joined_read s t []

  -- 1: the joined rows, written with the joined header as pool, give it
  pub joined_then_written : (room : ℕ) → length (bytes_of j) ≤ room → write edition (joined_table j) (bytes_of j) room ≡ written (bytes_of j)
  joined_then_written room h =
      let all : take (length (bytes_of j)) (bytes_of j) ≡ bytes_of j = ap (take (length (bytes_of j))) (sym (append-nil (bytes_of j))) ∙ take-append_seam (bytes_of j) [] in
      ap (λ (x : List ℕ). write edition x (bytes_of j) room) (table_is s) ∙ read_then_written edition (bytes_of j) (length (bytes_of j)) (joined_rows j) (joined_bytes s t u) alone room h ∙ ap written all

  -- 2: the joined header, with any payload behind it, is accepted, and the table read means the same
  pub joined_then_read : (payload : List ℕ) → ReadsSame edition (bytes_of j) payload (joined_table j) (bytes_of j)
  joined_then_read payload = written_then_read edition (joined_table j) (bytes_of j) (length (bytes_of j)) (bytes_of j) (joined_bytes s t u) (joined_then_written (length (bytes_of j)) (omega arith)) payload

  -- .. the new rows say what the new table said, the old ones what they said
  pub joined_means : cells_of (bytes_of j) (joined_table j) ≡ cells_of pool table ++ cells_of input (table_of j.old)
  joined_means =
      let n = length j.envelope in
      let rows : map meant (joined_rows j) ≡ map meant j.new ++ map meant j.old = map_append j.new (map (moved n) j.old) ∙ ap (λ (x : List Row). map meant j.new ++ x) (moved_meant n j.old) in
      ap (cells_of (bytes_of j)) (table_is s) ∙ read_cells edition (bytes_of j) (length (bytes_of j)) (joined_rows j) (joined_bytes s t u) alone ∙ ap (map cell) rows ∙ cells_append (map meant j.new) (map meant j.old)
      ∙ ap (λ (x : List Cell). x ++ map cell (map meant j.old)) (sym (new_means s)) ∙ ap (λ (x : List Cell). cells_of pool table ++ x) (sym (read_cells edition input s.place j.old t s.accepts))

  -- 3: under the other edition it is the same table, or refused with 7 or 9
  pub joined_cannot_lie : (payload : List ℕ)
      → ((plain_table (joined_table j) (bytes_of j) ≡ true) × ReadsSame (number_of (other s.told_in)) (bytes_of j) payload (joined_table j) (bytes_of j))
      ⊎ ((plain_table (joined_table j) (bytes_of j) ≡ false) × RefusedSevenOrNine (number_of (other s.told_in)) (bytes_of j ++ payload))
  joined_cannot_lie payload =
      let room = length (bytes_of j) in
      let w = write_known s.told_in (joined_table j) (bytes_of j) room ∙ sym (write_as edition s.told_in (joined_table j) (bytes_of j) room s.label) ∙ joined_then_written room (omega arith) in
      label_cannot_lie s.told_in (joined_table j) (bytes_of j) room (bytes_of j) (joined_bytes s t u) w payload
