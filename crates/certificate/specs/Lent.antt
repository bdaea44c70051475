-- What a call that answers 0 says of the meaning and of the lent memory, and back: by cases on what the meaning gives.
-- A refusal is never 0, so an answer of 0 leaves one case.
use Rattle.std.specs.Prelude.{ℕ, ◌*◌, ◌≤◌, Bool, ◌≡◌, leb, length, take, drop}
use mathlib.Core.List.{List}
use Rattle.std.proofs.Math.Bool.{true, false}
use Rattle.std.proofs.Math.Path.{refl, ap}
use Rattle.std.proofs.Common.{sym, ◌∙◌, arith, le-leb, take_at, drop_at}
use Rattle.meaning.specs.Basics.{pick}
use Rattle.meaning.specs.Told.{Strictness}
use Rattle.meaning.specs.Headers.{Placed, Answer, refused, accepted, read_by}
use Rattle.meaning.specs.Writing.{Written, written, unwritten}
use Rattle.meaning.specs.Memory.{row_width, table_of, cells_of, skips_held, room_of, laid_over, Reply, reply, read_reply, read_memory, words_read, room_with, answer_by, rows_by, words_by, write_reply, write_memory, write, write_answer, write_output}
use Rattle.meaning.specs.Plain.{Decoded, decoded, undecoded, Outcome, outcome, decode_outcome, encode_outcome, encode_memory}
use Rattle.laws_steps.specs.Rows.{rows_whole}
use Rattle.laws_steps.specs.Plans.{written_writes}
use Rattle.laws_tables.specs.Ties.{SameMeaning, written_known}
use Rattle.laws_demands.specs.WriterRefusals.{WriterRefusal, no_edition, no_table, past_limit, no_room}
use Rattle.laws_demands.specs.Demands.{unwritten_shape}
use Rattle.laws_tables.specs.Answered.{refused_shape}
use Rattle.listing.specs.Listed.{table_length}
use Rattle.coders.specs.declared.encode.Encoded.{Encoded}
use Rattle.table.specs.declared.reply.Reply as declared
use Rattle.reader.specs.Promises.{ReadsBy}
use Rattle.writer.specs.Promise.{WritePromise}

-- the rows at the front of lent memory, as numbers
abbrev pub first_rows : ℕ → List ℕ → List ℕ
first_rows count lent = take (count * row_width) lent

-- the numbers behind them
abbrev pub behind_rows : ℕ → List ℕ → List ℕ
behind_rows count lent = drop (count * row_width) lent

-- what the reader answers and leaves where a header is accepted and its rows have room
pub record Filled (place : ℕ) (rows : List Placed) (before words : List ℕ) (a : declared.Reply) (after words' : List ℕ) : Type 0 where
  pub answers : a.answer ≡ 0
  pub ends : a.place ≡ place
  pub count : a.rows ≡ length rows
  pub leaves : after ≡ laid_over before (table_of rows)
  pub carries : words' ≡ laid_over words (words_read rows)

-- what the writer answers and leaves where a table is written
pub record Laid (bytes rows before : List ℕ) (a : declared.Reply) (after : List ℕ) : Type 0 where
  pub answers : a.answer ≡ 0
  pub ends : a.place ≡ length bytes
  pub count : a.rows ≡ room_of rows
  pub leaves : after ≡ laid_over before bytes

-- the front of memory that something was laid over
pub laid_front : (lent front : List ℕ) {n : ℕ} → length front ≡ n → take n (laid_over lent front) ≡ front
unfolding laid_over
laid_front lent front {n} h = take_at front (drop (length front) lent) n h

pub laid_behind : (lent front : List ℕ) {n : ℕ} → length front ≡ n → drop n (laid_over lent front) ≡ drop n lent
unfolding laid_over
laid_behind lent front {n} h = drop_at front (drop (length front) lent) n h ∙ ap (λ (k : ℕ). drop k lent) h

module _ {place : ℕ} {rows : List Placed} {before words after words' : List ℕ} {a : declared.Reply} (f : Filled place rows before words a after words') where
  table_long : length (table_of rows) ≡ a.rows * row_width
  table_long = table_length rows ∙ ap (λ (n : ℕ). n * row_width) (sym f.count)

  pub rows_read : first_rows a.rows after ≡ table_of rows
  rows_read = ap (first_rows a.rows) f.leaves ∙ laid_front before (table_of rows) table_long

  pub rows_behind : behind_rows a.rows after ≡ behind_rows a.rows before
  rows_behind = ap (behind_rows a.rows) f.leaves ∙ laid_behind before (table_of rows) table_long

pub bytes_written : {bytes rows before after : List ℕ} {a : declared.Reply} → Laid bytes rows before a after → take a.place after ≡ bytes
bytes_written {bytes} {before = before} {a = a} l = ap (take a.place) l.leaves ∙ laid_front before bytes (sym l.ends)

-- The reader, strict or tolerant

module _ {w : Strictness} {edition : ℕ} {input before words after words' : List ℕ} {a : declared.Reply} (p : ReadsBy w edition input before words a after words') where
  abbrev AcceptedCall : Type 0
  AcceptedCall = (place : ℕ) × (rows : List Placed) × (read_by w edition input ≡ accepted place rows) × Filled place rows before words a after words'

  pub accepted_call : a.answer ≡ 0 → AcceptedCall
  unfolding answer_by rows_by words_by
  accepted_call z = at (read_by w edition input) refl p.answers p.rows p.carries
    where
      fits : (place : ℕ) (rows : List Placed) → read_by w edition input ≡ accepted place rows → (room : Bool)
          → reply a.answer a.place a.rows ≡ reply (pick room 0 14) place (length rows) → after ≡ pick room (laid_over before (table_of rows)) before → words' ≡ pick room (laid_over words (words_read rows)) words → AcceptedCall
      fits place rows q true r m c = (place, rows, q, record { answers = z; ends = ap (λ (x : Reply). x.place) r; count = ap (λ (x : Reply). x.rows) r; leaves = m; carries = c })
      fits place rows q false r m c = let x : a.answer ≡ 14 = ap (λ (x : Reply). x.answer) r in absurd (omega arith)

      at : (found : Answer) → read_by w edition input ≡ found → reply a.answer a.place a.rows ≡ read_reply (room_with before words) found → after ≡ read_memory (room_with before words) table_of before found → words' ≡ read_memory (room_with before words) words_read words found → AcceptedCall
      at (refused refusal place) q r m c =
          let h = (refused_shape w edition input refusal place q).0 in let x : a.answer ≡ refusal = ap (λ (x : Reply). x.answer) r in
          absurd (omega arith)
      at (accepted place rows) q r m c = fits place rows q (leb (length rows) (room_with before words)) r m c

  -- a header that is accepted fills its rows, where they have room
  pub fills : {place : ℕ} {rows : List Placed} → read_by w edition input ≡ accepted place rows → length rows ≤ room_with before words → Filled place rows before words a after words'
  unfolding answer_by rows_by words_by
  fills {place} {rows} q room =
      let r : reply a.answer a.place a.rows ≡ reply 0 place (length rows) = p.answers ∙ ap (read_reply (room_with before words)) q ∙ ap (λ (b : Bool). reply (pick b 0 14) place (length rows)) (le-leb (length rows) (room_with before words) room) in
      record {
        answers = ap (λ (x : Reply). x.answer) r;
        ends = ap (λ (x : Reply). x.place) r;
        count = ap (λ (x : Reply). x.rows) r;
        leaves = p.rows ∙ ap (read_memory (room_with before words) table_of before) q ∙ ap (λ (b : Bool). pick b (laid_over before (table_of rows)) before) (le-leb (length rows) (room_with before words) room);
        carries = p.carries ∙ ap (read_memory (room_with before words) words_read words) q ∙ ap (λ (b : Bool). pick b (laid_over words (words_read rows)) words) (le-leb (length rows) (room_with before words) room);
      }

  -- a header that is refused changes nothing lent
  pub refuses : {refusal place : ℕ} → read_by w edition input ≡ refused refusal place → (a.answer ≡ refusal) × (a.place ≡ place) × (a.rows ≡ 0) × (after ≡ before) × (words' ≡ words)
  unfolding answer_by rows_by words_by
  refuses {refusal} {place} q =
      let r : reply a.answer a.place a.rows ≡ reply refusal place 0 = p.answers ∙ ap (read_reply (room_with before words)) q in
      (ap (λ (x : Reply). x.answer) r, ap (λ (x : Reply). x.place) r, ap (λ (x : Reply). x.rows) r, p.rows ∙ ap (read_memory (room_with before words) table_of before) q, p.carries ∙ ap (read_memory (room_with before words) words_read words) q)

-- The writer

refusal_some : {edition : ℕ} {rows pool : List ℕ} {room refusal place : ℕ} → WriterRefusal edition rows pool room refusal place → 1 ≤ refusal
refusal_some (no_edition k) = omega arith
refusal_some (no_table h) = omega arith
refusal_some (past_limit h) = omega arith
refusal_some (no_room bytes h l w) = omega arith

module _ {edition : ℕ} {rows pool before after : List ℕ} {a : declared.Reply} (p : WritePromise edition rows pool before a after) where
  abbrev WrittenCall : Type 0
  WrittenCall = (bytes : List ℕ) × (write edition rows pool (length before) ≡ written bytes) × Laid bytes rows before a after

  -- a table that is written is laid over the output
  pub lays : {bytes : List ℕ} → write edition rows pool (length before) ≡ written bytes → Laid bytes rows before a after
  unfolding write_answer write_output
  lays {bytes} q =
      let r : reply a.answer a.place a.rows ≡ reply 0 (length bytes) (room_of rows) = p.answers ∙ ap (write_reply (room_of rows)) q in
      record {
        answers = ap (λ (x : Reply). x.answer) r;
        ends = ap (λ (x : Reply). x.place) r;
        count = ap (λ (x : Reply). x.rows) r;
        leaves = p.leaves ∙ ap (write_memory before) q;
      }

  pub written_call : a.answer ≡ 0 → WrittenCall
  unfolding write_answer
  written_call z = at (write edition rows pool (length before)) refl p.answers
    where
      at : (found : Written) → write edition rows pool (length before) ≡ found → reply a.answer a.place a.rows ≡ write_reply (room_of rows) found → WrittenCall
      at (unwritten refusal place) q r =
          let h = refusal_some (unwritten_shape edition rows pool (length before) refusal place q) in let x : a.answer ≡ refusal = ap (λ (x : Reply). x.answer) r in
          absurd (omega arith)
      at (written bytes) q r = (bytes, q, lays q)

  -- what means the same as the table that was written has as many rows
  pub same_count : {bytes : List ℕ} → write edition rows pool (length before) ≡ written bytes → (found : List Placed) (input : List ℕ) → SameMeaning rows pool (table_of found) input → length found ≡ a.rows
  same_count {bytes} q found input m =
      let (e, k, w) = written_known edition rows pool (length before) bytes q in
      let (table, n, c, writes, few, fits) = written_writes e (length before) (cells_of pool rows) (skips_held rows) bytes w in
      omega (arith, rows_whole pool rows table c, rows_whole input (table_of found) table (sym m.0 ∙ c), table_length found, (lays q).count)

-- The coders

-- what an encoder answers and leaves where these bytes code the value
pub record Encodes (bytes before after : List ℕ) (result : Encoded) : Type 0 where
  pub answers : result.answer ≡ 0
  pub ends : result.place ≡ length bytes
  pub leaves : after ≡ laid_over before bytes

-- an encoder that answers 0 had a value in range, and its bytes had room
module _ (refusal : ℕ) (bytes before : List ℕ) {after : List ℕ} {result : Encoded} where
  pub encoded_call : 1 ≤ refusal → (in_range : Bool) → outcome result.answer result.place ≡ encode_outcome refusal in_range (length before) bytes → after ≡ encode_memory in_range before bytes → result.answer ≡ 0 → (in_range ≡ true) × Encodes bytes before after result
  encoded_call some false is leaves z = let x : result.answer ≡ refusal = ap (λ (o : Outcome). o.answer) is in absurd (omega arith)
  encoded_call some true is leaves z = fits (leb (length bytes) (length before)) is leaves
    where
      fits : (room : Bool) → outcome result.answer result.place ≡ pick room (outcome 0 (length bytes)) (outcome 16 (length bytes)) → after ≡ pick room (laid_over before bytes) before → (true ≡ true) × Encodes bytes before after result
      fits false o m = let x : result.answer ≡ 16 = ap (λ (o : Outcome). o.answer) o in absurd (omega arith)
      fits true o m = (refl, record { answers = z; ends = ap (λ (o : Outcome). o.place) o; leaves = m })

  pub encodes : (in_range : Bool) → outcome result.answer result.place ≡ encode_outcome refusal in_range (length before) bytes → after ≡ encode_memory in_range before bytes → in_range ≡ true → length bytes ≤ length before → Encodes bytes before after result
  encodes in_range is leaves range room =
      let fits : leb (length bytes) (length before) ≡ true = le-leb (length bytes) (length before) room in
      let o : outcome result.answer result.place ≡ outcome 0 (length bytes) = is ∙ rw (range, fits) refl in
      record { answers = ap (λ (o : Outcome). o.answer) o; ends = ap (λ (o : Outcome). o.place) o; leaves = leaves ∙ rw (range, fits) refl }

pub encoded_front : {bytes before after : List ℕ} {result : Encoded} → Encodes bytes before after result → take result.place after ≡ bytes
encoded_front {bytes} {before} {result = result} e = ap (take result.place) e.leaves ∙ laid_front before bytes (sym e.ends)

-- a decoder that answers 0 decoded its bytes
pub decoded_call : (refusal : ℕ) {answer place : ℕ} → 1 ≤ refusal → (d : Decoded) → outcome answer place ≡ decode_outcome refusal d → answer ≡ 0 → (v : List ℕ) × (d ≡ decoded v)
decoded_call refusal some (decoded v) is z = (v, refl)
decoded_call refusal {answer} some (undecoded offset) is z = let x : answer ≡ refusal = ap (λ (o : Outcome). o.answer) is in absurd (omega arith)

pub decodes : (refusal : ℕ) {answer place : ℕ} {d : Decoded} {v : List ℕ} → outcome answer place ≡ decode_outcome refusal d → d ≡ decoded v → (answer ≡ 0) × (place ≡ length v)
decodes refusal is q = let o = is ∙ ap (decode_outcome refusal) q in (ap (λ (o : Outcome). o.answer) o, ap (λ (o : Outcome). o.place) o)
