-- What the customer buys, over the definitions of `meaning`: each theorem stands under the sentence that it meets.
use Rattle.std.specs.Prelude.{ℕ, ◌+◌, ◌≤◌, ◌<◌, List, [], ◌∷◌, ◌++◌, map, Bool, true, false, ◌&&◌, not, ◌⊎◌, ◌↔◌, ◌≡◌, refl, T, length, take}
use Rattle.std.proofs.Common.{inl, inr, ap, sym, ◌∙◌, arith}
use Rattle.meaning.specs.Basics.{every}
use Rattle.meaning.specs.Told.{Edition, Strictness, strict, told_by, told}
use Rattle.meaning.specs.Reading.{Row}
use Rattle.meaning.specs.Headers.{Placed, meant, refused, accepted, header, envelopes_most, read_by, read}
use Rattle.meaning.specs.Writing.{Cell, cell, written, unwritten, write_rows, Envelope, stuck, plan, whole_plan}
use Rattle.meaning.specs.Skips.{right, belongs, belonging, held_against, wrong_at}
use Rattle.meaning.specs.Memory.{row, table_of, reply, read_reply, cells_of, ranks_of, skips_of, skips_held, write, room_of}
use Rattle.laws_steps.specs.Logic.{are_bytes}
use Rattle.laws_steps.specs.Envelopes.{header_read, header_crosses, CrossHeader}
use Rattle.laws_steps.specs.Plans.{written_writes, writes_written}
use Rattle.laws_tables.specs.RightSkips.{table_right, LowestWrong, wrong_means}
use Rattle.laws_tables.specs.WrittenBytes.{written_are_bytes}
use Rattle.laws_steps.specs.PlainRows.{other, all_plain}
use Rattle.meaning.specs.Bytes.{number_most, text_byte, take_text, text_ok, turn, take_number, number_ok, last_day, passes, take_date, date_ok, high_first, too_wide, take_bytes, block_of, take_block, block_ok}
use Rattle.meaning.specs.Editions.{shared, own, moves}
use Rattle.meaning.specs.Reading.{take_value, find, look, step_move, step, run, inside}
use Rattle.meaning.specs.Headers.{Answer, envelope}
use Rattle.meaning.specs.Writing.{Written, valid, write_value, way_of, fit, fit_row, close_within, close, plan_of}
use Rattle.meaning.specs.Plain.{decoded, decode_number, number_value, number_bytes, Date, date_of, date_bytes, decode_date, date_in_range}
use Rattle.meaning.specs.Cases.{hex, base_with, in_memory, base_rows}
use Rattle.laws_demands.specs.WriterRefusals.{WriterRefusal, writer_refusal}
use Rattle.laws_demands.specs.PlainNumbers.{number_coded_decoded, number_decoded_coded}
use Rattle.laws_demands.specs.PlainDates.{date_coded_decoded, date_decoded_coded}
use Rattle.laws_tables.specs.Ties.{written_right, whole_front, number_of, SameMeaning, plain_cell, plain_table, read_known, write_known, accepted_known, written_known, read_as, write_as, cells_placed, whole_of, whole_written, same_meaning, plain_cells, seven_or_nine, only_stuck}
use Rattle.laws_demands.specs.Fifteen.{IsTable, plan_table, BeginsTable, NoneWith, stuck_means}
use Rattle.meaning.specs.Grammar.{HeaderOf}
use Rattle.laws_demands.specs.Exactly.{header_accepted, accepted_header, one_header}
use Rattle.meaning.specs.Faults.{ReaderRefusal}
use Rattle.laws_demands.specs.ReadRefused.{refuses_as_said, Decided, fault_decides, place_of, cut_is_two}
use Rattle.meaning.specs.WriterFaults.{WriterFault, WritesAs}
use Rattle.laws_demands.specs.WriteRefused.{unwritten_as_said, written_as_said}

-- 1. "Read then written: the same bytes."
-- Every accepted input's rows, written under the same edition with the input as pool and room for the bytes, give the bytes up to the payload.

-- whatever the strictness: the rows' own header, which is no longer, and after a strict reading is the one that was read
pub record RowsWritten (strictness : Strictness) (edition : ℕ) (input : List ℕ) (place : ℕ) (rows : List Placed) : Type 0 where
  pub bytes : List ℕ
  pub is : (room : ℕ) → length bytes ≤ room → write edition (table_of rows) input room ≡ written bytes
  pub shorter : length bytes ≤ place
  pub exact : strictness ≡ strict → bytes ≡ take place input

pub rows_written : (strictness : Strictness) (edition : ℕ) (input : List ℕ) (place : ℕ) (rows : List Placed) → T (are_bytes input) → read_by strictness edition input ≡ accepted place rows
    → RowsWritten strictness edition input place rows
rows_written strictness edition input place rows t q =
    let (e, k, a) = accepted_known strictness edition input place rows q in
    let w = whole_of (told_by strictness e) input place rows t a in
    let cells : cells_of input (table_of rows) ≡ map cell (map meant rows) = ap (λ (x : List ℕ). cells_of x (table_of rows)) w.parts ∙ cells_placed w.bytes w.payload rows w.views in
    record {
      bytes = w.brief;
      is = λ room h. write_as edition e (table_of rows) input room k ∙ ap (write_rows e room (cells_of input (table_of rows))) (table_right rows) ∙ ap (λ (cs : List Cell). write_rows e room cs right) cells
          ∙ writes_written e w.count (map meant rows) w.brief room w.written w.few h;
      shorter = omega (arith, w.place, w.shorter);
      exact = λ s. w.exact s ∙ sym (whole_front (told_by strictness e) input place rows w);
    }

pub read_then_written : (edition : ℕ) (input : List ℕ) (place : ℕ) (rows : List Placed) → T (are_bytes input) → read edition input ≡ accepted place rows
    → (room : ℕ) → place ≤ room → write edition (table_of rows) input room ≡ written (take place input)
read_then_written edition input place rows t q room h =
    let w = rows_written strict edition input place rows t q in
    w.is room (omega (arith, w.shorter)) ∙ ap written (w.exact refl)

-- 2. "Written then read: the same table."
-- Every written header, with any payload behind it, is accepted under the same edition, and the table read means the same.

abbrev pub ReadsSame : ℕ → List ℕ → List ℕ → List ℕ → List ℕ → Type 0
ReadsSame edition bytes payload rows pool =
    (read-rows : List Placed) × (read edition (bytes ++ payload) ≡ accepted (length bytes) read-rows) × SameMeaning rows pool (table_of read-rows) (bytes ++ payload)

pub written_then_read : (edition : ℕ) (rows pool : List ℕ) (room : ℕ) (bytes : List ℕ) → T (are_bytes pool) → write edition rows pool room ≡ written bytes → (payload : List ℕ) → ReadsSame edition bytes payload rows pool
written_then_read edition rows pool room bytes t q payload =
    let (e, k, a) = written_known edition rows pool room bytes q in
    let (table, n, c, w, few, fits) = written_writes e room (cells_of pool rows) (skips_held rows) bytes a in
    let (read-rows, f, m) = header_read (told e) w envelopes_most few 0 in
    (read-rows, read_as strict edition e (bytes ++ payload) k ∙ f payload ∙ ap (λ (x : ℕ). accepted x read-rows) (omega arith), same_meaning e bytes payload rows pool table read-rows (written_are_bytes e pool rows t c w) (written_right e room (cells_of pool rows) (skips_held rows) bytes a) c m (f []))

-- what is written holds bytes
pub written_are_bytes_of : (edition : ℕ) (rows pool : List ℕ) (room : ℕ) (bytes : List ℕ) → T (are_bytes pool) → write edition rows pool room ≡ written bytes → T (are_bytes bytes)
written_are_bytes_of edition rows pool room bytes t q =
    let (e, k, a) = written_known edition rows pool room bytes q in
    let (table, n, c, w, few, fits) = written_writes e room (cells_of pool rows) (skips_held rows) bytes a in
    written_are_bytes e pool rows t c w

-- 3. "The label can't lie": "A table written under one edition and read under the other is the same table, or is refused with 7 or 9: never a different table."
-- The same if the table is plain; refused if it is not. A table is one or the other.

abbrev pub RefusedSevenOrNine : ℕ → List ℕ → Type 0
RefusedSevenOrNine edition input = (refusal : ℕ) × (place : ℕ) × (read edition input ≡ refused refusal place) × ((refusal ≡ 7) ⊎ (refusal ≡ 9))

pub label_cannot_lie : (e : Edition) (rows pool : List ℕ) (room : ℕ) (bytes : List ℕ) → T (are_bytes pool) → write (number_of e) rows pool room ≡ written bytes → (payload : List ℕ)
    → ((plain_table rows pool ≡ true) × ReadsSame (number_of (other e)) bytes payload rows pool) ⊎ ((plain_table rows pool ≡ false) × RefusedSevenOrNine (number_of (other e)) (bytes ++ payload))
label_cannot_lie e rows pool room bytes t q payload =
    let a = sym (write_known e rows pool room) ∙ q in
    let (table, n, c, w, few, fits) = written_writes e room (cells_of pool rows) (skips_held rows) bytes a in
    at table (ap (every plain_cell) c ∙ plain_cells table) (written_right e room (cells_of pool rows) (skips_held rows) bytes a) c (written_are_bytes e pool rows t c w) (header_crosses e w envelopes_most few 0)
  where
    at : (table : List Row) → plain_table rows pool ≡ all_plain table → skips_held rows ≡ right → cells_of pool rows ≡ map cell table → T (are_bytes bytes) → CrossHeader envelopes_most e 0 bytes table
        → ((plain_table rows pool ≡ true) × ReadsSame (number_of (other e)) bytes payload rows pool) ⊎ ((plain_table rows pool ≡ false) × RefusedSevenOrNine (number_of (other e)) (bytes ++ payload))
    at table p s c u (inl (a, (read-rows, f, m))) =
        inl (
          p ∙ a,
          (read-rows, read_known strict (other e) (bytes ++ payload) ∙ f payload ∙ ap (λ (x : ℕ). accepted x read-rows) (omega arith), same_meaning (other e) bytes payload rows pool table read-rows u s c m (f [])),
        )
    at table p s c u (inr (a, f)) =
        let (refusal, place, r, k) = f payload in
        inr (p ∙ a, (refusal, place, read_known strict (other e) (bytes ++ payload) ∙ r, seven_or_nine refusal k))

-- 4. "Payload bytes and their number never alter an accepted answer."

pub payload_alters_nothing : (edition : ℕ) (input : List ℕ) (place : ℕ) (rows : List Placed) → T (are_bytes input) → read edition input ≡ accepted place rows → (payload : List ℕ) → read edition (take place input ++ payload) ≡ accepted place rows
payload_alters_nothing edition input place rows t q payload =
    let (e, k, a) = accepted_known strict edition input place rows q in
    let w = whole_of (told e) input place rows t a in
    let (read-rows, f, m) = header_read (told e) (whole_written w) envelopes_most w.few 0 in
    let same : accepted (0 + length w.bytes) read-rows ≡ accepted place rows = sym (f w.payload) ∙ ap (header envelopes_most (told e) 0) (sym w.parts) ∙ a in
    read_as strict edition e (take place input ++ payload) k ∙ ap (λ (x : List ℕ). header envelopes_most (told e) 0 (x ++ payload)) (whole_front (told e) input place rows w) ∙ f payload ∙ same

-- 5. "15: rows up to here begin no table of this edition, or start plus length passes the pool, or rows or slice end early"
-- The rows before the one that 15 names begin a table, its limits aside; with that row none do; where it names the row count, they are no table.
-- Order 7: "15 for a wrong skip number, at its row, after 15's other faults": or the rows are a table, the skip numbers before that row are right, and its is wrong.

abbrev pub BeginsNone : Edition → List ℕ → List ℕ → ℕ → Type 0
BeginsNone e rows pool i = (front : List Cell) × (rest : List Cell) × (cells_of pool rows ≡ front ++ rest) × (length front ≡ i) × BeginsTable e front × NoneWith e front rest

pub record WrongSkip (e : Edition) (rows pool : List ℕ) (i : ℕ) : Type 0 where
  pub table : IsTable e (cells_of pool rows)
  pub lowest : LowestWrong rows (room_of rows) 0 i

pub fifteen_means : (e : Edition) (rows pool : List ℕ) (room i : ℕ) → write (number_of e) rows pool room ≡ unwritten 15 i → BeginsNone e rows pool i ⊎ WrongSkip e rows pool i
unfolding write_rows
fifteen_means e rows pool room i q = at (only_stuck room i (skips_held rows) (whole_plan e (cells_of pool rows)) (sym (write_known e rows pool room) ∙ q))
  where
    at : (whole_plan e (cells_of pool rows) ≡ stuck i) ⊎ ((bs : List ℕ) × (vs : List Envelope) × (whole_plan e (cells_of pool rows) ≡ plan bs vs) × (skips_held rows ≡ wrong_at i)) → BeginsNone e rows pool i ⊎ WrongSkip e rows pool i
    at (inl p) = inl (stuck_means e (cells_of pool rows) i p)
    at (inr (bs, vs, p, w)) = inr (record { table = plan_table e (cells_of pool rows) bs vs p; lowest = wrong_means rows i w })

-- 6. The shape of an answer. Accepted: the place is in the input, every row views bytes of the header, and there are never more rows than bytes (`accepted_shape`, in
-- `Answered`). Refused: the number is never 0 and the place never past the input (`refused_shape`, there). The writer's refusals name a row, or for 16 the bytes needed (`WriterRefusal`).

pub unwritten_shape : (edition : ℕ) (rows pool : List ℕ) (room refusal place : ℕ) → write edition rows pool room ≡ unwritten refusal place → WriterRefusal edition rows pool room refusal place
unwritten_shape edition rows pool room refusal place q = writer_refusal edition rows pool room refusal place q

-- 7. "Coding and decoding of numbers and dates are inverse on what they accept, both ways."

pub number_again : (n : ℕ) → n ≤ number_most → (decode_number (number_bytes n) ≡ decoded (number_bytes n)) × (number_value 0 (number_bytes n) ≡ n)
number_again n h = number_coded_decoded n h

pub number_bytes_again : (s v : List ℕ) → decode_number s ≡ decoded v → (s ≡ v) × (number_bytes (number_value 0 v) ≡ s) × (number_value 0 v ≤ number_most)
number_bytes_again s v q = number_decoded_coded s v q

pub date_again : (kind : ℕ) (d : Date) → date_in_range kind d ≡ true → (decode_date kind (date_bytes d) ≡ decoded (date_bytes d)) × (date_of (date_bytes d) ≡ d)
date_again kind d q = date_coded_decoded kind d q

pub date_bytes_again : (kind : ℕ) (s v : List ℕ) → decode_date kind s ≡ decoded v → (s ≡ v) × (date_in_range kind (date_of v) ≡ true) × (date_bytes (date_of v) ≡ s)
date_bytes_again kind s v q = date_decoded_coded kind s v q

-- 8. "The reader accepts exactly the edition's headers and gives exactly the rows."
-- An input is accepted under an edition's number if and only if it is the bytes of a table of that edition, as document 01's grammar and limits have it (`Grammar`),
-- with any payload behind them; the place is where they end, and the rows are that table's, starts included. No input is two such headers.

pub accepts_exactly : (edition : ℕ) (input : List ℕ) (place : ℕ) (rows : List Placed) → T (are_bytes input) → (read edition input ≡ accepted place rows) ↔ HeaderOf edition input place rows
accepts_exactly edition input place rows t = (accepted_header edition input place rows t, header_accepted edition input place rows)

pub one_header_only : (edition : ℕ) (input : List ℕ) (p q : ℕ) (rs ts : List Placed) → HeaderOf edition input p rs → HeaderOf edition input q ts → (p ≡ q) × (rs ≡ ts)
one_header_only edition input p q rs ts h k = one_header edition input p q rs ts h k

-- 9. "Each refusal has its number and place, is given exactly when the documents say": of the reader.
-- An answer other than 0, with its place and the rows it reports, is given if and only if what document 01 says of that number holds (`ReaderRefusal`, in `Faults`); room: the rows that the
-- lent memory has room for. 2 is given only at the input's end (`two_at_end`, in `FirstFault`), 12 only at the 02 of an agent of level 9 (`twelve_at_nine`, in `Deepest`).

pub refuses_exactly : (edition : ℕ) (input : List ℕ) (room refusal place count : ℕ) → T (are_bytes input) → 1 ≤ refusal → (read_reply room (read edition input) ≡ reply refusal place count) ↔ ReaderRefusal edition input room refusal place count
refuses_exactly edition input room refusal place count t some = refuses_as_said edition input room refusal place count t some

-- 10. "Reading goes byte by byte; the first fault decides."
-- The bytes up to the fault decide (`Decided`: how many from its place on at most, `decided_by` says); with any others behind them the answer is the same, but that an input which then ends before the
-- declared end is 2 at its own end. 2 itself speaks of the input's end.

pub first_fault_decides : (edition : ℕ) (input : List ℕ) (refusal place : ℕ) → T (are_bytes input) → read edition input ≡ refused refusal place → (refusal ≡ 2 → ⊥) → Decided edition input refusal place
first_fault_decides edition input refusal place t q two = fault_decides edition input refusal place t q two

-- An input that is cut before the place of its answer, a fault's or the payload's, is 2 at its own end; so it is never accepted.

pub cut_before_place : (edition : ℕ) (front back : List ℕ) → T (are_bytes (front ++ back)) → length front < place_of (read edition (front ++ back)) → read edition front ≡ refused 2 (length front)
cut_before_place edition front back t short = cut_is_two edition front back t short

-- 11. "Each refusal has its number and place, is given exactly when the documents say": of the writer; and when it writes, and which bytes.
-- 15: the rows before the one that it names begin a table of the edition, limits aside, and with that row none do; where it names the row count, they are no table. Or (order 7) they are one, the
-- skip numbers before that row are right, and its is wrong. 5: they are one with right skip numbers, and that row opens the lowest envelope that is past a limit. 16: they are one within the limits,
-- and its bytes, as many as it names, exceed the room. All over document 01's grammar (`WriterFaults`, over `Grammar`).

pub writer_refuses_exactly : (edition : ℕ) (rows pool : List ℕ) (room refusal place : ℕ) → (write edition rows pool room ≡ unwritten refusal place) ↔ WriterFault edition rows pool room refusal place
writer_refuses_exactly edition rows pool room refusal place = unwritten_as_said edition rows pool room refusal place

pub writes_exactly : (edition : ℕ) (rows pool : List ℕ) (room : ℕ) (bytes : List ℕ) → (write edition rows pool room ≡ written bytes) ↔ WritesAs edition rows pool room bytes
writes_exactly edition rows pool room bytes = written_as_said edition rows pool room bytes

-- No premise above is empty: for each edition, a header that is read; a table that is written; and one that is plain, and one that is not.

abbrev was_accepted : Answer → Bool
was_accepted (accepted place rows) = true
was_accepted (refused refusal place) = false

abbrev was_written : Written → Bool
was_written (written bytes) = true
was_written (unwritten refusal place) = false

abbrev a_header : List ℕ
a_header = base_with 0x0f 0x20 (hex 0x1_01)

-- an encrypted list, which D lacks, and a forward date, which B lacks
abbrev encrypted : List ℕ
encrypted = in_memory (base_rows 5 9 (row 25 0 14 0 ∷ []))

abbrev forwarded : List ℕ
forwarded = in_memory (base_rows 6 9 [])

pub premises : T (
    was_accepted (read 1 a_header) && was_accepted (read 2 a_header) && was_written (write 1 (in_memory (base_rows 5 9 [])) a_header 15) && was_written (write 2 (in_memory (base_rows 5 9 [])) a_header 15) &&
    plain_table (in_memory (base_rows 5 9 [])) a_header && was_written (write 1 encrypted a_header 17) && not (plain_table encrypted a_header) && was_written (write 2 forwarded a_header 15) && not (plain_table forwarded a_header)
    )
unfolding text_byte take_text text_ok turn take_number number_ok last_day passes take_date date_ok high_first too_wide take_bytes block_of take_block block_ok shared own moves take_value find look step_move step run inside envelope header read_by valid write_value way_of fit fit_row close_within close plan_of write_rows belongs belonging held_against cells_of ranks_of skips_of skips_held write
premises = tt
