-- No premise of `Printing` is empty: computed, a header that is read in each edition in 3,072 rows, and the calls that print its listing,
-- each with 64 bytes.
use Rattle.std.specs.Prelude.{ℕ, ◌*◌, ◌≤◌, List, [], ◌++◌, ◌≡◌, refl, T, length, take, replicate}
use Rattle.std.proofs.Common.{arith}
use Rattle.meaning.specs.Bytes.{text_byte, take_text, text_ok, turn, take_number, number_ok, last_day, passes, take_date, date_ok, high_first, too_wide, take_bytes, block_of, take_block, block_ok}
use Rattle.meaning.specs.Told.{strict}
use Rattle.meaning.specs.Editions.{shared, own, moves}
use Rattle.meaning.specs.Reading.{take_value, find, look, step_move, step, run, inside}
use Rattle.meaning.specs.Headers.{envelope, header, read_by}
use Rattle.meaning.specs.Skips.{belongs, belonging}
use Rattle.meaning.specs.Memory.{row_width, words_borrowed, laid_over, reply, answer_by, rows_by, words_by}
use Rattle.meaning.specs.Plain.{digits_within, digits_of}
use Rattle.meaning.specs.Listing.{input_most, rows_lent, decimal, viewed, line_of}
use Rattle.meaning.specs.Cases.{hex, base_with, in_memory, base_rows}
use Rattle.laws_steps.specs.Logic.{are_bytes}
use Rattle.table.specs.declared.reply.Reply.{Reply}
use Rattle.listing.specs.Text.{row_of, view_of, row_text, lines_from, lines_of, view_from, row_from, text_at}
use Rattle.listing.specs.Pieces.{piece_least, cursor, stop_at, NextPiece}
use Rattle.listing.specs.Listed.{text_whole}
use Rattle.lister.specs.Promise.{TablePromise}
use Rattle.certificate.specs.Printing.{Calls, last, further}

-- a header of fifteen bytes, nine of them a date
abbrev dated : List ℕ
dated = base_with 0x0f 0x20 (hex 0x1_01)

-- lent: zeros for 3,072 rows, and sixteen words
abbrev rows_before : List ℕ
rows_before = replicate (rows_lent * row_width) 0

abbrev words_before : List ℕ
words_before = replicate words_borrowed 0

-- read in 3 rows, up to byte 15
abbrev is_read : Reply
is_read = record { answer = 0; place = 15; rows = 3 }

abbrev rows_after : List ℕ
rows_after = laid_over rows_before (in_memory (base_rows 5 9 []))

abbrev IsTable : ℕ → Type 0
IsTable edition = TablePromise edition dated rows_before words_before is_read rows_after (words_by strict edition dated rows_before words_before)

table_of_lem : (edition : ℕ) → reply 0 15 3 ≡ answer_by strict edition dated rows_before words_before → rows_after ≡ rows_by strict edition dated rows_before words_before → IsTable edition
table_of_lem edition answers leaves =
    let bytes : T (are_bytes dated) = tt in
    record { reads = record { bytes = bytes; answers = answers; rows = leaves; carries = refl }; lists = λ few room enough. text_whole edition dated rows_before words_before bytes answers leaves enough few room }

tables : IsTable 1 × IsTable 2
unfolding text_byte take_text text_ok turn take_number number_ok last_day passes take_date date_ok high_first too_wide take_bytes block_of take_block block_ok shared own moves take_value find look step_move step run inside envelope header read_by belongs belonging laid_over answer_by rows_by
tables = (table_of_lem 1 refl refl, table_of_lem 2 refl refl)

abbrev text : ℕ → ℕ → List ℕ
text = text_at 0 15 3 rows_after dated

abbrev memory : List ℕ
memory = replicate piece_least 0

-- a call that writes the next n bytes of the text
writes : (line byte n nextLine nextByte : ℕ) → text line byte ≡ take n (text line byte) ++ text nextLine nextByte → cursor nextLine nextByte ≡ stop_at 0 3 rows_after dated line byte piece_least → n ≡ length (take n (text line byte)) → (n ≡ 0 → text line byte ≡ [])
    → NextPiece 0 15 3 rows_after dated line byte memory (laid_over memory (take n (text line byte))) (record { length = n; line = nextLine; byte = nextByte })
writes line byte n nextLine nextByte is stops long goes = record { piece = take n (text line byte); is = is; stops = stops; lays = refl; long = long; goes = λ room none. goes none }

-- the first line; of each row its numbers, then its view and the line's end; and an empty piece
prints : (joined : List ℕ) × Calls 0 15 3 rows_after dated 0 0 joined
unfolding digits_within digits_of decimal viewed line_of row_of view_of row_text lines_from lines_of view_from row_from text_at stop_at belongs belonging laid_over
prints =
    let end : Calls 0 15 3 rows_after dated 4 0 [] = last (writes 4 0 0 4 0 refl refl refl (λ z. refl)) (omega arith) refl in
    let third = further (writes 3 0 10 3 1 refl refl refl (λ z. absurd (omega arith))) (further (writes 3 1 19 4 0 refl refl refl (λ z. absurd (omega arith))) end) in
    let second = further (writes 2 0 10 2 1 refl refl refl (λ z. absurd (omega arith))) (further (writes 2 1 3 3 0 refl refl refl (λ z. absurd (omega arith))) third) in
    let first = further (writes 1 0 10 1 1 refl refl refl (λ z. absurd (omega arith))) (further (writes 1 1 2 2 0 refl refl refl (λ z. absurd (omega arith))) second) in
    (_, further (writes 0 0 7 1 0 refl refl refl (λ z. absurd (omega arith))) first)

pub printing_premises : IsTable 1 × IsTable 2 × (length dated ≤ input_most) × ((joined : List ℕ) × Calls is_read.answer is_read.place is_read.rows rows_after dated 0 0 joined)
printing_premises = (tables.0, tables.1, omega arith, prints)
