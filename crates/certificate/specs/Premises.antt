-- No premise of `Calls` and `Coders` is empty. Every call of `read` and `write` that lends bytes has an answer that its promise allows; and there are calls
-- that answer 0, computed: of `read` in each edition, of `write` with a plain table and with one that is not, and of each coder.
use Rattle.std.specs.Prelude.{ℕ, List, [], ◌∷◌, ◌++◌, Bool, ◌&&◌, not, refl, T, replicate}
use Rattle.meaning.specs.Bytes.{text_byte, take_text, text_ok, turn, take_number, number_ok, last_day, passes, take_date, date_ok, high_first, too_wide, take_bytes, block_of, take_block, block_ok}
use Rattle.meaning.specs.Told.{Strictness, tolerant}
use Rattle.meaning.specs.Editions.{shared, own, moves}
use Rattle.meaning.specs.Reading.{take_value, find, look, step_move, step, run, inside}
use Rattle.meaning.specs.Headers.{envelope, header, read_by}
use Rattle.meaning.specs.Writing.{valid, write_value, way_of, fit, fit_row, close_within, close, plan_of, write_rows}
use Rattle.meaning.specs.Skips.{belongs, belonging, held_against}
use Rattle.meaning.specs.Words.{occurs, word_of, words_of}
use Rattle.meaning.specs.Memory.{row, cells_of, ranks_of, skips_of, skips_held, laid_over, write, answer_by, rows_by, words_by, read_answer, write_answer, write_output}
use Rattle.meaning.specs.Plain.{digits_within, digits_of, packed, decode_number, number_decoded, number_bytes, number_encoded, date_of, decode_date, date_decoded, date_in_range, date_encoded}
use Rattle.meaning.specs.Cases.{hex, a_date, base_with, in_memory, base_rows, reply_is, outcome_is}
use Rattle.meaning.specs.WidthCases.{sized_base}
use Rattle.laws_steps.specs.Logic.{are_bytes}
use Rattle.laws_tables.specs.Ties.{plain_table}
use Rattle.table.specs.declared.reply.Reply as declared
use Rattle.reader.specs.Promises.{ReadsBy}
use Rattle.writer.specs.Promise.{WritePromise}

-- strictly or tolerantly
pub some_read : (w : Strictness) (edition : ℕ) (input before words : List ℕ) → T (are_bytes input) → (a : declared.Reply) × (after : List ℕ) × (words' : List ℕ) × ReadsBy w edition input before words a after words'
some_read w edition input before words t =
    let r = answer_by w edition input before words in
    (record { answer = r.answer; place = r.place; rows = r.rows }, rows_by w edition input before words, words_by w edition input before words, record { bytes = t; answers = refl; rows = refl; carries = refl })

pub some_write : (edition : ℕ) (rows pool before : List ℕ) → T (are_bytes pool) → (a : declared.Reply) × (after : List ℕ) × WritePromise edition rows pool before a after
some_write edition rows pool before t =
    let r = write_answer edition rows pool before in
    (record { answer = r.answer; place = r.place; rows = r.rows }, write_output edition rows pool before, record { bytes = t; answers = refl; leaves = refl })

-- a header with nine bytes of a date, and two bytes of payload
abbrev a_header : List ℕ
a_header = base_with 0x0f 0x20 (hex 0x1_01) ++ hex 0x1_AB_CD

-- lent: rows or bytes, so many numbers
abbrev lent : ℕ → List ℕ
lent n = replicate n 0

-- read in 3 rows, up to byte 15
abbrev is_read : ℕ → Bool
is_read edition = reply_is 0 15 3 (read_answer edition a_header (lent 15) (lent 16))

-- a block of no bytes behind 19 and four zeros: 11 strictly, and 0 tolerantly
abbrev wide_header : List ℕ
wide_header = sized_base (hex 0x1_0b_19_00_00_00_00)

abbrev is_read_tolerantly : ℕ → Bool
is_read_tolerantly edition = reply_is 11 15 0 (read_answer edition wide_header (lent 25) (lent 16)) && reply_is 0 21 5 (answer_by tolerant edition wide_header (lent 25) (lent 16))

-- written into just the room that it needs
abbrev is_written : ℕ → List ℕ → ℕ → ℕ → Bool
is_written edition rows bytes count = reply_is 0 bytes count (write_answer edition rows a_header (lent bytes))

-- an encrypted list, which D lacks, and a forward date, which B lacks
abbrev encrypted : List ℕ
encrypted = in_memory (base_rows 5 9 (row 25 0 14 0 ∷ []))

abbrev forwarded : List ℕ
forwarded = in_memory (base_rows 6 9 [])

-- 42, and the header's date
abbrev are_coded : Bool
are_coded =
    outcome_is 0 2 (number_encoded 42 2) && outcome_is 0 2 (number_decoded (hex 0x1_53_00)) && outcome_is 0 9 (date_encoded 5 (date_of a_date) 9) && outcome_is 0 9 (date_decoded 5 a_date)

pub premises : T (
    are_bytes a_header && are_bytes wide_header && is_read 1 && is_read 2 && is_read_tolerantly 1 && is_read_tolerantly 2 && is_written 1 (in_memory (base_rows 5 9 [])) 15 3 && is_written 2 (in_memory (base_rows 5 9 [])) 15 3 && plain_table (in_memory (base_rows 5 9 [])) a_header &&
    is_written 1 encrypted 17 4 && not (plain_table encrypted a_header) && is_written 2 forwarded 15 3 && not (plain_table forwarded a_header) && are_coded
    )
unfolding text_byte take_text text_ok turn take_number number_ok last_day passes take_date date_ok high_first too_wide take_bytes block_of take_block block_ok shared own moves take_value find look step_move step run inside envelope header read_by valid write_value way_of fit fit_row close_within close plan_of write_rows belongs belonging held_against cells_of ranks_of skips_of skips_held laid_over write occurs word_of words_of answer_by rows_by words_by write_answer write_output digits_within digits_of packed decode_number number_decoded number_bytes number_encoded decode_date date_decoded date_in_range date_encoded
premises = tt
