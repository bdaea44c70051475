-- Every call has an answer that its promise allows, for whatever is given and lent, bytes where it lends bytes: of the payload view, the coders and the listing programs' body.
-- (`some_read` and `some_write` are in Premises, `some_piece` in SomePiece; each order's entry has its own beside its `one_..`.)
use Rattle.std.specs.Prelude.{ℕ, ◌-◌, ◌*◌, ◌≤◌, List, ◌≡◌, refl, T, length, take, drop, replicate}
use Rattle.std.proofs.Common.{sym, arith, lt-ltb, length-drop, take_all}
use Rattle.meaning.specs.Told.{strict}
use Rattle.meaning.specs.Headers.{Answer, refused, accepted, read}
use Rattle.meaning.specs.Payload.{part_start, part_end, part_bytes, payload_start, payload_end, payload_bytes}
use Rattle.meaning.specs.Memory.{row_width, words_borrowed}
use Rattle.meaning.specs.Plain.{number_decoded, number_plain, number_encoded, number_output, Date as PlainDate, date_decoded, date_plain, date_encoded, date_output}
use Rattle.meaning.specs.Listing.{input_most, rows_lent, too_long, listing}
use Rattle.laws_steps.specs.Logic.{are_bytes}
use Rattle.laws_tables.specs.Answered.{accepted_shape}
use Rattle.table.specs.declared.reply.Reply as declared
use Rattle.reader.specs.declared.Part.{Part}
use Rattle.reader.specs.Promises.{PartPromise, PayloadPromise}
use Rattle.coders.specs.declared.decode.DecodedNumber.{DecodedNumber}
use Rattle.coders.specs.declared.decode.DecodedDate.{DecodedDate}
use Rattle.coders.specs.declared.encode.Encoded.{Encoded}
use Rattle.coders.specs.Plain.{NumberDecodes, NumberEncodes, DateDecodes, DateEncodes}
use Rattle.listing.specs.Listed.{text_whole}
use Rattle.lister.specs.Promise.{TablePromise, PrintPromise, LongPromise}
use Rattle.certificate.specs.OneAnswer.{encoded_as}
use Rattle.certificate.specs.Premises.{some_read}

-- the payload's bytes
pub some_payload : (edition : ℕ) (input : List ℕ) → (part : List ℕ) × PayloadPromise edition input part
unfolding payload_bytes payload_start payload_end
some_payload edition input = (payload_bytes edition input, record { bytes = refl; is_part = at (read edition input) })
  where
    at : (found : Answer) → part_bytes input found ≡ take (part_end input found - part_start found) (drop (part_start found) input)
    at (refused refusal place) = refl
    at (accepted place rows) = sym (take_all (length input - place) (drop place input) (omega (arith, length-drop place input)))

-- .. and as two numbers; an input's numbers are bytes, as a slice's are
pub some_part : (edition : ℕ) (input : List ℕ) → T (are_bytes input) → (part : Part) × PartPromise edition input part
unfolding payload_start payload_end
some_part edition input t =
    let (forward, inside) = at (read edition input) refl in
    (record { start = payload_start edition input; end = payload_end edition input }, record { starts = refl; ends = refl; forward = forward; inside = inside })
  where
    at : (found : Answer) → read edition input ≡ found → (part_start found ≤ part_end input found) × (part_end input found ≤ length input)
    at (refused refusal place) is = (omega arith, omega arith)
    at (accepted place rows) is = ((accepted_shape strict edition input place rows t is).0, omega arith)

-- each coder
pub some_number_decoded : (bytes : List ℕ) → (r : DecodedNumber) × NumberDecodes bytes r
some_number_decoded bytes = let o = number_decoded bytes in (record { answer = o.answer; place = o.place; value = number_plain bytes }, record { is = refl; worth = refl })

pub some_number_encoded : (value : ℕ) (before : List ℕ) → (r : Encoded) × (after : List ℕ) × NumberEncodes value before after r
some_number_encoded value before = (encoded_as (number_encoded value (length before)), number_output value before, record { is = refl; lays = refl })

pub some_date_decoded : (kind : ℕ) (bytes : List ℕ) → (r : DecodedDate) × DateDecodes kind bytes r
some_date_decoded kind bytes =
    let o = date_decoded kind bytes in
    let d = date_plain kind bytes in
    (record { answer = o.answer; place = o.place; date = record { year = d.year; month = d.month; day = d.day; hour = d.hour; minute = d.minute; second = d.second; millisecond = d.millisecond; designator = d.designator } }, record { is = refl; worth = refl })

pub some_date_encoded : (kind : ℕ) (date : PlainDate) (before : List ℕ) → (r : Encoded) × (after : List ℕ) × DateEncodes kind date before after r
some_date_encoded kind date before = (encoded_as (date_encoded kind date (length before)), date_output kind date before, record { is = refl; lays = refl })

-- the table of a listing
pub some_table : (edition : ℕ) (input before words : List ℕ) → T (are_bytes input) → (a : declared.Reply) × (after : List ℕ) × (words' : List ℕ) × TablePromise edition input before words a after words'
some_table edition input before words t =
    let (a, after, words', p) = some_read strict edition input before words t in
    (a, after, words', record { reads = p; lists = λ few room enough. text_whole edition input before words t p.answers p.rows enough few room })

-- what is printed from
pub some_print : (edition : ℕ) (input : List ℕ) → T (are_bytes input) → (a : declared.Reply) × PrintPromise edition input a
some_print edition input t = let (a, after, words, p) = some_table edition input (replicate (rows_lent * row_width) 0) (replicate words_borrowed 0) t in (a, record { after = after; words = words; table = p })

-- the line of an input that is too long
pub some_long_line : (line : List ℕ) × LongPromise line
unfolding listing
some_long_line = (too_long, record { lists = λ edition input long. rw (lt-ltb input_most (length input) long) refl })
