-- Our own table between the bounds: every byte in every room and at every place of a value, later envelopes, the long form, lent memory after each refusal.
-- It stands on `bounds`: where that does not hold, this is not computed.
use Rattle.std.specs.Prelude.{T}
use Rattle.meaning.specs.Bytes.{text_byte, take_text, text_ok, turn, take_number, number_ok, last_day, passes, take_date, date_ok, high_first, too_wide, take_bytes, block_of, take_block, block_ok}
use Rattle.meaning.specs.Editions.{shared, own, moves}
use Rattle.meaning.specs.Reading.{take_value, find, look, step_move, step, run, inside}
use Rattle.meaning.specs.Headers.{envelope, header, read_by}
use Rattle.meaning.specs.Writing.{valid, write_value, way_of, fit, fit_row, close_within, close, plan_of, write_rows}
use Rattle.meaning.specs.Skips.{belongs, belonging, held_against}
use Rattle.meaning.specs.Words.{occurs, word_of, words_of, ones_within, ones_of}
use Rattle.meaning.specs.Memory.{cells_of, ranks_of, skips_of, skips_held, laid_over, write, answer_by, rows_by, words_by, write_answer, write_output}
use Rattle.meaning.specs.Payload.{payload_start, payload_end, payload_bytes}
use Rattle.meaning.specs.Plain.{number_value, digits_within, digits_of, packed, decode_number, number_decoded, number_plain, number_bytes, number_encoded, number_output, decode_date, date_decoded, date_plain, date_in_range, date_encoded, date_output}
use Rattle.meaning.specs.Listing.{decimal, viewed, line_of, listing_of, listing}
use Rattle.meaning.specs.Present.{copy_all, all_envelopes, present, checked, present_answer}
use Rattle.meaning.specs.Lookup.{look_on, looked_up, lookup}
use Rattle.meaning.specs.Which.{editions_of, read_either, which_answer, which_rows, which_words}
use Rattle.meaning.specs.Relay.{moved_table, relay, relay_answer, relay_rows, relay_words, relay_output}
use Rattle.meaning.specs.CodeCases.{strange}
use Rattle.meaning.specs.FurtherCases.{further}
use Rattle.meaning.specs.DigitCases.{ranges}
use Rattle.meaning.specs.FittingCases.{fitting}
use Rattle.meaning.specs.LongCases.{long}
use Rattle.meaning.proofs.Bounds.{and_then, bounds}

pub between : T (and_then further (λ _. and_then ranges (λ _. and_then fitting (λ _. and_then strange (λ _. long)))))
unfolding text_byte take_text text_ok turn take_number number_ok last_day passes take_date date_ok high_first too_wide take_bytes block_of take_block block_ok shared own moves take_value find look step_move step run inside envelope header read_by valid write_value way_of fit fit_row close_within close plan_of write_rows belongs belonging held_against cells_of ranks_of skips_of skips_held laid_over write occurs word_of words_of ones_within ones_of answer_by rows_by words_by write_answer write_output payload_start payload_end payload_bytes number_value digits_within digits_of packed decode_number number_decoded number_plain number_bytes number_encoded number_output decode_date date_decoded date_plain date_in_range date_encoded date_output decimal viewed line_of listing_of listing copy_all look_on all_envelopes looked_up present checked present_answer lookup editions_of read_either which_answer which_rows which_words moved_table relay relay_answer relay_rows relay_words relay_output
between = let held = bounds in tt
