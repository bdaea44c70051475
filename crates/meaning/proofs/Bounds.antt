-- Our own table: every move of each edition, a refused code for each room, each bound of document 01 at it and one over; in one theorem.
-- What lies between the bounds stands in Between, under a second one: there is a limit to what one declaration may compute.
use Rattle.std.specs.Prelude.{Bool, true, false, ◌&&◌, T}
use Rattle.meaning.specs.Basics.{every}
use Rattle.meaning.specs.Bytes.{text_byte, take_text, text_ok, turn, take_number, number_ok, last_day, passes, take_date, date_ok, high_first, too_wide, take_bytes, block_of, take_block, block_ok}
use Rattle.meaning.specs.Editions.{shared, own, moves}
use Rattle.meaning.specs.Reading.{take_value, find, look, step_move, step, run, inside}
use Rattle.meaning.specs.Headers.{envelope, header, read_by}
use Rattle.meaning.specs.Writing.{valid, write_value, way_of, fit, fit_row, close_within, close, plan_of, write_rows}
use Rattle.meaning.specs.Skips.{belongs, belonging, held_against}
use Rattle.meaning.specs.Words.{occurs, word_of, words_of, ones_within, ones_of}
use Rattle.meaning.specs.Memory.{cells_of, ranks_of, skips_of, skips_held, laid_over, write, answer_by, rows_by, words_by, write_answer, write_output}
use Rattle.meaning.specs.Payload.{payload_start, payload_end, payload_bytes}
use Rattle.meaning.specs.Plain.{number_value, digits_within, digits_of, packed, decode_number, number_decoded, number_plain, number_bytes, number_encoded, number_output, decode_date, date_decoded, date_plain, date_in_range, date_encoded, date_output}
use Rattle.meaning.specs.Listing.{decimal, viewed, line_of, listing_of, listing}
use Rattle.meaning.specs.Cases.{reads, rewrites, writes, decodes, dates_read, dates_written}
use Rattle.meaning.specs.AcceptedCases as accepting
use Rattle.meaning.specs.RefusedCases as refusing
use Rattle.meaning.specs.CodingCases as coding
use Rattle.meaning.specs.DayCases.{days}
use Rattle.meaning.specs.BreakCases.{breaks}
use Rattle.meaning.specs.WidthCases.{widths}
use Rattle.meaning.specs.SkipCases as hops
use Rattle.meaning.specs.WordCases.{presence}
use Rattle.meaning.specs.Present.{copy_all, all_envelopes, present, checked, present_answer}
use Rattle.meaning.specs.PresentCases.{presents}
use Rattle.meaning.specs.Lookup.{look_on, looked_up, lookup}
use Rattle.meaning.specs.LookupCases.{lookings}
use Rattle.meaning.specs.Which.{editions_of, read_either, which_answer, which_rows, which_words}
use Rattle.meaning.specs.WhichCases.{sortings}
use Rattle.meaning.specs.Relay.{moved_table, relay, relay_answer, relay_rows, relay_words, relay_output}
use Rattle.meaning.specs.RelayCases.{relaying}
use Rattle.meaning.specs.Figures.{entry_of, total, figures_of, adds_of, sums, sum_of, messages_in, are_figures, takes_more, add_answer, add_figures, joinable, join_answer, join_figures, report_line, report, report_answer, report_output}
use Rattle.meaning.specs.FigureCases.{figures}
use Rattle.meaning.specs.LongCases.{stages}
use Rattle.meaning.specs.QuickCases.{quick}

abbrev pub readings : Bool
readings =
    every reads accepting.heads && every reads accepting.parameters && every reads accepting.objects && every reads accepting.agents && every reads accepting.envelopes &&
    every reads refusing.codes && every reads refusing.dates && every reads refusing.values && every reads refusing.envelopes

abbrev pub writings : Bool
writings =
    every rewrites accepting.heads && every rewrites accepting.parameters && every rewrites accepting.objects && every rewrites accepting.agents && every rewrites accepting.envelopes &&
    every writes coding.written && every writes coding.unwritten && coding.sizes && coding.memory

abbrev pub values : Bool
values =
    every decodes coding.numbers_read && coding.numbers_written && every dates_read coding.dates_read && every dates_written coding.dates_written && coding.date_outputs && coding.listings

abbrev pub skips : Bool
skips = every hops.skips_read hops.read && every hops.rewritten hops.read && every writes hops.wrong && every writes hops.first

-- The first part that does not hold decides, and those behind it are not computed: a wrong definition is told in seconds. So the quick ones stand first.
abbrev pub and_then : Bool → (Unit {0} → Bool) → Bool
and_then false rest = false
and_then true rest = rest tt

pub bounds : T (and_then (quick && coding.payload && stages && figures && lookings && sortings && presence && skips && relaying && values) (λ _. and_then (presents && days) (λ _. and_then widths (λ _. and_then readings (λ _. and_then breaks (λ _. writings))))))
unfolding text_byte take_text text_ok turn take_number number_ok last_day passes take_date date_ok high_first too_wide take_bytes block_of take_block block_ok shared own moves take_value find look step_move step run inside envelope header read_by valid write_value way_of fit fit_row close_within close plan_of write_rows belongs belonging held_against cells_of ranks_of skips_of skips_held laid_over write occurs word_of words_of ones_within ones_of answer_by rows_by words_by write_answer write_output payload_start payload_end payload_bytes number_value digits_within digits_of packed decode_number number_decoded number_plain number_bytes number_encoded number_output decode_date date_decoded date_plain date_in_range date_encoded date_output decimal viewed line_of listing_of listing copy_all look_on all_envelopes looked_up present checked present_answer lookup editions_of read_either which_answer which_rows which_words moved_table relay relay_answer relay_rows relay_words relay_output entry_of total figures_of adds_of sums sum_of messages_in are_figures takes_more add_answer add_figures joinable join_answer join_figures report_line report report_answer report_output
bounds = tt
