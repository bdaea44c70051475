-- What is being taken, by the definitions of `meaning`: the span that taking it further comes to.
use Rattle.std.specs.Prelude.{ℕ, zero, suc, ◌+◌, ◌-◌, ◌≤◌, ◌<◌, List, ◌≡◌, eqb, length}
use Rattle.meaning.specs.Basics.{pick}
use Rattle.meaning.specs.Bytes.{take_text, take_number, number_most, take_bytes, block_of, high_first, Width, one_byte, two_bytes, four_bytes, bytes_of}
use Rattle.meaning.specs.Told.{Told}
use Rattle.laws_steps.specs.From.{from}
use Rattle.laws_steps.specs.Pouring.{Source, source}
use Rattle.table.specs.Refusals.{answer_of}
use Rattle.values.specs.Stages.{Span, spans, misses, span, rule_of}
use Rattle.date.specs.Dates.{date_length}
use Rattle.date.specs.DateSteps.{date_from}
use Rattle.plain.specs.declared.feed.Pending.{Pending}
use Rattle.plain.specs.declared.feed.Taking.{Taking}
use Rattle.plain.specs.declared.feed.Taking.TheVariants.{Text, Date, Number, Length, Block}
use Rattle.plain.specs.declared.feed.Fed.{Fed}
use Rattle.plain.specs.declared.feed.Fed.TheVariants.{Goes, Ends, Moves, Over, Wrong}

abbrev pub pending_of : Taking → Pending
pending_of (Text rule of) = of
pending_of (Date isAbsolute designated of) = of
pending_of (Number so_far of) = of
pending_of (Length width so_far of) = of
pending_of (Block until of) = of

-- how far a row's end lies before the value's: a text's closing 00
abbrev pub back_of : Taking → ℕ
back_of (Text rule of) = 1
back_of (Date isAbsolute designated of) = 0
back_of (Number so_far of) = 0
back_of (Length width so_far of) = 0
back_of (Block until of) = 0

-- "16, 17, 19 with a length of 1, 2, 4 bytes"
abbrev pub width_of : ℕ → Width
width_of w = pick (eqb w 1) one_byte (pick (eqb w 2) two_bytes four_bytes)

-- what so many bytes of a length are below
abbrev pub length_below : ℕ → ℕ
length_below zero = 1
length_below (suc zero) = 256
length_below (suc (suc zero)) = 65536
length_below (suc (suc (suc zero))) = 16777216
length_below (suc (suc (suc (suc j)))) = 4294967296

-- from the place `at` on
unfoldable pub span_from : Source → Taking → ℕ → Span
span_from i (Text rule of) at = span (at - of.start) (take_text (rule_of rule) (from i.bytes at i.end))
span_from i (Date isAbsolute designated of) at = date_from i.bytes i.end of.start isAbsolute (date_length designated) (at - of.start)
span_from i (Number so_far of) at = span (at - of.start) (take_number so_far (eqb at of.start) (from i.bytes at i.end))
span_from i (Length width so_far of) at =
    span 0 (block_of i.told (width_of width) (i.end - (of.start - 1)) (high_first (of.start + width - at) so_far (from i.bytes at i.end)))
span_from i (Block until of) at = span (at - of.start) (take_bytes (until - at) (from i.bytes at i.end))

-- what is being taken is so at the place `at`
unfoldable pub Valid : Taking → ℕ → Type 0
Valid (Text rule of) at = of.start ≤ at
Valid (Date isAbsolute designated of) at = (of.start ≤ at) × (at < of.start + date_length designated)
Valid (Number so_far of) at = (of.start ≤ at) × (so_far ≤ number_most)
Valid (Length width so_far of) at = (1 ≤ of.start) × (of.start ≤ at) × (at < of.start + width) × (bytes_of (width_of width) ≡ width) × (so_far < length_below (at - of.start))
Valid (Block until of) at = (of.start ≤ at) × (at < until)

-- what a byte does to it; a value's byte makes no move
unfoldable pub fed_span : Source → Fed → ℕ → Span
fed_span i (Goes taking) at = span_from i taking (at + 1)
fed_span i (Ends of len) at = spans len (from i.bytes (at + 1) i.end)
fed_span i (Moves next) at = misses 0 0
fed_span i Over at = misses 0 0
fed_span i (Wrong fault) at = misses (answer_of fault.refusal) (i.end - fault.at)

pub record Alike (taking : Taking) (of : Pending) : Type 0 where
  pub kind : of.kind ≡ (pending_of taking).kind
  pub next : of.next ≡ (pending_of taking).next

unfoldable pub Follows : Taking → ℕ → Fed → Type 0
Follows taking at (Goes further) = Alike taking (pending_of further) × (back_of further ≡ back_of taking) × Valid further (at + 1)
Follows taking at (Ends of len) = Alike taking of × (of.start + len + back_of taking ≡ at + 1)
Follows taking at (Moves next) = ⊥
Follows taking at Over = ⊥
Follows taking at (Wrong fault) = fault.at ≤ at

-- a block of n bytes from the place `first` on
abbrev pub block_from : ℕ → ℕ → Pending → Fed
block_from first n of =
    pick (eqb n 0) (Ends (record { kind = of.kind; next = of.next; start = first }) 0) (Goes (Block (first + n) (record { kind = of.kind; next = of.next; start = first })))

-- the step of a value, whatever the declared end
pub record Feeds (t : Told) (s : List ℕ) (taking : Taking) (at : ℕ) (fed : Fed) : Type 0 where
  pub is : (end : ℕ) → at < end → end ≤ length s → span_from (source t s end) taking at ≡ fed_span (source t s end) fed at
  pub follows : Follows taking at fed
