-- Document 02, order 13: "From a month of messages the bookings office wants, for each edition, the messages accepted, their envelopes and header bytes,
-- those refused by each number, and the mean header size". Each is a function of the list of messages added.
use Rattle.std.specs.Prelude.{ℕ, ◌+◌, ◌*◌, ◌/◌, ◌%◌, List, [], ◌∷◌, ◌++◌, map, Bool, ◌&&◌, eqb, leb, ltb, length, take, drop, get_or}
use Rattle.meaning.specs.Basics.{pick}
use Rattle.meaning.specs.Told.{Edition, B, D, Label, known, unknown, label_of, told}
use Rattle.meaning.specs.Headers.{Answer, refused, accepted, header, envelope_most, envelopes_most}
use Rattle.meaning.specs.Memory.{words_read}
use Rattle.meaning.specs.Plain.{Outcome, outcome, encode_outcome, encode_memory}
use Rattle.meaning.specs.Listing.{decimal, line_of}

-- "Each message is added by its bytes and edition"
pub record Message : Type 0 where
  pub edition : ℕ
  pub bytes : List ℕ

-- what a message counts as, by the strict reading of its bytes: "Rows aren't kept, so there is no 14"
pub data Entry : Type 0 where
  apart : Entry
  taken : Edition → ℕ → ℕ → Entry
  turned : Edition → ℕ → Entry

-- accepted: its envelopes and header bytes; refused: the number
abbrev pub entry_in : Edition → Answer → Entry
entry_in e (accepted place rows) = taken e (length (words_read rows)) place
entry_in e (refused refusal place) = turned e refusal

-- "A message of an unknown edition is counted apart and in no edition's figures"
abbrev pub entry_by : List ℕ → Label → Entry
entry_by bytes unknown = apart
entry_by bytes (known e) = entry_in e (header envelopes_most (told e) 0 bytes)

unfoldable pub entry_of : Message → Entry
entry_of m = entry_by m.bytes (label_of m.edition)

-- The figures, by what an entry adds to each

abbrev pub one_if : Bool → ℕ
one_if b = pick b 1 0

abbrev pub same_edition : Edition → Edition → ℕ → ℕ
same_edition B B n = n
same_edition B D n = 0
same_edition D B n = 0
same_edition D D n = n

-- "the messages accepted"
abbrev pub accepted_in : Edition → Entry → ℕ
accepted_in e apart = 0
accepted_in e (taken f envelopes bytes) = same_edition e f 1
accepted_in e (turned f refusal) = 0

-- "those refused by each number"
abbrev pub refused_in : Edition → ℕ → Entry → ℕ
refused_in e n apart = 0
refused_in e n (taken f envelopes bytes) = 0
refused_in e n (turned f refusal) = same_edition e f (one_if (eqb n refusal))

-- "their envelopes and header bytes"
abbrev pub envelopes_in : Edition → Entry → ℕ
envelopes_in e apart = 0
envelopes_in e (taken f envelopes bytes) = same_edition e f envelopes
envelopes_in e (turned f refusal) = 0

abbrev pub bytes_in : Edition → Entry → ℕ
bytes_in e apart = 0
bytes_in e (taken f envelopes bytes) = same_edition e f bytes
bytes_in e (turned f refusal) = 0

abbrev pub unknown_in : Entry → ℕ
unknown_in apart = 1
unknown_in (taken f envelopes bytes) = 0
unknown_in (turned f refusal) = 0

-- a figure of a list of messages: what each of them adds, summed
unfoldable pub total : (Entry → ℕ) → List Message → ℕ
total figure [] = 0
total figure (m ∷ ms) = figure (entry_of m) + total figure ms

-- The figures as they are lent, in the report's order: of each edition accepted, refused by 2 to 13, envelopes, header bytes; then the unknown ones

abbrev pub refusals : List ℕ
refusals = 2 ∷ 3 ∷ 4 ∷ 5 ∷ 6 ∷ 7 ∷ 8 ∷ 9 ∷ 10 ∷ 11 ∷ 12 ∷ 13 ∷ []

abbrev pub edition_numbers : ((Entry → ℕ) → ℕ) → Edition → List ℕ
edition_numbers of e = of (accepted_in e) ∷ (map (λ n. of (refused_in e n)) refusals ++ (of (envelopes_in e) ∷ of (bytes_in e) ∷ []))

abbrev pub numbers : ((Entry → ℕ) → ℕ) → List ℕ
numbers of = edition_numbers of B ++ (edition_numbers of D ++ (of unknown_in ∷ []))

-- "The figures equal those worked out from the list of messages added"
unfoldable pub figures_of : List Message → List ℕ
figures_of ms = numbers (λ figure. total figure ms)

-- what one entry adds to each number
unfoldable pub adds_of : Entry → List ℕ
adds_of c = numbers (λ figure. figure c)

-- numbers, each with the other's at its place
unfoldable pub sums : List ℕ → List ℕ → List ℕ
sums [] ys = []
sums (x ∷ xs) [] = x ∷ xs
sums (x ∷ xs) (y ∷ ys) = (x + y) ∷ sums xs ys

-- Any numbers may be lent. They are taken for figures if they are as many, of at most 1,000,000 messages, and no edition has more envelopes or bytes than so many
-- accepted messages can have

abbrev pub figures_borrowed : ℕ
figures_borrowed = 31

abbrev pub edition_width : ℕ
edition_width = 15

abbrev pub messages_most : ℕ
messages_most = 1000000

unfoldable pub sum_of : List ℕ → ℕ
sum_of [] = 0
sum_of (x ∷ xs) = x + sum_of xs

-- "accepted plus refused equals the messages added": of an edition the first thirteen numbers
unfoldable pub messages_in : List ℕ → ℕ
messages_in ns = sum_of (take 13 ns) + (sum_of (take 13 (drop edition_width ns)) + get_or ns 30 0)

abbrev pub edition_fits : List ℕ → Bool
edition_fits ns = leb (get_or ns 13 0) (envelopes_most * get_or ns 0 0) && leb (get_or ns 14 0) (envelopes_most * envelope_most * get_or ns 0 0)

unfoldable pub are_figures : List ℕ → Bool
are_figures ns = eqb (length ns) figures_borrowed && (leb (messages_in ns) messages_most && (edition_fits ns && edition_fits (drop edition_width ns)))

-- Adding a message: "19 at place 0 after 1,000,000 messages of any edition, figures unchanged"

unfoldable pub takes_more : List ℕ → Bool
takes_more ns = are_figures ns && ltb (messages_in ns) messages_most

unfoldable pub add_answer : List ℕ → Outcome
add_answer ns = pick (takes_more ns) (outcome 0 0) (outcome 19 0)

unfoldable pub add_figures : Message → List ℕ → List ℕ
add_figures m ns = pick (takes_more ns) (sums ns (adds_of (entry_of m))) ns

-- Joining the figures of two lists: our own

unfoldable pub joinable : List ℕ → List ℕ → Bool
joinable ns others = are_figures ns && (are_figures others && leb (messages_in ns + messages_in others) messages_most)

unfoldable pub join_answer : List ℕ → List ℕ → Outcome
join_answer ns others = pick (joinable ns others) (outcome 0 0) (outcome 19 0)

unfoldable pub join_figures : List ℕ → List ℕ → List ℕ
join_figures ns others = pick (joinable ns others) (sums ns others) ns

-- The report: "a line for each edition: edition, accepted, refused by 2 to 13, envelopes, header bytes, mean, remainder, with tabs; then a line with the unknown
-- count". "the mean header size as a whole part and a remainder over accepted messages (0 and 0 if there were none)"

abbrev pub mean_of : ℕ → ℕ → ℕ
mean_of bytes messages = pick (eqb messages 0) 0 (bytes / messages)

abbrev pub remainder_of : ℕ → ℕ → ℕ
remainder_of bytes messages = pick (eqb messages 0) 0 (bytes % messages)

unfoldable pub report_line : ℕ → List ℕ → List ℕ
report_line edition ns =
    let messages = get_or ns 0 0 in
    let bytes = get_or ns 14 0 in
    line_of (map decimal (edition ∷ (take edition_width ns ++ (mean_of bytes messages ∷ remainder_of bytes messages ∷ []))))

unfoldable pub report : List ℕ → List ℕ
report ns = report_line 1 ns ++ (report_line 2 (drop edition_width ns) ++ line_of (decimal (get_or ns 30 0) ∷ []))

-- into lent bytes: 19 for numbers that are no figures, then 16 at the bytes needed; both are ours
unfoldable pub report_answer : List ℕ → ℕ → Outcome
report_answer ns room = encode_outcome 19 (are_figures ns) room (report ns)

unfoldable pub report_output : List ℕ → List ℕ → List ℕ
report_output ns output = encode_memory (are_figures ns) output (report ns)
