-- "Coding and decoding of numbers and dates are inverse on what they accept, both ways": of calls of the four coders, with the output lent.
-- By the same law over the meaning (`laws`), since a coder's answer and memory are the meaning's.
-- Below them: "a refused call changes nothing lent; an accepted one changes only its .. bytes", of the two encoders.
use Rattle.std.specs.Prelude.{ℕ, ◌≤◌, List, Bool, true, false, ◌≡◌, refl, leb, take, drop}
use Rattle.std.proofs.Math.Path.{ap}
use Rattle.std.proofs.Common.{sym, ◌∙◌, subst, arith, le-leb, leb-true}
use Rattle.std.proofs.Math.ListN.{length, length-append, length-drop}
use Rattle.meaning.specs.Basics.{pick}
use Rattle.meaning.specs.Bytes.{number_most}
use Rattle.meaning.specs.Memory.{laid_over}
use Rattle.meaning.specs.Plain.{Outcome, outcome, encode_outcome, encode_memory, Date as PlainDate, decoded, value_of, number_value, decode_number, number_decoded, number_plain, number_bytes, number_encoded, number_output, date_of, date_bytes, decode_date, components_of, date_decoded, date_plain, date_in_range, date_encoded, date_output}
use Rattle.meaning.specs.Kinds.{date_absolute}
use Rattle.laws_demands.specs.Days.{DayExists, day_exists}
use Rattle.laws_demands.specs.Demands.{number_again, number_bytes_again, date_again, date_bytes_again}
use Rattle.coders.specs.declared.decode.DecodedNumber.{DecodedNumber}
use Rattle.coders.specs.declared.decode.DecodedDate.{DecodedDate}
use Rattle.coders.specs.declared.Date.{Date}
use Rattle.coders.specs.declared.encode.Encoded.{Encoded}
use Rattle.coders.specs.Plain.{NumberDecodes, NumberEncodes, DateDecodes, DateEncodes, plain_of}
use Rattle.certificate.specs.OneAnswer.{same_date}
use Rattle.certificate.specs.Lent.{laid_behind, Encodes, encoded_call, encodes, encoded_front, decoded_call, decodes}

-- the bytes of a number that was encoded are decoded to it
pub number_coded_again : {value : ℕ} {before after : List ℕ} {a : Encoded} {b : DecodedNumber} → NumberEncodes value before after a → a.answer ≡ 0 → NumberDecodes (take a.place after) b
    → (b.answer ≡ 0) × (b.place ≡ a.place) × (b.value ≡ value)
unfolding number_encoded number_output number_decoded number_plain
number_coded_again {value} {before} {after} {a} p z q =
    let (range, e) = encoded_call 10 (number_bytes value) before (omega arith) (leb value number_most) p.is p.lays z in
    let (again, worth) = number_again value (leb-true value number_most range) in
    let d : decode_number (take a.place after) ≡ decoded (number_bytes value) = ap decode_number (encoded_front e) ∙ again in
    let (answers, ends) = decodes 10 q.is d in
    (answers, ends ∙ sym e.ends, q.worth ∙ ap value_of d ∙ worth)

-- the value of bytes that were decoded is encoded as these bytes, where the output has room: they stand at its front, and nothing behind them changed
pub number_decoded_again : {bytes before after : List ℕ} {a : DecodedNumber} {b : Encoded} → NumberDecodes bytes a → a.answer ≡ 0 → NumberEncodes a.value before after b → length bytes ≤ length before
    → Encodes bytes before after b
unfolding number_encoded number_output number_decoded number_plain
number_decoded_again {bytes} {before} {after} {a} {b} p z q room =
    let (v, d) = decoded_call 10 (omega arith) (decode_number bytes) p.is z in
    let (same, back, range) = number_bytes_again bytes v d in
    let worth : a.value ≡ number_value 0 v = p.worth ∙ ap value_of d in
    let bytes_back : number_bytes a.value ≡ bytes = ap number_bytes worth ∙ back in
    subst (λ (x : List ℕ). Encodes x before after b) bytes_back (encodes 10 (number_bytes a.value) before (leb a.value number_most) q.is q.lays (le-leb a.value number_most (omega arith)) (omega (arith, ap length bytes_back)))

-- the same of dates of a kind: every component
pub date_coded_again : {kind : ℕ} {date : Date} {before after : List ℕ} {a : Encoded} {b : DecodedDate} → DateEncodes kind (plain_of date) before after a → a.answer ≡ 0 → DateDecodes kind (take a.place after) b
    → (b.answer ≡ 0) × (b.place ≡ a.place) × (b.date ≡ date)
unfolding date_encoded date_output date_decoded date_plain
date_coded_again {kind} {date} {before} {after} {a} p z q =
    let (range, e) = encoded_call 9 (date_bytes (plain_of date)) before (omega arith) (date_in_range kind (plain_of date)) p.is p.lays z in
    let (again, worth) = date_again kind (plain_of date) range in
    let d : decode_date kind (take a.place after) ≡ decoded (date_bytes (plain_of date)) = ap (decode_date kind) (encoded_front e) ∙ again in
    let (answers, ends) = decodes 9 q.is d in
    (answers, ends ∙ sym e.ends, same_date (q.worth ∙ ap components_of d ∙ worth))

pub date_decoded_again : {kind : ℕ} {bytes before after : List ℕ} {a : DecodedDate} {b : Encoded} → DateDecodes kind bytes a → a.answer ≡ 0 → DateEncodes kind (plain_of a.date) before after b → length bytes ≤ length before
    → Encodes bytes before after b
unfolding date_encoded date_output date_decoded date_plain
date_decoded_again {kind} {bytes} {before} {after} {a} {b} p z q room =
    let (v, d) = decoded_call 9 (omega arith) (decode_date kind bytes) p.is z in
    let (same, range, back) = date_bytes_again kind bytes v d in
    let worth : plain_of a.date ≡ date_of v = p.worth ∙ ap components_of d in
    let bytes_back : date_bytes (plain_of a.date) ≡ bytes = ap date_bytes worth ∙ back in
    subst (λ (x : List ℕ). Encodes x before after b) bytes_back (encodes 9 (date_bytes (plain_of a.date)) before (date_in_range kind (plain_of a.date)) q.is q.lays (ap (date_in_range kind) worth ∙ range) (omega (arith, ap length bytes_back)))

-- order 3: an absolute date that a call decodes or encodes has a day of its month
pub decoded_day_exists : {bytes : List ℕ} {a : DecodedDate} → DateDecodes date_absolute bytes a → a.answer ≡ 0 → DayExists (plain_of a.date)
unfolding date_decoded date_plain
decoded_day_exists {bytes} {a} p z =
    let (v, d) = decoded_call 9 (omega arith) (decode_date date_absolute bytes) p.is z in
    subst DayExists (sym (p.worth ∙ ap components_of d)) (day_exists (date_of v) (date_bytes_again date_absolute bytes v d).1)

pub encoded_day_exists : {date : Date} {before after : List ℕ} {a : Encoded} → DateEncodes date_absolute (plain_of date) before after a → a.answer ≡ 0 → DayExists (plain_of date)
unfolding date_encoded date_output
encoded_day_exists {date} {before} p z = day_exists (plain_of date) (encoded_call 9 (date_bytes (plain_of date)) before (omega arith) (date_in_range date_absolute (plain_of date)) p.is p.lays z).0

-- "A refused call changes nothing lent; an accepted one changes only its .. bytes." Whatever refuses it: 16, for want of room, too.

-- these bytes stand at the front of the lent output, as many as the answer's place says; it is as long as it was, and behind them as it was
pub record OnlyItsBytes (bytes before after : List ℕ) (result : Encoded) : Type 0 where
  pub inside : result.place ≤ length before
  pub long : length after ≡ length before
  pub front : take result.place after ≡ bytes
  pub behind : drop result.place after ≡ drop result.place before

-- an encoder that answers 0 had room
fitted : (refusal : ℕ) (bytes before : List ℕ) {result : Encoded} → 1 ≤ refusal → (in_range : Bool) → outcome result.answer result.place ≡ encode_outcome refusal in_range (length before) bytes → result.answer ≡ 0 → length bytes ≤ length before
fitted refusal bytes before {result} some false is z = let x : result.answer ≡ refusal = ap (λ (o : Outcome). o.answer) is in absurd (omega arith)
fitted refusal bytes before {result} some true is z = fits (leb (length bytes) (length before)) refl is
  where
    fits : (room : Bool) → leb (length bytes) (length before) ≡ room → outcome result.answer result.place ≡ pick room (outcome 0 (length bytes)) (outcome 16 (length bytes)) → length bytes ≤ length before
    fits false q o = let x : result.answer ≡ 16 = ap (λ (o : Outcome). o.answer) o in absurd (omega arith)
    fits true q o = leb-true (length bytes) (length before) q

module _ (refusal : ℕ) (bytes before : List ℕ) {after : List ℕ} {result : Encoded} where
  refused_leaves : (in_range : Bool) → outcome result.answer result.place ≡ encode_outcome refusal in_range (length before) bytes → after ≡ encode_memory in_range before bytes → (result.answer ≡ 0 → ⊥) → after ≡ before
  refused_leaves false is leaves some = leaves
  refused_leaves true is leaves some = fits (leb (length bytes) (length before)) is leaves
    where
      fits : (room : Bool) → outcome result.answer result.place ≡ pick room (outcome 0 (length bytes)) (outcome 16 (length bytes)) → after ≡ pick room (laid_over before bytes) before → after ≡ before
      fits false o m = m
      fits true o m = absurd (some (ap (λ (o : Outcome). o.answer) o))

  accepted_leaves : 1 ≤ refusal → (in_range : Bool) → outcome result.answer result.place ≡ encode_outcome refusal in_range (length before) bytes → after ≡ encode_memory in_range before bytes → result.answer ≡ 0 → (in_range ≡ true) × OnlyItsBytes bytes before after result
  unfolding laid_over
  accepted_leaves some in_range is leaves z =
      let (range, e) = encoded_call refusal bytes before some in_range is leaves z in
      let room = fitted refusal bytes before some in_range is z in (
        range,
        record {
          inside = omega (arith, e.ends);
          long = omega (arith, ap length e.leaves, length-append bytes (drop (length bytes) before), length-drop (length bytes) before);
          front = encoded_front e;
          behind = ap (drop result.place) e.leaves ∙ laid_behind before bytes (sym e.ends);
        },
      )

pub refused_number_encode_changes_nothing : {value : ℕ} {before after : List ℕ} {a : Encoded} → NumberEncodes value before after a → (a.answer ≡ 0 → ⊥) → after ≡ before
unfolding number_encoded number_output
refused_number_encode_changes_nothing {value} {before} p some = refused_leaves 10 (number_bytes value) before (leb value number_most) p.is p.lays some

-- .. an accepted number is in range, too
pub number_encode_changes_its_bytes : {value : ℕ} {before after : List ℕ} {a : Encoded} → NumberEncodes value before after a → a.answer ≡ 0 → (value ≤ number_most) × OnlyItsBytes (number_bytes value) before after a
unfolding number_encoded number_output
number_encode_changes_its_bytes {value} {before} p z =
    let (range, only) = accepted_leaves 10 (number_bytes value) before (omega arith) (leb value number_most) p.is p.lays z in
    (leb-true value number_most range, only)

pub refused_date_encode_changes_nothing : {kind : ℕ} {date : PlainDate} {before after : List ℕ} {a : Encoded} → DateEncodes kind date before after a → (a.answer ≡ 0 → ⊥) → after ≡ before
unfolding date_encoded date_output
refused_date_encode_changes_nothing {kind} {date} {before} p some = refused_leaves 9 (date_bytes date) before (date_in_range kind date) p.is p.lays some

-- .. and so is an accepted date
pub date_encode_changes_its_bytes : {kind : ℕ} {date : PlainDate} {before after : List ℕ} {a : Encoded} → DateEncodes kind date before after a → a.answer ≡ 0 → (date_in_range kind date ≡ true) × OnlyItsBytes (date_bytes date) before after a
unfolding date_encoded date_output
date_encode_changes_its_bytes {kind} {date} {before} p z = accepted_leaves 9 (date_bytes date) before (omega arith) (date_in_range kind date) p.is p.lays z
