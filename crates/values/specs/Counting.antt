-- A payload length that was counted, as a value like any other.
use Rattle.std.specs.Prelude.{ℕ, ◌-◌, ◌≤◌, ◌<◌, List, true, ◌≡◌, refl}
use Rattle.std.proofs.Math.Path.{ap}
use Rattle.std.proofs.Common.{◌∙◌, arith}
use Rattle.meaning.specs.Bytes.{Taken, took, failed, take_number}
use Rattle.meaning.specs.Kinds.{payload_length}
use Rattle.laws_steps.specs.From.{from}
use Rattle.table.specs.declared.answers.Fault.{Fault}
use Rattle.values.specs.declared.number.Number.{Number}
use Rattle.values.specs.declared.number.Number.TheVariants.{Counts, Fails}
use Rattle.values.specs.declared.Value.TheVariants.{Is, Refused}
use Rattle.values.specs.Stages.{Span, span, spans, misses, Valued}
use Rattle.values.specs.Numbers.{Tally, counts, fails, tally, tallied, Ends, Counted}
use Rattle.values.specs.Answers.{answered, refuses}

-- a tally without the number's value
abbrev valueless : Tally → Span
valueless (counts length value rest) = spans length rest
valueless (fails refusal left) = misses refusal left

span_tally : (k number : ℕ) (t : Taken) → span k t ≡ valueless (tally k number t)
span_tally k number (took v rest) = refl
span_tally k number (failed refusal left) = refl

module _ {s : List ℕ} {end at : ℕ} {r : Number} (a : Counted s end at r) where
  pub counted_to : {value after : ℕ} → r ≡ Counts value after → (at < after) × (after ≤ end)
  unfolding Ends
  counted_to h = rw h at a.ends

  pub counted_fault : {fault : Fault} → r ≡ Fails fault → fault.at ≤ end
  unfolding Ends
  counted_fault h = rw h at a.ends

  spans_counted : span 0 (take_number 0 true (from s at end)) ≡ valueless (tallied s end at r)
  spans_counted = span_tally 0 0 (take_number 0 true (from s at end)) ∙ ap valueless a.is

  pub counted_is : {value after : ℕ} → r ≡ Counts value after → Valued s end at payload_length 0 (take_number 0 true (from s at end)) (Is payload_length at (after - at) after)
  unfolding tallied
  counted_is h = let p = counted_to h in answered refl (spans_counted ∙ ap (λ (x : Number). valueless (tallied s end at x)) h) (omega arith) (omega arith) p.0 p.1

  pub counted_refused : {fault : Fault} → r ≡ Fails fault → Valued s end at payload_length 0 (take_number 0 true (from s at end)) (Refused fault)
  unfolding tallied
  counted_refused h = refuses refl (spans_counted ∙ ap (λ (x : Number). valueless (tallied s end at x)) h) (counted_fault h)
