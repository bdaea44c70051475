-- A stage's two answers, from the span of the value that it took, and back.
use Rattle.std.specs.Prelude.{ℕ, suc, ◌+◌, ◌-◌, ◌≤◌, ◌<◌, List, ◌≡◌, refl, length}
use Rattle.std.proofs.Math.Path.{ap}
use Rattle.std.proofs.Common.{◌∙◌, arith}
use Rattle.meaning.specs.Bytes.{Taken, took, failed, prefixed}
use Rattle.laws_steps.specs.From.{from}
use Rattle.table.specs.declared.answers.Fault.{Fault}
use Rattle.table.specs.declared.refusals.Refusal.{Refusal}
use Rattle.table.specs.Refusals.{answer_of}
use Rattle.values.specs.declared.Value.{Value}
use Rattle.values.specs.declared.Value.TheVariants.{Is, Refused}
use Rattle.values.specs.Stages.{spans, misses, span, span_of, Stands, Valued}

pub span_prefixed : (k b : ℕ) (t : Taken) → span k (prefixed b t) ≡ span (k + 1) t
span_prefixed k b (took v rest) = let q : k + suc (length v) ≡ k + 1 + length v = omega arith in ap (λ (x : ℕ). spans x rest) q
span_prefixed k b (failed refusal left) = refl

module _ {s : List ℕ} {end at kind back : ℕ} {taken : Taken} where
  pub answered : {k start length after : ℕ} → k ≡ kind → span 0 taken ≡ spans length (from s after end) → start + length + back ≡ after → at ≤ start → at < after → after ≤ end
      → Valued s end at kind back taken (Is k start length after)
  unfolding span_of Stands
  answered h q a b c d = record { is = q; stands = (h, a, b, c, d) }

  pub refuses : {refusal : Refusal} {place : ℕ} {fault : Fault} → fault ≡ record { refusal = refusal; at = place } → span 0 taken ≡ misses (answer_of refusal) (end - place) → place ≤ end → Valued s end at kind back taken (Refused fault)
  unfolding span_of Stands
  refuses h q a = record { is = rw h q; stands = rw h a }

  pub valued_at : {r : Value} {k start length after : ℕ} → Valued s end at kind back taken r → r ≡ Is k start length after
      → (span 0 taken ≡ spans length (from s after end)) × (k ≡ kind) × (start + length + back ≡ after) × (at ≤ start) × (at < after) × (after ≤ end)
  unfolding span_of Stands
  valued_at a h = let p = rw h at a.stands in (a.is ∙ ap (span_of s end) h, p.0, p.1, p.2, p.3, p.4)

  pub valued_refused : {r : Value} {fault : Fault} → Valued s end at kind back taken r → r ≡ Refused fault → (span 0 taken ≡ misses (answer_of fault.refusal) (end - fault.at)) × (fault.at ≤ end)
  unfolding span_of Stands
  valued_refused a h = (a.is ∙ ap (span_of s end) h, rw h at a.stands)
