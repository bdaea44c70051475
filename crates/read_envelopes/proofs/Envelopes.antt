-- An envelope's end, from what the stage of its inside answers.
use Prim.Native.Nat.{ℕ, ◌+◌, ◌≤◌, ◌<◌}
use mathlib.Core.List.{List}
use mathlib.Core.Bool.{Bool, true, false}
use mathlib.Core.Path.{◌≡◌, refl, ap, sym, ◌∙◌}
use lib.Dec.{eqb}
use lib.ListN.{length}
use borrow.Author.Tests.{eqb-true}
use Rattle.meaning.specs.Basics.{pick}
use Rattle.meaning.specs.Told.{Told}
use Rattle.meaning.specs.Editions.{state, closed}
use Rattle.meaning.specs.Headers.{opening, start}
use Rattle.laws_steps.specs.Rows.{put}
use Rattle.laws_steps.specs.Pouring.{Filling, filled, stopped, Source, source, run_at}
use Rattle.laws_steps.specs.Finishing.{onward_from, closes, closed_at, opened_closes}
use Rattle.table.specs.declared.answers.Reached.{Reached}
use Rattle.table.specs.declared.answers.Stage.{Stage}
use Rattle.table.specs.declared.answers.Stage.TheVariants.{Go, Refused}
use Rattle.read_rows.specs.Stages.{after, Moved, Ran}
use Rattle.table.specs.declared.refusals.Refusal.TheVariants.{ClosedEarly}
use Rattle.read_envelopes.specs.declared.envelope.Envelope.{Envelope}
use Rattle.read_envelopes.specs.declared.envelope.Envelope.TheVariants as envelope
use Rattle.read_envelopes.specs.Envelopes.{ended_by, behind_envelope, EnvelopeEnds, EnvelopeOpened}

closes_by : (base : Bool) (end : ℕ) (more : ℕ → ℕ → List ℕ → Filling) (to : Reached) (m : List ℕ) (z : Bool) → eqb to.at end ≡ z
    → pick z (pick base (filled end to.rows m) (more end to.rows m)) (stopped 13 to.at) ≡ behind_envelope more m (pick z (pick base (envelope.Base to) (envelope.Extension to)) (envelope.Refused (record { refusal = ClosedEarly; at = to.at })))
unfolding behind_envelope
closes_by true end more to m true q = rw (eqb-true to.at end q) refl
closes_by false end more to m true q = rw (eqb-true to.at end q) refl
closes_by base end more to m false q = refl

stage_closes : (i : Source) (base : Bool) (least : ℕ) (more : ℕ → ℕ → List ℕ → Filling) (m : List ℕ) (r : Stage) → i.end ≤ length i.bytes → Moved least i.end r
    → closes base i.end more (after i (state closed 0 false) m r) ≡ behind_envelope more m (ended_by base i.end r)
unfolding after Moved behind_envelope
stage_closes i base least more m (Go to) h v = ap (closes base i.end more) (closed_at i to.at to.rows m v.1 h) ∙ closes_by base i.end more to m (eqb to.at i.end) refl
stage_closes i base least more m (Refused fault) h v = refl

ends_fits : (base : Bool) (end : ℕ) (to : Reached) → to.rows ≤ to.at → (z : Bool) → eqb to.at end ≡ z → EnvelopeEnds end (pick z (pick base (envelope.Base to) (envelope.Extension to)) (envelope.Refused (record { refusal = ClosedEarly; at = to.at })))
unfolding EnvelopeEnds
ends_fits true end to h true q = (eqb-true to.at end q, h)
ends_fits false end to h true q = (eqb-true to.at end q, h)
ends_fits base end to h false q = tt

stage_fits : (base : Bool) (least end : ℕ) (r : Stage) → Moved least end r → EnvelopeEnds end (ended_by base end r)
unfolding Moved EnvelopeEnds
stage_fits base least end (Go to) v = ends_fits base end to v.2 (eqb to.at end) refl
stage_fits base least end (Refused fault) v = tt

-- THE LAW OF AN ENVELOPE: its own row, its inside, and what comes behind it
pub enveloped : (t : Told) (s : List ℕ) (at first end : ℕ) (base : Bool) (n : ℕ) (m : List ℕ) {k left : List ℕ} {r : Stage} {answer : Envelope} → 0 < end → end ≤ length s
    → k ≡ put m n (opening base) 0 at 0 → Ran (source t s end) first (run_at (source t s end) (start base) first (n + 1) k) r (state closed 0 false) left → answer ≡ ended_by base end r
    → EnvelopeOpened t s at first end base n m answer left
enveloped t s at first end base n m {k} {left} {r} h l w a q =
    rw q (record {
      is = λ more.
          opened_closes t more s at first end base n m h
          ∙ ap (λ (x : List ℕ). closes base end (onward_from s more) (run_at (source t s end) (start base) first (n + 1) x)) (sym w)
          ∙ ap (closes base end (onward_from s more)) a.goes
          ∙ stage_closes (source t s end) base first (onward_from s more) left r l a.moved;
      fits = stage_fits base first end r a.moved;
    })
