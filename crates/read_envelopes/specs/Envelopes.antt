-- What the stages of one envelope promise.
use Rattle.std.specs.Prelude.{ℕ, ◌+◌, ◌-◌, ◌≤◌, List, Bool, ◌≡◌, eqb, length}
use Rattle.meaning.specs.Basics.{pick}
use Rattle.meaning.specs.Told.{Told}
use Rattle.meaning.specs.Headers.{envelope_most, Onward}
use Rattle.laws_steps.specs.Pouring.{Filling, filled, stopped}
use Rattle.laws_steps.specs.Finishing.{finish, onward_from, header_at, opened}
use Rattle.table.specs.declared.answers.Reached.{Reached}
use Rattle.table.specs.declared.answers.Stage.{Stage}
use Rattle.table.specs.declared.answers.Stage.TheVariants.{Go, Refused}
use Rattle.table.specs.declared.refusals.Refusal.TheVariants.{ClosedEarly}
use Rattle.table.specs.Refusals.{answer_of}
use Rattle.read_envelopes.specs.declared.envelope.Envelope.{Envelope}
use Rattle.read_envelopes.specs.declared.envelope.Envelope.TheVariants as envelope

-- what an envelope's end answers, by where its inside ended
abbrev pub closed_by : Bool → ℕ → Reached → Envelope
closed_by base end to = pick (eqb to.at end) (pick base (envelope.Base to) (envelope.Extension to)) (envelope.Refused (record { refusal = ClosedEarly; at = to.at }))

abbrev pub ended_by : Bool → ℕ → Stage → Envelope
ended_by base end (Go to) = closed_by base end to
ended_by base end (Refused fault) = envelope.Refused fault

-- what each case of an envelope says
unfoldable pub behind_envelope : (ℕ → ℕ → List ℕ → Filling) → List ℕ → Envelope → Filling
behind_envelope more m (envelope.Base to) = filled to.at to.rows m
behind_envelope more m (envelope.Extension to) = more to.at to.rows m
behind_envelope more m (envelope.Refused fault) = stopped (answer_of fault.refusal) fault.at

unfoldable pub EnvelopeEnds : ℕ → Envelope → Type 0
EnvelopeEnds end (envelope.Base to) = (to.at ≡ end) × (to.rows ≤ to.at)
EnvelopeEnds end (envelope.Extension to) = (to.at ≡ end) × (to.rows ≤ to.at)
EnvelopeEnds end (envelope.Refused fault) = Unit {0}

unfoldable pub EnvelopeFits : List ℕ → ℕ → Envelope → Type 0
EnvelopeFits s at (envelope.Base to) = (to.at ≤ length s) × (to.rows ≤ to.at) × (to.at ≤ at + envelope_most)
EnvelopeFits s at (envelope.Extension to) = (at + 3 ≤ to.at) × (to.at ≤ length s) × (to.rows ≤ to.at) × (to.at ≤ at + envelope_most)
EnvelopeFits s at (envelope.Refused fault) = Unit {0}

-- .. and only an extension has others behind it
unfoldable pub OthersCome : ℕ → Envelope → Type 0
OthersCome left (envelope.Base to) = Unit {0}
OthersCome left (envelope.Extension to) = 1 ≤ left
OthersCome left (envelope.Refused fault) = Unit {0}

-- what an envelope whose frame is read answers, for any way to go on
pub record EnvelopeOpened (t : Told) (s : List ℕ) (at first end : ℕ) (base : Bool) (n : ℕ) (m : List ℕ) (r : Envelope) (left : List ℕ) : Type 0 where
  pub is : (more : Onward) → finish (opened t more s at base first end) n m ≡ behind_envelope (onward_from s more) left r
  pub fits : EnvelopeEnds end r

-- what the envelope at a place answers
pub record EnvelopeRead (t : Told) (s : List ℕ) (left at n : ℕ) (m : List ℕ) (r : Envelope) (kept : List ℕ) : Type 0 where
  pub is : header_at t s left at n m ≡ behind_envelope (header_at t s (left - 1)) kept r
  pub fits : EnvelopeFits s at r
  pub more : OthersCome left r
