-- One envelope, from its frame and what was read in it.
use Prim.Native.Nat.{ℕ, ◌+◌, ◌-◌, ◌≤◌}
use mathlib.Core.List.{List}
use mathlib.Core.Bool.{Bool}
use mathlib.Core.Path.{◌≡◌, ap, ◌∙◌}
use native.Mathlib.Omega.{arith}
use lib.ListN.{length}
use Rattle.meaning.specs.Told.{Told}
use Rattle.meaning.specs.Headers.{Answer, envelope_most, header}
use Rattle.laws_steps.specs.Finishing.{finish}
use Rattle.table.specs.declared.answers.Fault.{Fault}
use Rattle.frames.specs.declared.frame.Frame.{Frame}
use Rattle.frames.specs.declared.frame.Frame.TheVariants.{Opens, Refused}
use Rattle.read_envelopes.specs.declared.envelope.Envelope.{Envelope}
use Rattle.read_envelopes.specs.declared.envelope.Envelope.TheVariants as answer
use Rattle.frames.specs.Frames.{framed, FrameFits, MayCome, HeaderFramed}
use Rattle.read_envelopes.specs.Envelopes.{behind_envelope, EnvelopeEnds, EnvelopeFits, OthersCome, EnvelopeOpened, EnvelopeRead}

ended_fits : (s : List ℕ) (at end : ℕ) (r : Envelope) → at + 3 ≤ end → end ≤ length s → end ≤ at + envelope_most → EnvelopeEnds end r → EnvelopeFits s at r
unfolding EnvelopeEnds EnvelopeFits
ended_fits s at end (answer.Base to) h l k a = (omega arith, a.1, omega arith)
ended_fits s at end (answer.Extension to) h l k a = (omega arith, omega arith, a.1, omega arith)
ended_fits s at end (answer.Refused fault) h l k a = tt

others_come : (left : ℕ) (r : Envelope) → 1 ≤ left → OthersCome left r
unfolding OthersCome
others_come left (answer.Base to) h = tt
others_come left (answer.Extension to) h = h
others_come left (answer.Refused fault) h = tt

module _ {s : List ℕ} {at left : ℕ} {f : Frame} where
  pub opens_fit : {base : Bool} {first end : ℕ} → f ≡ Opens base first end → HeaderFramed s at left f → (at + 3 ≤ first) × (first ≤ end) × (end ≤ length s) × (end ≤ at + envelope_most) × (1 ≤ left)
  unfolding FrameFits MayCome
  opens_fit h a =
      let fits = rw h at a.fits in
      let more = rw h at a.more in
      (fits.0, fits.1, fits.2, fits.3, more)

  pub envelope_refused : (t : Told) (n : ℕ) (m : List ℕ) {kept : List ℕ} {fault : Fault} → f ≡ Refused fault → HeaderFramed s at left f → EnvelopeRead t s left at n m (answer.Refused fault) kept
  unfolding framed behind_envelope EnvelopeFits OthersCome
  envelope_refused t n m h a =
      let is = rw h at (a.is t) in
      record { is = ap (λ (x : Answer). finish x n m) is; fits = tt; more = tt }

  pub envelope_read : (t : Told) (n : ℕ) (m : List ℕ) {kept : List ℕ} {base : Bool} {first end : ℕ} {r : Envelope} → f ≡ Opens base first end → HeaderFramed s at left f
      → EnvelopeOpened t s at first end base n m r kept → EnvelopeRead t s left at n m r kept
  unfolding framed
  envelope_read t n m {end = end} {r = r} h a b =
      let (begins, before, whole, most, comes) = opens_fit h a in
      let is = rw h at (a.is t) in
      record { is = ap (λ (x : Answer). finish x n m) is ∙ b.is (header (left - 1) t); fits = ended_fits s at end r (omega arith) whole most b.fits; more = others_come left r comes }
