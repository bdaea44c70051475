-- One turn of the loop over the envelopes: the header ends, or goes on behind an extension.
use Prim.Native.Nat.{ℕ, ◌+◌, ◌-◌, ◌≤◌}
use mathlib.Core.List.{List}
use mathlib.Core.Path.{◌≡◌, ◌∙◌}
use lib.ListN.{length}
use Rattle.meaning.specs.Told.{Told}
use Rattle.meaning.specs.Headers.{envelope_most, envelopes_most, header}
use native.Mathlib.Omega.{arith}
use Rattle.laws_steps.specs.Pouring.{Filling, header_most}
use Rattle.laws_steps.specs.Finishing.{finish, header_at}
use Rattle.table.specs.declared.answers.Fault.{Fault}
use Rattle.table.specs.declared.answers.Reached.{Reached}
use Rattle.table.specs.declared.answers.Stage.TheVariants.{Go, Refused}
use Rattle.read_envelopes.specs.declared.envelope.Envelope.{Envelope}
use Rattle.read_envelopes.specs.declared.envelope.Envelope.TheVariants as envelope
use Rattle.read_envelopes.specs.Envelopes.{behind_envelope, EnvelopeFits, OthersCome, EnvelopeRead}
use Rattle.read_envelopes.specs.Headers.{filling_of, PlaceFits, HeaderRead}

module _ {t : Told} {s : List ℕ} {left at n : ℕ} {m kept : List ℕ} {r : Envelope} where
  pub extension_fits : {to : Reached} → r ≡ envelope.Extension to → EnvelopeRead t s left at n m r kept → (at + 3 ≤ to.at) × (to.at ≤ length s) × (to.rows ≤ to.at) × (to.at ≤ at + envelope_most) × (1 ≤ left)
  unfolding EnvelopeFits OthersCome
  extension_fits h a =
      let fits = rw h at a.fits in
      let more = rw h at a.more in
      (fits.0, fits.1, fits.2, fits.3, more)

  pub header_onward : {o : Filling} {to : Reached} → r ≡ envelope.Extension to → o ≡ header_at t s left at n m → EnvelopeRead t s left at n m r kept → o ≡ header_at t s (left - 1) to.at to.rows kept
  unfolding behind_envelope
  header_onward h q a = let is = rw h at a.is in q ∙ is

  module _ {before : List ℕ} where
    pub header_refused : {fault : Fault} → r ≡ envelope.Refused fault → finish (header envelopes_most t 0 s) 0 before ≡ header_at t s left at n m → EnvelopeRead t s left at n m r kept → HeaderRead t s before (Refused fault) kept
    unfolding behind_envelope filling_of PlaceFits
    header_refused h q a = let is = rw h at a.is in record { is = q ∙ is; fits = tt }

    pub header_based : {to : Reached} → at ≤ header_most → r ≡ envelope.Base to → finish (header envelopes_most t 0 s) 0 before ≡ header_at t s left at n m → EnvelopeRead t s left at n m r kept → HeaderRead t s before (Go to) kept
    unfolding behind_envelope EnvelopeFits filling_of PlaceFits
    header_based few h q a =
        let is = rw h at a.is in
        let fits = rw h at a.fits in
        record { is = q ∙ is; fits = (fits.0, omega (arith, fits.1, fits.2)) }
