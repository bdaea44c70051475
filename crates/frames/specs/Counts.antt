-- What the count of a header's envelopes promises.
use Rattle.std.specs.Prelude.{ℕ, List, ◌≡◌, length}
use Rattle.meaning.specs.Told.{Told}
use Rattle.meaning.specs.Headers.{Placed, accepted, envelopes_most, header}
use Rattle.meaning.specs.Memory.{words_read}

-- an accepted header has a word for each of its envelopes
pub record EnvelopesCounted (s : List ℕ) (r : ℕ) : Type 0 where
  pub is : (t : Told) (place : ℕ) (rows : List Placed) → header envelopes_most t 0 s ≡ accepted place rows → r ≡ length (words_read rows)
