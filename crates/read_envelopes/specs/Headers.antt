-- What the stage of a whole header promises.
use Rattle.std.specs.Prelude.{ℕ, ◌+◌, ◌≤◌, List, ◌≡◌, length}
use Rattle.meaning.specs.Told.{Told}
use Rattle.meaning.specs.Headers.{envelope_most, envelopes_most, header}
use Rattle.laws_steps.specs.Pouring.{Filling, filled, stopped, header_most}
use Rattle.laws_steps.specs.Finishing.{finish}
use Rattle.table.specs.Refusals.{answer_of}
use Rattle.table.specs.declared.answers.Stage.{Stage}
use Rattle.table.specs.declared.answers.Stage.TheVariants.{Go, Refused}

-- what each case of a header's stage says, with the memory m
unfoldable pub filling_of : List ℕ → Stage → Filling
filling_of m (Go to) = filled to.at to.rows m
filling_of m (Refused fault) = stopped (answer_of fault.refusal) fault.at

-- the place is in the input, and the rows are no more than a header can have bytes
unfoldable pub PlaceFits : List ℕ → Stage → Type 0
PlaceFits s (Go to) = (to.at ≤ length s) × (to.rows ≤ header_most + envelope_most)
PlaceFits s (Refused fault) = Unit {0}

pub record HeaderRead (t : Told) (s : List ℕ) (m : List ℕ) (r : Stage) (left : List ℕ) : Type 0 where
  pub is : finish (header envelopes_most t 0 s) 0 m ≡ filling_of left r
  pub fits : PlaceFits s r
