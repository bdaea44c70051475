-- Order 2: a table of one extension envelope: what its check answers, and what laying it asks.
use Rattle.std.specs.Prelude.{ℕ, ◌≤◌, List, false, ◌≡◌, length}
use Rattle.meaning.specs.Told.{Edition}
use Rattle.meaning.specs.Headers.{envelope_most}
use Rattle.meaning.specs.Writing.{Envelope, Plan, stuck, plan, envelope_size, wrap}
use Rattle.meaning.specs.Memory.{laid_over}
use Rattle.meaning.specs.Relay.{extension_plan}
use Rattle.write_rows.specs.Laying.{capped}
use Rattle.laws_steps.specs.Rows.{cells_at}
use Rattle.write_envelopes.specs.Whole.{Verdict, bad, needs}

abbrev pub extension_verdict : Plan → Verdict
extension_verdict (stuck i) = bad 15 i
extension_verdict (plan bytes vs) = needs (capped (length bytes))

-- the rows were checked, and the output has room for the envelope
pub record ExtensionFits (edition : Edition) (rows pool : List ℕ) (many : ℕ) (output : List ℕ) : Type 0 where
  pub body : List ℕ
  pub envelopes : List Envelope
  pub planned : extension_plan edition (cells_at pool rows 0) ≡ plan body envelopes
  pub long : length body ≡ many
  pub small : many ≤ envelope_most
  pub room : envelope_size many ≤ length output

-- the envelope lies over the output's front
abbrev pub ExtensionLaid : Edition → List ℕ → List ℕ → List ℕ → List ℕ → Type 0
ExtensionLaid edition rows pool before after =
    (bytes : List ℕ) (vs : List Envelope) → extension_plan edition (cells_at pool rows 0) ≡ plan bytes vs → after ≡ laid_over before (wrap false bytes)
