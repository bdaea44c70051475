-- The public promises: the answer, and the lent memory after the call, for all that is lent; what is lent as bytes holds bytes.
use Rattle.std.specs.Prelude.{ℕ, List, ◌≡◌, T, length}
use Rattle.meaning.specs.Plain.{outcome}
use Rattle.meaning.specs.Figures.{Message, add_answer, add_figures, join_answer, join_figures, report_answer, report_output}
use Rattle.laws_steps.specs.Logic.{are_bytes}
use Rattle.figures.specs.declared.Figured.{Figured}

abbrev pub message : ℕ → List ℕ → Message
message edition bytes = record { edition = edition; bytes = bytes }

pub record AddPromise (edition : ℕ) (input before after : List ℕ) (r : Figured) : Type 0 where
  pub bytes : T (are_bytes input)
  pub answers : outcome r.answer r.place ≡ add_answer before
  pub figures : after ≡ add_figures (message edition input) before

pub record JoinPromise (others before after : List ℕ) (r : Figured) : Type 0 where
  pub answers : outcome r.answer r.place ≡ join_answer before others
  pub figures : after ≡ join_figures before others

pub record ReportPromise (figures before after : List ℕ) (r : Figured) : Type 0 where
  pub answers : outcome r.answer r.place ≡ report_answer figures (length before)
  pub text : after ≡ report_output figures before
