-- What the stages of parameters promise.
use Rattle.std.specs.Prelude.{length, ℕ, ◌+◌, List, false}
use Rattle.meaning.specs.Told.{Told}
use Rattle.meaning.specs.Editions.{parameters, State, state}
use Rattle.laws_steps.specs.Rows.{put}
use Rattle.laws_steps.specs.Pouring.{source, run_at}
use Rattle.table.specs.declared.answers.Reached.{Reached}
use Rattle.table.specs.declared.answers.Stage.{Stage}
use Rattle.read_rows.specs.Stages.{Ran}

-- a stage behind an opening row at the place `at`
abbrev pub OpenedRead : Told → List ℕ → ℕ → ℕ → State → ℕ → ℕ → List ℕ → Stage → State → List ℕ → Type 0
OpenedRead t s end kind q at n m r d left = Ran (source t s end) (at + 1) (run_at (source t s end) q (at + 1) (n + 1) (put m n kind 0 at 0)) r d left

-- a parameter, with one byte at least
abbrev pub ParameterRead : Told → List ℕ → ℕ → ℕ → ℕ → List ℕ → Stage → List ℕ → Type 0
ParameterRead t s end at n m r left = Ran (source t s end) (at + 1) (run_at (source t s end) (state parameters 0 false) at n m) r (state parameters 0 false) left

-- The same of a slice that is an envelope up to its declared end, from what is reached on

abbrev pub OpenedReadAt : Told → List ℕ → ℕ → State → Reached → List ℕ → Stage → State → List ℕ → Type 0
OpenedReadAt t s kind q from m r d left = OpenedRead t s (length s) kind q from.at from.rows m r d left

abbrev pub ParameterReadAt : Told → List ℕ → Reached → List ℕ → Stage → List ℕ → Type 0
ParameterReadAt t s from m r left = ParameterRead t s (length s) from.at from.rows m r left
