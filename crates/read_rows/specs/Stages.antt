-- What the stages of the reader promise of the inside of an envelope: one equation, over the definitions of `meaning`.
-- Reading from where a stage began, with its rows stored in lent memory, is reading on from what the stage answered.
use Rattle.std.specs.Prelude.{length, ℕ, ◌+◌, ◌≤◌, List, Option, None, Some, ◌≡◌, ltb}
use Rattle.meaning.specs.Basics.{pick}
use Rattle.meaning.specs.Bytes.{Rule}
use Rattle.meaning.specs.Kinds.{payload_length}
use Rattle.meaning.specs.Told.{Told}
use Rattle.meaning.specs.Editions.{State}
use Rattle.laws_steps.specs.Rows.{put}
use Rattle.laws_steps.specs.Pouring.{Filling, stopped, Source, source, Ready, Peeked, run_at, text_at, number_at, header_most}
use Rattle.values.specs.declared.Value.{Value}
use Rattle.values.specs.declared.Value.TheVariants as value
use Rattle.table.specs.declared.answers.Reached.{Reached}
use Rattle.table.specs.declared.answers.Stage.{Stage}
use Rattle.table.specs.declared.answers.Stage.TheVariants.{Go, Refused}
use Rattle.table.specs.declared.refusals.Refusal.TheVariants.{CodeWrong, EnvelopeEnds}
use Rattle.table.specs.Refusals.{answer_of}

-- "either a value with the place after it, or a refusal": what each case of the enum says, in the state q with the memory m
unfoldable pub after : Source → State → List ℕ → Stage → Filling
after i q m (Go to) = run_at i q to.at to.rows m
after i q m (Refused fault) = stopped (answer_of fault.refusal) fault.at

-- a stage goes forward, not past the declared end, and has no more rows than bytes
unfoldable pub Moved : ℕ → ℕ → Stage → Type 0
Moved least end (Go to) = (least ≤ to.at) × (to.at ≤ end) × (to.rows ≤ to.at)
Moved least end (Refused fault) = Unit {0}

-- what a stage answers: from the filling o of its beginning, reading goes on as from r, in the state q with the memory m
pub record Ran (i : Source) (least : ℕ) (o : Filling) (r : Stage) (q : State) (m : List ℕ) : Type 0 where
  pub goes : o ≡ after i q m r
  pub moved : Moved least i.end r

-- .. from the place `at` on, in the state q with n rows in the memory m; to the state d with the memory `left`
abbrev pub StateRead : Told → List ℕ → ℕ → State → ℕ → ℕ → List ℕ → Stage → State → List ℕ → Type 0
StateRead t s end q at n m r d left = Ran (source t s end) at (run_at (source t s end) q at n m) r d left

-- .. from the place `at` on, where a text by this rule stands, whose row has this kind and level
abbrev pub TextRead : Told → List ℕ → ℕ → ℕ → Rule → ℕ → State → ℕ → ℕ → List ℕ → Stage → State → List ℕ → Type 0
TextRead t s end kind rule level q at n m r d left = Ran (source t s end) (at + 1) (text_at (source t s end) kind rule level q at n m) r d left

-- .. where a payload length stands
abbrev pub NumberRead : Told → List ℕ → ℕ → State → ℕ → ℕ → List ℕ → Stage → State → List ℕ → Type 0
NumberRead t s end q at n m r d left = Ran (source t s end) (at + 1) (number_at (source t s end) payload_length 0 q at n m) r d left

-- The same of a slice that is an envelope up to its declared end, from what is reached on

abbrev pub ReadyAt : List ℕ → Reached → Type 0
ReadyAt s from = Ready s (length s) from.at from.rows

abbrev pub StateReadAt : Told → List ℕ → State → Reached → List ℕ → Stage → State → List ℕ → Type 0
StateReadAt t s q from m r d left = StateRead t s (length s) q from.at from.rows m r d left

abbrev pub TextReadAt : Told → List ℕ → ℕ → Rule → ℕ → State → Reached → List ℕ → Stage → State → List ℕ → Type 0
TextReadAt t s kind rule level q from m r d left = TextRead t s (length s) kind rule level q from.at from.rows m r d left

abbrev pub NumberReadAt : Told → List ℕ → State → Reached → List ℕ → Stage → State → List ℕ → Type 0
NumberReadAt t s q from m r d left = NumberRead t s (length s) q from.at from.rows m r d left

abbrev pub PeekedAt : List ℕ → ℕ → ℕ → Type 0
PeekedAt s at b = Peeked s (length s) at b

-- what a look finds, as the laws have it: 256 at the declared end
abbrev pub found : Option ℕ → ℕ
found None = 256
found (Some b) = b

-- "6: a byte is needed at the declared end"; "7: code not allowed here"
abbrev pub fault_of : ℕ → ℕ → Stage
fault_of b at = pick (ltb b 256) (Refused (record { refusal = CodeWrong; at = at })) (Refused (record { refusal = EnvelopeEnds; at = at }))

-- A value, kept as a row

abbrev pub goes_on : Value → ℕ → Stage
goes_on (value.Is kind start len after) n = Go (record { at = after; rows = n + 1 })
goes_on (value.Refused fault) n = Refused fault

abbrev pub keeps : Value → ℕ → ℕ → List ℕ → List ℕ
keeps (value.Is kind start len after) n level m = put m n kind level start len
keeps (value.Refused fault) n level m = m

-- numbers of a row that fit u32
unfoldable pub Fits : Value → Type 0
Fits (value.Is kind start len after) = (start ≤ header_most) × (len ≤ header_most)
Fits (value.Refused fault) = Unit {0}
