-- What a stage of the reader promises of a value, over the definitions of `meaning`.
-- A stage speaks of places in a slice, `meaning` of the bytes that are left; `from s at end` ties the two.
use Rattle.std.specs.Prelude.{ℕ, zero, suc, ◌+◌, ◌-◌, ◌≤◌, ◌<◌, List, Option, None, Some, Bool, true, false, ◌&&◌, eqb, ◌≡◌, length, get_or}
use Rattle.meaning.specs.Bytes.{Taken, took, failed, Rule, line, note, text_byte, take_text}
use Rattle.meaning.specs.Told.{Told}
use Rattle.meaning.specs.Kinds.{agent_name}
use Rattle.meaning.specs.Editions.{Next, Move, Form, is_quiet, no_code, on◌▸◌▸◌▸◌}
use Rattle.meaning.specs.Reading.{look, none, hit, take_value, reach_back}
use Rattle.laws_steps.specs.From.{from}
use Rattle.table.specs.declared.refusals.Refusal.{Refusal}
use Rattle.table.specs.declared.refusals.Refusal.TheVariants.{EnvelopeEnds}
use Rattle.table.specs.Refusals.{answer_of}
use Rattle.values.specs.declared.text.Rule as declared
use Rattle.values.specs.declared.text.Rule.TheVariants.{Line, Note}
use Rattle.values.specs.declared.Value.{Value}
use Rattle.values.specs.declared.Value.TheVariants.{Is, Refused}

-- a value by its length and the bytes behind it, or the refusal and the bytes left at it
pub data Span : Type 0 where
  spans : ℕ → List ℕ → Span
  misses : ℕ → ℕ → Span

-- the span of a value behind so many of its bytes
abbrev pub span : ℕ → Taken → Span
span before (took v rest) = spans (before + length v) rest
span before (failed refusal left) = misses refusal left

-- "either a value with the place after it, or a refusal": what each case of the enum says
unfoldable pub span_of : List ℕ → ℕ → Value → Span
span_of s end (Is kind start length after) = spans length (from s after end)
span_of s end (Refused fault) = misses (answer_of fault.refusal) (end - fault.at)

-- where a value stands: its row has this kind and begins `back` bytes and its length before the place after it, which is behind `at`
unfoldable pub Stands : ℕ → ℕ → ℕ → ℕ → Value → Type 0
Stands end at kind back (Is k start length after) = (k ≡ kind) × (start + length + back ≡ after) × (at ≤ start) × (at < after) × (after ≤ end)
Stands end at kind back (Refused fault) = fault.at ≤ end

-- a stage's answer for the value that `meaning` takes at a place
pub record Valued (s : List ℕ) (end at kind back : ℕ) (taken : Taken) (answer : Value) : Type 0 where
  pub is : span 0 taken ≡ span_of s end answer
  pub stands : Stands end at kind back answer

-- a move that has a code and a row, and is no agent's
pub record Bears (code kind : ℕ) (form : Form) : Type 0 where
  pub coded : eqb code no_code ≡ false
  pub rowed : is_quiet form ≡ false
  pub flat : eqb kind agent_name ≡ false

-- a stage's answer where a room's moves begin at a code, whichever room is next:
-- "6: a byte is needed at the declared end"; a code that is in no move, with its refusal; or the code's move and its value
pub data Coded (t : Told) (moves : Next → List Move) (strange : ℕ) (s : List ℕ) (end at : ℕ) : Value → Type 0 where
  ended : at ≡ end → Coded t moves strange s end at (Refused (record { refusal = EnvelopeEnds; at = at }))
  unknown : {refusal : Refusal} → answer_of refusal ≡ strange → at < end → ((n : Next) → look (get_or s at 0) (moves n) ≡ none) → Coded t moves strange s end at (Refused (record { refusal = refusal; at = at }))
  valued : {answer : Value} (kind : ℕ) (form : Form) → at < end → Bears (get_or s at 0) kind form
      → ((n : Next) → look (get_or s at 0) (moves n) ≡ hit (on get_or s at 0 ▸ kind ▸ form ▸ n))
      → Valued s end at kind (reach_back form) (take_value t form (end - at) (get_or s at 0) (from s (at + 1) end)) answer
      → Coded t moves strange s end at answer

-- what a stage asks: a place up to the declared end, which is in the input
pub record Inside (s : List ℕ) (end at : ℕ) : Type 0 where
  pub whole : end ≤ length s
  pub before : at ≤ end

abbrev pub rule_of : declared.Rule → Rule
rule_of Line = line
rule_of Note = note

-- a place that a text goes past: the text is the same from there on, behind the bytes passed
pub record Skipped (rule : Rule) (s : List ℕ) (end at place : ℕ) : Type 0 where
  pub inside : at ≤ place
  pub before : place ≤ end
  pub is : span 0 (take_text rule (from s at end)) ≡ span (place - at) (take_text rule (from s place end))

-- the first place whose byte the rule does not allow, or the end
pub record Run (rule : Rule) (s : List ℕ) (end at place : ℕ) : Type 0 where
  pub skipped : Skipped rule s end at place
  pub stops : place < end → text_byte rule (get_or s place 0) ≡ false

-- the first place whose byte is of no line, or the end; what stands before it every rule allows
pub record LineRun (s : List ℕ) (end at place : ℕ) : Type 0 where
  pub skipped : (rule : Rule) → Skipped rule s end at place
  pub stops : place < end → text_byte line (get_or s place 0) ≡ false

-- the rule of a note, or of a line
abbrev pub rule_by : Bool → Rule
rule_by true = note
rule_by false = line

-- whether the rule allows so many bytes
unfoldable pub all_text : Rule → List ℕ → ℕ → ℕ → Bool
all_text rule s at zero = true
all_text rule s at (suc n) = all_text rule s at n && text_byte rule (get_or s (at + n) 0)

-- which of eight bytes is the first that is of no line
abbrev pub FirstBelow : List ℕ → ℕ → Option ℕ → Type 0
FirstBelow s at None = all_text line s at 8 ≡ true
FirstBelow s at (Some n) = (n < 8) × (all_text line s at n ≡ true) × (text_byte line (get_or s (at + n) 0) ≡ false)

-- The same of a slice that is an envelope up to its declared end: where the slice ends

-- the bytes from a place on
abbrev pub rest : List ℕ → ℕ → List ℕ
rest s at = from s at (length s)

abbrev pub Within : List ℕ → ℕ → Type 0
Within s at = Inside s (length s) at

abbrev pub ValuedAt : List ℕ → ℕ → ℕ → ℕ → Taken → Value → Type 0
ValuedAt s at kind back taken answer = Valued s (length s) at kind back taken answer

abbrev pub CodedAt : Told → (Next → List Move) → ℕ → List ℕ → ℕ → Value → Type 0
CodedAt t moves strange s at answer = Coded t moves strange s (length s) at answer

abbrev pub SkippedAt : Rule → List ℕ → ℕ → ℕ → Type 0
SkippedAt rule s at place = Skipped rule s (length s) at place

abbrev pub RunAt : Rule → List ℕ → ℕ → ℕ → Type 0
RunAt rule s at place = Run rule s (length s) at place

abbrev pub LineRunAt : List ℕ → ℕ → ℕ → Type 0
LineRunAt s at place = LineRun s (length s) at place
