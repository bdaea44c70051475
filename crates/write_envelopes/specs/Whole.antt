-- From the insides of envelopes to `meaning`'s plan, and what the check over all rows answers.
use Rattle.std.specs.Prelude.{ℕ, zero, suc, ◌+◌, ◌-◌, ◌*◌, ◌≤◌, List, [], ◌∷◌, ◌++◌, Bool, true, false, ◌≡◌, length, take, drop, Option, None, Some, Result, Ok, Err}
use Rattle.meaning.specs.Basics.{pick}
use Rattle.meaning.specs.Told.{Edition}
use Rattle.meaning.specs.Headers.{start, envelope_most, envelopes_most}
use Rattle.meaning.specs.Writing.{Cell, cell, broken, Opens, envelope_row, inner_row, opens_of, Envelope, Plan, stuck, plan, new_plan, plan_of, whole_plan, envelope_size, within_limit, wrap, envelope_length, header_of, Limit, fine, exceeds, limits}
use Rattle.meaning.specs.Memory.{room_of}
use Rattle.write_rows.specs.Laying.{capped}
use Rattle.write_rows.specs.Bodies.{Body, halt, body}
use Rattle.laws_steps.specs.Rows.{cells_at}
use Rattle.write_rows.specs.declared.advance.Misfit.{Misfit}
use Rattle.write_rows.specs.declared.lent.Table.{Table}
use Rattle.write_inside.specs.declared.body.Inside.{Inside}
use Rattle.write_envelopes.specs.declared.measure.Sizes.{Sizes}
use Rattle.table.specs.declared.answers.Fault.{Fault}
use Rattle.table.specs.Refusals.{answer_of}

-- what follows the inside of an envelope; base: it was the base
abbrev pub open_plan : ℕ → List ℕ → (Bool → Plan) → Opens → Plan
open_plan j bytes f inner_row = stuck j
open_plan j bytes f (envelope_row c) = new_plan j c bytes (f c)

abbrev pub edge : Edition → Bool → List ℕ → ℕ → List Cell → Plan
edge e true bytes j [] = plan bytes []
edge e false bytes j [] = stuck j
edge e base bytes j (broken ∷ cells) = stuck j
edge e true bytes j (cell row ∷ cells) = stuck j
edge e false bytes j (cell row ∷ cells) = open_plan j bytes (λ c. plan_of e cells (suc j) c (start c)) (opens_of row)

abbrev pub from_body : Edition → Bool → Body → Plan
from_body e base (halt j) = stuck j
from_body e base (body bytes j cells) = edge e base bytes j cells

-- the check: the answer by what was seen so far. n: envelopes that may still come; t: bytes so far; o: the first envelope past a limit
pub data Verdict : Type 0 where
  bad : ℕ → ℕ → Verdict
  needs : ℕ → Verdict

abbrev pub first_over : Limit → Limit → Limit
first_over fine p = p
first_over (exceeds i) p = exceeds i

abbrev pub verdict_of : ℕ → Limit → Verdict
verdict_of t fine = needs t
verdict_of t (exceeds i) = bad 5 i

abbrev pub verdict : ℕ → ℕ → Limit → Plan → Verdict
verdict n t o (stuck i) = bad 15 i
verdict n t o (plan bytes vs) = verdict_of (t + length (header_of vs)) (first_over o (limits n vs))

-- one envelope more: what its size says
abbrev pub sized : ℕ → ℕ → ℕ → Limit
sized zero i k = exceeds i
sized (suc n) i k = pick (within_limit k) fine (exceeds i)

-- the verdict where the base ends before these cells
abbrev pub end_verdict : List Cell → ℕ → ℕ → Limit → Verdict
end_verdict [] j t o = verdict_of t o
end_verdict (c ∷ cells) j t o = bad 15 j

-- a body that was measured
abbrev pub Measured : Body → List ℕ → List ℕ → Result Inside Misfit → Type 0
Measured (halt j) pool rows (Err misfit) = misfit.row ≡ j
Measured (halt j) pool rows (Ok inside) = ⊥
Measured (body bytes j cells) pool rows (Err misfit) = ⊥
Measured (body bytes j cells) pool rows (Ok inside) = (inside.row ≡ j) × (inside.row ≤ room_of rows) × (cells ≡ cells_at pool rows inside.row) × (inside.many ≡ capped (length bytes))

-- what the code's answer says
abbrev pub verdict_is : Result ℕ Fault → Verdict
verdict_is (Ok t) = needs t
verdict_is (Err fault) = bad (answer_of fault.refusal) fault.at

abbrev pub limit_of : Option ℕ → Limit
limit_of (Some i) = exceeds i
limit_of None = fine

abbrev pub envelopes_of : Plan → List Envelope
envelopes_of (stuck i) = []
envelopes_of (plan bytes vs) = vs

-- the bytes of the envelopes of a plan
abbrev pub bytes_of_plan : Plan → List ℕ
bytes_of_plan p = header_of (envelopes_of p)

pub record OneMore (t : Sizes) (i many : ℕ) (r : Sizes) : Type 0 where
  pub limit : limit_of r.over ≡ first_over (limit_of t.over) (sized t.left i many)
  pub less : r.left ≡ t.left - 1
  pub sum : r.over ≡ None → r.total ≡ t.total + envelope_size many
  pub bound : r.total + r.left * envelope_most ≤ envelopes_most * envelope_most

-- how long each envelope's inside is
abbrev pub insides : List Envelope → List ℕ
insides [] = []
insides (v ∷ vs) = length v.body ∷ insides vs

abbrev pub insides_of : Plan → List ℕ
insides_of p = insides (envelopes_of p)

-- these numbers stand at the front of those
abbrev pub Begins : List ℕ → List ℕ → Type 0
Begins front all = (behind : List ℕ) × (all ≡ front ++ behind)

-- what the check promises: the verdict, and if it is passed the envelopes' lengths
pub record CheckedAs (p : Plan) (r : Result ℕ Fault) (lengths : List ℕ) : Type 0 where
  pub is : verdict_is r ≡ verdict envelopes_most 0 fine p
  pub noted : (t : ℕ) → verdict envelopes_most 0 fine p ≡ needs t → Begins (insides_of p) lengths

-- what the pass that writes asks: the check was passed, and its bytes have room
pub record Writable (edition : Edition) (rows pool lengths output : List ℕ) : Type 0 where
  pub bytes_needed : ℕ
  pub passed : verdict envelopes_most 0 fine (whole_plan edition (cells_at pool rows 0)) ≡ needs bytes_needed
  pub noted : Begins (insides_of (whole_plan edition (cells_at pool rows 0))) lengths
  pub long : length lengths ≡ envelopes_most
  pub room : bytes_needed ≤ length output

-- what writing an envelope asks: row `from` is one or the end, its inside was measured, and the output has room for it
pub record EnvelopeRequires (rows : List ℕ) (from many : ℕ) (output : List ℕ) (at : ℕ) : Type 0 where
  pub inside : from ≤ room_of rows
  pub small : many ≤ envelope_most
  pub room : at + envelope_size many ≤ length output

-- the inside is as it was measured, and the envelope's bytes are laid from `at` on
pub record EnvelopeWritten (b : Body) (pool rows : List ℕ) (base : Bool) (many : ℕ) (before : List ℕ) (at : ℕ) (after : List ℕ) (r : Result Inside Misfit) : Type 0 where
  pub inside : Measured b pool rows r
  pub laid : (bytes : List ℕ) (j : ℕ) (cells : List Cell) → b ≡ body bytes j cells → length bytes ≡ many → after ≡ take at before ++ (wrap base bytes ++ drop (at + envelope_size many) before)

-- identifier and length of an envelope with so many bytes inside
abbrev pub identifier_of : Bool → ℕ
identifier_of base = pick base 0xfe 0xfd

abbrev pub head_of : Bool → ℕ → List ℕ
head_of base many = identifier_of base ∷ envelope_length many

-- The same of a table that is lent

abbrev pub MeasuredAt : Body → Table → Result Inside Misfit → Type 0
MeasuredAt b table r = Measured b table.pool.now table.rows.now r

abbrev pub EnvelopeReady : Table → ℕ → ℕ → List ℕ → ℕ → Type 0
EnvelopeReady table from many output at = EnvelopeRequires table.rows.now from many output at

abbrev pub EnvelopeWrittenAt : Body → Table → Bool → ℕ → List ℕ → ℕ → List ℕ → Result Inside Misfit → Type 0
EnvelopeWrittenAt b table base many before at after r = EnvelopeWritten b table.pool.now table.rows.now base many before at after r

abbrev pub WritableAt : Edition → Table → List ℕ → List ℕ → Type 0
WritableAt edition table lengths output = Writable edition table.rows.now table.pool.now lengths output
