-- `texts::texts`: each turn reads one line and is in the same state again; the 01 leads out.
use Rattle.std.specs.Prelude.{length}
use Rattle.std.proofs.Common.{ℕ, ◌+◌, ◌≡◌, List, ap, ◌∙◌, arith}
use native.Mathlib.Nat.{le_refl}
use mathlib.Core.Bool.{false}
use Rattle.meaning.specs.Bytes.{line}
use Rattle.meaning.specs.Editions.{State, go, parameters, state}
use Rattle.meaning.specs.Told.{B, Told, told}
use Rattle.laws_steps.specs.Pouring.{Filling, Peeked, not_deep, run_at, source, text_at}
use Rattle.laws_steps.specs.ReadAt.{uncoded}
use Rattle.laws_steps.specs.Shapes.{Texts}
use Rattle.table.specs.declared.answers.Reached.{Reached}
use Rattle.table.specs.declared.answers.Stage.{Stage}
use Rattle.read_rows.specs.Joining.{arrives, begun, closes, found_is, handed, moved_to, not_found, went}
use Rattle.read_rows.specs.Stages.{Ran, TextRead, found}
use Rattle.read_rows.proofs.texts.texts.Goals as goal

-- one more line
once_more : {t : Told} {s : List ℕ} {end b kind level : ℕ} {r : Stage} {left : List ℕ} {q d : State} {o : Filling} (here : Reached) (rows : List ℕ) (h : Texts t q d kind level) → o ≡ run_at (source t s end) q here.at here.rows rows → Peeked s end here.at b → (b ≡ 1 → ⊥)
    → TextRead t s end kind line level (go h.again q) here.at here.rows rows r (go h.again q) left → Ran (source t s end) (here.at + 1) o r q left
once_more {t} {s} {end} {b} {kind} {q = q} here rows h same p more text =
    let i = source t s end in
    arrives h.stays
    (begun (le_refl _)
    (same
    ∙ uncoded i here.at here.rows rows b p q kind line h.again (h.more b more) (not_deep q kind h.flat) h.ajar
    ∙ ap (λ (x : ℕ). text_at i kind line x (go h.again q) here.at here.rows rows) h.deep)
    text)

pub returns-then-eq : goal.returns-then-eq
returns-then-eq c t q d h =
    let l = c.loop-here in
    let is = found_is c.peek.result 1 c.eq.ensures c.if-eq.true in
    closes (source t c.args.s.now (length c.args.s.now)) q l.here l.rows (found c.peek.result) c.peek.ensures is h.stop h.leads c.passed.ensures.at c.passed.ensures.rows (l.invariant.4 t q d h) l.invariant.0 l.invariant.2

pub returns-in_default : goal.returns-in_default
returns-in_default c t q d h =
    let l = c.loop-here in
    handed c.in_default.is (once_more l.here l.rows h (l.invariant.4 t q d h) c.peek.ensures (not_found c.peek.result 1 (omega arith) c.eq.ensures c.if-eq.false) (c.text-r.ensures t (go h.again q)))

pub loop-here-smaller : goal.loop-here-smaller
loop-here-smaller c =
    let u = moved_to c.in-Go.is (c.text-r.ensures (told B) (state parameters 0 false)) in
    omega arith

pub loop-here-preserved : goal.loop-here-preserved
loop-here-preserved c =
    let l = c.loop-here in
    let u = moved_to c.in-Go.is (c.text-r.ensures (told B) (state parameters 0 false)) in (
      omega arith,
      omega arith,
      omega arith,
      c.text-r.auto.rows ∙ l.invariant.3,
      λ t q d h. went c.in-Go.is (once_more l.here l.rows h (l.invariant.4 t q d h) c.peek.ensures (not_found c.peek.result 1 (omega arith) c.eq.ensures c.if-eq.false) (c.text-r.ensures t (go h.again q))),
    )
