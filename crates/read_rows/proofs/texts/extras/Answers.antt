-- `texts::extras`: each turn reads one extra and is in the same state again; the 01 leads out, any other byte is refused.
use Rattle.std.specs.Prelude.{length}
use Rattle.std.proofs.Common.{ℕ, ◌+◌, ◌<◌, ◌≡◌, List, ap, ◌∙◌, refl, arith}
use mathlib.Core.Bool.{true}
use mathlib.Core.Path.{sym}
use Rattle.meaning.specs.Bytes.{line}
use Rattle.meaning.specs.Editions.{State, after_resolvers, agent_extra, go, state}
use Rattle.meaning.specs.Kinds.{extra_key}
use Rattle.meaning.specs.Told.{Told}
use Rattle.laws_steps.specs.AgentRooms.{agent_any}
use Rattle.laws_steps.specs.Pouring.{Filling, Peeked, run_at, source, text_at}
use Rattle.laws_steps.specs.ReadAt.{text_at_lem}
use Rattle.laws_steps.specs.Shapes.{Extras}
use Rattle.table.specs.Told.{told_of}
use Rattle.table.specs.declared.answers.Reached.{Reached}
use Rattle.table.specs.declared.answers.Stage.{Stage}
use Rattle.read_rows.specs.Joining.{begun, closes, foreign_byte, handed, moved_to, went}
use Rattle.read_rows.specs.Stages.{Ran, TextRead, found}
use Rattle.read_rows.proofs.texts.extras.Goals as goal

code_below : {s : List ℕ} {end at b code : ℕ} → Peeked s end at b → b ≡ code → (code ≡ 256 → ⊥) → code < 256
code_below p h f = let t = p.top in omega arith

-- one more extra
once_more : {t : Told} {s : List ℕ} {end b code level : ℕ} {r : Stage} {left : List ℕ} {q any d : State} {o : Filling} (here key : Reached) (rows : List ℕ) (h : Extras t q any d code level) → o ≡ run_at (source t s end) q here.at here.rows rows
    → Peeked s end here.at b → b ≡ code → code < 256 → key.at ≡ here.at + 1 → key.rows ≡ here.rows
    → TextRead t s end extra_key line level any key.at key.rows rows r q left → Ran (source t s end) (here.at + 1) o r q left
once_more {t} {s} {end} {b} {code} {level} {q = q} here key rows h same p found small x y extra =
    let i = source t s end in
    begun (omega arith)
    (same
    ∙ text_at_lem i here.at here.rows rows b p code found small q extra_key line h.key (h.more small) refl
    ∙ ap (λ (x : ℕ). text_at i extra_key line x (go h.key q) (here.at + 1) here.rows rows) h.deep
    ∙ ap (λ (x : State). text_at i extra_key line level x (here.at + 1) here.rows rows) h.keyed)
    (rw (x, y) at extra)

pub returns-in_default : goal.returns-in_default
returns-in_default c q any d h =
    let l = c.loop-found in
    let p = c.peek-b in
    let none : found p.result ≡ 256 = ap found c.in_default.is in
    begun l.invariant.0 (l.invariant.4 q any d h)
    (foreign_byte (source (told_of c.args.told) c.args.s.now (length c.args.s.now)) l.here.at l.here.rows l.rows (found p.result) p.ensures q c.fault.ensures (h.none_else (found p.result) (λ e. absurd (omega (arith, none, e))) (λ e. c.requires.1 (sym e ∙ none))) h.ajar h.odd)

pub returns-then-found-eq-CLOSING : goal.returns-then-found-eq-CLOSING
returns-then-found-eq-CLOSING c q any d h =
    let l = c.loop-found in
    let is : found c.peek-b.result ≡ 1 = ap found c.in-Some.is ∙ c.if-found-eq-CLOSING.true in
    closes (source (told_of c.args.told) c.args.s.now (length c.args.s.now)) q l.here l.rows (found c.peek-b.result) c.peek-b.ensures is h.stop h.leads c.passed.ensures.at c.passed.ensures.rows (l.invariant.4 q any d h) l.invariant.0 l.invariant.2

pub returns-then-from-code : goal.returns-then-from-code
returns-then-from-code c q any d h =
    let l = c.loop-found in
    let p = c.peek-b in
    let some : found p.result ≡ c.in-Some.found = ap found c.in-Some.is in
    begun l.invariant.0 (l.invariant.4 q any d h)
    (foreign_byte (source (told_of c.args.told) c.args.s.now (length c.args.s.now)) l.here.at l.here.rows l.rows (found p.result) p.ensures q (rw some c.fault-then-from-code.ensures) (h.none_else (found p.result) (λ e. c.if-found-eq-CLOSING.false (sym some ∙ e)) (λ e. c.if-from-code.true (c.from.ensures ∙ sym some ∙ e))) h.ajar h.odd)

-- the byte is the code, which is therefore a byte
pub returns-in_default-r : goal.returns-in_default-r
returns-in_default-r c q any d h =
    let l = c.loop-found in
    let p = c.peek-b in
    let is : found p.result ≡ c.args.code = ap found c.in-Some.is ∙ sym c.from.ensures ∙ c.if-from-code.false in
    handed c.in_default-r.is (once_more l.here c.passed-in-loop-found.result l.rows h (l.invariant.4 q any d h) p.ensures is (code_below p.ensures is c.requires.1) c.passed-in-loop-found.ensures.at c.passed-in-loop-found.ensures.rows (c.extra-r.ensures any q h.any_value))

pub loop-found-smaller : goal.loop-found-smaller
loop-found-smaller c =
    let p = c.peek-b in
    let is : found p.result ≡ c.args.code = ap found c.in-Some.is ∙ sym c.from.ensures ∙ c.if-from-code.false in
    let small = code_below p.ensures is c.requires.1 in
    let u = moved_to c.in-Go.is (c.extra-r.ensures (state agent_extra c.args.level true) (state after_resolvers c.args.level true) (agent_any _ c.args.level true)) in
    omega arith

pub loop-found-preserved : goal.loop-found-preserved
loop-found-preserved c =
    let l = c.loop-found in
    let p = c.peek-b in
    let is : found p.result ≡ c.args.code = ap found c.in-Some.is ∙ sym c.from.ensures ∙ c.if-from-code.false in
    let small = code_below p.ensures is c.requires.1 in
    let u = moved_to c.in-Go.is (c.extra-r.ensures (state agent_extra c.args.level true) (state after_resolvers c.args.level true) (agent_any _ c.args.level true)) in (
      omega arith,
      omega arith,
      omega arith,
      c.extra-r.auto.rows ∙ l.invariant.3,
      λ q any d h. went c.in-Go.is (once_more l.here c.passed-in-loop-found.result l.rows h (l.invariant.4 q any d h) p.ensures is small c.passed-in-loop-found.ensures.at c.passed-in-loop-found.ensures.rows (c.extra-r.ensures any q h.any_value)),
    )
