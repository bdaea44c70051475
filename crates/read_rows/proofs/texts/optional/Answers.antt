-- `texts::optional`: without its code the state is as the one behind the line.
use Rattle.std.specs.Prelude.{length}
use Rattle.std.proofs.Common.{ℕ, ◌+◌, ap, ◌∙◌, arith}
use native.Mathlib.Nat.{le_refl}
use Rattle.meaning.specs.Bytes.{line}
use Rattle.meaning.specs.Editions.{go}
use Rattle.laws_steps.specs.Pouring.{not_deep, source, text_at}
use Rattle.laws_steps.specs.ReadAt.{alike_at, text_at_lem}
use Rattle.read_rows.specs.Joining.{arrives, begun, going, other_found, same_found}
use Rattle.read_rows.specs.Stages.{found}
use Rattle.read_rows.proofs.texts.optional.Goals as goal

pub returns-then-ne : goal.returns-then-ne
returns-then-ne c t q d h =
    let p = c.peek in
    let a = c.args in
    going (alike_at (source t a.s.now (length a.s.now)) a.from.at a.from.rows a.rows.now (found p.result) p.ensures q d (h.else (found p.result) (other_found p.result a.code (omega arith) c.ne.ensures c.if-ne.true)) h.ends) (le_refl _) c.requires.before c.requires.few

pub returns : goal.returns
returns c t q d h =
    let p = c.peek in
    let a = c.args in
    let i = source t a.s.now (length a.s.now) in
    let is = same_found p.result a.code c.ne.ensures c.if-ne.false in
    arrives h.leads
    (begun (omega arith)
    (text_at_lem i a.from.at a.from.rows a.rows.now (found p.result) p.ensures a.code is (omega arith) q a.kind line h.out h.has (not_deep q a.kind h.flat)
    ∙ ap (λ (x : ℕ). text_at i a.kind line x (go h.out q) (a.from.at + 1) a.from.rows a.rows.now) h.deep)
    (rw (c.passed.ensures.at, c.passed.ensures.rows) at (c.text.ensures t (go h.out q))))
