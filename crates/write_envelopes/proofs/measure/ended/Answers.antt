-- `measure::ended`: no cell may follow the base; then the limits.
use Rattle.write_envelopes.proofs.Checking.{end_all, end_more, end_part}
use Rattle.write_envelopes.specs.Whole.{limit_of, verdict_is, verdict_of}
use Rattle.std.specs.Prelude.{Err, Option, ℕ}
use Rattle.table.specs.declared.answers.Fault.{Fault}
use mathlib.Core.Path.{◌∙◌, ap, sym}
use native.Mathlib.Omega.{arith}
use Rattle.write_envelopes.proofs.measure.ended.Goals as goal

pub returns-then-row-room : goal.returns-then-row-room
returns-then-row-room c =
    let a = c.args in
    ap (λ (f : Fault). verdict_is (Err f)) c.at.ensures ∙ end_more a.table.now.pool.now a.table.now.rows.now a.row a.t.total (limit_of a.t.over) (omega (arith, c.room.ensures, c.if-row-room.true))

pub returns-then-not-whole : goal.returns-then-not-whole
returns-then-not-whole c =
    let a = c.args in
    ap (λ (f : Fault). verdict_is (Err f)) c.at-then-not-whole.ensures ∙ end_part a.table.now.pool.now a.table.now.rows.now a.row a.t.total (limit_of a.t.over) (omega (arith, c.room.ensures, c.if-row-room.false)) (sym c.whole.ensures ∙ c.if-not-whole.true)

pub returns-in-Some : goal.returns-in-Some
returns-in-Some c =
    let a = c.args in
    ap (λ (f : Fault). verdict_is (Err f)) c.at-in-Some.ensures ∙ ap (λ (o : Option ℕ). verdict_of a.t.total (limit_of o)) (sym c.in-Some.is)
    ∙ end_all a.table.now.pool.now a.table.now.rows.now a.row a.t.total (limit_of a.t.over) (omega (arith, c.room.ensures, c.if-row-room.false)) (sym c.whole.ensures ∙ c.if-not-whole.false)

pub returns-in-None : goal.returns-in-None
returns-in-None c =
    let a = c.args in
    ap (λ (o : Option ℕ). verdict_of a.t.total (limit_of o)) (sym c.in-None.is)
    ∙ end_all a.table.now.pool.now a.table.now.rows.now a.row a.t.total (limit_of a.t.over) (omega (arith, c.room.ensures, c.if-row-room.false)) (sym c.whole.ensures ∙ c.if-not-whole.false)
