-- `measure::check`: envelope by envelope, what the sizes says of the rest is the verdict over all; and the lengths are noted.
use Prim.Native.Nat.{ℕ}
use Rattle.meaning.specs.Writing.{fine, whole_plan}
use Rattle.meaning.specs.Headers.{envelopes_most}
use Rattle.std.specs.Prelude.{Err, Result}
use Rattle.write_envelopes.proofs.Checking.{check_base, check_extension, check_none, check_stuck, ends_later, measured_ended, measured_stuck, row_inside}
use Rattle.write_envelopes.proofs.Noting.{Noting, checked_bad, noting_ends, noting_on, noting_starts}
use Rattle.write_envelopes.proofs.Wholes.{whole_edge}
use Rattle.laws_steps.specs.Rows.{cells_at}
use Rattle.table.specs.Told.{edition_of}
use Rattle.table.specs.declared.answers.Fault.{Fault}
use Rattle.write_rows.specs.Onward.{handed_up}
use Rattle.write_envelopes.specs.Whole.{Begins, insides_of, needs as needed, verdict, verdict_is}
use mathlib.Core.List.{List}
use mathlib.Core.Path.{◌∙◌, ◌≡◌, ap, subst, sym}
use native.Mathlib.Omega.{arith}
use Rattle.write_envelopes.proofs.measure.check.Goals as goal

pub loop-base-init : goal.loop-base-init
loop-base-init c =
    let a = c.args in
    (omega arith, ap (verdict envelopes_most 0 fine) (whole_edge (edition_of a.edition) (cells_at a.table.now.pool.now a.table.now.rows.now 0)), noting_starts (edition_of a.edition) a.table.now.pool.now a.table.now.rows.now c.requires, omega arith)

pub returns-in_default : goal.returns-in_default
returns-in_default c =
    let a = c.args in
    let l = c.loop-base in
    checked_bad (whole_plan (edition_of a.edition) (cells_at a.table.now.pool.now a.table.now.rows.now 0)) (l.invariant.1 ∙ check_none (edition_of a.edition) a.table.now.pool.now a.table.now.rows.now l.i l.t c.in_default.ensures) (ap (λ (f : Fault). verdict_is (Err f)) c.at.ensures)

pub measure-requires : goal.measure-requires
measure-requires c = let a = c.args in omega (arith, row_inside (edition_of a.edition) a.table.now.pool.now a.table.now.rows.now c.loop-base.i c.in-Some.ensures)

pub returns-in_err-inside : goal.returns-in_err-inside
returns-in_err-inside c =
    let a = c.args in
    let l = c.loop-base in
    checked_bad (whole_plan (edition_of a.edition) (cells_at a.table.now.pool.now a.table.now.rows.now 0)) (l.invariant.1 ∙ check_stuck (edition_of a.edition) a.table.now.pool.now a.table.now.rows.now l.i l.t c.in-Some.ensures (measured_stuck _ a.table.now.pool.now a.table.now.rows.now c.in_err-inside.ensures))
    (ap (λ (r : Result ℕ Fault). verdict_is r) (sym (handed_up _ c.from_residual.ensures)))

pub returns-then-base : goal.returns-then-base
returns-then-base c =
    let a = c.args in
    let l = c.loop-base in
    let o = c.in-Some.ensures in
    let z = measured_ended _ a.table.now.pool.now a.table.now.rows.now c.in_ok-inside.ensures in
    record {
      is = c.ended.ensures ∙ sym (l.invariant.1 ∙ check_base (edition_of a.edition) a.table.now.pool.now a.table.now.rows.now l.i l.t o z c.count_in-t.ensures c.if-base.true);
      noted = subst (λ (x : List ℕ). (u : ℕ) → verdict envelopes_most 0 fine (whole_plan (edition_of a.edition) (cells_at a.table.now.pool.now a.table.now.rows.now 0)) ≡ needed u → Begins (insides_of (whole_plan (edition_of a.edition) (cells_at a.table.now.pool.now a.table.now.rows.now 0))) x) (sym c.note.ensures) (noting_ends (edition_of a.edition) a.table.now.pool.now a.table.now.rows.now l.t l.invariant.2 (omega (arith, l.invariant.0)) l.invariant.1 o z c.if-base.true);
    }

pub loop-base-smaller : goal.loop-base-smaller
loop-base-smaller c =
    let a = c.args in
    let l = c.loop-base in
    let z = measured_ended _ a.table.now.pool.now a.table.now.rows.now c.in_ok-inside.ensures in
    omega (arith, ends_later (edition_of a.edition) a.table.now.pool.now a.table.now.rows.now l.i l.t c.in-Some.ensures z, z.3)

pub loop-base-preserved : goal.loop-base-preserved
loop-base-preserved c =
    let a = c.args in
    let l = c.loop-base in
    let o = c.in-Some.ensures in
    let z = measured_ended _ a.table.now.pool.now a.table.now.rows.now c.in_ok-inside.ensures in
    let t = c.count_in-t.ensures in
    (t.bound, l.invariant.1 ∙ check_extension (edition_of a.edition) a.table.now.pool.now a.table.now.rows.now l.i l.t o z t c.if-base.false, subst (Noting (edition_of a.edition) a.table.now.pool.now a.table.now.rows.now _ _) (sym c.note.ensures) (noting_on (edition_of a.edition) a.table.now.pool.now a.table.now.rows.now l.t l.invariant.2 (omega (arith, l.invariant.0)) l.invariant.1 o z t.less c.if-base.false), z.3)
