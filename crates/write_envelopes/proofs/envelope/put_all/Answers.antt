-- `envelope::put_all`: the bytes so far, in front of the output as it was; the check rules out what is not written.
use Rattle.table.specs.Told.{edition_of}
use Rattle.write_envelopes.proofs.Checking.{measured_ended, measured_stuck, row_inside}
use Rattle.write_envelopes.proofs.Writing.{writing_ends, writing_length, writing_none, writing_noted, writing_on, writing_over, writing_starts, writing_stuck}
use borrow.Author.Rules.{rules}
use native.Mathlib.Omega.{arith}
use Rattle.write_envelopes.proofs.envelope.put_all.Goals as goal

pub loop-many-init : goal.loop-many-init
loop-many-init c = let a = c.args in (omega arith, writing_starts (edition_of a.edition) a.table.now.pool.now a.table.now.rows.now a.lengths.now a.output.now)

pub returns-in_default : goal.returns-in_default
returns-in_default c =
    let a = c.args in
    let w = c.requires in
    writing_none (edition_of a.edition) a.table.now.pool.now a.table.now.rows.now a.lengths.now a.output.now w (c.loop-many.invariant.1 w) c.in_default.ensures

pub overflow_add-i : goal.overflow_add-i
overflow_add-i c = let a = c.args in let s = row_inside (edition_of a.edition) a.table.now.pool.now a.table.now.rows.now _ c.in-Some.ensures in search rules

pub put_envelope-requires : goal.put_envelope-requires
put_envelope-requires c =
    let a = c.args in
    let w = c.requires in
    let l = c.loop-many in
    let o = c.in-Some.ensures in
    let n = writing_noted (edition_of a.edition) a.table.now.pool.now a.table.now.rows.now a.lengths.now a.output.now w (l.invariant.1 w) o in
    record { inside = omega (arith, row_inside (edition_of a.edition) a.table.now.pool.now a.table.now.rows.now l.i o); small = n.2; room = omega (arith, n.1, writing_length (edition_of a.edition) a.table.now.pool.now a.table.now.rows.now a.lengths.now a.output.now w (l.invariant.1 w)) }

pub returns-in_default-put_envelope : goal.returns-in_default-put_envelope
returns-in_default-put_envelope c =
    let a = c.args in
    let w = c.requires in
    let l = c.loop-many in
    let o = c.in-Some.ensures in
    let z = c.in_default-put_envelope.ensures in
    writing_stuck (edition_of a.edition) a.table.now.pool.now a.table.now.rows.now a.lengths.now a.output.now w (l.invariant.1 w) o (measured_stuck _ a.table.now.pool.now a.table.now.rows.now z.inside)

pub returns-then-base : goal.returns-then-base
returns-then-base c =
    let a = c.args in
    let w = c.requires in
    let l = c.loop-many in
    let o = c.in-Some.ensures in
    let x = c.in-Ok.ensures in
    let z = measured_ended _ a.table.now.pool.now a.table.now.rows.now x.inside in
    writing_ends (edition_of a.edition) a.table.now.pool.now a.table.now.rows.now a.lengths.now a.output.now w (l.invariant.1 w) o z x c.if-base.true

pub size_of-at-requires : goal.size_of-at-requires
size_of-at-requires c =
    let a = c.args in
    let w = c.requires in
    (writing_noted (edition_of a.edition) a.table.now.pool.now a.table.now.rows.now a.lengths.now a.output.now w (c.loop-many.invariant.1 w) c.in-Some.ensures).2

pub overflow_add-at : goal.overflow_add-at
overflow_add-at c =
    let a = c.args in
    let w = c.requires in
    let n = (writing_noted (edition_of a.edition) a.table.now.pool.now a.table.now.rows.now a.lengths.now a.output.now w (c.loop-many.invariant.1 w) c.in-Some.ensures).1 in
    let s = c.size_of-at.ensures.0 in
    search rules

pub loop-many-preserved : goal.loop-many-preserved
loop-many-preserved c =
    let a = c.args in
    let l = c.loop-many in
    let o = c.in-Some.ensures in
    let x = c.in-Ok.ensures in
    let z = measured_ended _ a.table.now.pool.now a.table.now.rows.now x.inside in
    (z.3, λ w. writing_on (edition_of a.edition) a.table.now.pool.now a.table.now.rows.now a.lengths.now a.output.now w (l.invariant.1 w) o z x c.size_of-at.ensures.0 c.if-base.false)

pub returns : goal.returns
returns c =
    let a = c.args in
    let w = c.requires in
    writing_over (edition_of a.edition) a.table.now.pool.now a.table.now.rows.now a.lengths.now a.output.now w (c.loop-many.invariant.1 w) c.loop-many-test.false
