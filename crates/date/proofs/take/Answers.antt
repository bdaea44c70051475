-- `take`: what the code says, and the bytes behind it.
use mathlib.Core.Path.{refl}
use native.Mathlib.Omega.{arith}
use Rattle.meaning.specs.Reading.{take_value}
use Rattle.date.proofs.Dates.{dated_at, undated}
use Rattle.values.specs.Answers.{valued_at}
use Rattle.table.specs.Kinds.{number_of}
use Rattle.values.specs.Coded.{code_missing, code_unknown, code_before}
use Rattle.date.proofs.take.Goals as goal

pub returns-then-end-at : goal.returns-then-end-at
returns-then-end-at c t = code_missing c.at.ensures (omega (arith, c.requires.before))

pub returns-in_default : goal.returns-in_default
returns-in_default c t = code_unknown c.if-end-at.false refl c.at-in_default.ensures refl (undated _ _ c.dated_by.ensures c.in_default.is)

pub overflow_sub-result : goal.overflow_sub-result
overflow_sub-result c = let p = valued_at (rw c.in-Ok.is at (c.bytes.ensures 0)) refl in omega arith

pub returns-in-Ok : goal.returns-in-Ok
unfolding take_value
returns-in-Ok c t =
    let f = dated_at _ _ c.dated_by.ensures c.in-Some.is in
    rw c.number.ensures (code_before c.if-end-at.false refl _ f.0 f.1 (rw c.in-Ok.is at (c.bytes.ensures (number_of c.in-Some.dated.kind))))

pub returns-in-Err : goal.returns-in-Err
unfolding take_value
returns-in-Err c t =
    let f = dated_at _ _ c.dated_by.ensures c.in-Some.is in
    code_before c.if-end-at.false refl _ f.0 f.1 (rw c.in-Err.is at (c.bytes.ensures (number_of c.in-Some.dated.kind)))
