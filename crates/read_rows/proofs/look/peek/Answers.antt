-- `look::peek`: the bytes from a place to the declared end are a byte and those behind it, or none.
use Rattle.std.specs.Prelude.{length}
use Rattle.std.proofs.Common.{arith, get_or}
use borrow.Author.Tests.{lt-ltb}
use Rattle.laws_steps.specs.From.{from_cons, from_end}
use Rattle.read_rows.proofs.look.peek.Goals as goal

pub returns-then-at-end : goal.returns-then-at-end
returns-then-at-end c =
    let a = c.args in
    let t = c.if-at-end.true in
    let b = c.type_inv.s a.at in
    record { is = rw (lt-ltb (get_or a.s.now a.at 0) 256 (omega arith)) (from_cons a.s.now a.at (length a.s.now) t c.requires.whole); inside = λ _. t; before = omega arith; whole = c.requires.whole; top = omega arith }

pub returns-else-at-end : goal.returns-else-at-end
returns-else-at-end c =
    let a = c.args in
    record { is = from_end a.s.now a.at (length a.s.now) c.if-at-end.false; inside = λ h. absurd (omega arith); before = c.requires.before; whole = c.requires.whole; top = omega arith }
