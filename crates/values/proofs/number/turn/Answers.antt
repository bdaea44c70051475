-- `number::turn` is its definition, test by test.
use Rattle.values.proofs.Numbers.{odd_ends, even_goes, even_wrong, odd_wrong, zero_ends, zero_wrong}
use Rattle.values.proofs.number.turn.Goals as goal

pub returns-then-first : goal.returns-then-first
returns-then-first c = let a = c.args in zero_wrong a.number a.b a.first c.if-b-eq0.true c.if-first.true

pub returns-then-b-eq0 : goal.returns-then-b-eq0
returns-then-b-eq0 c = let a = c.args in zero_ends a.number a.b a.first c.if-b-eq0.true c.if-first.false

pub returns-then-b-eq0-2 : goal.returns-then-b-eq0-2
returns-then-b-eq0-2 c =
    let a = c.args in
    odd_ends a.number a.first a.b c.digit.ensures c.is_digit.ensures c.if-b-eq0.false c.if-is_digit-one.true c.if-b-eq0-2.true

pub returns-then-is_digit-leading : goal.returns-then-is_digit-leading
returns-then-is_digit-leading c =
    let a = c.args in
    even_goes a.number a.first a.b c.digit.ensures c.is_digit.ensures c.digit-then-is_digit-one.ensures c.is_digit-then-is_digit-one.ensures c.if-b-eq0.false c.if-is_digit-one.true c.if-b-eq0-2.false c.if-is_digit-leading.true

pub returns-else-is_digit-leading : goal.returns-else-is_digit-leading
returns-else-is_digit-leading c =
    let a = c.args in
    even_wrong a.number a.first a.b c.digit.ensures c.is_digit.ensures c.digit-then-is_digit-one.ensures c.is_digit-then-is_digit-one.ensures c.if-b-eq0.false c.if-is_digit-one.true c.if-b-eq0-2.false c.if-is_digit-leading.false

pub returns-else-is_digit-one : goal.returns-else-is_digit-one
returns-else-is_digit-one c =
    let a = c.args in
    odd_wrong a.number a.first a.b c.digit.ensures c.is_digit.ensures c.if-b-eq0.false c.if-is_digit-one.false
