-- `first_value`: the invariant says that the first value of all rows is the first from row i on.
use Rattle.present.proofs.Walk.{looked_all, found, looks_on, looks_less}
use Rattle.present.proofs.first_value.Goals as goal

pub returns-then-has_value : goal.returns-then-has_value
returns-then-has_value c =
    let a = c.args in
    found a.rows.now a.code c.room-n.ensures c.loop-i.invariant c.loop-i-test.true c.has_value.ensures c.if-has_value.true

pub loop-i-smaller : goal.loop-i-smaller
loop-i-smaller c =
    looks_less c.args.rows.now c.args.code c.room-n.ensures c.loop-i.invariant c.loop-i-test.true c.has_value.ensures c.requires.0 c.next_looked-i.ensures

pub loop-i-preserved : goal.loop-i-preserved
loop-i-preserved c =
    looks_on c.args.rows.now c.args.code c.room-n.ensures c.loop-i.invariant c.loop-i-test.true c.has_value.ensures c.requires.0 c.requires.1 c.if-has_value.false c.next_looked-i.ensures

pub returns : goal.returns
returns c =
    let a = c.args in
    looked_all a.rows.now a.code c.room-n.ensures c.loop-i.invariant c.loop-i-test.false
