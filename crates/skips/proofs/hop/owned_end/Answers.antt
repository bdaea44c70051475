-- `hop::owned_end`: the invariant says that all rows up to j belong to row i, and that what is left of its rows begins there.
use Rattle.laws_steps.specs.Hopping.{hop_begins}
use Rattle.skips.specs.Hops.{hops, hop_falls, stops, ends}
use Rattle.skips.proofs.hop.owned_end.Goals as goal
use Rattle.skips.proofs.hop.owned_end.Goals.{then-loop-j-test+else-is_owned, else-loop-j-test}

pub loop-j-init : goal.loop-j-init
loop-j-init g c = hop_begins c.args.rows.now c.args.n c.args.i c.requires.hoppable.inside

pub loop-j-smaller : goal.loop-j-smaller
loop-j-smaller g c = hop_falls c.loop-j.invariant c.loop-j-test.true c.requires.hoppable c.skip_at-j.ensures

pub loop-j-preserved : goal.loop-j-preserved
loop-j-preserved g c =
    let a = c.args in
    let told = c.requires.tells c.kind_at.result c.level_at.result c.is_owned.result c.is_owned.ensures in
    hops a.rows.now a.n a.i c.kind_at.ensures c.level_at.ensures told c.loop-j.invariant c.loop-j-test.true c.requires.hoppable c.if-is_owned.true c.skip_at-j.ensures

pub returns : goal.returns
returns g c =
    let a = c.args in
    elim c.loop-j-test.branch [
      | then-loop-j-test+else-is_owned w ↦ stops a.rows.now a.n a.i w.kind_at.ensures w.level_at.ensures (c.requires.tells w.kind_at.result w.level_at.result w.is_owned.result w.is_owned.ensures) c.loop-j.invariant w.loop-j-test.true w.if-is_owned.false
      | else-loop-j-test w ↦ ends c.loop-j.invariant w.loop-j-test.false
    ]
