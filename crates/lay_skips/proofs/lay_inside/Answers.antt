-- `lay_inside`: the invariant says that the rows from `next` up to `end` are inside an envelope, have their skip numbers, and what is seen of its word.
use Rattle.lay_skips.specs.Laying.{Turned}
use Rattle.lay_skips.proofs.Turning.{back_begins}
use Rattle.lay_skips.proofs.lay_inside.Goals as goal

pub loop-laid-init : goal.loop-laid-init
loop-laid-init c m f = back_begins f

pub loop-laid-smaller : goal.loop-laid-smaller
unfolding Turned
loop-laid-smaller c = let (m, f) = c.requires in (c.in-Some.ensures m c.args.end (c.loop-laid.invariant m f)).1

pub loop-laid-preserved : goal.loop-laid-preserved
unfolding Turned
loop-laid-preserved c m f = (c.in-Some.ensures m c.args.end (c.loop-laid.invariant m f)).0

pub returns : goal.returns
unfolding Turned
returns c m f = c.in_default.ensures m c.args.end (c.loop-laid.invariant m f)
