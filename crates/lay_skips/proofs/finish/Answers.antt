-- `finish`: the invariant says that the rows from `next` on have their skip numbers, and that their envelopes' words stand in front.
use native.Mathlib.Omega.{arith}
use Rattle.lay_skips.proofs.Finishing.{none_finished, laid_from, has_word, count_small, one_finished}
use Rattle.lay_skips.proofs.finish.Goals as goal

pub loop-next-init : goal.loop-next-init
loop-next-init c = let a = c.args in none_finished a.rows.now a.words.now a.n

pub put_first-requires : goal.put_first-requires
put_first-requires c = let f = c.requires in let w = c.loop-next.invariant in let t = c.loop-next-test.true in has_word f w t (c.lay_inside-inside.ensures c.args.rows.now (laid_from f w t))

pub overflow_add-k : goal.overflow_add-k
overflow_add-k c = let f = c.requires in let w = c.loop-next.invariant in let t = c.loop-next-test.true in omega (arith, count_small f w t (c.lay_inside-inside.ensures c.args.rows.now (laid_from f w t)))

pub loop-next-preserved : goal.loop-next-preserved
loop-next-preserved c = let f = c.requires in let w = c.loop-next.invariant in let t = c.loop-next-test.true in one_finished f w t (c.lay_inside-inside.ensures c.args.rows.now (laid_from f w t)) c.put_skip.ensures c.put_first.ensures
