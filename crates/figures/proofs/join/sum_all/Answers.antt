-- `sum_all`: the invariant says that the first i numbers are sums.
use Prim.Native.Nat.{◌+◌}
use mathlib.Core.Path.{◌≡◌, refl, ap, sym, ◌∙◌}
use native.Mathlib.Numerals.{add-one}
use native.Mathlib.Omega.{arith}
use lib.ListN.{length, get_or, set}
use Rattle.figures.proofs.Raising.{first_sums, next_stays, next_sum, all_sums, sums_long}
use Rattle.figures.proofs.join.sum_all.Goals as goal

pub overflow_add-figures : goal.overflow_add-figures
overflow_add-figures c =
    let l = c.loop-i in
    let stays = ap (λ x. get_or x l.i 0) l.invariant.1 ∙ next_stays l.i c.args.figures.now c.args.others.now in
    omega (arith, stays, c.requires.1.most l.i, c.requires.0.most l.i)

pub loop-i-preserved : goal.loop-i-preserved
loop-i-preserved c =
    let l = c.loop-i in
    let ns = c.args.figures.now in
    let os = c.args.others.now in
    let stays = ap (λ x. get_or x l.i 0) l.invariant.1 ∙ next_stays l.i ns os in
    let next : set l.figures l.i (get_or l.figures l.i 0 + get_or os l.i 0) ≡ first_sums (l.i + 1) ns os =
    ap (λ n. set l.figures l.i (n + get_or os l.i 0)) stays ∙ ap (λ x. set x l.i (get_or ns l.i 0 + get_or os l.i 0)) l.invariant.1
    ∙ next_sum l.i ns os (omega (arith, c.requires.1.long)) (c.requires.1.long ∙ sym c.requires.0.long) ∙ rw (add-one l.i) refl in
    (ap length next ∙ sums_long (l.i + 1) ns os ∙ c.requires.1.long, next)

pub returns : goal.returns
returns c =
    let l = c.loop-i in
    let ns = c.args.figures.now in
    let q : l.i ≡ length ns = omega (arith, c.requires.1.long) in
    l.invariant.1 ∙ ap (λ k. first_sums k ns c.args.others.now) q ∙ all_sums ns c.args.others.now (c.requires.1.long ∙ sym c.requires.0.long)
