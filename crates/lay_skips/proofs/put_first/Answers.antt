-- `put_first`: the invariant says that the words before place i have moved one place on, and which one is in hand.
use Prim.Native.Nat.{ℕ, suc, ◌+◌, ◌<◌}
use mathlib.Core.List.{List}
use mathlib.Core.Path.{◌≡◌, refl, ap, ◌∙◌}
use native.Mathlib.Omega.{arith}
use lib.ListN.{length, get_or, set}
use Rattle.lay_skips.proofs.Pushing.{pushed, in_hand, begins_pushed, pushes, takes_up, first_laid}
use Rattle.lay_skips.proofs.put_first.Goals as goal

pub loop-i-init : goal.loop-i-init
loop-i-init c = (begins_pushed c.args.word c.args.words.now, refl)

pub loop-i-preserved : goal.loop-i-preserved
loop-i-preserved c =
    let a = c.args in
    let l = c.loop-i in
    let next : suc l.i ≡ l.i + 1 = omega arith in
    let short : l.i < length a.words.now = omega (arith, c.loop-i-test.true, c.requires) in (
      ap (λ (x : List ℕ). set x l.i l.held) l.invariant.0 ∙ ap (set (pushed a.word a.words.now l.i) l.i) l.invariant.1 ∙ pushes a.word a.words.now l.i short ∙ ap (pushed a.word a.words.now) next,
      ap (λ (x : List ℕ). get_or x l.i 0) l.invariant.0 ∙ takes_up a.word a.words.now l.i short ∙ ap (in_hand a.word a.words.now) next,
    )

pub returns : goal.returns
returns c lent own q h =
    let a = c.args in
    let l = c.loop-i in
    let last : l.i ≡ a.k = omega (arith, c.loop-i-test.false, l.auto.i-end) in
    ap (λ (x : List ℕ). set x a.k l.held) l.invariant.0 ∙ ap (set (pushed a.word a.words.now l.i) a.k) l.invariant.1
    ∙ ap (λ (x : ℕ). set (pushed a.word a.words.now x) a.k (in_hand a.word a.words.now x)) last
    ∙ pushes a.word a.words.now a.k c.requires
    ∙ first_laid lent own a.words.now a.k a.word (suc a.k) q h c.requires refl
