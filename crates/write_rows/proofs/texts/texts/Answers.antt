-- `texts::texts`: the list from its first item to where the code stands, for every room that has such a list.
use Rattle.meaning.specs.Editions.{list_ends}
use Rattle.write_rows.specs.Onward.{laid_from, onward_then}
use Rattle.write_rows.specs.Laying.{laid_layable, laid_length}
use Rattle.write_rows.proofs.Lists.{item_on, texts_end}
use mathlib.Core.Path.{◌∙◌}
use native.Mathlib.Omega.{arith}
use Rattle.write_rows.proofs.texts.texts.Goals as goal

pub returns : goal.returns
returns c edition room single st₁ t =
    let l = c.loop-q in
    let other = c.in_default.ensures t.item in
    onward_then c.requires.layable.small (l.invariant.3 edition room single st₁ t) (texts_end edition _ _ t other.1 l.invariant.0 (laid_from other.0 c.put.ensures))

pub loop-q-smaller : goal.loop-q-smaller
loop-q-smaller c = omega (arith, (c.in-Some.ensures list_ends).ahead.within)

pub loop-q-preserved : goal.loop-q-preserved
loop-q-preserved c =
    let l = c.loop-q in
    let taken = c.in-Some.ensures list_ends in
    (omega (arith, taken.ahead.within), laid_layable taken.laid l.invariant.1, laid_length taken.laid ∙ l.invariant.2, λ edition room single st₁ t. onward_then c.requires.layable.small (l.invariant.3 edition room single st₁ t) (item_on edition _ _ t (c.in-Some.ensures t.item)))
