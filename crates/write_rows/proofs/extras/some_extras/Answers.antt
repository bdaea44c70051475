-- `extras::some_extras`: the extras from the first to where the code stands, for every room that has them.
use Rattle.meaning.specs.Editions.{stay, list_ends}
use Rattle.write_rows.specs.Onward.{tried_as, advance_as, laid_from, onward_stuck, onward_then}
use Rattle.write_rows.specs.Laying.{laid_layable, laid_length}
use Rattle.write_rows.proofs.Lists.{extras_end, key_on, value_lost, value_on}
use Rattle.write_rows.specs.declared.advance.Onto.{Onto}
use Rattle.write_rows.specs.declared.advance.Misfit.{Misfit}
use Rattle.std.specs.Prelude.{Result, Err, ◌+◌}
use Rattle.std.proofs.lemmas.Grind.{common_steps}
use mathlib.Core.Path.{◌≡◌, ◌∙◌}
use native.Mathlib.Omega.{arith}
use Rattle.write_rows.proofs.extras.some_extras.Goals as goal

pub returns-in_default : goal.returns-in_default
returns-in_default c edition room single st₁ t =
    let l = c.loop-q in
    let other = c.in_default.ensures (stay t.value) in
    onward_then c.requires.layable.small (l.invariant.3 edition room single st₁ t) (extras_end edition _ _ t other.1 l.invariant.0 (laid_from other.0 c.put.ensures))

pub any-v-requires : goal.any-v-requires
any-v-requires c =
    let taken = c.in-Some.ensures list_ends in
    record { inside = omega (arith, taken.ahead.within); layable = laid_layable taken.laid c.loop-q.invariant.1 }

pub returns-in_err-p : goal.returns-in_err-p
returns-in_err-p c edition room single st₁ t =
    let small = c.requires.layable.small in
    let key = key_on edition _ _ t (c.in-Some.ensures (stay t.value)) in
    let other = tried_as _ _ _ _ _ _ _ _ c.in_err-p.ensures.ok_part (c.any-v.ensures (stay room)) in
    let lost : ◌≡◌ {A = Result Onto Misfit} (Err (record { row = c.loop-q.i + 1 })) c.from_residual.result = grind (arith, common_steps) in
    advance_as _ _ _ _ _ _ _ _ _ lost (onward_stuck small (onward_then small (c.loop-q.invariant.3 edition room single st₁ t) key) (value_lost edition _ _ t other.1))

pub loop-q-smaller : goal.loop-q-smaller
loop-q-smaller c = omega (arith, (c.in-Some.ensures list_ends).ahead.within)

pub loop-q-preserved : goal.loop-q-preserved
loop-q-preserved c =
    let l = c.loop-q in
    let small = c.requires.layable.small in
    let is = c.in_ok-p.ensures.ok_part in
    let key = c.in-Some.ensures list_ends in
    let value = tried_as _ _ _ _ _ _ _ _ is (c.any-v.ensures list_ends) in
    (omega (arith, value.ahead.within), laid_layable value.laid (laid_layable key.laid l.invariant.1), laid_length value.laid ∙ laid_length key.laid ∙ l.invariant.2, λ edition room single st₁ t. onward_then small (l.invariant.3 edition room single st₁ t) (onward_then l.invariant.1.small (key_on edition _ _ t (c.in-Some.ensures (stay t.value))) (value_on edition _ _ t (tried_as _ _ _ _ _ _ _ _ is (c.any-v.ensures (stay room))))))
