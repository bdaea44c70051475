-- `walked_end`: the invariant says that all rows up to j belong to row i, and that what is left of its rows begins there.
use Rattle.std.proofs.Common.{ℕ, ◌≡◌, refl, ap, sym, ◌∙◌, arith}
use Rattle.laws_steps.specs.Hopping.{hop_begins, rank_at}
use Rattle.meaning.specs.Skips.{rank, belongs}
use Rattle.skips.specs.Owners.{owns}
use Rattle.skips.specs.Hops.{ends, owned_as, steps, stops}
use Rattle.hold_skips.proofs.walked_end.Goals as goal

pub loop-j-init : goal.loop-j-init
loop-j-init c = hop_begins c.args.rows.now c.args.n c.args.i c.requires.0

pub loop-j-preserved : goal.loop-j-preserved
loop-j-preserved c =
    let a = c.args in
    let level = c.level_at in
    let kind = c.kind_at-in-loop-j in
    let told : c.is_owned.result ≡ belongs (rank_at a.rows.now a.i) (rank kind.result level.result) = c.is_owned.ensures ∙ ap (λ (at : ℕ). owns c.owner_of-owner.result at (rank kind.result level.result)) c.level_at-at.ensures ∙ sym (owned_as a.rows.now a.i {o = c.owner_of-owner.result} c.kind_at.ensures c.owner_of-owner.ensures refl (rank kind.result level.result)) in
    steps a.rows.now a.n a.i kind.ensures level.ensures told c.loop-j.invariant c.loop-j-test.true c.if-not-is_owned.false

pub returns-then-not-is_owned : goal.returns-then-not-is_owned
returns-then-not-is_owned c =
    let a = c.args in
    let level = c.level_at in
    let kind = c.kind_at-in-loop-j in
    let told : c.is_owned.result ≡ belongs (rank_at a.rows.now a.i) (rank kind.result level.result) = c.is_owned.ensures ∙ ap (λ (at : ℕ). owns c.owner_of-owner.result at (rank kind.result level.result)) c.level_at-at.ensures ∙ sym (owned_as a.rows.now a.i {o = c.owner_of-owner.result} c.kind_at.ensures c.owner_of-owner.ensures refl (rank kind.result level.result)) in
    (stops a.rows.now a.n a.i kind.ensures level.ensures told c.loop-j.invariant c.loop-j-test.true c.if-not-is_owned.true).0

pub returns : goal.returns
returns c = let e = ends c.loop-j.invariant c.loop-j-test.false in omega (arith, e.0, e.1)
