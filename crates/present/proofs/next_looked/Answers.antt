-- `next_looked`: a row whose kind is no kind's is no envelope's.
use Prim.Native.Nat.{ℕ, ◌+◌}
use mathlib.Core.Path.{◌≡◌, ◌∙◌, refl, subst, sym}
use borrow.Author.Tests.{ne_eqb}
use Rattle.meaning.specs.Basics.{pick}
use Rattle.meaning.specs.Skips.{is_envelope}
use Rattle.laws_steps.specs.Hopping.{given_at}
use Rattle.table.specs.declared.kinds.Kind.TheVariants.{BaseOpens, ExtensionOpens}
use Rattle.present.proofs.next_looked.Goals as goal

pub returns-in_default : goal.returns-in_default
returns-in_default c =
    let a = c.args in
    let kind = c.kind_at.result in
    let other = c.in_default.ensures.1 in
    c.skip_at.ensures
    ∙ subst (λ (k : ℕ). given_at a.rows.now a.i ≡ pick (is_envelope k) (a.i + 1) (given_at a.rows.now a.i)) c.kind_at.ensures
    (rw (ne_eqb kind 1 (λ q. other ExtensionOpens (sym q)), ne_eqb kind 2 (λ q. other BaseOpens (sym q))) refl)
