-- `is_envelope`: a number that is no kind's is no envelope's.
use Rattle.std.specs.Prelude.{◌≡◌, false, refl, eqb}
use Rattle.std.proofs.Common.{sym}
use Rattle.std.proofs.lemmas.Bool.{ne_eqb}
use Rattle.table.specs.Kinds.{number_of}
use Rattle.table.specs.declared.kinds.Kind.{Kind}
use Rattle.table.specs.declared.kinds.Kind.TheVariants.{ExtensionOpens, BaseOpens}
use Rattle.lookup.proofs.is_envelope.Goals as goal

pub returns-in_default-2 : goal.returns-in_default-2
returns-in_default-2 c =
    let unknown = rw c.in_default.is at c.try_from.ensures in
    let other : (k : Kind) → eqb c.args.kind (number_of k) ≡ false = λ k. ne_eqb _ _ (λ e. unknown.1 k (sym e)) in
    rw (other ExtensionOpens, other BaseOpens) refl
