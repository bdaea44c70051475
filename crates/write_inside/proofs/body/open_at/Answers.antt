-- `body::open_at`: a row whose kind is no kind's opens no envelope.
use Rattle.table.specs.declared.kinds.Kind.TheVariants.{BaseOpens, ExtensionOpens}
use Rattle.write_inside.proofs.Insides.{open_other}
use mathlib.Core.Path.{sym}
use Rattle.write_inside.proofs.body.open_at.Goals as goal

pub returns-in_default : goal.returns-in_default
returns-in_default c = open_other c.in_ok-r.ensures (λ q. c.in_default.ensures.1 ExtensionOpens (sym q)) (λ q. c.in_default.ensures.1 BaseOpens (sym q))
