-- `ahead::opened`: no row of this kind and level is ahead, or it views no bytes, or it views some.
use Rattle.meaning.specs.Editions.{opens, on◌▸◌▸◌▸◌}
use Rattle.meaning.specs.Writing.{valid, write_value}
use Rattle.table.specs.Codes.{code_number}
use Rattle.write_rows.specs.Laying.{laid_layable, laid_none, laid_then}
use Rattle.write_rows.specs.Among.{cells_none, sought_none, sought_taken}
use Rattle.write_rows.specs.Onward.{tried_as}
use Rattle.write_rows.proofs.Forms.{view_none, view_some}
use mathlib.Core.Path.{refl, sym}
use Rattle.write_rows.proofs.ahead.opened.Goals as goal

pub returns-in_err-r : goal.returns-in_err-r
returns-in_err-r c n = tried_as _ _ _ _ _ _ _ _ (sym c.from_residual.ensures) (refl, cells_none (on code_number c.args.code ▸ c.args.kind ▸ opens ▸ n) c.args.level refl _ c.in_err-r.ensures)

pub returns-then-r : goal.returns-then-r
unfolding valid write_value
returns-then-r c n =
    let layable = c.requires.layable in
    let sought = c.in_ok-r.ensures in
    sought_taken (on code_number c.args.code ▸ c.args.kind ▸ opens ▸ n) c.args.level refl sought c.requires.inner (view_none sought c.if-r.true) (laid_then c.put_code.ensures layable.small (laid_none _ _ (laid_layable c.put_code.ensures layable)))

pub returns : goal.returns
unfolding valid
returns c n = (refl, sought_none (on code_number c.args.code ▸ c.args.kind ▸ opens ▸ n) c.args.level refl c.in_ok-r.ensures (view_some c.in_ok-r.ensures c.if-r.false))
