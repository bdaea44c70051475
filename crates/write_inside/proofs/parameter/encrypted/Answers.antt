-- `parameter::encrypted`: by edition; D has no such parameter.
use Rattle.table.specs.Told.{edition_of}
use Rattle.laws_steps.specs.Rows.{cells_at}
use Rattle.write_inside.proofs.Choosing.{encrypted_as}
use Rattle.write_rows.specs.Among.{nothing_among}
use Rattle.std.specs.Prelude.{Ok, None}
use mathlib.Core.Path.{ap, refl}
use Rattle.write_inside.proofs.parameter.encrypted.Goals as goal

pub returns-in-D : goal.returns-in-D
returns-in-D c =
    let a = c.args in
    encrypted_as a.table.now.pool.now a.table.now.rows.now a.i a.output.now a.at (Ok None) _ (ap edition_of c.in-D.is) (refl, nothing_among 0 (cells_at a.table.now.pool.now a.table.now.rows.now a.i))
