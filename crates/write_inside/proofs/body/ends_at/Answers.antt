-- `body::ends_at`: the cells behind the last row, or the first cell from row i on.
use Rattle.write_inside.proofs.Insides.{ends_last, ends_open}
use mathlib.Core.Path.{◌∙◌}
use native.Mathlib.Omega.{arith}
use Rattle.write_inside.proofs.body.ends_at.Goals as goal

pub returns-then-room-i : goal.returns-then-room-i
returns-then-room-i c = let a = c.args in c.whole.ensures ∙ ends_last a.table.now.pool.now a.table.now.rows.now a.i (omega (arith, c.room.ensures, c.if-room-i.true))

pub returns : goal.returns
returns c = let a = c.args in c.is_some.ensures ∙ ends_open a.table.now.pool.now a.table.now.rows.now a.i (omega (arith, c.room.ensures, c.if-room-i.false)) c.open_at.ensures
