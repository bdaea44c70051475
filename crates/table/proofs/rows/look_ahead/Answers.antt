-- `rows::look_ahead`: no row, a row that views past the pool, or one that counts.
use Rattle.table.specs.Rows.{ahead_end, ahead_in, ahead_out}
use native.Mathlib.Omega.{arith}
use Rattle.table.proofs.rows.look_ahead.Goals as goal

pub returns-then-room-i : goal.returns-then-room-i
returns-then-room-i c = let a = c.args in ahead_end a.pool.now a.rows.now a.i (omega arith)

pub returns-then-pool-end : goal.returns-then-pool-end
returns-then-pool-end c = let a = c.args in ahead_out a.pool.now a.rows.now (omega arith) c.row_at-r.ensures c.if-pool-end.true

pub returns : goal.returns
returns c = let a = c.args in ahead_in a.pool.now a.rows.now (omega arith) c.row_at-r.ensures c.if-pool-end.false
