-- `rows::put_row`: the four stores are the definition's.
use borrow.Author.Tests.{le-leb, lt-leb}
use Rattle.laws_steps.specs.Rows.{put}
use Rattle.table.proofs.rows.put_row.Goals as goal

pub returns-then-i-rows : goal.returns-then-i-rows
unfolding put
returns-then-i-rows c = simp (le-leb _ _ c.if-i-rows.true)

pub returns-else-i-rows : goal.returns-else-i-rows
unfolding put
returns-else-i-rows c = simp (lt-leb _ _ c.if-i-rows.false)
