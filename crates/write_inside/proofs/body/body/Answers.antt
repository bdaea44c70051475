-- `body::body`: behind the stages nothing fits; the envelope ends there or the row ahead stands nowhere.
use Rattle.write_inside.proofs.Insides.{body_as, body_ends, body_halts, body_stuck}
use Rattle.write_rows.specs.Onward.{handed_up}
use Rattle.write_inside.proofs.body.body.Goals as goal

pub returns-in_err-end : goal.returns-in_err-end
returns-in_err-end c = body_as _ _ _ _ _ _ (handed_up _ c.from_residual.ensures) (body_stuck _ _ _ _ _ c.in_err-end.ensures)

pub returns-then-ends_at : goal.returns-then-ends_at
returns-then-ends_at c = body_ends c.in_ok-end.ensures c.ends_at.ensures c.if-ends_at.true

pub returns : goal.returns
returns c = body_halts c.in_ok-end.ensures c.ends_at.ensures c.if-ends_at.false
