-- `ahead::number`: no payload length is ahead, or its bytes are a number, or they are not.
use Rattle.meaning.specs.Editions.{on◌▸◌▸◌▸◌}
use Rattle.meaning.specs.Editions as editions
use Rattle.meaning.specs.Kinds.{payload_length}
use Rattle.meaning.specs.Writing.{valid, write_value}
use Rattle.write_rows.specs.Laying.{laid_then}
use Rattle.write_rows.specs.Among.{cells_none, sought_none, sought_taken}
use Rattle.write_rows.specs.Onward.{tried_as}
use mathlib.Core.Path.{◌∙◌, refl, sym}
use native.Mathlib.Omega.{arith}
use Rattle.write_rows.proofs.ahead.number.Goals as goal

pub returns-in_err-r : goal.returns-in_err-r
returns-in_err-r c n = tried_as _ _ _ _ _ _ _ _ (sym c.from_residual.ensures) (refl, cells_none (on 0x06 ▸ payload_length ▸ editions.number ▸ n) 0 refl _ c.in_err-r.ensures)

pub returns-then-number_ok : goal.returns-then-number_ok
unfolding valid write_value
returns-then-number_ok c n = sought_taken (on 0x06 ▸ payload_length ▸ editions.number ▸ n) 0 refl c.in_ok-r.ensures (omega arith) (rw c.view-bytes.ensures at (sym c.number_ok.ensures ∙ c.if-number_ok.true)) (rw c.view-bytes.ensures at (laid_then c.put-p.ensures c.requires.layable.small c.copy.ensures))

pub returns : goal.returns
unfolding valid
returns c n = (refl, sought_none (on 0x06 ▸ payload_length ▸ editions.number ▸ n) 0 refl c.in_ok-r.ensures (rw c.view-bytes.ensures at (sym c.number_ok.ensures ∙ c.if-number_ok.false)))
