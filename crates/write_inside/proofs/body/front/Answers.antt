-- `body::front`: representation and date have to stand one behind the other, or a received object.
use Rattle.table.specs.Told.{edition_of}
use Rattle.write_inside.proofs.Insides.{represented}
use Rattle.write_inside.proofs.Rooms.{front_date}
use Rattle.write_rows.specs.Onward.{advance_as, advance_then, handed_up, needed_is, onward_layable}
use Rattle.write_rows.specs.Stages.{at_parameters}
use mathlib.Core.Bool.{false}
use Rattle.meaning.specs.Editions.{state, head_date, outer, parameters}
use native.Mathlib.Omega.{arith}
use Rattle.write_inside.proofs.body.front.Goals as goal

pub returns-in_err-first : goal.returns-in_err-first
returns-in_err-first c =
    advance_as _ _ _ _ _ _ _ _ _ (handed_up _ c.from_residual.ensures) (represented (edition_of c.args.edition) _ _ _ _ _ c.representation.result _ (c.representation.ensures (outer head_date)) c.if-base.true c.in_err-first.ensures)

pub date-d-requires : goal.date-d-requires
date-d-requires c =
    let first = represented (edition_of c.args.edition) _ _ _ _ _ c.representation.result _ (c.representation.ensures (outer head_date)) c.if-base.true c.in_ok-first.ensures in
    record { inside = first.inside; layable = onward_layable first (record { counted = omega arith; small = c.requires.1 }) }

pub returns-then-base : goal.returns-then-base
returns-then-base c =
    let d = edition_of c.args.edition in
    let first = represented d _ _ _ _ _ c.representation.result _ (c.representation.ensures (outer head_date)) c.if-base.true c.in_ok-first.ensures in
    advance_then c.requires.1 first at_parameters _ c.needed-then-base.result (needed_is d _ _ _ (state head_date 0 false) (front_date d) _ _ c.date-d.result _ (c.date-d.ensures (outer parameters)) c.needed-then-base.ensures)
