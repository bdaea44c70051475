-- `received::behind_date`: three optional texts, then the extras of D or the 01 of B.
use Rattle.meaning.specs.Editions.{state, parameters, after_date, after_from, after_id, after_via}
use Rattle.table.specs.Told.{edition_of}
use Rattle.write_rows.specs.Onward.{onward_layable, onward_then, advance_then}
use Rattle.write_objects.proofs.Receiving.{extras_when, received_closes}
use Rattle.write_objects.proofs.Rooms.{received_from_lem, received_id_lem, received_via_lem}
use mathlib.Core.Bool.{false}
use native.Mathlib.Omega.{arith}
use Rattle.write_objects.proofs.received.behind_date.Goals as goal

pub optional-b-requires : goal.optional-b-requires
optional-b-requires c =
    let d = edition_of c.args.edition in
    let a = c.optional-a.ensures d after_date after_from false (received_from_lem d) in
    record { inside = a.inside; inner = omega arith; layable = onward_layable a c.requires.layable }

pub optional-c-requires : goal.optional-c-requires
optional-c-requires c =
    let d = edition_of c.args.edition in
    let a = c.optional-a.ensures d after_date after_from false (received_from_lem d) in
    let b = c.optional-b.ensures d after_from after_id false (received_id_lem d) in
    record { inside = b.inside; inner = omega arith; layable = onward_layable b (onward_layable a c.requires.layable) }

pub put-requires : goal.put-requires
put-requires c =
    let d = edition_of c.args.edition in
    let a = c.optional-a.ensures d after_date after_from false (received_from_lem d) in
    let b = c.optional-b.ensures d after_from after_id false (received_id_lem d) in
    let v = c.optional-c.ensures d after_id after_via false (received_via_lem d) in
    onward_layable v (onward_layable b (onward_layable a c.requires.layable))

pub some_extras-requires : goal.some_extras-requires
some_extras-requires c =
    let d = edition_of c.args.edition in
    let a = c.optional-a.ensures d after_date after_from false (received_from_lem d) in
    let b = c.optional-b.ensures d after_from after_id false (received_id_lem d) in
    let v = c.optional-c.ensures d after_id after_via false (received_via_lem d) in
    record { inside = v.inside; layable = onward_layable v (onward_layable b (onward_layable a c.requires.layable)) }

pub returns-in_default : goal.returns-in_default
returns-in_default c =
    let d = edition_of c.args.edition in
    let a = c.optional-a.ensures d after_date after_from false (received_from_lem d) in
    let b = c.optional-b.ensures d after_from after_id false (received_id_lem d) in
    let v = c.optional-c.ensures d after_id after_via false (received_via_lem d) in
    let small = c.requires.layable.small in
    onward_then small (onward_then small (onward_then small a b) v) (received_closes d _ _ c.in_default.ensures v.inside c.put.ensures)

pub returns : goal.returns
returns c =
    let d = edition_of c.args.edition in
    let a = c.optional-a.ensures d after_date after_from false (received_from_lem d) in
    let b = c.optional-b.ensures d after_from after_id false (received_id_lem d) in
    let v = c.optional-c.ensures d after_id after_via false (received_via_lem d) in
    let small = c.requires.layable.small in
    advance_then small (onward_then small (onward_then small a b) v) (state parameters 0 false) _ c.some_extras.result (c.some_extras.ensures d after_via false (state parameters 0 false) (extras_when d c.in-Some.ensures))
