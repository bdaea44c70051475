-- `received::received`: by, date, and what is behind them.
use Rattle.meaning.specs.Editions.{state, parameters, inner, stay, received_begins, received_date, after_date}
use Rattle.table.specs.Told.{edition_of}
use Rattle.write_rows.specs.Onward.{advance_as, advance_then, beyond, handed_up, needed_beyond, needed_is, onward_layable, onward_stuck, onward_then}
use Rattle.write_rows.specs.Stages.{Beyond}
use Rattle.write_objects.proofs.Rooms.{received_by_lem, received_date_lem}
use mathlib.Core.Bool.{false}
use mathlib.Core.Path.{subst}
use native.Mathlib.Omega.{arith}
use Rattle.write_objects.proofs.received.received.Goals as goal

pub returns-in_err-by : goal.returns-in_err-by
returns-in_err-by c =
    let d = edition_of c.args.edition in
    let lost = handed_up _ c.from_residual.ensures in
    (advance_as _ _ _ _ _ _ _ _ _ lost (needed_is d _ _ _ (state received_begins 0 false) (received_by_lem d) _ _ c.text-t.result _ (c.text-t.ensures (inner received_date)) c.in_err-by.ensures), subst (Beyond c.args.i) lost tt)

pub date-d-requires : goal.date-d-requires
date-d-requires c =
    let d = edition_of c.args.edition in
    let by = needed_is d _ _ _ (state received_begins 0 false) (received_by_lem d) _ _ c.text-t.result _ (c.text-t.ensures (inner received_date)) c.in_ok-by.ensures in
    record { inside = by.inside; layable = onward_layable by c.requires.layable }

pub returns-in_err-dated : goal.returns-in_err-dated
returns-in_err-dated c =
    let d = edition_of c.args.edition in
    let by = needed_is d _ _ _ (state received_begins 0 false) (received_by_lem d) _ _ c.text-t.result _ (c.text-t.ensures (inner received_date)) c.in_ok-by.ensures in
    let date = needed_is d _ _ _ (state received_date 1 false) (received_date_lem d) _ _ c.date-d.result _ (c.date-d.ensures (stay after_date)) c.in_err-dated.ensures in
    let lost = handed_up _ c.from_residual-in_err-dated.ensures in
    (advance_as _ _ _ _ _ _ _ _ _ lost (onward_stuck c.requires.layable.small by date), subst (Beyond c.args.i) lost tt)

pub behind_date-requires : goal.behind_date-requires
behind_date-requires c =
    let d = edition_of c.args.edition in
    let by = needed_is d _ _ _ (state received_begins 0 false) (received_by_lem d) _ _ c.text-t.result _ (c.text-t.ensures (inner received_date)) c.in_ok-by.ensures in
    let dated = needed_is d _ _ _ (state received_date 1 false) (received_date_lem d) _ _ c.date-d.result _ (c.date-d.ensures (stay after_date)) c.in_ok-dated.ensures in
    record { inside = dated.inside; layable = onward_layable dated (onward_layable by c.requires.layable) }

pub returns : goal.returns
returns c =
    let d = edition_of c.args.edition in
    let small = c.requires.layable.small in
    let by = needed_is d _ _ _ (state received_begins 0 false) (received_by_lem d) _ _ c.text-t.result _ (c.text-t.ensures (inner received_date)) c.in_ok-by.ensures in
    let dated = needed_is d _ _ _ (state received_date 1 false) (received_date_lem d) _ _ c.date-d.result _ (c.date-d.ensures (stay after_date)) c.in_ok-dated.ensures in
    let past = needed_beyond c.args.i c.text-t.result c.in_ok-by.ensures in
    (advance_then small (onward_then small by dated) (state parameters 0 false) _ c.behind_date.result c.behind_date.ensures, beyond _ _ _ _ _ _ _ _ c.behind_date.result _ (omega (arith, past, dated.later)) c.behind_date.ensures)
