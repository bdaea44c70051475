-- `received::behind_via`: a received object's extras are a run of extras with the edition's code, or none.
use Rattle.std.specs.Prelude.{length}
use Rattle.std.specs.Prelude.{None, Some, false, ◌≡◌, refl}
use native.Mathlib.Omega.{arith}
use Rattle.meaning.specs.Editions.{after_via, state}
use Rattle.laws_steps.specs.Pouring.{source}
use Rattle.table.specs.Codes.{received_extra_code}
use Rattle.table.specs.Told.{edition_of, told_of}
use Rattle.read_rows.specs.Joining.{closes, foreign_byte, found_is, not_found}
use Rattle.read_rows.specs.Stages.{found}
use Rattle.read_objects.proofs.ReceivedRooms.{closing_ends, only_closes, received_extras_lem}
use Rattle.read_objects.proofs.received.behind_via.Goals as goal

pub returns-then-eq : goal.returns-then-eq
returns-then-eq c =
    let a = c.args in
    let p = c.peek-b in
    closes (source (told_of a.told) a.s.now (length a.s.now)) (state after_via 1 false) a.from a.rows.now (found p.result) p.ensures (found_is p.result 1 c.eq.ensures c.if-eq.true) (closing_ends _) refl c.passed.ensures.at c.passed.ensures.rows refl (omega arith) c.requires.few

pub returns-in_default : goal.returns-in_default
returns-in_default c =
    let a = c.args in
    let p = c.peek-b in
    let none : received_extra_code (edition_of a.told.edition) ≡ None = cc in
    foreign_byte (source (told_of a.told) a.s.now (length a.s.now)) a.from.at a.from.rows a.rows.now (found p.result) p.ensures (state after_via 1 false) c.fault.ensures
    (only_closes _ none (found p.result) (not_found p.result 1 (omega arith) c.eq.ensures c.if-eq.false)) refl refl

pub returns : goal.returns
returns c =
    let a = c.args in
    let some : received_extra_code (edition_of a.told.edition) ≡ Some c.from.result = cc in
    c.extras.ensures _ _ _ (received_extras_lem (told_of a.told) some)
