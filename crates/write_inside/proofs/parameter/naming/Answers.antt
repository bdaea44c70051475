-- `parameter::naming`: its row, and the agents behind it.
use Rattle.table.specs.Kinds.{number_of}
use Rattle.table.specs.Told.{edition_of}
use Rattle.write_rows.specs.Onward.{leading}
use Rattle.write_rows.specs.Laying.{laid_layable}
use Rattle.write_inside.proofs.Choosing.{after_first, parameter_row, tried_move}
use Rattle.meaning.specs.Kinds.{from_opens}
use Rattle.write_inside.proofs.Others.{from_kind}
use Rattle.write_inside.proofs.Rooms.{agents_begin, names_first, names_shallow}
use Rattle.write_inside.specs.Parameters.{agents_next, naming_move}
use Rattle.std.specs.Prelude.{None, Some}
use Prim.Native.Nat.{ℕ}
use lib.Dec.{eqb}
use native.Mathlib.Omega.{arith}
use Rattle.write_inside.proofs.parameter.naming.Goals as goal

pub returns-in_default : goal.returns-in_default
returns-in_default c =
    let a = c.args in
    let next = agents_next (eqb (number_of a.kind) from_opens) in
    tried_move (number_of a.kind) next _ _ _ _ a.at None _ c.naming_code.ensures (rw c.number.ensures at (c.in_default.ensures next))

pub agents-requires : goal.agents-requires
agents-requires c =
    let first = c.in-Some.ensures (agents_next (eqb (number_of c.args.kind) from_opens)) in
    record { inside = omega (arith, first.ahead.within); layable = laid_layable first.laid c.requires.0.layable }

pub returns : goal.returns
returns c =
    let a = c.args in
    let kind : ℕ = number_of a.kind in
    let one = eqb kind from_opens in
    let in_there = names_first (edition_of a.edition) c.requires.1 in
    let first = tried_move kind (agents_next one) _ _ _ _ _ (Some c.in-Some.p) _ c.naming_code.ensures (rw c.number.ensures at (c.in-Some.ensures (agents_next one))) in
    let opening = parameter_row (edition_of a.edition) _ _ (naming_move kind) in_there.is (names_shallow c.requires.1) first in
    let agents = rw (from_kind a.kind c.eq-one.ensures) at c.agents.ensures in
    after_first (edition_of a.edition) _ c.requires.0.layable.small (leading (agents_begin one) opening) c.agents.result _ agents c.begun.ensures
