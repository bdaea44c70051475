-- `parameter::represented`: the code 04 leads to the representation that it needs, by the kind.
use Rattle.meaning.specs.Bytes.{line}
use Rattle.meaning.specs.Editions.{parameters, outer, text, on◌▸◌▸◌▸◌}
use Rattle.meaning.specs.Kinds.{standard_representation, own_representation}
use Rattle.laws_steps.specs.Rows.{cells_at}
use Rattle.table.specs.Kinds.{number_of}
use Rattle.write_inside.proofs.Others.{own_kind, standard_kind}
use Rattle.write_inside.proofs.Represented.{represented_found}
use Rattle.write_inside.proofs.Rooms.{none_represents}
use Rattle.write_inside.specs.Parameters.{KindAhead}
use Rattle.write_rows.specs.Rooms.{standards}
use Prim.Native.Nat.{ℕ}
use mathlib.Core.List.{[], ◌∷◌}
use mathlib.Core.Path.{◌≡◌, refl, subst}
use native.Mathlib.Omega.{arith}
use Rattle.write_inside.proofs.parameter.represented.Goals as goal

pub returns-then-eq : goal.returns-then-eq
returns-then-eq c edition =
    let a = c.args in
    let one : number_of a.kind ≡ standard_representation = standard_kind a.kind c.eq.ensures c.if-eq.true in
    let ahead = subst (λ (k : ℕ). KindAhead k (cells_at a.table.now.pool.now a.table.now.rows.now a.i)) one c.requires.2 in
    let tried = c.standard in
    represented_found edition _ _ _ standard_representation (standards (outer parameters)) refl (none_represents edition).0 (omega arith) refl ahead tried.result c.needed.result c.begun.result _ c.requires.0.inside c.requires.0.layable.small c.put-p.ensures (tried.ensures (outer parameters)) c.needed.ensures c.begun.ensures

pub returns : goal.returns
returns c edition =
    let a = c.args in
    let own : number_of a.kind ≡ own_representation = own_kind a.kind c.eq.ensures c.if-eq.false c.requires.1 in
    let ahead = subst (λ (k : ℕ). KindAhead k (cells_at a.table.now.pool.now a.table.now.rows.now a.i)) own c.requires.2 in
    let tried = c.text-own in
    represented_found edition _ _ _ own_representation (on 0x00 ▸ own_representation ▸ text line ▸ outer parameters ∷ []) refl (none_represents edition).1 (omega arith) refl ahead tried.result c.needed-2.result c.begun-2.result _ c.requires.0.inside c.requires.0.layable.small c.put-p.ensures (tried.ensures (outer parameters)) c.needed-2.ensures c.begun-2.ensures
