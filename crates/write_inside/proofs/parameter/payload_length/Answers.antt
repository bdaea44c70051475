-- `parameter::payload_length`: its one row.
use Rattle.meaning.specs.Editions.{parameters, outer, number, on◌▸◌▸◌▸◌}
use Rattle.meaning.specs.Kinds.{payload_length}
use Rattle.write_inside.proofs.Choosing.{after_single}
use Rattle.write_inside.proofs.Rooms.{length_first}
use mathlib.Core.Path.{refl}
use Rattle.write_inside.proofs.parameter.payload_length.Goals as goal

pub returns : goal.returns
returns c edition = after_single edition _ _ _ (on 0x06 ▸ payload_length ▸ number ▸ outer parameters) _ _ c.number-t.result _ (length_first edition) refl refl (c.number-t.ensures (outer parameters)) c.single.ensures
