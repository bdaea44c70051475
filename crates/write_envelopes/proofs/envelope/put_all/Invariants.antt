-- `envelope::put_all`: the bytes so far, in front of the output as it was; the check rules out what is not written.
use Prim.Native.Nat.{◌≤◌}
use Rattle.meaning.specs.Memory.{room_of}
use Rattle.table.specs.Told.{edition_of}
use Rattle.write_envelopes.proofs.Writing.{WritingAt}
use Rattle.write_envelopes.specs.Whole.{Writable}
use Rattle.write_envelopes.proofs.envelope.put_all.Given as goal

abbrev pub invariant-loop-many : goal.invariant-loop-many
invariant-loop-many l = (l.i ≤ room_of l.table.rows.now) × ((w : Writable (edition_of l.edition) l.table.rows.now l.table.pool.now l.lengths l.initial.output) → WritingAt (edition_of l.edition) l.table.pool.now l.table.rows.now l.lengths l.initial.output w.bytes_needed l.i l.many-index l.at l.output)
