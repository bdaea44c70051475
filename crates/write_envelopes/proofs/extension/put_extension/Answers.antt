-- `extension::put_extension`: the envelope is the one that the plan has.
use mathlib.Core.Path.{◌∙◌}
use native.Mathlib.Omega.{arith}
use Rattle.table.specs.Told.{edition_of}
use Rattle.write_envelopes.proofs.Extensions.{extension_laid, extension_long, planned_row}
use Rattle.write_envelopes.proofs.extension.put_extension.Goals as goal

pub put_envelope-requires : goal.put_envelope-requires
put_envelope-requires c =
    let a = c.args in
    let f = c.requires in
    record { inside = planned_row (edition_of a.edition) a.table.now.pool.now a.table.now.rows.now f.body f.envelopes f.planned; small = f.small; room = omega (arith, f.room) }

pub returns : goal.returns
returns c =
    let a = c.args in
    let f = c.requires in
    λ bytes vs p. extension_laid (edition_of a.edition) a.table.now.pool.now a.table.now.rows.now bytes vs p (extension_long f.planned p ∙ f.long) c.put_envelope.ensures
