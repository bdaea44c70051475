-- `lay::lay`: byte by byte, the bytes so far are laid.
use Rattle.write_rows.specs.Laying.{lay_on}
use lib.ListN.{length-set}
use mathlib.Core.Path.{◌∙◌}
use native.Mathlib.Omega.{arith}
use Rattle.write_rows.proofs.lay.lay.Goals as goal

pub loop-i-preserved : goal.loop-i-preserved
loop-i-preserved c =
    let a = c.args in
    let l = c.loop-i in
    (omega (arith, c.loop-i-test.true), lay_on a.bytes.now l.i a.output.now a.at (omega (arith, c.requires.0, c.loop-i-test.true)) l.invariant.1, length-set l.output _ _ ∙ l.invariant.2)
