-- `rows::keep`: by the value's case.
use native.Mathlib.Omega.{arith}
use Rattle.read_rows.specs.Stages.{Fits}
use Rattle.read_rows.proofs.rows.keep.Goals as goal

pub put_row-requires : goal.put_row-requires
unfolding Fits
put_row-requires c =
    let f = rw c.in-Is.is at c.requires.fits in
    (omega (arith, c.requires.few), omega (arith, f.0), omega (arith, f.1))
