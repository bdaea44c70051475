-- `row::last_bytes`: the bytes, then the line's end.
use native.Mathlib.Omega.{arith}
use Rattle.listing.specs.Cursors.{hex_length}
use Rattle.listing.proofs.row.last_bytes.Goals as goal

pub put-requires : goal.put-requires
put-requires c =
    omega (arith, c.requires, c.hex-end.ensures.ends, c.hex-end.auto.out, hex_length c.args.rest.now)
