-- `row::view_piece`: no byte left, the last bytes, or as many as there is room for.
use Prim.Native.Nat.{◌+◌, ◌-◌, ◌/◌}
use mathlib.Core.Path.{refl}
use native.Mathlib.Omega.{arith}
use lib.ListN.{length}
use Rattle.listing.proofs.Pieces.{view_ends, view_last, view_goes}
use Rattle.listing.proofs.row.view_piece.Goals as goal

pub returns-then-there-gone : goal.returns-then-there-gone
returns-then-there-gone c =
    let a = c.args in
    let e = c.no_bytes-end.ensures in
    rw c.line_end.ensures (view_ends a.view.now a.gone a.line (omega arith) (e.is a.view.now c.if-there-gone.true) e.some)

pub returns-then-there-gone-2 : goal.returns-then-there-gone-2
returns-then-there-gone-2 c =
    let a = c.args in
    rw c.line_end-then-there-gone-2.ensures (view_last a.view.now a.gone a.line c.if-there-gone.false c.if-there-gone-2.true c.last_bytes-end.ensures)

pub returns : goal.returns
returns c =
    let a = c.args in
    view_goes a.view.now a.gone a.line (a.gone + (length a.out.now - 1) / 2) refl c.requires.room c.if-there-gone-2.false c.hex-end.ensures
