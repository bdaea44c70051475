-- `row::view_line`: what the bytes hold of a view is the view that `meaning` takes.
use Rattle.std.proofs.Common.{arith}
use Rattle.listing.proofs.Pieces.{view_held}
use Rattle.listing.proofs.row.view_line.Goals as goal

pub returns : goal.returns
returns c =
    view_held c.args.row.now c.args.bytes.now (omega (arith, c.min-start.ensures)) (omega (arith, c.min.ensures)) c.view_piece.ensures
