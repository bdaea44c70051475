-- `print_piece`: what it promises is what `next` does, whose memory of 4,096 bytes holds any piece.
use Rattle.std.proofs.Common.{sym}
use lib.Seq.{length-take-le}
use Rattle.listing.specs.Promised.{piece_inside}
use Rattle.lister.proofs.print_piece.Goals as goal

pub slice_bounds-out-end : goal.slice_bounds-out-end
slice_bounds-out-end g c = piece_inside c.next-piece.ensures

pub slice_bounds-write_all-end : goal.slice_bounds-write_all-end
slice_bounds-write_all-end g c = sym (length-take-le _ _ (piece_inside c.next-piece.ensures))
