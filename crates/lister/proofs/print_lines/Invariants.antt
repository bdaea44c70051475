-- `print_lines` ends: the text behind the last piece, and that piece, are what was left before it.
use Prim.Native.Nat.{◌+◌}
use lib.ListN.{length}
use Rattle.listing.specs.Text.{text_at}
use Rattle.lister.proofs.print_lines.Given as goal

abbrev pub decreases-loop-piece : goal.decreases-loop-piece
decreases-loop-piece g l = l.piece.length + length (text_at l.table.answer l.table.place l.table.rows l.rows l.input l.piece.line l.piece.byte)
