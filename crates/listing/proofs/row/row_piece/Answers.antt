-- `row::row_piece`: the row's numbers at the line's beginning, else its view.
use Rattle.listing.proofs.Pieces.{numbers_piece, view_piece}
use Rattle.listing.proofs.row.row_piece.Goals as goal

pub returns-then-cursor-eq0 : goal.returns-then-cursor-eq0
returns-then-cursor-eq0 c =
    let a = c.args in
    numbers_piece a.rows.now a.bytes.now a.cursor.line a.cursor.byte c.if-cursor-eq0.true c.requires.0 c.requires.1 c.numbers-end.ensures

pub returns : goal.returns
returns c =
    let a = c.args in
    view_piece a.rows.now a.bytes.now a.cursor.line a.cursor.byte c.if-cursor-eq0.false c.view_line.ensures
