-- `next`: the first line, the next piece of a row, or nothing behind the last line.
use native.Mathlib.Omega.{arith}
use Rattle.listing.specs.Cursors.{lines_within}
use Rattle.listing.proofs.Answers.{next_short, next_first, next_over, next_row}
use Rattle.listing.proofs.next.Goals as goal

pub returns-then-out-lt-PIECE_LEAST : goal.returns-then-out-lt-PIECE_LEAST
returns-then-out-lt-PIECE_LEAST c =
    let a = c.args in
    let r = a.reply.now in
    rw c.nothing.ensures (next_short r.answer r.place r.rows a.rows.now a.bytes.now a.cursor.line a.cursor.byte c.if-out-lt-PIECE_LEAST.true)

pub returns-then-cursor-eq0 : goal.returns-then-cursor-eq0
returns-then-cursor-eq0 c =
    let a = c.args in
    let r = a.reply.now in
    next_first r.answer r.place r.rows a.rows.now a.bytes.now a.cursor.line a.cursor.byte c.if-out-lt-PIECE_LEAST.false c.if-cursor-eq0.true c.first_line-end.ensures

pub returns-then-lines-cursor : goal.returns-then-lines-cursor
returns-then-lines-cursor c =
    let a = c.args in
    let r = a.reply.now in
    rw c.nothing-then-lines-cursor.ensures (next_over r.answer r.place r.rows a.rows.now a.bytes.now a.cursor.line a.cursor.byte c.if-out-lt-PIECE_LEAST.false (omega (arith, c.lines.ensures, c.if-lines-cursor.true)))

pub row_piece-requires : goal.row_piece-requires
row_piece-requires c =
    let a = c.args in
    let r = a.reply.now in
    (omega (arith, c.if-cursor-eq0.false), omega (arith, c.lines.ensures, c.if-lines-cursor.false, lines_within r.answer r.rows a.rows.now), omega arith)

pub returns : goal.returns
returns c =
    let a = c.args in
    let r = a.reply.now in
    next_row r.answer r.place r.rows a.rows.now a.bytes.now a.cursor.line a.cursor.byte c.if-out-lt-PIECE_LEAST.false (omega (arith, c.if-cursor-eq0.false)) (omega (arith, c.lines.ensures, c.if-lines-cursor.false)) c.row_piece.ensures
