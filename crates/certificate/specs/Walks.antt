-- Order 7, of calls of `read`, `read_tolerant` and `write`: what a walk by skip numbers is sure of, on rows that a call read or wrote. Every hop goes forward and never past
-- the row count, the rows of a row lie inside those of its parent, and hopping from row 0 over the envelopes ends at the row count.
use Rattle.std.specs.Prelude.{ℕ, List, ◌≡◌, length}
use Rattle.std.proofs.Common.{sym, subst}
use Rattle.meaning.specs.Told.{Strictness}
use Rattle.laws_demands.specs.Walks.{Walked, read_walks, written_walks}
use Rattle.table.specs.declared.reply.Reply as declared
use Rattle.reader.specs.Promises.{ReadsBy}
use Rattle.writer.specs.Promise.{WritePromise}
use Rattle.certificate.specs.Lent.{first_rows, rows_read, accepted_call, written_call}

pub read_rows_walk : {w : Strictness} {edition : ℕ} {input before words after words' : List ℕ} {a : declared.Reply} → ReadsBy w edition input before words a after words' → a.answer ≡ 0 → (envelopes : ℕ) × Walked (first_rows a.rows after) envelopes
read_rows_walk {w} {edition} {input} p z =
    let (place, found, is, f) = accepted_call p z in
    let (envelopes, walk) = read_walks w edition input place found p.bytes is in
    (envelopes, subst (λ (x : List ℕ). Walked x envelopes) (sym (rows_read f)) walk)

pub written_rows_walk : {edition : ℕ} {rows pool before after : List ℕ} {a : declared.Reply} → WritePromise edition rows pool before a after → a.answer ≡ 0 → (envelopes : ℕ) × Walked rows envelopes
written_rows_walk {edition} {rows} {pool} {before} p z =
    let (bytes, w, l) = written_call p z in
    written_walks edition rows pool (length before) bytes w
