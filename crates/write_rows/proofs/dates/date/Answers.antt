-- `dates::date`: kind and length pick a code; the row ahead is of another level, has no code, or its bytes are or are no date of that code.
use Rattle.date.specs.Dates.{dates_of}
use Rattle.table.specs.Rows.{no_row_lem}
use Rattle.table.specs.Told.{edition_of}
use Rattle.write_rows.specs.Laying.{laid_then}
use Rattle.write_rows.specs.Onward.{tried_as}
use Rattle.write_rows.specs.Rooms.{NotAmong}
use Rattle.write_rows.proofs.Forms.{absolute_kind, ahead_none, date_of_none, date_taken, date_unknown, date_wrong}
use lib.Dec.{eqb}
use mathlib.Core.Path.{◌≡◌, ◌∙◌, refl, sym}
use native.Mathlib.Omega.{arith}
use Rattle.write_rows.proofs.dates.date.Goals as goal

pub returns-in_err-r : goal.returns-in_err-r
returns-in_err-r c n = tried_as _ _ _ _ _ _ _ _ (sym c.from_residual.ensures) (refl, no_row_lem (NotAmong (dates_of (edition_of c.args.edition) n) c.args.level) tt (λ cs. tt) _ c.in_err-r.ensures)

pub returns-in_default : goal.returns-in_default
returns-in_default c n = (refl, ahead_none (dates_of (edition_of c.args.edition) n) c.args.level c.in_ok-r.ensures (λ q. date_of_none (edition_of c.args.edition) n _ _ c.in_default.ensures.1))

pub returns-in_err-code : goal.returns-in_err-code
returns-in_err-code c n =
    tried_as _ _ _ _ _ _ _ _ (sym c.from_residual-in_err-code.ensures)
    (refl, ahead_none (dates_of (edition_of c.args.edition) n) c.args.level c.in_ok-r.ensures (λ q. date_unknown _ n (edition_of c.args.edition) _ (rw (← c.in-Ok.ensures, ← c.view-bytes.ensures) c.in_err-code.ensures)))

pub returns-then-date_ok : goal.returns-then-date_ok
returns-then-date_ok c n =
    let is : c.eq-absolute.result ≡ eqb c.in_ok-r.r.kind 5 = rw (← c.in-Ok.ensures) (absolute_kind c.in-Ok.kind c.eq-absolute.ensures) in
    let ok = rw (is, c.view-bytes.ensures) at (sym c.date_ok.ensures ∙ c.if-date_ok.true) in
    date_taken (edition_of c.args.edition) c.args.level n _ c.in_ok-r.ensures c.if-r-level.false (rw (← c.in-Ok.ensures, ← c.view-bytes.ensures) c.in_ok-code.ensures) (omega arith) ok (rw c.view-bytes.ensures at (laid_then c.put-p.ensures c.requires.layable.small c.copy.ensures))

pub returns : goal.returns
returns c n =
    let is : c.eq-absolute.result ≡ eqb c.in_ok-r.r.kind 5 = rw (← c.in-Ok.ensures) (absolute_kind c.in-Ok.kind c.eq-absolute.ensures) in
    let wrong = rw (is, c.view-bytes.ensures) at (sym c.date_ok.ensures ∙ c.if-date_ok.false) in
    (refl, ahead_none (dates_of (edition_of c.args.edition) n) c.args.level c.in_ok-r.ensures (λ q. date_wrong _ n (edition_of c.args.edition) c.in_ok-r.r.kind wrong))
