-- `representation::standard`: one is ahead, and its byte is its code or no code; or none is.
use Rattle.meaning.specs.Kinds.{standard_representation}
use Rattle.write_rows.specs.Among.{nothing_among, tried_away}
use Rattle.laws_steps.specs.Rows.{cells_at}
use Rattle.write_rows.specs.Onward.{tried_as}
use Rattle.write_rows.specs.Rooms.{standards}
use Rattle.write_rows.proofs.Forms.{standard_none, standard_other, standard_taken, unpicked, view_length}
use Rattle.std.specs.Prelude.{None}
use Rattle.std.proofs.lemmas.Grind.{common_steps}
use native.Mathlib.Omega.{arith}
use borrow.Author.Tests.{ne_eqb}
use mathlib.Core.List.{[]}
use mathlib.Core.Path.{◌∙◌, refl, sym}
use Rattle.write_rows.proofs.representation.standard.Goals as goal

pub returns-in_err-r : goal.returns-in_err-r
returns-in_err-r c n =
    let a = c.args in
    tried_as _ _ _ _ _ _ _ _ (sym c.from_residual.ensures) (tried_away standard_representation 0 [] (standards n) (λ j h. rw (ne_eqb standard_representation j (λ q. h (sym q))) refl) a.table.now.pool.now a.table.now.rows.now a.i c.in_err-r.ensures a.output.now a.at _ None (refl, nothing_among 0 (cells_at a.table.now.pool.now a.table.now.rows.now a.i)))

pub returns-then-r-start-ne1 : goal.returns-then-r-start-ne1
returns-then-r-start-ne1 c n =
    let sought = c.in_ok-r.ensures in
    (refl, unpicked (standards n) 0 standard_representation 0 _ refl sought.row (standard_none n _ (λ q. c.if-r-start-ne1.true (sym (view_length sought) ∙ q))))

pub returns-then-contains : goal.returns-then-contains
returns-then-contains c n = standard_taken n c.in_ok-r.ensures c.if-r-start-ne1.false (grind (arith, common_steps)) c.put.ensures

pub returns : goal.returns
returns c n = (refl, standard_other n c.in_ok-r.ensures c.if-r-start-ne1.false (grind (arith, common_steps)))
