-- `ahead::text`: no row of this kind and level is ahead, or the rule allows its bytes, or not.
use Rattle.meaning.specs.Editions.{on◌▸◌▸◌▸◌}
use Rattle.meaning.specs.Editions as editions
use Rattle.meaning.specs.Writing.{valid, write_value}
use Rattle.table.specs.Codes.{code_number}
use Rattle.values.specs.Stages.{rule_of}
use Rattle.write_rows.specs.Laying.{laid_layable, laid_then}
use Rattle.write_rows.specs.Among.{cells_none, sought_none, sought_taken}
use Rattle.write_rows.specs.Onward.{tried_as}
use mathlib.Core.Path.{◌∙◌, refl, sym}
use Rattle.write_rows.proofs.ahead.text.Goals as goal

pub returns-in_err-r : goal.returns-in_err-r
returns-in_err-r c n = tried_as _ _ _ _ _ _ _ _ (sym c.from_residual.ensures) (refl, cells_none (on code_number c.args.code ▸ c.args.kind ▸ editions.text (rule_of c.args.rule) ▸ n) c.args.level refl _ c.in_err-r.ensures)

pub returns-then-text_ok : goal.returns-then-text_ok
unfolding valid write_value
returns-then-text_ok c n =
    let ok = rw c.view-bytes.ensures at (sym c.text_ok.ensures ∙ c.if-text_ok.true) in
    let coded = laid_layable c.put_code-p.ensures c.requires.layable in
    let laid = rw c.view-bytes.ensures at (laid_then c.put_code-p.ensures c.requires.layable.small (laid_then c.copy-q.ensures coded.small c.put.ensures)) in
    sought_taken (on code_number c.args.code ▸ c.args.kind ▸ editions.text (rule_of c.args.rule) ▸ n) c.args.level refl c.in_ok-r.ensures c.requires.inner ok laid

pub returns : goal.returns
unfolding valid
returns c n = (refl, sought_none (on code_number c.args.code ▸ c.args.kind ▸ editions.text (rule_of c.args.rule) ▸ n) c.args.level refl c.in_ok-r.ensures (rw c.view-bytes.ensures at (sym c.text_ok.ensures ∙ c.if-text_ok.false)))
