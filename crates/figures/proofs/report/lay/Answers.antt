-- `lay`: the text copied, over the front.
use Rattle.std.proofs.Common.{ℕ, List, ◌++◌, drop, length, ap, sym, ◌∙◌, arith}
use lib.Seq.{take-length}
use Rattle.figures.proofs.Reporting.{laid_whole, copied}
use Rattle.figures.proofs.report.lay.Goals as goal

pub returns : goal.returns
returns c = let a = c.args in laid_whole a.text.now a.output.now _ (omega arith) (copied a.text.now a.output.now (ap (λ (x : List ℕ). x ++ drop (length a.text.now) a.output.now) (c.copy_from_slice.ensures.after ∙ sym (take-length a.text.now))))
