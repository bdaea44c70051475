-- `text::run`: by the rule's own run.
use Rattle.values.proofs.Texts.{line_runs}
use Rattle.values.proofs.text.run.Goals as goal

pub returns-in-Line : goal.returns-in-Line
returns-in-Line c = rw c.in-Line.is (line_runs c.line_run.ensures)
