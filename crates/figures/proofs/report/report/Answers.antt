-- `report`: the lent numbers are judged, printed into memory of its own, and laid over the output.
use Rattle.std.proofs.Common.{ap, ◌∙◌, arith}
use Rattle.figures.specs.Stages.{fault_figured}
use Rattle.figures.proofs.Bounds.{figures_are}
use Rattle.figures.proofs.Answers.{judged_some, judged_none}
use Rattle.figures.proofs.Reporting.{front_printed, report_refused, report_laid}
use Rattle.figures.proofs.report.report.Goals as goal

pub returns-in_default : goal.returns-in_default
returns-in_default c = let a = c.args in report_refused a.figures.now a.output.now (judged_none a.figures.now c.in_default.ensures) (c.into.ensures ∙ ap fault_figured c.at.ensures)

pub print-end-requires : goal.print-end-requires
print-end-requires c = let a = c.args in ((figures_are a.figures.now (judged_some a.figures.now c.in-Some.ensures).0).long, omega arith)

pub returns : goal.returns
returns c =
    let a = c.args in
    report_laid a.figures.now a.output.now _ (judged_some a.figures.now c.in-Some.ensures).0 (front_printed c.print-end.ensures) c.lay.ensures
