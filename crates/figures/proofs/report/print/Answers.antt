-- `print`: a line for each edition, and the unknown.
use Rattle.figures.proofs.Reporting.{report_printed}
use Rattle.figures.proofs.report.print.Goals as goal

pub returns : goal.returns
returns c = report_printed c.args.figures.now c.line-of_b.ensures c.line-of_d.ensures c.print_field.ensures
