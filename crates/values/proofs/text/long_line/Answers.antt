-- `text::long_line`: past the sixteens, then as any line.
use Rattle.meaning.specs.Bytes.{line}
use Rattle.values.proofs.Texts.{line_run_on}
use Rattle.values.proofs.text.long_line.Goals as goal

pub line_stop-requires : goal.line_stop-requires
line_stop-requires c = record { whole = c.requires.whole; before = (c.sixteens-i.ensures line).before }

pub returns : goal.returns
returns c = line_run_on c.sixteens-i.ensures c.line_stop.ensures
