-- `text::rare_line`: what stands where the line's run stops.
use Rattle.meaning.specs.Bytes.{line}
use Rattle.values.proofs.Texts.{line_runs}
use Rattle.values.proofs.text.rare_line.Goals as goal

pub ended-requires : goal.ended-requires
ended-requires c =
    let past = c.long_line-i.ensures.skipped line in
    (past.inside, past.before)

pub returns : goal.returns
returns c = c.ended.ensures line (line_runs c.long_line-i.ensures)
