-- `frame::counted`: the seventeenth is refused, any other goes on to its length.
use Rattle.laws_steps.specs.Frames.{may_open, one_too_many}
use Rattle.frames.proofs.Frames.{header_framed, refused_at_frame}
use Rattle.frames.proofs.frame.counted.Goals as goal

pub returns-then-left-eq0 : goal.returns-then-left-eq0
returns-then-left-eq0 c = let a = c.args in refused_at_frame c.at.ensures (λ t. one_too_many a.s.now a.at a.left t c.requires.0 a.base c.requires.1 c.if-left-eq0.true)

pub returns : goal.returns
returns c = let a = c.args in header_framed (λ t. may_open a.s.now a.at a.left t c.requires.0 a.base c.requires.1 c.if-left-eq0.false) c.if-left-eq0.false c.measured.ensures
