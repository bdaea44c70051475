-- `frame::bounded`: the tests in their order, then the declared bytes as places.
use native.Mathlib.Omega.{arith}
use Rattle.laws_steps.specs.Frames.{opens_at, too_far, too_long, too_low}
use Rattle.frames.proofs.Frames.{frame_opens, frame_refused}
use Rattle.frames.proofs.frame.bounded.Goals as goal

pub returns-then-n-least : goal.returns-then-n-least
returns-then-n-least c = let a = c.args in frame_refused c.at.ensures (too_low a.s.now a.base a.least a.at a.head a.n c.requires.0 c.if-n-least.true)

pub returns-then-n-gt-ENVELOPE_MOST : goal.returns-then-n-gt-ENVELOPE_MOST
returns-then-n-gt-ENVELOPE_MOST c = let a = c.args in frame_refused c.at-then-n-gt-ENVELOPE_MOST.ensures (too_long a.s.now a.base a.least a.at a.head a.n c.requires.0 c.if-n-least.false c.if-n-gt-ENVELOPE_MOST.true)

pub returns-then-all-at : goal.returns-then-all-at
returns-then-all-at c = let a = c.args in frame_refused c.at-then-all-at.ensures (too_far a.s.now a.base a.least a.at a.head a.n c.requires.0 c.if-n-least.false c.if-n-gt-ENVELOPE_MOST.false c.if-all-at.true)

pub returns : goal.returns
returns c = let a = c.args in frame_opens (opens_at a.s.now a.base a.least a.at a.head a.n c.requires.0 c.if-n-least.false c.if-n-gt-ENVELOPE_MOST.false (omega arith) (omega arith)) c.requires.1 (omega arith) c.if-n-gt-ENVELOPE_MOST.false (omega arith)
