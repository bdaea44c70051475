-- `hold_envelope`: its level, then its skip number.
use mathlib.Core.Path.{sym, ◌∙◌}
use Rattle.hold_skips.specs.Holding.{EnvelopeHeld}
use Rattle.hold_skips.proofs.Holdings.{envelope_held_if}
use Rattle.hold_skips.proofs.hold_envelope.Goals as goal

pub returns-then-level_at-ne0 : goal.returns-then-level_at-ne0
unfolding EnvelopeHeld
returns-then-level_at-ne0 c = tt

pub returns : goal.returns
returns c = let a = c.args in envelope_held_if a.rows.now a.i a.end (sym c.level_at.ensures ∙ c.if-level_at-ne0.false) c.hold_as.ensures
