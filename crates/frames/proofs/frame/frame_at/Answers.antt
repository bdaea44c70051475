-- `frame::frame_at`: by the byte at the place.
use mathlib.Core.Path.{sym, ◌∙◌}
use lib.ListN.{get_or}
use Rattle.laws_steps.specs.Frames.{no_envelope, no_identifier}
use Rattle.frames.proofs.Frames.{refused_at_frame, identified_by, identified_none}
use Rattle.frames.proofs.frame.frame_at.Goals as goal

pub returns-then-all-at : goal.returns-then-all-at
returns-then-all-at c = let a = c.args in refused_at_frame c.at.ensures (λ t. no_identifier a.s.now a.at a.left t c.if-all-at.true)

pub counted-requires : goal.counted-requires
counted-requires c = let a = c.args in (c.if-all-at.false, identified_by a.s.now a.at (sym c.is_identifier.ensures ∙ c.if-is_identifier.true))

pub returns : goal.returns
returns c =
    let a = c.args in
    refused_at_frame c.at-2.ensures (λ t. no_envelope a.s.now a.at a.left t c.if-all-at.false (identified_none (get_or a.s.now a.at 0) (sym c.is_identifier.ensures ∙ c.if-is_identifier.false)))
