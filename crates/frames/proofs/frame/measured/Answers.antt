-- `frame::measured`: two bytes, and four more if they are zero.
use Rattle.laws_steps.specs.Frames.{long_form, no_length, no_long_length, short_form}
use Rattle.frames.proofs.Frames.{frame_begun, frame_refused}
use Rattle.frames.proofs.frame.measured.Goals as goal

pub returns-then-all-at-lt-SHORT_HEAD : goal.returns-then-all-at-lt-SHORT_HEAD
returns-then-all-at-lt-SHORT_HEAD c = let a = c.args in frame_refused c.at.ensures (no_length a.s.now a.at a.base c.requires c.if-all-at-lt-SHORT_HEAD.true)

pub returns-then-brief-ne0 : goal.returns-then-brief-ne0
returns-then-brief-ne0 c =
    let a = c.args in
    let two_bytes = c.two_bytes-brief in
    frame_begun (short_form a.s.now a.at a.base c.requires two_bytes.result c.if-all-at-lt-SHORT_HEAD.false two_bytes.ensures.0 c.if-brief-ne0.true) c.bounded.ensures

pub returns-then-all-at-lt-LONG_HEAD : goal.returns-then-all-at-lt-LONG_HEAD
returns-then-all-at-lt-LONG_HEAD c =
    let a = c.args in
    let two_bytes = c.two_bytes-brief in
    frame_refused c.at-then-all-at-lt-LONG_HEAD.ensures (no_long_length a.s.now a.at a.base c.requires two_bytes.result c.if-all-at-lt-SHORT_HEAD.false two_bytes.ensures.0 c.if-brief-ne0.false c.if-all-at-lt-LONG_HEAD.true)

pub returns : goal.returns
returns c =
    let a = c.args in
    let two_bytes = c.two_bytes-brief in
    frame_begun (long_form a.s.now a.at a.base c.requires two_bytes.result c.if-all-at-lt-SHORT_HEAD.false two_bytes.ensures.0 c.four_bytes-long.result c.if-brief-ne0.false c.if-all-at-lt-LONG_HEAD.false c.four_bytes-long.ensures.0) c.bounded-2.ensures
