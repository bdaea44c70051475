-- `lines` is its definition, test by test.
use mathlib.Core.Path.{refl}
use native.Mathlib.Omega.{arith}
use borrow.Author.Tests.{eq-eqb, ne_eqb}
use Rattle.listing.specs.Text.{lines_of}
use Rattle.listing.proofs.lines.Goals as goal

pub returns-then-reply-ne0 : goal.returns-then-reply-ne0
unfolding lines_of
returns-then-reply-ne0 c = rw (ne_eqb c.args.reply.now.answer 0 c.if-reply-ne0.true) refl

pub returns : goal.returns
unfolding lines_of
returns c = rw (eq-eqb c.args.reply.now.answer 0 c.if-reply-ne0.false) (omega (arith, c.room.ensures, c.min.ensures))
