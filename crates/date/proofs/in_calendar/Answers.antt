-- `in_calendar`: the check of each byte by its number.
use mathlib.Core.Path.{refl, ◌∙◌}
use borrow.Author.Tests.{ne_eqb}
use Rattle.meaning.specs.Bytes.{passes}
use Rattle.date.proofs.in_calendar.Goals as goal

pub returns-in-2 : goal.returns-in-2
unfolding passes
returns-in-2 c = c.within.ensures ∙ rw c.in-2.is refl

pub returns-in-3 : goal.returns-in-3
unfolding passes
returns-in-3 c = c.day_passes.ensures ∙ rw c.in-3.is refl

pub returns-in-4 : goal.returns-in-4
unfolding passes
returns-in-4 c = c.within-in-4.ensures ∙ rw c.in-4.is refl

pub returns-in-5 : goal.returns-in-5
unfolding passes
returns-in-5 c = c.within-in-5.ensures ∙ rw c.in-5.is refl

pub returns-in-6 : goal.returns-in-6
unfolding passes
returns-in-6 c = c.within-in-6.ensures ∙ rw c.in-6.is refl

pub returns-in_default : goal.returns-in_default
unfolding passes
returns-in_default c = let r = c.in_default.in_default-own.rest in c.within-in_default.ensures ∙ rw (ne_eqb _ _ r.1, ne_eqb _ _ r.0.1, ne_eqb _ _ r.0.0.1, ne_eqb _ _ r.0.0.0.1, ne_eqb _ _ r.0.0.0.0.1) refl
