-- `month_days`: each month by its number.
use borrow.Author.Tests.{ne_eqb}
use mathlib.Core.Logic.{⊎_elim, inl, inr}
use mathlib.Core.Path.{refl, ◌∙◌}
use Rattle.meaning.specs.Bytes.{last_day}
use Rattle.date.proofs.month_days.Goals as goal

pub returns-in-2 : goal.returns-in-2
unfolding last_day
returns-in-2 c = c.february_days.ensures ∙ rw c.in-2.is refl

pub returns-in-4 : goal.returns-in-4
unfolding last_day
returns-in-4 c = ⊎_elim (λ h. rw h refl) (λ k. ⊎_elim (λ h. rw h refl) (λ l. ⊎_elim (λ h. rw h refl) (λ h. rw h refl) l) k) c.in-4.is

pub returns-in_default : goal.returns-in_default
unfolding last_day
returns-in_default c =
    let r = c.in_default.in_default-own.rest in
    rw (ne_eqb _ 2 r.0.1, ne_eqb _ 4 (λ q. r.1 (inl q)), ne_eqb _ 6 (λ q. r.1 (inr (inl q))), ne_eqb _ 9 (λ q. r.1 (inr (inr (inl q)))), ne_eqb _ 11 (λ q. r.1 (inr (inr (inr q))))) refl
