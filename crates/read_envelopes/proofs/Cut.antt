-- An envelope cut off at its declared end: a stage reads the same there as from the whole input up to that end.
use Rattle.std.specs.Prelude.{ℕ, zero, suc, ◌+◌, ◌-◌, ◌≤◌, List, [], ◌∷◌, ◌≡◌, refl, length, take, drop}
use Rattle.std.proofs.Common.{ap, sym, ◌∙◌, subst, arith, length-take-le}
use Rattle.std.proofs.lemmas.List.{drop-take}
use Rattle.meaning.specs.Told.{Told}
use Rattle.meaning.specs.Editions.{State}
use Rattle.meaning.specs.Reading.{inside}
use Rattle.laws_steps.specs.From.{from}
use Rattle.laws_steps.specs.Pouring.{source, pour}
use Rattle.table.specs.declared.answers.Reached.{Reached}
use Rattle.table.specs.declared.answers.Stage.{Stage}
use Rattle.table.specs.declared.answers.Stage.TheVariants.{Go, Refused}
use Rattle.read_rows.specs.Stages.{after, Moved, StateRead, StateReadAt}

take_twice : (n : ℕ) (xs : List ℕ) → take n (take n xs) ≡ take n xs
take_twice zero xs = refl
take_twice (suc n) [] = refl
take_twice (suc n) (x ∷ xs) = ap (λ (l : List ℕ). x ∷ l) (take_twice n xs)

from_cut : (s : List ℕ) (at end : ℕ) → at ≤ end → from (take end s) at end ≡ from s at end
unfolding from
from_cut s at end h =
    let q : at + (end - at) ≡ end = omega arith in
    let d : drop at (take end s) ≡ take (end - at) (drop at s) = ap (λ (x : ℕ). drop at (take x s)) (sym q) ∙ drop-take at (end - at) s in
    ap (take (end - at)) d ∙ take_twice (end - at) (drop at s)

module _ (t : Told) (s : List ℕ) (end : ℕ) where
  goes_cut : (d : State) (left : List ℕ) (r : Stage) (least : ℕ) → Moved least end r → after (source t (take end s) end) d left r ≡ after (source t s end) d left r
  unfolding after Moved
  goes_cut d left (Go to) least h = ap (λ (x : List ℕ). pour end (inside t d x) to.rows left) (from_cut s to.at end h.1)
  goes_cut d left (Refused fault) least h = refl

  pub cut : end ≤ length s → (q : State) (from : Reached) (m : List ℕ) {d : State} {left : List ℕ} {r : Stage} → from.at ≤ end → StateReadAt t (take end s) q from m r d left
      → StateRead t s end q from.at from.rows m r d left
  cut h q from m {d} {left} {r} k a =
      let b = subst (λ (n : ℕ). StateRead t (take end s) n q from.at from.rows m r d left) (length-take-le end s h) a in
      record { goes = ap (λ (x : List ℕ). pour end (inside t q x) from.rows m) (sym (from_cut s from.at end k)) ∙ b.goes ∙ goes_cut d left r from.at b.moved; moved = b.moved }
