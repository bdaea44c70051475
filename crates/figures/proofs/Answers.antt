-- The answers, by what the lent numbers were judged to be.
use Prim.Native.Nat.{ℕ, ◌+◌, ◌≤◌}
use Rattle.std.specs.Prelude.{Some, None, ltb}
use mathlib.Core.List.{List}
use mathlib.Core.Bool.{Bool, true, false, ◌&&◌}
use mathlib.Core.Path.{◌≡◌, refl, ◌∙◌}
use native.Mathlib.Omega.{arith}
use lib.Dec.{T, leb}
use Rattle.meaning.specs.Basics.{pick}
use Rattle.meaning.specs.Figures.{messages_in, messages_most, are_figures, sums, adds_of, entry_of, takes_more, add_answer, add_figures, joinable, join_answer, join_figures}
use Rattle.laws_steps.specs.Logic.{are_bytes, both_hold}
use Rattle.figures.specs.declared.Figured.{Figured}
use Rattle.figures.specs.Stages.{judged}
use Rattle.figures.specs.Promises.{message, AddPromise, JoinPromise}
use Rattle.figures.proofs.Bounds.{AreFigures, figures_are}

-- what a judgement says: figures of so many messages, or none
pub judged_some : (ns : List ℕ) {n : ℕ} → Some n ≡ judged ns → (are_figures ns ≡ true) × (n ≡ messages_in ns)
unfolding judged
judged_some ns {n} q = by (are_figures ns) refl q
  where
    by : (z : Bool) → are_figures ns ≡ z → Some n ≡ pick z (Some (messages_in ns)) None → (are_figures ns ≡ true) × (n ≡ messages_in ns)
    by true z q = (z, cc q)
    by false z q = cc q

pub judged_none : (ns : List ℕ) → None ≡ judged ns → are_figures ns ≡ false
unfolding judged
judged_none ns q = by (are_figures ns) refl q
  where
    by : (z : Bool) → are_figures ns ≡ z → None ≡ pick z (Some (messages_in ns)) None → are_figures ns ≡ false
    by true z q = cc q
    by false z q = z

pub judged_few : (ns : List ℕ) {n : ℕ} → Some n ≡ judged ns → n ≤ messages_most
judged_few ns q = let (f, e) = judged_some ns q in omega (arith, e, (figures_are ns f).few)

-- joining
pub not_joined : (ns os : List ℕ) → None ≡ judged ns → false ≡ joinable ns os
unfolding joinable
not_joined ns os q = rw (judged_none ns q) refl

pub others_not : (ns os : List ℕ) {n : ℕ} → Some n ≡ judged ns → None ≡ judged os → false ≡ joinable ns os
unfolding joinable
others_not ns os p q = rw ((judged_some ns p).0, judged_none os q) refl

pub joined_by : (ns os : List ℕ) {n m : ℕ} → Some n ≡ judged ns → Some m ≡ judged os → leb (n + m) messages_most ≡ joinable ns os
unfolding joinable
joined_by ns os {n} {m} p q =
    let (f, e) = judged_some ns p in
    let (g, d) = judged_some os q in
    rw (f, g, e, d) refl

-- of both that are joined no number passes its bound
pub joined_figures : (ns os : List ℕ) → joinable ns os ≡ true → AreFigures ns × AreFigures os
unfolding joinable
joined_figures ns os q =
    let (f, rest) = both_hold (are_figures ns) (are_figures os && leb (messages_in ns + messages_in os) messages_most) q in
    let (g, few) = both_hold (are_figures os) (leb (messages_in ns + messages_in os) messages_most) rest in
    (figures_are ns f, figures_are os g)

pub join_full : (ns os : List ℕ) {r : Figured} → joinable ns os ≡ false → r ≡ record { answer = 19; place = 0 } → JoinPromise os ns ns r
unfolding join_answer join_figures
join_full ns os q e = rw e (record { answers = rw q refl; figures = rw q refl })

pub join_done : (ns os after : List ℕ) → joinable ns os ≡ true → after ≡ sums ns os → JoinPromise os ns after (record { answer = 0; place = 0 })
unfolding join_answer join_figures
join_done ns os after j q = record { answers = rw j refl; figures = q ∙ rw j refl }

-- adding
pub not_more : (ns : List ℕ) → None ≡ judged ns → false ≡ takes_more ns
unfolding takes_more
not_more ns q = rw (judged_none ns q) refl

pub more_by : (ns : List ℕ) {n : ℕ} → Some n ≡ judged ns → ltb n messages_most ≡ takes_more ns
unfolding takes_more
more_by ns p = let (f, e) = judged_some ns p in rw (f, e) refl

pub more_figures : (ns : List ℕ) → takes_more ns ≡ true → AreFigures ns
unfolding takes_more
more_figures ns q = figures_are ns (both_hold (are_figures ns) (ltb (messages_in ns) messages_most) q).0

pub add_full : (edition : ℕ) (input ns : List ℕ) {r : Figured} → T (are_bytes input) → takes_more ns ≡ false → r ≡ record { answer = 19; place = 0 } → AddPromise edition input ns ns r
unfolding add_answer add_figures
add_full edition input ns t q e = rw e (record { bytes = t; answers = rw q refl; figures = rw q refl })

pub add_done : (edition : ℕ) (input ns after : List ℕ) → T (are_bytes input) → takes_more ns ≡ true → after ≡ sums ns (adds_of (entry_of (message edition input))) → AddPromise edition input ns after (record { answer = 0; place = 0 })
unfolding add_answer add_figures
add_done edition input ns after t h q = record { bytes = t; answers = rw h refl; figures = q ∙ rw h refl }
