-- Numbers raised one by one are sums with what an entry adds.
use Prim.Native.Nat.{ℕ, zero, suc, ◌+◌, ◌-◌, ◌≤◌, ◌<◌}
use mathlib.Core.List.{List, [], ◌∷◌}
use mathlib.Core.Bool.{Bool, true, false}
use mathlib.Core.Path.{◌≡◌, refl, ap, sym, ◌∙◌}
use native.Mathlib.Omega.{arith}
use borrow.Author.Tests.{eqb-true, eqb-false}
use lib.Dec.{T, eqb, eqb→eq}
use lib.ListN.{length, set, get_or, replicate}
use lib.Seq.{get_or-set_other}
use Rattle.meaning.specs.Basics.{every}
use Rattle.meaning.specs.Told.{Edition, B, D}
use Rattle.meaning.specs.Cases.{same, up_from}
use Rattle.meaning.specs.Figures.{apart, taken, turned, adds_of, sums, figures_borrowed}
use Rattle.laws_steps.specs.Logic.{left_of, right_of}
use Rattle.figures.specs.Stages.{first_of, raised}

abbrev pub zeros : List ℕ
zeros = replicate figures_borrowed 0

nothing_added : (ns : List ℕ) (n : ℕ) → sums ns (replicate n 0) ≡ ns
unfolding sums
nothing_added [] n = refl
nothing_added (x ∷ xs) zero = refl
nothing_added (x ∷ xs) (suc n) = let q : x + 0 ≡ x = omega arith in rw (q, nothing_added xs n) refl

raised_sums : (ns ds : List ℕ) (i k : ℕ) → i < length ns → i < length ds → raised (sums ns ds) i k ≡ sums ns (raised ds i k)
unfolding sums
raised_sums [] ds i k h l = absurd (omega arith)
raised_sums (x ∷ xs) [] i k h l = absurd (omega arith)
raised_sums (x ∷ xs) (y ∷ ys) zero k h l = let q : (x + y) + k ≡ x + (y + k) = omega arith in ap (λ (n : ℕ). n ∷ sums xs ys) q
raised_sums (x ∷ xs) (y ∷ ys) (suc i) k h l = ap (λ (l : List ℕ). (x + y) ∷ l) (raised_sums xs ys i k (omega arith) (omega arith))

-- another number stays
pub raised_other : (ns : List ℕ) (i j k : ℕ) → (j ≡ i → ⊥) → get_or (raised ns i k) j 0 ≡ get_or ns j 0
raised_other ns i j k n = get_or-set_other ns i j (get_or ns i 0 + k) 0 n

module _ (ns : List ℕ) (long : length ns ≡ figures_borrowed) where
  -- one number raised
  once : (i k : ℕ) → i < figures_borrowed → raised ns i k ≡ sums ns (raised zeros i k)
  once i k h = ap (λ (l : List ℕ). raised l i k) (sym (nothing_added ns figures_borrowed)) ∙ raised_sums ns zeros i k (omega arith) (omega arith)

  pub apart_raised : raised ns 30 1 ≡ sums ns (adds_of apart)
  unfolding adds_of
  apart_raised = once 30 1 (omega arith)

  -- three numbers raised, one after the other
  pub taken_raised : (e : Edition) (envelopes bytes : ℕ) → raised (raised (raised ns (first_of e + 14) bytes) (first_of e + 13) envelopes) (first_of e) 1 ≡ sums ns (adds_of (taken e envelopes bytes))
  unfolding adds_of
  taken_raised B envelopes bytes =
      ap (λ (l : List ℕ). raised (raised l 13 envelopes) 0 1) (once 14 bytes (omega arith))
      ∙ ap (λ (l : List ℕ). raised l 0 1) (raised_sums ns (raised zeros 14 bytes) 13 envelopes (omega arith) (omega arith))
      ∙ raised_sums ns (raised (raised zeros 14 bytes) 13 envelopes) 0 1 (omega arith) (omega arith)
      ∙ (let p : 0 + bytes ≡ bytes = omega arith in let q : 0 + envelopes ≡ envelopes = omega arith in rw (p, q) refl)
  taken_raised D envelopes bytes =
      ap (λ (l : List ℕ). raised (raised l 28 envelopes) 15 1) (once 29 bytes (omega arith))
      ∙ ap (λ (l : List ℕ). raised l 15 1) (raised_sums ns (raised zeros 29 bytes) 28 envelopes (omega arith) (omega arith))
      ∙ raised_sums ns (raised (raised zeros 29 bytes) 28 envelopes) 15 1 (omega arith) (omega arith)
      ∙ (let p : 0 + bytes ≡ bytes = omega arith in let q : 0 + envelopes ≡ envelopes = omega arith in rw (p, q) refl)

-- a refusal's number: one computed test over 2 to 13 in both editions

abbrev raises : Edition → ℕ → Bool
raises e r = same (raised zeros (first_of e + r - 1) 1) (adds_of (turned e r))

all_raise : (e : Edition) → T (every (raises e) (up_from 2 12))
unfolding adds_of
all_raise B = tt
all_raise D = tt

same_is : (xs ys : List ℕ) → T (same xs ys) → xs ≡ ys
same_is [] [] t = refl
same_is [] (y ∷ ys) t = absurd t
same_is (x ∷ xs) [] t = absurd t
same_is (x ∷ xs) (y ∷ ys) t = let q : x ≡ y = eqb→eq x y (left_of (eqb x y) (same xs ys) t) in rw (q, same_is xs ys (right_of (eqb x y) (same xs ys) t)) refl

each : (p : ℕ → Bool) (a n : ℕ) → T (every p (up_from a n)) → (r : ℕ) → a ≤ r → r < a + n → T (p r)
each p a zero t r h l = absurd (omega arith)
each p a (suc n) t r h l = by (eqb r a) refl (λ above. each p (suc a) n (right_of (p a) (every p (up_from (suc a) n)) t) r above (omega arith))
  where
    by : (z : Bool) → eqb r a ≡ z → (suc a ≤ r → T (p r)) → T (p r)
    by true q onward = rw (eqb-true r a q) (left_of (p a) (every p (up_from (suc a) n)) t)
    by false q onward = let other = eqb-false r a q in onward (omega arith)

module _ (ns : List ℕ) (long : length ns ≡ figures_borrowed) (e : Edition) (r : ℕ) (least : 2 ≤ r) (most : r ≤ 13) where
  within : first_of e + r - 1 < figures_borrowed
  within = by e
    where
      by : (e : Edition) → first_of e + r - 1 < figures_borrowed
      by B = omega arith
      by D = omega arith

  pub turned_raised : raised ns (first_of e + r - 1) 1 ≡ sums ns (adds_of (turned e r))
  turned_raised = once ns long (first_of e + r - 1) 1 within ∙ ap (sums ns) (same_is (raised zeros (first_of e + r - 1) 1) (adds_of (turned e r)) (each (raises e) 2 12 (all_raise e) r least (omega arith)))

-- Numbers added one by one: the first i of them

abbrev pub first_sums : ℕ → List ℕ → List ℕ → List ℕ
first_sums zero ns os = ns
first_sums (suc i) [] os = []
first_sums (suc i) (x ∷ xs) [] = x ∷ xs
first_sums (suc i) (x ∷ xs) (y ∷ ys) = (x + y) ∷ first_sums i xs ys

pub next_stays : (i : ℕ) (ns os : List ℕ) → get_or (first_sums i ns os) i 0 ≡ get_or ns i 0
next_stays zero ns os = refl
next_stays (suc i) [] os = refl
next_stays (suc i) (x ∷ xs) [] = refl
next_stays (suc i) (x ∷ xs) (y ∷ ys) = next_stays i xs ys

pub next_sum : (i : ℕ) (ns os : List ℕ) → i < length ns → length ns ≡ length os → set (first_sums i ns os) i (get_or ns i 0 + get_or os i 0) ≡ first_sums (suc i) ns os
next_sum i [] os h l = absurd (omega arith)
next_sum i (x ∷ xs) [] h l = absurd (omega arith)
next_sum zero (x ∷ xs) (y ∷ ys) h l = refl
next_sum (suc i) (x ∷ xs) (y ∷ ys) h l = ap (λ (r : List ℕ). (x + y) ∷ r) (next_sum i xs ys (omega arith) (omega arith))

pub all_sums : (ns os : List ℕ) → length ns ≡ length os → first_sums (length ns) ns os ≡ sums ns os
unfolding sums
all_sums [] os l = refl
all_sums (x ∷ xs) [] l = absurd (omega arith)
all_sums (x ∷ xs) (y ∷ ys) l = ap (λ (r : List ℕ). (x + y) ∷ r) (all_sums xs ys (omega arith))

pub sums_long : (i : ℕ) (ns os : List ℕ) → length (first_sums i ns os) ≡ length ns
sums_long zero ns os = refl
sums_long (suc i) [] os = refl
sums_long (suc i) (x ∷ xs) [] = refl
sums_long (suc i) (x ∷ xs) (y ∷ ys) = ap suc (sums_long i xs ys)
