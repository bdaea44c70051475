-- No number of figures passes its bound, so no sum wraps.
use Prim.Native.Nat.{ℕ, zero, suc, ◌+◌, ◌-◌, ◌*◌, ◌≤◌, ◌<◌}
use mathlib.Core.List.{List, [], ◌∷◌}
use mathlib.Core.Bool.{Bool, true, false, ◌&&◌}
use mathlib.Core.Path.{◌≡◌, refl, ap, ◌∙◌}
use native.Mathlib.Omega.{arith}
use borrow.Author.Tests.{leb-true, ltb-true, ltb-false, eqb-true, eqb-false}
use lib.Dec.{leb, ltb, eqb}
use lib.ListN.{length, take, drop, get_or}
use lib.Seq.{get_or-drop}
use Rattle.meaning.specs.Headers.{envelope_most, envelopes_most}
use Rattle.meaning.specs.Figures.{sum_of, messages_in, messages_most, edition_width, figures_borrowed, edition_fits, are_figures}
use Rattle.laws_steps.specs.Logic.{both_hold}
use Rattle.figures.specs.Stages.{number_bound, Bounded}

-- a number is no more than the sum that it stands in
in_sum : (n : ℕ) (ns : List ℕ) (i : ℕ) → i < n → get_or ns i 0 ≤ sum_of (take n ns)
unfolding sum_of
in_sum zero ns i h = absurd (omega arith)
in_sum (suc n) [] i h = omega arith
in_sum (suc n) (x ∷ xs) zero h = omega arith
in_sum (suc n) (x ∷ xs) (suc i) h = let r = in_sum n xs i (omega arith) in omega (arith, r)

past_end : (ns : List ℕ) (i : ℕ) → length ns ≤ i → get_or ns i 0 ≡ 0
past_end [] i h = refl
past_end (x ∷ xs) zero h = absurd (omega arith)
past_end (x ∷ xs) (suc i) h = past_end xs i (omega arith)

-- what it is to be figures
pub record AreFigures (ns : List ℕ) : Type 0 where
  pub long : length ns ≡ figures_borrowed
  pub few : messages_in ns ≤ messages_most
  pub first : edition_fits ns ≡ true
  pub second : edition_fits (drop edition_width ns) ≡ true

pub figures_are : (ns : List ℕ) → are_figures ns ≡ true → AreFigures ns
unfolding are_figures
figures_are ns h =
    let (l, rest) = both_hold (eqb (length ns) figures_borrowed) (leb (messages_in ns) messages_most && (edition_fits ns && edition_fits (drop edition_width ns))) h in
    let (m, fits) = both_hold (leb (messages_in ns) messages_most) (edition_fits ns && edition_fits (drop edition_width ns)) rest in
    let (b, d) = both_hold (edition_fits ns) (edition_fits (drop edition_width ns)) fits in
    record { long = eqb-true (length ns) figures_borrowed l; few = leb-true (messages_in ns) messages_most m; first = b; second = d }

-- an edition's fifteen: ns from where they begin
module _ (ns : List ℕ) (few : sum_of (take 13 ns) ≤ messages_most) (fits : edition_fits ns ≡ true) where
  edition_bound : (i : ℕ) → i < edition_width → get_or ns i 0 ≤ number_bound
  edition_bound i h =
      let (e, b) = both_hold (leb (get_or ns 13 0) (envelopes_most * get_or ns 0 0)) (leb (get_or ns 14 0) (envelopes_most * envelope_most * get_or ns 0 0)) fits in
      let envelopes = leb-true (get_or ns 13 0) (envelopes_most * get_or ns 0 0) e in
      let bytes = leb-true (get_or ns 14 0) (envelopes_most * envelope_most * get_or ns 0 0) b in
      let accepted = in_sum 13 ns 0 (omega arith) in
      by (ltb i 13) refl (omega (arith, envelopes, accepted)) (omega (arith, bytes, accepted))
    where
      last : (z : Bool) → eqb i 13 ≡ z → 13 ≤ i → get_or ns 13 0 ≤ number_bound → get_or ns 14 0 ≤ number_bound → get_or ns i 0 ≤ number_bound
      last true q g e b = let p : i ≡ 13 = eqb-true i 13 q in rw p e
      last false q g e b = let p : i ≡ 14 = at14 (λ k. eqb-false i 13 q k) in rw p b
        where
          at14 : (i ≡ 13 → ⊥) → i ≡ 14
          at14 n = omega arith

      by : (z : Bool) → ltb i 13 ≡ z → get_or ns 13 0 ≤ number_bound → get_or ns 14 0 ≤ number_bound → get_or ns i 0 ≤ number_bound
      by true q e b = let r = in_sum 13 ns i (ltb-true i 13 q) in omega (arith, r)
      by false q e b = last (eqb i 13) refl (ltb-false i 13 q) e b

module _ (ns : List ℕ) (f : AreFigures ns) where
  first_few : sum_of (take 13 ns) ≤ messages_most
  unfolding messages_in
  first_few = let m = f.few in omega (arith, m)

  second_few : sum_of (take 13 (drop edition_width ns)) ≤ messages_most
  unfolding messages_in
  second_few = let m = f.few in omega (arith, m)

  unknown_few : get_or ns 30 0 ≤ messages_most
  unfolding messages_in
  unknown_few = let m = f.few in omega (arith, m)

  number_bound_lem : (i : ℕ) → get_or ns i 0 ≤ number_bound
  number_bound_lem i = by (ltb i 15) refl
    where
      last : (z : Bool) → eqb i 30 ≡ z → 30 ≤ i → get_or ns i 0 ≤ number_bound
      last true q g = let p : i ≡ 30 = eqb-true i 30 q in rw p (omega (arith, unknown_few))
      last false q g = let n = eqb-false i 30 q in omega (arith, past_end ns i (omega (arith, f.long)))

      middle : (z : Bool) → ltb i 30 ≡ z → 15 ≤ i → get_or ns i 0 ≤ number_bound
      middle true q g =
          let h : i < 30 = ltb-true i 30 q in
          let at : 15 + (i - 15) ≡ i = omega arith in
          let r = edition_bound (drop edition_width ns) second_few f.second (i - 15) (omega arith) in
          omega (arith, r, get_or-drop 15 ns (i - 15) 0 ∙ ap (λ (k : ℕ). get_or ns k 0) at)
      middle false q g = last (eqb i 30) refl (ltb-false i 30 q)

      by : (z : Bool) → ltb i 15 ≡ z → get_or ns i 0 ≤ number_bound
      by true q = edition_bound ns first_few f.first i (ltb-true i 15 q)
      by false q = middle (ltb i 30) refl (ltb-false i 15 q)

pub bounded : (ns : List ℕ) → AreFigures ns → Bounded ns
bounded ns f = record { long = f.long; most = number_bound_lem ns f }
