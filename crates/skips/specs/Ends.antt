-- Where the rows that belong to a row end: at the first that does not.
use Rattle.std.specs.Prelude.{ℕ, zero, suc, ◌+◌, ◌-◌, ◌≤◌, ◌<◌, List, Bool, true, false, ◌≡◌, refl, ltb}
use Rattle.std.proofs.Common.{ap, ◌∙◌, subst, arith, ltb-true, ltb-false}
use Rattle.meaning.specs.Skips.{Rank, belongs}
use Rattle.laws_steps.specs.Nesting.{false_not}
use Rattle.laws_steps.specs.Hopping.{rank_at, skip_at, HopsTo, hop_begins, hop_ends, hop_stops, step_on}
use Rattle.laws_tables.specs.Wording.{top, three_belongs, top_not}
use Rattle.laws_tables.specs.Neighbours.{is_follower}

-- an envelope's own row
abbrev pub IsTop : Rank → Type 0
IsTop r = (b : Bool) × (r ≡ top b)

module _ (m : List ℕ) (n i : ℕ) (l : i < n) where
  -- up to row a all belong to row i, and the row there does not
  pub run_ends : {a : ℕ} → HopsTo m n i a → (a < n → belongs (rank_at m i) (rank_at m a) ≡ false) → skip_at m n i ≡ a
  run_ends {a} h f = at (ltb a n) refl
    where
      at : (z : Bool) → ltb a n ≡ z → skip_at m n i ≡ a
      at true z = hop_stops m n i h (ltb-true a n z) (f (ltb-true a n z))
      at false z = hop_ends m n i h (ltb-false a n z)

  pub runs_to : (k : ℕ) → ((j : ℕ) → i < j → j < i + 1 + k → belongs (rank_at m i) (rank_at m j) ≡ true) → i + 1 + k ≤ n → HopsTo m n i (i + 1 + k)
  runs_to zero h u = subst (HopsTo m n i) (omega arith) (hop_begins m n i l)
  runs_to (suc k) h u =
      let before = runs_to k (λ j x y. h j x (omega arith)) (omega arith) in
      subst (HopsTo m n i) (omega arith) (step_on m n i before (omega arith) (h (i + 1 + k) (omega arith) (omega arith)))

  -- a row to which the next one does not belong
  pub alone : (suc i < n → belongs (rank_at m i) (rank_at m (suc i)) ≡ false) → skip_at m n i ≡ suc i
  alone f = let q : i + 1 ≡ suc i = omega arith in run_ends (subst (HopsTo m n i) q (hop_begins m n i l)) f

  -- an envelope has all rows up to the next one's
  pub envelope_run : (a : ℕ) → IsTop (rank_at m i) → i < a → a ≤ n → ((j : ℕ) → i < j → j < a → 3 ≤ (rank_at m j).kind) → (a < n → IsTop (rank_at m a)) → skip_at m n i ≡ a
  envelope_run a (b, q) f u inner there =
      let e : i + 1 + (a - (i + 1)) ≡ a = omega arith in
      let own : (j : ℕ) → i < j → j < a → belongs (rank_at m i) (rank_at m j) ≡ true = λ j x y. ap (λ (s : Rank). belongs s (rank_at m j)) q ∙ three_belongs b (rank_at m j) (inner j x y) in
      let h : HopsTo m n i a = subst (HopsTo m n i) e (runs_to (a - (i + 1)) (λ j x y. own j x (omega arith)) (omega arith)) in
      run_ends h (λ v. let (c, p) = there v in ap (λ (s : Rank). belongs s (rank_at m a)) q ∙ ap (belongs (top b)) p ∙ top_not b c)

-- an envelope's own row follows none
pub top_alone : {A : Type 0} (c : Bool) → is_follower (top c).kind ≡ true → A
top_alone true z = false_not z
top_alone false z = false_not z
