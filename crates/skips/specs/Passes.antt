-- What a pass over the rows stands on: the rows behind are right, from the last row to the first, and from the first row on.
use Rattle.std.specs.Prelude.{ℕ, Option, Some, None, ◌+◌, ◌-◌, ◌≤◌, ◌<◌, List, ◌≡◌}
use Rattle.std.proofs.Common.{ap, sym, ◌∙◌, subst, arith}
use Rattle.meaning.specs.Memory.{room_of, skips_held}
use Rattle.laws_steps.specs.Hopping.{given_at, skip_at, held_at, held_end, held_next, held_wrong, AllRight, all_held, held_are}
use Rattle.laws_tables.specs.Skipping.{skips_laid, laid_length, laid_skip, laid_same}
use Rattle.skips.specs.Owners.{Hoppable, held_as}

-- From the last row to the first

pub none_wrong : (m : List ℕ) (n : ℕ) → AllRight m n n
none_wrong m n j l k = absurd (omega arith)

module _ (m : List ℕ) (n i : ℕ) (h : 0 < i) (l : i ≤ n) where
  pub hoppable : n ≤ room_of m → AllRight m n i → Hoppable m n (i - 1)
  hoppable r a = record { inside = omega arith; room = r; behind = λ j x y. a j (omega arith) y }

  module _ (rows : List ℕ) (q : rows ≡ skips_laid m n (n - i)) where
    -- the rows behind have theirs
    pub laid_hoppable : n ≤ room_of m → Hoppable rows n (i - 1)
    laid_hoppable r =
        subst (λ (x : List ℕ). Hoppable x n (i - 1)) (sym q)
        (hoppable_in (skips_laid m n (n - i)) (omega (arith, laid_length m n (n - i))) (λ j x y. laid_skip m n (n - i) j (omega arith) (omega arith) y ∙ sym (laid_same m n (n - i) j)))
      where
        hoppable_in : (x : List ℕ) → n ≤ room_of x → AllRight x n i → Hoppable x n (i - 1)
        hoppable_in x r a = record { inside = omega arith; room = r; behind = λ j u y. a j (omega arith) y }

-- From the first row on

pub held_on : (m : List ℕ) (n i : ℕ) {given own : ℕ} → held_at m n 0 ≡ held_at m n i → i < n → given ≡ given_at m i → own ≡ skip_at m n i → given ≡ own → held_at m n 0 ≡ held_at m n (i + 1)
held_on m n i q l g o e = q ∙ held_next m n i l (sym g ∙ e ∙ o)

pub held_stops : (m : List ℕ) (n i : ℕ) {given own : ℕ} → held_at m n 0 ≡ held_at m n i → i < n → given ≡ given_at m i → own ≡ skip_at m n i → (given ≡ own → ⊥) → held_at m n 0 ≡ held_as (Some i)
held_stops m n i q l g o e = q ∙ held_wrong m n i l (λ z. e (g ∙ z ∙ sym o))

pub held_ends : (m : List ℕ) (n i : ℕ) → held_at m n 0 ≡ held_at m n i → n ≤ i → held_at m n 0 ≡ held_as None
held_ends m n i q l = q ∙ held_end m n i l

-- Both

pub all_right_held : (m : List ℕ) (n : ℕ) → n ≡ room_of m → AllRight m n 0 → skips_held m ≡ held_as None
all_right_held m n q a = held_are m ∙ ap (λ (x : ℕ). held_at m x 0) (sym q) ∙ all_held m n a

pub lowest_held : (m : List ℕ) (n : ℕ) (lowest : Option ℕ) → n ≡ room_of m → held_at m n 0 ≡ held_as lowest → skips_held m ≡ held_as lowest
lowest_held m n lowest q h = held_are m ∙ ap (λ (x : ℕ). held_at m x 0) (sym q) ∙ h
