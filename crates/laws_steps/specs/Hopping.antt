-- Skip numbers by the rows' places in lent memory: a row's is found by hopping over the skip numbers of the rows in it, and the given ones
-- are held against the right ones row by row.
use Prim.Native.Nat.{ℕ, zero, suc, ◌+◌, ◌-◌, ◌*◌, ◌/◌, ◌≤◌, ◌<◌}
use mathlib.Core.List.{List, [], ◌∷◌}
use Rattle.std.specs.Prelude.{Bool, true, false, ◌≡◌, refl, eqb, ltb, length, get_or}
use Rattle.std.proofs.Math.Path.{ap}
use Rattle.std.proofs.Common.{sym, ◌∙◌, eq-eqb, ne_eqb, ltb-true, ltb-false}
use native.Mathlib.Omega.{arith}
use Rattle.std.proofs.Math.ListN.{drop}
use Rattle.meaning.specs.Basics.{pick}
use Rattle.meaning.specs.Skips.{Rank, rank, belongs, belonging, skip_of, skips_from, Skips, right, wrong_at, held_against}
use Rattle.meaning.specs.Memory.{row_width, room_of, ranks_of, skips_of, skips_held}
use Rattle.laws_steps.specs.Nesting.{belonging_on, belonging_ends, belonging_none, belonging_most, run_on}

-- where row i stands, and the rows from it up to row n
abbrev pub rank_at : List ℕ → ℕ → Rank
rank_at m i = rank (get_or m (i * row_width) 0) (get_or m (i * row_width + 1) 0)

abbrev pub ranks_for : List ℕ → ℕ → ℕ → List Rank
ranks_for m i zero = []
ranks_for m i (suc k) = rank_at m i ∷ ranks_for m (suc i) k

abbrev pub ranks_at : List ℕ → ℕ → ℕ → List Rank
ranks_at m n i = ranks_for m i (n - i)

-- the skip number that row i has
abbrev pub given_at : List ℕ → ℕ → ℕ
given_at m i = get_or m (i * row_width + 4) 0

-- .. and the right one, among n rows
unfoldable pub skip_at : List ℕ → ℕ → ℕ → ℕ
skip_at m n i = skip_of i (rank_at m i) (ranks_at m n (suc i))

pub ranks_length : (m : List ℕ) (i k : ℕ) → length (ranks_for m i k) ≡ k
ranks_length m i zero = refl
ranks_length m i (suc k) = ap suc (ranks_length m (suc i) k)

pub ranks_next : (m : List ℕ) (n i : ℕ) → i < n → ranks_at m n i ≡ rank_at m i ∷ ranks_at m n (suc i)
ranks_next m n i h = let q : n - i ≡ suc (n - suc i) = omega arith in ap (ranks_for m i) q

ranks_none : (m : List ℕ) (n i : ℕ) → n ≤ i → ranks_at m n i ≡ []
ranks_none m n i h = let q : n - i ≡ 0 = omega arith in ap (ranks_for m i) q

pub ranks_drop : (m : List ℕ) (i k b : ℕ) → b ≤ k → drop b (ranks_for m i k) ≡ ranks_for m (i + b) (k - b)
ranks_drop m i k zero h = let p : i ≡ i + 0 = omega arith in let q : k ≡ k - 0 = omega arith in ap (λ (x : ℕ). ranks_for m x k) p ∙ ap (ranks_for m (i + 0)) q
ranks_drop m i zero (suc b) h = absurd (omega arith)
ranks_drop m i (suc k) (suc b) h =
    let p : suc i + b ≡ i + suc b = omega arith in let q : k - b ≡ suc k - suc b = omega arith in
    ranks_drop m (suc i) k b (omega arith) ∙ ap (λ (x : ℕ). ranks_for m x (k - b)) p ∙ ap (ranks_for m (i + suc b)) q

-- a skip number lies behind its row, and never past the row count
pub skip_forward : (m : List ℕ) (n i : ℕ) → i < skip_at m n i
unfolding skip_at
skip_forward m n i = omega arith

pub skip_most : (m : List ℕ) (n i : ℕ) → i < n → skip_at m n i ≤ n
unfolding skip_at
skip_most m n i h = omega (arith, belonging_most (rank_at m i) (ranks_at m n (suc i)), ranks_length m (suc i) (n - suc i))

-- Hopping: up to row j all rows behind row i belong to it, and what is left of its rows begins there

pub record HopsTo (m : List ℕ) (n i j : ℕ) : Type 0 where
  pub behind : i < j
  pub most : j ≤ n
  pub left : skip_at m n i ≡ j + belonging (rank_at m i) (ranks_at m n j)

module _ (m : List ℕ) (n i : ℕ) where
  pub hop_begins : i < n → HopsTo m n i (i + 1)
  unfolding skip_at
  hop_begins h =
      let q : suc i ≡ i + 1 = omega arith in
      record { behind = omega arith; most = omega arith; left = ap (λ (x : ℕ). x + belonging (rank_at m i) (ranks_at m n x)) q }

  pub hop_on : {j : ℕ} → HopsTo m n i j → j < n → belongs (rank_at m i) (rank_at m j) ≡ true → HopsTo m n i (skip_at m n j)
  unfolding skip_at
  hop_on {j} h l q =
      let r = rank_at m i in
      let s = rank_at m j in
      let rest = ranks_at m n (suc j) in
      let b = belonging s rest in
      let few : b ≤ n - suc j = omega (arith, belonging_most s rest, ranks_length m (suc j) (n - suc j)) in
      let k : n - suc j - b ≡ n - (suc j + b) = omega arith in
      let cut : drop b rest ≡ ranks_at m n (suc j + b) = ranks_drop m (suc j) (n - suc j) b few ∙ ap (ranks_for m (suc j + b)) k in
      let next : belonging r (ranks_at m n j) ≡ suc (b + belonging r (ranks_at m n (suc j + b)))
      = ap (belonging r) (ranks_next m n j l) ∙ belonging_on r s rest q ∙ ap suc (run_on r s rest q ∙ ap (λ (x : List Rank). b + belonging r x) cut) in
      record { behind = omega (arith, h.behind); most = omega arith; left = omega (arith, h.left, next) }

  pub hop_ends : {j : ℕ} → HopsTo m n i j → n ≤ j → skip_at m n i ≡ j
  hop_ends {j} h l = h.left ∙ ap (λ (x : List Rank). j + belonging (rank_at m i) x) (ranks_none m n j l) ∙ ap (λ (x : ℕ). j + x) (belonging_none (rank_at m i)) ∙ omega arith

  pub hop_stops : {j : ℕ} → HopsTo m n i j → j < n → belongs (rank_at m i) (rank_at m j) ≡ false → skip_at m n i ≡ j
  hop_stops {j} h l q =
      h.left ∙ ap (λ (x : List Rank). j + belonging (rank_at m i) x) (ranks_next m n j l) ∙ ap (λ (x : ℕ). j + x) (belonging_ends (rank_at m i) (rank_at m j) (ranks_at m n (suc j)) q) ∙ omega arith

  -- the same row by row
  pub step_on : {j : ℕ} → HopsTo m n i j → j < n → belongs (rank_at m i) (rank_at m j) ≡ true → HopsTo m n i (j + 1)
  step_on {j} h l q =
      let r = rank_at m i in
      let p : suc j ≡ j + 1 = omega arith in
      let next : belonging r (ranks_at m n j) ≡ suc (belonging r (ranks_at m n (j + 1)))
      = ap (belonging r) (ranks_next m n j l) ∙ belonging_on r (rank_at m j) (ranks_at m n (suc j)) q ∙ ap (λ (x : ℕ). suc (belonging r (ranks_at m n x))) p in
      record { behind = omega (arith, h.behind); most = omega arith; left = omega (arith, h.left, next) }

-- Given skip numbers

abbrev given_for : List ℕ → ℕ → ℕ → List ℕ
given_for m i zero = []
given_for m i (suc k) = given_at m i ∷ given_for m (suc i) k

-- the given ones from row i up to row n, held against the right ones
unfoldable pub held_at : List ℕ → ℕ → ℕ → Skips
held_at m n i = held_against i (given_for m i (n - i)) (skips_from i (ranks_at m n i))

pub held_end : (m : List ℕ) (n i : ℕ) → n ≤ i → held_at m n i ≡ right
unfolding held_at held_against
held_end m n i h = let q : n - i ≡ 0 = omega arith in ap (λ (k : ℕ). held_against i (given_for m i k) (skips_from i (ranks_for m i k))) q

pub held_turn : (m : List ℕ) (n i : ℕ) → i < n → held_at m n i ≡ pick (eqb (given_at m i) (skip_at m n i)) (held_at m n (suc i)) (wrong_at i)
unfolding held_at held_against skip_at
held_turn m n i h = let q : n - i ≡ suc (n - suc i) = omega arith in ap (λ (k : ℕ). held_against i (given_for m i k) (skips_from i (ranks_for m i k))) q

pub held_next : (m : List ℕ) (n i : ℕ) → i < n → given_at m i ≡ skip_at m n i → held_at m n i ≡ held_at m n (i + 1)
held_next m n i h q =
    let p : suc i ≡ i + 1 = omega arith in
    held_turn m n i h ∙ (rw (eq-eqb (given_at m i) (skip_at m n i) q) refl) ∙ ap (held_at m n) p

pub held_wrong : (m : List ℕ) (n i : ℕ) → i < n → (given_at m i ≡ skip_at m n i → ⊥) → held_at m n i ≡ wrong_at i
held_wrong m n i h q = held_turn m n i h ∙ rw (ne_eqb (given_at m i) (skip_at m n i) q) refl

-- all from row i on are right
abbrev pub AllRight : List ℕ → ℕ → ℕ → Type 0
AllRight m n i = (j : ℕ) → i ≤ j → j < n → given_at m j ≡ skip_at m n j

held_all : (m : List ℕ) (n k i : ℕ) → AllRight m n i → n ≤ i + k → held_at m n i ≡ right
held_all m n zero i a h = held_end m n i (omega arith)
held_all m n (suc k) i a h = at (ltb i n) refl (held_all m n k (i + 1) (λ j l. a j (omega arith)) (omega arith))
  where
    at : (b : Bool) → ltb i n ≡ b → held_at m n (i + 1) ≡ right → held_at m n i ≡ right
    at true q ih = let l = ltb-true i n q in held_next m n i l (a i (omega arith) l) ∙ ih
    at false q ih = held_end m n i (ltb-false i n q)

pub all_held : (m : List ℕ) (n : ℕ) → AllRight m n 0 → held_at m n 0 ≡ right
all_held m n a = held_all m n n 0 a (omega arith)

-- Memory by places is memory by rows

module _ (a b c d e : ℕ) (rows : List ℕ) where
  abbrev whole : List ℕ
  whole = a ∷ b ∷ c ∷ d ∷ e ∷ rows

  place_behind : (i x : ℕ) → get_or whole (suc i * row_width + x) 0 ≡ get_or rows (i * row_width + x) 0
  place_behind i x = let q : suc i * row_width + x ≡ suc (suc (suc (suc (suc (i * row_width + x))))) = omega arith in ap (λ (k : ℕ). get_or whole k 0) q

  first_behind : (i : ℕ) → get_or whole (suc i * row_width) 0 ≡ get_or rows (i * row_width) 0
  first_behind i = let q : suc i * row_width ≡ suc (suc (suc (suc (suc (i * row_width))))) = omega arith in ap (λ (k : ℕ). get_or whole k 0) q

  ranks_behind : (i k : ℕ) → ranks_for whole (suc i) k ≡ ranks_for rows i k
  ranks_behind i zero = refl
  ranks_behind i (suc k) = rw (first_behind i, place_behind i 1, ranks_behind (suc i) k) refl

  given_behind : (i k : ℕ) → given_for whole (suc i) k ≡ given_for rows i k
  given_behind i zero = refl
  given_behind i (suc k) = rw (place_behind i 4, given_behind (suc i) k) refl

  one_more : length whole / row_width ≡ suc (length rows / row_width)
  one_more = let q : suc (suc (suc (suc (suc (length rows))))) / row_width ≡ suc (length rows / row_width) = omega arith in q

pub ranks_are : (rows : List ℕ) → ranks_of rows ≡ ranks_at rows (room_of rows) 0
unfolding ranks_of
ranks_are rows = go rows ∙ (let q : room_of rows ≡ room_of rows - 0 = omega arith in ap (ranks_for rows 0) q)
  where
    go : (rows : List ℕ) → ranks_of rows ≡ ranks_for rows 0 (room_of rows)
    go [] = refl
    go (a ∷ []) = refl
    go (a ∷ (b ∷ [])) = refl
    go (a ∷ (b ∷ (c ∷ []))) = refl
    go (a ∷ (b ∷ (c ∷ (d ∷ [])))) = refl
    go (a ∷ (b ∷ (c ∷ (d ∷ (e ∷ rows))))) =
        ap (λ (x : List Rank). rank a b ∷ x) (go rows ∙ sym (ranks_behind a b c d e rows 0 (room_of rows))) ∙ ap (ranks_for (whole a b c d e rows) 0) (sym (one_more a b c d e rows))

given_are : (rows : List ℕ) → skips_of rows ≡ given_for rows 0 (room_of rows - 0)
unfolding skips_of
given_are rows = go rows ∙ (let q : room_of rows ≡ room_of rows - 0 = omega arith in ap (given_for rows 0) q)
  where
    go : (rows : List ℕ) → skips_of rows ≡ given_for rows 0 (room_of rows)
    go [] = refl
    go (a ∷ []) = refl
    go (a ∷ (b ∷ [])) = refl
    go (a ∷ (b ∷ (c ∷ []))) = refl
    go (a ∷ (b ∷ (c ∷ (d ∷ [])))) = refl
    go (a ∷ (b ∷ (c ∷ (d ∷ (e ∷ rows))))) =
        ap (λ (x : List ℕ). e ∷ x) (go rows ∙ sym (given_behind a b c d e rows 0 (room_of rows))) ∙ ap (given_for (whole a b c d e rows) 0) (sym (one_more a b c d e rows))

pub held_are : (rows : List ℕ) → skips_held rows ≡ held_at rows (room_of rows) 0
unfolding skips_held held_at
held_are rows = rw (given_are rows, ranks_are rows) refl
