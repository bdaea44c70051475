-- Tables whose skip numbers are right: those that were read, and those that are written. They have one skip number for each row, which the rows decide;
-- where one is wrong, the lowest such row is named.
use Rattle.std.specs.Prelude.{ℕ, zero, suc, ◌+◌, ◌≤◌, ◌<◌, List, [], ◌∷◌, map, Bool, true, false, ◌≡◌, refl, eqb, ltb, leb, length, take, drop}
use Rattle.std.proofs.Common.{ap, sym, ◌∙◌, arith, eqb-true, eq-eqb, ltb-true, ltb-false}
use Rattle.std.proofs.lemmas.Bool.{eqb-false}
use Rattle.meaning.specs.Basics.{pick}
use Rattle.meaning.specs.Reading.{Row}
use Rattle.meaning.specs.Headers.{Placed, meant}
use Rattle.meaning.specs.Writing.{cell, broken}
use Rattle.meaning.specs.Skips.{Rank, rank, skips_from, right, wrong_at, held_against}
use Rattle.meaning.specs.Memory.{Numbers, rank_of, numbers_of, rows_from, table_of, room_of, cell_of, cells_of, ranks_of, skips_of, skips_held}
use Rattle.laws_steps.specs.Rows.{no_broken}
use Rattle.laws_steps.specs.Hopping.{given_at, skip_at, held_at, held_turn, held_end, AllRight, held_are}

-- Held against themselves, numbers are right; and where they are right, they are the same

held_same : (i : ℕ) (xs : List ℕ) → held_against i xs xs ≡ right
unfolding held_against
held_same i [] = refl
held_same i (x ∷ xs) = rw (eq-eqb x x refl) (held_same (suc i) xs)

not_wrong : {A : Type 0} {i : ℕ} → wrong_at i ≡ right → A
not_wrong q = let z : ◌≡◌ {A = ℕ} 0 1 = cc q in absurd (omega arith)

right_same : (i : ℕ) (xs ys : List ℕ) → length xs ≡ length ys → held_against i xs ys ≡ right → xs ≡ ys
unfolding held_against
right_same i [] [] l q = refl
right_same i [] (y ∷ ys) l q = absurd (omega arith)
right_same i (x ∷ xs) [] l q = absurd (omega arith)
right_same i (x ∷ xs) (y ∷ ys) l q = at (eqb x y) refl q (right_same (suc i) xs ys (omega arith))
  where
    at : (b : Bool) → eqb x y ≡ b → pick b (held_against (suc i) xs ys) (wrong_at i) ≡ right → (held_against (suc i) xs ys ≡ right → xs ≡ ys) → x ∷ xs ≡ y ∷ ys
    at true p r ih = rw (eqb-true x y p, ih r) refl
    at false p r ih = not_wrong r

-- What was read

table_skips : (i : ℕ) (rs : List Numbers) → skips_of (rows_from i rs) ≡ skips_from i (map rank_of rs)
unfolding skips_of
table_skips i [] = refl
table_skips i (r ∷ rs) = rw (table_skips (suc i) rs) refl

pub table_ranks : (i : ℕ) (rs : List Numbers) → ranks_of (rows_from i rs) ≡ map rank_of rs
unfolding ranks_of
table_ranks i [] = refl
table_ranks i (r ∷ rs) = rw (table_ranks (suc i) rs) refl

pub table_right : (rows : List Placed) → skips_held (table_of rows) ≡ right
unfolding skips_held
table_right rows =
    let ns = map numbers_of rows in
    ap (λ (x : List ℕ). held_against 0 x (skips_from 0 (ranks_of (table_of rows)))) (table_skips 0 ns) ∙ ap (λ (x : List Rank). held_against 0 (skips_from 0 (map rank_of ns)) (skips_from 0 x)) (table_ranks 0 ns) ∙ held_same 0 (skips_from 0 (map rank_of ns))

-- What is written

skips_count : (rows : List ℕ) → length (skips_of rows) ≡ length (ranks_of rows)
unfolding skips_of ranks_of
skips_count [] = refl
skips_count (a ∷ []) = refl
skips_count (a ∷ (b ∷ [])) = refl
skips_count (a ∷ (b ∷ (c ∷ []))) = refl
skips_count (a ∷ (b ∷ (c ∷ (d ∷ [])))) = refl
skips_count (a ∷ (b ∷ (c ∷ (d ∷ (e ∷ rows))))) = ap suc (skips_count rows)

from_count : (i : ℕ) (rs : List Rank) → length (skips_from i rs) ≡ length rs
from_count i [] = refl
from_count i (r ∷ rs) = ap suc (from_count (suc i) rs)

pub right_skips : (rows : List ℕ) → skips_held rows ≡ right → skips_of rows ≡ skips_from 0 (ranks_of rows)
unfolding skips_held
right_skips rows q = right_same 0 (skips_of rows) (skips_from 0 (ranks_of rows)) (skips_count rows ∙ sym (from_count 0 (ranks_of rows))) q

-- a row of the table stands where its cell says
abbrev pub standing : Row → Rank
standing r = rank r.kind r.level

cell_rank : (pool : List ℕ) (kind level start len : ℕ) (r : Row) → cell_of pool kind level start len ≡ cell r → rank kind level ≡ standing r
cell_rank pool kind level start len r q = at (leb (start + len) (length pool)) q
  where
    at : (b : Bool) → pick b (cell (record { kind = kind; level = level; view = take len (drop start pool) })) broken ≡ cell r → rank kind level ≡ standing r
    at true p = let x : record { kind = kind; level = level; view = take len (drop start pool) } ≡ r = cc p in ap standing x
    at false p = let z : ◌≡◌ {A = ℕ} 0 1 = cc p in absurd (omega arith)

pub cells_ranks : (pool rows : List ℕ) (table : List Row) → cells_of pool rows ≡ map cell table → ranks_of rows ≡ map standing table
unfolding cells_of ranks_of
cells_ranks pool [] [] q = refl
cells_ranks pool [] (row ∷ table) q = let z : ◌≡◌ {A = ℕ} 0 1 = cc q in absurd (omega arith)
cells_ranks pool (a ∷ []) table q = absurd (no_broken [] table q)
cells_ranks pool (a ∷ (b ∷ [])) table q = absurd (no_broken [] table q)
cells_ranks pool (a ∷ (b ∷ (c ∷ []))) table q = absurd (no_broken [] table q)
cells_ranks pool (a ∷ (b ∷ (c ∷ (d ∷ [])))) table q = absurd (no_broken [] table q)
cells_ranks pool (a ∷ (b ∷ (c ∷ (d ∷ (e ∷ rows))))) [] q = let z : ◌≡◌ {A = ℕ} 0 1 = cc q in absurd (omega arith)
cells_ranks pool (a ∷ (b ∷ (c ∷ (d ∷ (e ∷ rows))))) (row ∷ table) q =
    let first : cell_of pool a b c d ≡ cell row = cc q in
    let rest : cells_of pool rows ≡ map cell table = cc q in
    ap (λ (x : Rank). x ∷ ranks_of rows) (cell_rank pool a b c d row first) ∙ ap (λ (x : List Rank). standing row ∷ x) (cells_ranks pool rows table rest)

-- the skip numbers of a written table are those of what is read from it
pub skips_same : (pool rows : List ℕ) (read-rows : List Placed) → skips_held rows ≡ right → cells_of pool rows ≡ map cell (map meant read-rows) → skips_of rows ≡ skips_of (table_of read-rows)
skips_same pool rows read-rows s c =
    right_skips rows s ∙ ap (skips_from 0) (cells_ranks pool rows (map meant read-rows) c ∙ ranks_meant read-rows) ∙ sym (table_skips 0 (map numbers_of read-rows))
  where
    ranks_meant : (rs : List Placed) → map standing (map meant rs) ≡ map rank_of (map numbers_of rs)
    ranks_meant [] = refl
    ranks_meant (r ∷ rs) = ap (λ (x : List Rank). rank r.kind r.level ∷ x) (ranks_meant rs)

-- What a wrong skip number says

-- up to the lowest wrong one all are right
pub record LowestWrong (m : List ℕ) (n i j : ℕ) : Type 0 where
  pub from : i ≤ j
  pub inside : j < n
  pub before : (x : ℕ) → i ≤ x → x < j → given_at m x ≡ skip_at m n x
  pub wrong : given_at m j ≡ skip_at m n j → ⊥

right_not : {A : Type 0} {j : ℕ} → right ≡ wrong_at j → A
right_not q = let z : ◌≡◌ {A = ℕ} 0 1 = cc q in absurd (omega arith)

wrong_from : (m : List ℕ) (n k i j : ℕ) → n ≤ i + k → held_at m n i ≡ wrong_at j → LowestWrong m n i j
wrong_from m n zero i j h q = right_not (sym (held_end m n i (omega arith)) ∙ q)
wrong_from m n (suc k) i j h q = inside (ltb i n) refl (wrong_from m n k (suc i) j (omega arith))
  where
    here : i < n → (b : Bool) → eqb (given_at m i) (skip_at m n i) ≡ b → pick b (held_at m n (suc i)) (wrong_at i) ≡ wrong_at j → (held_at m n (suc i) ≡ wrong_at j → LowestWrong m n (suc i) j) → LowestWrong m n i j
    here l true e r ih =
        let w = ih r in
        let same = eqb-true (given_at m i) (skip_at m n i) e in
        record { from = omega (arith, w.from); inside = w.inside; before = λ x p t. at_or_behind x p (λ u. ap (given_at m) u ∙ same ∙ ap (skip_at m n) (sym u)) (λ u. w.before x u t); wrong = w.wrong }
      where
        at_or_behind : {A : Type 0} (x : ℕ) → i ≤ x → (x ≡ i → A) → (suc i ≤ x → A) → A
        at_or_behind {A} x p f g = by (eqb x i) refl
          where
            by : (b : Bool) → eqb x i ≡ b → A
            by true z = f (eqb-true x i z)
            by false z = let n = eqb-false x i z in g (omega arith)
    here l false e r ih =
        let u : i ≡ j = cc r in
        record { from = omega arith; inside = omega arith; before = λ x p t. absurd (omega arith); wrong = λ z. eqb-false (given_at m i) (skip_at m n i) e (ap (given_at m) u ∙ z ∙ ap (skip_at m n) (sym u)) }

    inside : (b : Bool) → ltb i n ≡ b → (held_at m n (suc i) ≡ wrong_at j → LowestWrong m n (suc i) j) → LowestWrong m n i j
    inside true p ih = let l = ltb-true i n p in here l (eqb (given_at m i) (skip_at m n i)) refl (sym (held_turn m n i l) ∙ q) ih
    inside false p ih = right_not (sym (held_end m n i (ltb-false i n p)) ∙ q)

pub wrong_means : (rows : List ℕ) (i : ℕ) → skips_held rows ≡ wrong_at i → LowestWrong rows (room_of rows) 0 i
wrong_means rows i q = wrong_from rows (room_of rows) (room_of rows) 0 i (omega arith) (sym (held_are rows) ∙ q)

cells_most : (pool rows : List ℕ) → room_of rows ≤ length (cells_of pool rows)
unfolding cells_of
cells_most pool [] = omega arith
cells_most pool (a ∷ []) = omega arith
cells_most pool (a ∷ (b ∷ [])) = omega arith
cells_most pool (a ∷ (b ∷ (c ∷ []))) = omega arith
cells_most pool (a ∷ (b ∷ (c ∷ (d ∷ [])))) = omega arith
cells_most pool (a ∷ (b ∷ (c ∷ (d ∷ (e ∷ rows))))) = let h = cells_most pool rows in omega arith

pub wrong_among : (pool rows : List ℕ) (i : ℕ) → skips_held rows ≡ wrong_at i → i ≤ length (cells_of pool rows)
wrong_among pool rows i q = omega (arith, (wrong_means rows i q).inside, cells_most pool rows)

right_from : (m : List ℕ) (n k i : ℕ) → n ≤ i + k → held_at m n i ≡ right → AllRight m n i
right_from m n zero i h q = λ j l u. absurd (omega arith)
right_from m n (suc k) i h q = λ j l u. at (eqb (given_at m i) (skip_at m n i)) refl (sym (held_turn m n i (omega arith)) ∙ q) (right_from m n k (suc i) (omega arith)) j l u
  where
    at : (b : Bool) → eqb (given_at m i) (skip_at m n i) ≡ b → pick b (held_at m n (suc i)) (wrong_at i) ≡ right → (held_at m n (suc i) ≡ right → AllRight m n (suc i)) → AllRight m n i
    at false e r ih = not_wrong r
    at true e r ih = λ j l u. here j l u (eqb j i) refl
      where
        here : (j : ℕ) → i ≤ j → j < n → (b : Bool) → eqb j i ≡ b → given_at m j ≡ skip_at m n j
        here j l u true z = let x = eqb-true j i z in ap (given_at m) x ∙ eqb-true (given_at m i) (skip_at m n i) e ∙ ap (skip_at m n) (sym x)
        here j l u false z = let x = eqb-false j i z in ih r j (omega arith) u

pub right_means : (rows : List ℕ) → skips_held rows ≡ right → AllRight rows (room_of rows) 0
right_means rows q = right_from rows (room_of rows) (room_of rows) 0 (omega arith) (sym (held_are rows) ∙ q)
