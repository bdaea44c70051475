-- The skip numbers laid behind the other four of each row, from the last row to the first: then the table stands over the memory.
use Prim.Native.Nat.{ℕ, zero, suc, ◌+◌, ◌-◌, ◌*◌, ◌≤◌, ◌<◌}
use Rattle.std.specs.Prelude.{List, [], ◌∷◌, ◌++◌, map, Bool, ◌≡◌, length, get_or, drop}
use Rattle.std.proofs.Common.{append_assoc, sym, ◌∙◌, length-append, get_or-append-add, drop-drop}
use Rattle.std.proofs.Math.Bool.{true, false}
use Rattle.std.proofs.Math.Path.{refl, ap}
use native.Mathlib.Omega.{arith}
use Rattle.std.proofs.Math.Dec.{eqb}
use Rattle.std.proofs.Math.ListN.{set, length-set}
use Rattle.std.proofs.Math.Seq.{get_or-set_same, get_or-set_other}
use borrow.Author.Tests.{eqb-true, eqb-false}
use Rattle.meaning.specs.Skips.{Rank, skip_of}
use Rattle.meaning.specs.Headers.{Placed}
use Rattle.meaning.specs.Memory.{row_width, rank_of, numbers_in, numbers_of, rows_from, table_of, room_of, laid_over}
use Rattle.laws_steps.specs.Rows.{put_all, four_of, put_all_over, set_over}
use Rattle.laws_steps.specs.Hopping.{rank_at, ranks_for, given_at, skip_at}

-- memory in which the last d of n rows have their skip numbers
unfoldable pub skips_laid : List ℕ → ℕ → ℕ → List ℕ
skips_laid m n zero = m
skips_laid m n (suc d) = set (skips_laid m n d) ((n - suc d) * row_width + 4) (skip_at m n (n - suc d))

module _ (m : List ℕ) (n : ℕ) where
  pub laid_none : skips_laid m n 0 ≡ m
  unfolding skips_laid
  laid_none = refl

  -- one row more, row i
  pub laid_more : (d i : ℕ) → n ≡ i + suc d → skips_laid m n (suc d) ≡ set (skips_laid m n d) (i * row_width + 4) (skip_at m n i)
  unfolding skips_laid
  laid_more d i h = let q : n - suc d ≡ i = omega arith in ap (λ (x : ℕ). set (skips_laid m n d) (x * row_width + 4) (skip_at m n x)) q

  pub laid_length : (d : ℕ) → length (skips_laid m n d) ≡ length m
  unfolding skips_laid
  laid_length zero = refl
  laid_length (suc d) = length-set (skips_laid m n d) ((n - suc d) * row_width + 4) (skip_at m n (n - suc d)) ∙ laid_length d

  -- kinds and levels stay
  pub laid_kind : (d j : ℕ) → get_or (skips_laid m n d) (j * row_width) 0 ≡ get_or m (j * row_width) 0
  unfolding skips_laid
  laid_kind zero j = refl
  laid_kind (suc d) j = get_or-set_other (skips_laid m n d) ((n - suc d) * row_width + 4) (j * row_width) (skip_at m n (n - suc d)) 0 (λ q. omega arith) ∙ laid_kind d j

  pub laid_level : (d j : ℕ) → get_or (skips_laid m n d) (j * row_width + 1) 0 ≡ get_or m (j * row_width + 1) 0
  unfolding skips_laid
  laid_level zero j = refl
  laid_level (suc d) j = get_or-set_other (skips_laid m n d) ((n - suc d) * row_width + 4) (j * row_width + 1) (skip_at m n (n - suc d)) 0 (λ q. omega arith) ∙ laid_level d j

  -- the rows that have theirs
  pub laid_skip : (d j : ℕ) → n * row_width ≤ length m → n ≤ j + d → j < n → given_at (skips_laid m n d) j ≡ skip_at m n j
  unfolding skips_laid
  laid_skip zero j l h k = absurd (omega arith)
  laid_skip (suc d) j l h k = at (eqb j (n - suc d)) refl (laid_skip d j l)
    where
      at : (b : Bool) → eqb j (n - suc d) ≡ b → (n ≤ j + d → j < n → given_at (skips_laid m n d) j ≡ skip_at m n j)
          → given_at (set (skips_laid m n d) ((n - suc d) * row_width + 4) (skip_at m n (n - suc d))) j ≡ skip_at m n j
      at true q ih =
          let e : j ≡ n - suc d = eqb-true j (n - suc d) q in
          ap (λ (x : ℕ). given_at (set (skips_laid m n d) ((n - suc d) * row_width + 4) (skip_at m n (n - suc d))) x) e
          ∙ get_or-set_same (skips_laid m n d) ((n - suc d) * row_width + 4) (skip_at m n (n - suc d)) 0 (omega (arith, laid_length d)) ∙ ap (skip_at m n) (sym e)
      at false q ih =
          let e = eqb-false j (n - suc d) q in
          get_or-set_other (skips_laid m n d) ((n - suc d) * row_width + 4) (j * row_width + 4) (skip_at m n (n - suc d)) 0 (λ z. e (omega arith)) ∙ ih (omega arith) k

  -- so all rows belong where they did
  pub laid_ranks : (d i k : ℕ) → ranks_for (skips_laid m n d) i k ≡ ranks_for m i k
  laid_ranks d i zero = refl
  laid_ranks d i (suc k) = rw (laid_kind d i, laid_level d i, laid_ranks d (suc i) k) refl

  pub laid_same : (d i : ℕ) → skip_at (skips_laid m n d) n i ≡ skip_at m n i
  unfolding skip_at
  laid_same d i = rw (laid_kind d i, laid_level d i, laid_ranks d (suc i) (n - suc i)) refl

-- The whole table

abbrev row_at : Placed → ℕ → List ℕ
row_at r skip = numbers_in (numbers_of r) skip

-- rows behind a front stand where they were read
pub ranks_over : (rs : List Placed) (i : ℕ) (p m : List ℕ) → length p ≡ i * row_width → ranks_for (p ++ four_of rs m) i (length rs) ≡ map rank_of (map numbers_of rs)
ranks_over [] i p m h = refl
ranks_over (r ∷ rs) i p m h =
    let four = row_at r (get_or m 4 0) in
    let more = four_of rs (drop row_width m) in
    let k : length (p ++ four) ≡ suc i * row_width = simp length-append (omega arith) in
    let kind : get_or (p ++ (four ++ more)) (i * row_width) 0 ≡ r.kind = ap (λ (x : ℕ). get_or (p ++ (four ++ more)) x 0) (omega arith) ∙ get_or-append-add p (four ++ more) 0 0 in
    let level : get_or (p ++ (four ++ more)) (i * row_width + 1) 0 ≡ r.level = ap (λ (x : ℕ). get_or (p ++ (four ++ more)) x 0) (omega arith) ∙ get_or-append-add p (four ++ more) 1 0 in
    let rest : ranks_for (p ++ (four ++ more)) (suc i) (length rs) ≡ map rank_of (map numbers_of rs)
    = ap (λ (x : List ℕ). ranks_for x (suc i) (length rs)) (sym (append_assoc p four more)) ∙ ranks_over rs (suc i) (p ++ four) (drop row_width m) k in
    rw (kind, level, rest) refl

skip_over : (r : Placed) (rs : List Placed) (i : ℕ) (p m : List ℕ) → length p ≡ i * row_width → skip_at (p ++ four_of (r ∷ rs) m) (i + suc (length rs)) i ≡ skip_of i (rank_of (numbers_of r)) (map rank_of (map numbers_of rs))
unfolding skip_at
skip_over r rs i p m h =
    let q = ranks_over (r ∷ rs) i p m h in
    let n : i + suc (length rs) - suc i ≡ length rs = omega arith in
    let all = p ++ four_of (r ∷ rs) m in
    let first : rank_at all i ≡ rank_of (numbers_of r) = cc q in
    let rest : ranks_for all (suc i) (length rs) ≡ map rank_of (map numbers_of rs) = cc q in
    ap (λ (x : ℕ). skip_of i (rank_at all i) (ranks_for all (suc i) x)) n ∙ ap (λ (x : Rank). skip_of i x (ranks_for all (suc i) (length rs))) first ∙ ap (skip_of i (rank_of (numbers_of r))) rest

laid_over_lem : (rs : List Placed) (i : ℕ) (p m : List ℕ) → length p ≡ i * row_width → skips_laid (p ++ four_of rs m) (i + length rs) (length rs) ≡ p ++ (rows_from i (map numbers_of rs) ++ drop (length rs * row_width) m)
laid_over_lem [] i p m h = laid_none (p ++ m) (i + 0)
laid_over_lem (r ∷ rs) i p m h =
    let four = row_at r (get_or m 4 0) in
    let more = four_of rs (drop row_width m) in
    let d = length rs in
    let skip = skip_of i (rank_of (numbers_of r)) (map rank_of (map numbers_of rs)) in
    let behind = rows_from (suc i) (map numbers_of rs) ++ drop (d * row_width) (drop row_width m) in
    let k : length (p ++ four) ≡ suc i * row_width = simp length-append (omega arith) in
    let n : i + suc d ≡ suc i + d = omega arith in
    let both : row_width + d * row_width ≡ suc d * row_width = omega arith in
    let last : drop (d * row_width) (drop row_width m) ≡ drop (suc d * row_width) m = drop-drop (d * row_width) row_width m ∙ ap (λ (x : ℕ). drop x m) both in
    let before : skips_laid (p ++ (four ++ more)) (i + suc d) d ≡ p ++ (four ++ behind)
    = ap (λ (x : ℕ). skips_laid (p ++ (four ++ more)) x d) n ∙ ap (λ (x : List ℕ). skips_laid x (suc i + d) d) (sym (append_assoc p four more)) ∙ laid_over_lem rs (suc i) (p ++ four) (drop row_width m) k ∙ append_assoc p four behind in
    laid_more (p ++ (four ++ more)) (i + suc d) d i refl
    ∙ ap (λ (x : ℕ). set (skips_laid (p ++ (four ++ more)) (i + suc d) d) (i * row_width + 4) x) (skip_over r rs i p m h)
    ∙ ap (λ (x : List ℕ). set x (i * row_width + 4) skip) before
    ∙ set_over p (four ++ behind) (i * row_width + 4) 4 skip (omega arith)
    ∙ ap (λ (x : List ℕ). p ++ (row_at r skip ++ (rows_from (suc i) (map numbers_of rs) ++ x))) last

pub table_length : (i : ℕ) (rs : List Placed) → length (rows_from i (map numbers_of rs)) ≡ length rs * row_width
table_length i [] = refl
table_length i (r ∷ rs) = let q = table_length (suc i) rs in omega arith

-- rows that have room, and then their skip numbers, are the table over the front of the memory
pub all_laid_over : (rs : List Placed) (m : List ℕ) → length rs ≤ room_of m → skips_laid (put_all rs 0 m) (length rs) (length rs) ≡ laid_over m (table_of rs)
unfolding laid_over
all_laid_over rs m h =
    let n : length rs ≡ 0 + length rs = omega arith in
    ap (λ (x : List ℕ). skips_laid x (length rs) (length rs)) (put_all_over rs m h) ∙ ap (λ (x : ℕ). skips_laid (four_of rs m) x (length rs)) n ∙ laid_over_lem rs 0 [] m refl
    ∙ ap (λ (x : ℕ). table_of rs ++ drop x m) (sym (table_length 0 rs))
