-- Order 2: rows before a table. Their skip numbers and words are their own, the table's skip numbers move by their count, and its words stay.
use Rattle.std.specs.Prelude.{ℕ, suc, ◌+◌, List, [], ◌∷◌, ◌++◌, map, Bool, true, false, ◌≡◌, refl, length, take}
use Rattle.std.proofs.Common.{ap, sym, ◌∙◌, arith}
use Rattle.meaning.specs.Basics.{pick}
use Rattle.meaning.specs.Skips.{Rank, is_envelope, belongs, belonging, skip_of}
use Rattle.meaning.specs.Words.{word_of, words_of}
use Rattle.meaning.specs.Headers.{Placed}
use Rattle.meaning.specs.Memory.{rank_of, numbers_of, rows_from, table_of, words_read}
use Rattle.meaning.specs.Relay.{moved, moved_table}
use Rattle.laws_steps.specs.Nesting.{belonging_on, belonging_ends, belonging_none}
use Rattle.laws_tables.specs.AllTabled.{ranks_read, ranks_append}
use Rattle.laws_tables.specs.Moving.{ranks_moved}

-- none of these rows belongs to a row before them
abbrev pub Apart : List Rank → Type 0
Apart ranks = (r : Rank) → belonging r ranks ≡ 0

belonging_before : (r : Rank) (xs ys : List Rank) → Apart ys → belonging r (xs ++ ys) ≡ belonging r xs
belonging_before r [] ys h = h r ∙ sym (belonging_none r)
belonging_before r (x ∷ xs) ys h = at (belongs r x) refl (belonging_before r xs ys h)
  where
    at : (b : Bool) → belongs r x ≡ b → belonging r (xs ++ ys) ≡ belonging r xs → belonging r (x ∷ (xs ++ ys)) ≡ belonging r (x ∷ xs)
    at true q ih = belonging_on r x (xs ++ ys) q ∙ ap suc ih ∙ sym (belonging_on r x xs q)
    at false q ih = belonging_ends r x (xs ++ ys) q ∙ sym (belonging_ends r x xs q)

run_before : (r : Rank) (xs ys : List Rank) → take (belonging r xs) (xs ++ ys) ≡ take (belonging r xs) xs
run_before r [] ys = ap (λ (n : ℕ). take n ys) (belonging_none r) ∙ sym (ap (λ (n : ℕ). take n []) (belonging_none r))
run_before r (x ∷ xs) ys = at (belongs r x) refl (run_before r xs ys)
  where
    at : (b : Bool) → belongs r x ≡ b → take (belonging r xs) (xs ++ ys) ≡ take (belonging r xs) xs → take (belonging r (x ∷ xs)) (x ∷ (xs ++ ys)) ≡ take (belonging r (x ∷ xs)) (x ∷ xs)
    at true q ih = rw (belonging_on r x xs q, ih) refl
    at false q ih = rw (belonging_ends r x xs q) refl

-- Words

words_append : (xs ys : List Rank) → Apart ys → words_of (xs ++ ys) ≡ words_of xs ++ words_of ys
unfolding words_of
words_append [] ys h = refl
words_append (x ∷ xs) ys h = at (is_envelope x.kind) (words_append xs ys h)
  where
    at : (b : Bool) → words_of (xs ++ ys) ≡ words_of xs ++ words_of ys
        → pick b (word_of (take (belonging x (xs ++ ys)) (xs ++ ys)) ∷ words_of (xs ++ ys)) (words_of (xs ++ ys)) ≡ pick b (word_of (take (belonging x xs) xs) ∷ words_of xs) (words_of xs) ++ words_of ys
    at true ih = rw (belonging_before x xs ys h, run_before x xs ys, ih) refl
    at false ih = ih

module _ (n : ℕ) (rs ts : List Placed) (h : Apart (ranks_read ts)) where
  joined_ranks : ranks_read (rs ++ map (moved n) ts) ≡ ranks_read rs ++ ranks_read ts
  joined_ranks = ranks_append rs (map (moved n) ts) ∙ ap (λ (x : List Rank). ranks_read rs ++ x) (ranks_moved n ts)

  pub words_joined : words_read (rs ++ map (moved n) ts) ≡ words_read rs ++ words_read ts
  words_joined = ap words_of joined_ranks ∙ words_append (ranks_read rs) (ranks_read ts) h

-- Skip numbers

-- the rows before the table, from row i on
rows_before : (i : ℕ) (rs ts : List Placed) → Apart (ranks_read ts) → rows_from i (map numbers_of (rs ++ ts)) ≡ rows_from i (map numbers_of rs) ++ rows_from (length rs + i) (map numbers_of ts)
rows_before i [] ts h = ap (λ (x : ℕ). rows_from x (map numbers_of ts)) (omega arith)
rows_before i (r ∷ rs) ts h =
    let ranks : ranks_read (rs ++ ts) ≡ ranks_read rs ++ ranks_read ts = ranks_append rs ts in
    let skip : skip_of i (rank_of (numbers_of r)) (ranks_read (rs ++ ts)) ≡ skip_of i (rank_of (numbers_of r)) (ranks_read rs)
    = ap (skip_of i (rank_of (numbers_of r))) ranks ∙ ap (λ (x : ℕ). suc i + x) (belonging_before (rank_of (numbers_of r)) (ranks_read rs) (ranks_read ts) h) in
    let n : length rs + suc i ≡ suc (length rs) + i = omega arith in
    let rest : rows_from (suc i) (map numbers_of (rs ++ ts)) ≡ rows_from (suc i) (map numbers_of rs) ++ rows_from (suc (length rs) + i) (map numbers_of ts)
    = rows_before (suc i) rs ts h ∙ ap (λ (x : ℕ). rows_from (suc i) (map numbers_of rs) ++ rows_from x (map numbers_of ts)) n in
    rw (skip, rest) refl

-- the table's own, behind k rows
table_moved : (n k i : ℕ) (ts : List Placed) → moved_table n k (rows_from i (map numbers_of ts)) ≡ rows_from (k + i) (map numbers_of (map (moved n) ts))
unfolding moved_table
table_moved n k i [] = refl
table_moved n k i (t ∷ ts) =
    let r = rank_of (numbers_of t) in
    let skip : k + skip_of i r (ranks_read ts) ≡ skip_of (k + i) r (ranks_read (map (moved n) ts))
    = ap (λ (x : List Rank). k + skip_of i r x) (sym (ranks_moved n ts)) ∙ both (belonging r (ranks_read (map (moved n) ts))) in
    let s : k + suc i ≡ suc (k + i) = omega arith in
    let rest : moved_table n k (rows_from (suc i) (map numbers_of ts)) ≡ rows_from (suc (k + i)) (map numbers_of (map (moved n) ts))
    = table_moved n k (suc i) ts ∙ ap (λ (x : ℕ). rows_from x (map numbers_of (map (moved n) ts))) s in
    rw (skip, rest) refl
  where
    both : (m : ℕ) → k + (suc i + m) ≡ suc (k + i) + m
    both m = omega arith

pub table_joined : (n : ℕ) (rs ts : List Placed) → Apart (ranks_read ts) → table_of rs ++ moved_table n (length rs) (table_of ts) ≡ table_of (rs ++ map (moved n) ts)
table_joined n rs ts h =
    ap (λ (x : List ℕ). table_of rs ++ x) (table_moved n (length rs) 0 ts)
    ∙ sym (rows_before 0 rs (map (moved n) ts) (λ r. ap (belonging r) (ranks_moved n ts) ∙ h r))
