-- The table that is read is the tree laid flat: its skip numbers, by kinds and levels, are those of the tree. And a tree is told by its rows and skip numbers.
use Rattle.std.specs.Prelude.{ℕ, suc, ◌+◌, List, [], ◌∷◌, ◌++◌, map, ◌≡◌, refl, length}
use Rattle.std.proofs.Common.{append_assoc, append-nil, ap, ap₂, sym, ◌∙◌, subst, arith}
use Rattle.meaning.specs.Told.{Told}
use Rattle.meaning.specs.Skips.{Rank, rank, belonging, skip_of}
use Rattle.meaning.specs.Headers.{Placed}
use Rattle.meaning.specs.Memory.{skips_of, Numbers, row, rank_of, numbers_in, rows_from, numbers_of, table_of}
use Rattle.papers.specs.Notation.{Trees, end, tree, flat, size, skip_numbers, laid}
use Rattle.papers.specs.Papers.{Header}
use Rattle.papers.specs.TreeSkips.{ranks, Nested, belonging_is, size_is}
use Rattle.papers.proofs.Nested.{header_nested}

-- the rows of trees, as numbers
abbrev numbers : Trees → List Numbers
numbers end = []
numbers (tree k n s v inside beside) = row k n s (length v) ∷ (numbers inside ++ numbers beside)

map_both : (l m : List Placed) → map numbers_of (l ++ m) ≡ map numbers_of l ++ map numbers_of m
map_both [] m = refl
map_both (x ∷ l) m = ap (λ (y : List Numbers). numbers_of x ∷ y) (map_both l m)

ranks_both : (l m : List Numbers) → map rank_of (l ++ m) ≡ map rank_of l ++ map rank_of m
ranks_both [] m = refl
ranks_both (x ∷ l) m = ap (λ (y : List Rank). rank_of x ∷ y) (ranks_both l m)

numbers_flat : (ts : Trees) → map numbers_of (flat ts) ≡ numbers ts
numbers_flat end = refl
numbers_flat (tree k n s v inside beside) =
    ap (λ (y : List Numbers). row k n s (length v) ∷ y) (map_both (flat inside) (flat beside) ∙ ap₂ (λ (y z : List Numbers). y ++ z) (numbers_flat inside) (numbers_flat beside))

ranks_numbers : (ts : Trees) → map rank_of (numbers ts) ≡ ranks ts
ranks_numbers end = refl
ranks_numbers (tree k n s v inside beside) =
    ap (λ (y : List Rank). rank k n ∷ y) (ranks_both (numbers inside) (numbers beside) ∙ ap₂ (λ (y z : List Rank). y ++ z) (ranks_numbers inside) (ranks_numbers beside))

laid_before : (i : ℕ) (ts : Trees) (more : List Numbers) → Nested ts (map rank_of more) → rows_from i (numbers ts ++ more) ≡ laid i ts ++ rows_from (i + size ts) more
laid_before i end more h = ap (λ (x : ℕ). rows_from x more) (omega arith)
laid_before i (tree k n s v inside beside) more h =
    let r = row k n s (length v) in
    let behind = numbers beside ++ more in
    let j = suc i + size inside in
    let after = rows_from (i + (suc (size inside) + size beside)) more in
    let all : (numbers inside ++ numbers beside) ++ more ≡ numbers inside ++ behind = append_assoc (numbers inside) (numbers beside) more in
    let their : map rank_of behind ≡ ranks beside ++ map rank_of more = ranks_both (numbers beside) more ∙ ap (λ (l : List Rank). l ++ map rank_of more) (ranks_numbers beside) in
    let its : map rank_of (numbers inside ++ behind) ≡ ranks inside ++ (ranks beside ++ map rank_of more) = ranks_both (numbers inside) behind ∙ ap₂ (λ (l m : List Rank). l ++ m) (ranks_numbers inside) their in
    let own : belonging (rank k n) (map rank_of (numbers inside ++ behind)) ≡ size inside = ap (belonging (rank k n)) its ∙ belonging_is (rank k n) (ranks inside) (ranks beside ++ map rank_of more) h.0 h.1 ∙ size_is inside in
    let last : rows_from (j + size beside) more ≡ after = ap (λ (x : ℕ). rows_from x more) (omega arith) in
    let nested : Nested inside (map rank_of behind) = subst (λ (l : List Rank). Nested inside l) (sym their) h.2 in
    let rest : rows_from (suc i) (numbers inside ++ behind) ≡ (laid (suc i) inside ++ laid j beside) ++ after
    = laid_before (suc i) inside behind nested ∙ ap (λ (l : List ℕ). laid (suc i) inside ++ l) (laid_before j beside more h.3 ∙ ap (λ (l : List ℕ). laid j beside ++ l) last)
    ∙ sym (append_assoc (laid (suc i) inside) (laid j beside) after) in
    ap (λ (l : List Numbers). numbers_in r (skip_of i (rank k n) (map rank_of l)) ++ rows_from (suc i) l) all ∙ ap₂ (λ (x : ℕ) (l : List ℕ). k ∷ n ∷ s ∷ length v ∷ (suc i + x) ∷ l) own rest

-- the table that is read of a header is its tree, laid flat
pub laid_flat : (t : Told) (at : ℕ) (bytes : List ℕ) (ts : Trees) → Header t at bytes ts → table_of (flat ts) ≡ laid 0 ts
laid_flat t at bytes ts h =
    ap (rows_from 0) (numbers_flat ts ∙ sym (append-nil (numbers ts))) ∙ laid_before 0 ts [] (header_nested t at bytes ts h) ∙ append-nil (laid 0 ts)

-- where its rows stand
pub ranks_flat : (ts : Trees) → map rank_of (map numbers_of (flat ts)) ≡ ranks ts
ranks_flat ts = ap (map rank_of) (numbers_flat ts) ∙ ranks_numbers ts

-- the fifth numbers of trees laid flat are their skip numbers
laid_then : (i : ℕ) (ts : Trees) (more : List ℕ) → skips_of (laid i ts ++ more) ≡ skip_numbers i ts ++ skips_of more
unfolding skips_of
laid_then i end more = refl
laid_then i (tree k n s v inside beside) more =
    let j = suc i + size inside in
    let rest : skips_of ((laid (suc i) inside ++ laid j beside) ++ more) ≡ (skip_numbers (suc i) inside ++ skip_numbers j beside) ++ skips_of more
    = ap skips_of (append_assoc (laid (suc i) inside) (laid j beside) more) ∙ laid_then (suc i) inside (laid j beside ++ more) ∙ ap (λ (l : List ℕ). skip_numbers (suc i) inside ++ l) (laid_then j beside more)
    ∙ sym (append_assoc (skip_numbers (suc i) inside) (skip_numbers j beside) (skips_of more)) in
    ap (λ (l : List ℕ). j ∷ l) rest

pub laid_skips : (i : ℕ) (ts : Trees) → skips_of (laid i ts) ≡ skip_numbers i ts
unfolding skips_of
laid_skips i ts = ap skips_of (sym (append-nil (laid i ts))) ∙ laid_then i ts [] ∙ append-nil (skip_numbers i ts)
