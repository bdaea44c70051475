-- Order 7's skip numbers, by kinds and levels (`Skips` of `meaning`), and those of trees: the same, where what stands inside a row belongs to it and what
-- follows does not. That the papers' trees are so stands in `Nested`, rule by rule.
use Rattle.std.specs.Prelude.{ℕ, suc, ◌+◌, List, [], ◌∷◌, ◌++◌, true, false, ◌≡◌, refl, length}
use Rattle.std.proofs.Common.{append_assoc, ap, ap₂, sym, ◌∙◌, arith, length-append}
use Rattle.meaning.specs.Skips.{Rank, rank, belongs, belonging, skips_from}
use Rattle.papers.specs.Notation.{Trees, end, tree, size, skip_numbers}

abbrev pub ranks : Trees → List Rank
ranks end = []
ranks (tree k n s v inside beside) = rank k n ∷ (ranks inside ++ ranks beside)

abbrev pub AllBelong : Rank → List Rank → Type 0
AllBelong r [] = Unit {0}
AllBelong r (x ∷ l) = (belongs r x ≡ true) × AllBelong r l

abbrev pub NotNext : Rank → List Rank → Type 0
NotNext r [] = Unit {0}
NotNext r (x ∷ l) = belongs r x ≡ false

-- .. with these rows behind them
abbrev pub Nested : Trees → List Rank → Type 0
Nested end more = Unit {0}
Nested (tree k n s v inside beside) more =
    AllBelong (rank k n) (ranks inside) × NotNext (rank k n) (ranks beside ++ more) × Nested inside (ranks beside ++ more) × Nested beside more

pub belonging_is : (r : Rank) (l more : List Rank) → AllBelong r l → NotNext r more → belonging r (l ++ more) ≡ length l
unfolding belonging
belonging_is r [] [] all next = refl
belonging_is r [] (x ∷ more) all next = rw next refl
belonging_is r (x ∷ l) more all next = rw all.0 (ap suc (belonging_is r l more all.1 next))

pub size_is : (ts : Trees) → length (ranks ts) ≡ size ts
size_is end = refl
size_is (tree k n s v inside beside) = ap suc (length-append (ranks inside) (ranks beside)) ∙ omega (arith, size_is inside, size_is beside)

pub skips_are : (i : ℕ) (ts : Trees) (more : List Rank) → Nested ts more → skips_from i (ranks ts ++ more) ≡ skip_numbers i ts ++ skips_from (i + size ts) more
skips_are i end more h = ap (λ (x : ℕ). skips_from x more) (omega arith)
skips_are i (tree k n s v inside beside) more h =
    let r = rank k n in
    let behind = ranks beside ++ more in
    let all : (ranks inside ++ ranks beside) ++ more ≡ ranks inside ++ behind = append_assoc (ranks inside) (ranks beside) more in
    let own : belonging r (ranks inside ++ behind) ≡ size inside = belonging_is r (ranks inside) behind h.0 h.1 ∙ size_is inside in
    let j = suc i + size inside in
    let last : skips_from (j + size beside) more ≡ skips_from (i + (suc (size inside) + size beside)) more = ap (λ (x : ℕ). skips_from x more) (omega arith) in
    let rest : skips_from (suc i) (ranks inside ++ behind) ≡ (skip_numbers (suc i) inside ++ skip_numbers j beside) ++ skips_from (i + (suc (size inside) + size beside)) more
    = skips_are (suc i) inside behind h.2 ∙ ap (λ (l : List ℕ). skip_numbers (suc i) inside ++ l) (skips_are j beside more h.3 ∙ ap (λ (l : List ℕ). skip_numbers j beside ++ l) last)
    ∙ sym (append_assoc (skip_numbers (suc i) inside) (skip_numbers j beside) (skips_from (i + (suc (size inside) + size beside)) more)) in
    ap (λ (l : List Rank). (suc i + belonging r l) ∷ skips_from (suc i) l) all ∙ ap₂ (λ (x : ℕ) (l : List ℕ). (suc i + x) ∷ l) own rest
