-- Bytes have one tree: the reader gives them one table, and a tree is told by its rows and their skip numbers.
use Rattle.std.specs.Prelude.{ℕ, suc, ◌+◌, List, [], ◌∷◌, ◌++◌, ◌≡◌, refl, length}
use Rattle.std.proofs.Common.{ap, sym, ◌∙◌, arith, length-append}
use Rattle.meaning.specs.Told.{Told}
use Rattle.meaning.specs.Skips.{Rank, rank, skips_from}
use Rattle.meaning.specs.Headers.{Placed, placed_row, accepted, header}
use Rattle.papers.specs.Notation.{Trees, end, tree, flat, size, skip_numbers}
use Rattle.papers.specs.Papers.{Header}
use Rattle.papers.specs.TreeSkips.{ranks}
use Rattle.papers.proofs.Header.{papers_in}
use Rattle.papers.specs.Reads.{envelopes_read}
use Rattle.papers.proofs.Nested.{header_skips}

pub flat_size : (ts : Trees) → length (flat ts) ≡ size ts
flat_size end = refl
flat_size (tree k n s v inside beside) = omega (arith, length-append (flat inside) (flat beside), flat_size inside, flat_size beside)

skips_size : (i : ℕ) (ts : Trees) → length (skip_numbers i ts) ≡ size ts
skips_size i end = refl
skips_size i (tree k n s v inside beside) =
    omega (arith, length-append (skip_numbers (suc i) inside) (skip_numbers (suc i + size inside) beside), skips_size (suc i) inside, skips_size (suc i + size inside) beside)

first_same : {A : Type 0} {x y : A} {l m : List A} → x ∷ l ≡ y ∷ m → x ≡ y
first_same q = cc q

rest_same : {A : Type 0} {x y : A} {l m : List A} → x ∷ l ≡ y ∷ m → l ≡ m
rest_same q = cc q

fronts : {A : Type 0} (a c b d : List A) → length a ≡ length c → a ++ b ≡ c ++ d → a ≡ c
fronts [] [] b d l q = refl
fronts [] (y ∷ c) b d l q = absurd (omega arith)
fronts (x ∷ a) [] b d l q = absurd (omega arith)
fronts {A} (x ∷ a) (y ∷ c) b d l q =
    let same : a ≡ c = fronts a c b d (omega arith) (rest_same q) in
    ap (λ (z : A). z ∷ a) (first_same q) ∙ ap (λ (z : List A). y ∷ z) same

backs : {A : Type 0} (a c b d : List A) → length a ≡ length c → a ++ b ≡ c ++ d → b ≡ d
backs [] [] b d l q = q
backs [] (y ∷ c) b d l q = absurd (omega arith)
backs (x ∷ a) [] b d l q = absurd (omega arith)
backs (x ∷ a) (y ∷ c) b d l q = backs a c b d (omega arith) (rest_same q)

same_row : {k k' n n' s s' : ℕ} {v v' : List ℕ} {ts ts' us us' : Trees} → placed_row k n s v ≡ placed_row k' n' s' v' → ts ≡ ts' → us ≡ us' → tree k n s v ts us ≡ tree k' n' s' v' ts' us'
same_row {k} {k'} {n} {n'} {s} {s'} {v} {v'} q p r =
    let a : k ≡ k' = ap (λ (x : Placed). x.kind) q in
    let b : n ≡ n' = ap (λ (x : Placed). x.level) q in
    let c : s ≡ s' = ap (λ (x : Placed). x.start) q in
    let d : v ≡ v' = ap (λ (x : Placed). x.view) q in
    rw (a, b, c, d, p, r) refl

pub told_by_skips : (i : ℕ) (ts us : Trees) → flat ts ≡ flat us → skip_numbers i ts ≡ skip_numbers i us → ts ≡ us
told_by_skips i end end q p = refl
told_by_skips i end (tree k n s v a b) q p = absurd (omega (arith, ap length q))
told_by_skips i (tree k n s v a b) end q p = absurd (omega (arith, ap length q))
told_by_skips i (tree k n s v a b) (tree k' n' s' v' c d) q p =
    let own : suc i + size a ≡ suc i + size c = first_same p in
    let as_many : size a ≡ size c = omega arith in
    let rows = rest_same q in
    let skips = rest_same p in
    let j : suc i + size c ≡ suc i + size a = sym own in
    let long : length (flat a) ≡ length (flat c) = flat_size a ∙ as_many ∙ sym (flat_size c) in
    let long₂ : length (skip_numbers (suc i) a) ≡ length (skip_numbers (suc i) c) = skips_size (suc i) a ∙ as_many ∙ sym (skips_size (suc i) c) in
    let inside : a ≡ c
    = told_by_skips (suc i) a c (fronts (flat a) (flat c) (flat b) (flat d) long rows) (fronts (skip_numbers (suc i) a) (skip_numbers (suc i) c) (skip_numbers (suc i + size a) b) (skip_numbers (suc i + size c) d) long₂ skips) in
    let beside : b ≡ d
    = told_by_skips (suc i + size a) b d (backs (flat a) (flat c) (flat b) (flat d) long rows)
    (backs (skip_numbers (suc i) a) (skip_numbers (suc i) c) (skip_numbers (suc i + size a) b) (skip_numbers (suc i + size c) d) long₂ skips ∙ ap (λ (x : ℕ). skip_numbers x d) j) in
    same_row (first_same q) inside beside

ranks_of_rows : (ts us : Trees) → flat ts ≡ flat us → ranks ts ≡ ranks us
ranks_of_rows ts us q = sym (are ts) ∙ ap ranked q ∙ are us
  where
    ranked : List Placed → List Rank
    ranked [] = []
    ranked (x ∷ l) = rank x.kind x.level ∷ ranked l

    both : (l m : List Placed) → ranked (l ++ m) ≡ ranked l ++ ranked m
    both [] m = refl
    both (x ∷ l) m = ap (λ (y : List Rank). rank x.kind x.level ∷ y) (both l m)

    are : (ts : Trees) → ranked (flat ts) ≡ ranks ts
    are end = refl
    are (tree k n s v inside beside) = ap (λ (y : List Rank). rank k n ∷ y) (both (flat inside) (flat beside) ∙ rw (are inside, are beside) refl)

-- rows of a header of the papers stand in one tree, whatever bytes they come from
pub one_nesting : (t t' : Told) (at at' : ℕ) (a b : List ℕ) (ts us : Trees) → Header t at a ts → Header t' at' b us → flat ts ≡ flat us → ts ≡ us
one_nesting t t' at at' a b ts us x y q =
    told_by_skips 0 ts us q (sym (header_skips t at 0 a ts x) ∙ ap (skips_from 0) (ranks_of_rows ts us q) ∙ header_skips t' at' 0 b us y)

same_end : {p q : ℕ} {rs ts : List Placed} → accepted p rs ≡ accepted q ts → p ≡ q
same_end q = cc q

same_rows : {p q : ℕ} {rs ts : List Placed} → accepted p rs ≡ accepted q ts → rs ≡ ts
same_rows q = cc q

-- an input has one header, and the header one tree
pub one_tree : (t : Told) (at : ℕ) (a b p q : List ℕ) (ts us : Trees) → Header t at a ts → Header t at b us → a ++ p ≡ b ++ q → (a ≡ b) × (ts ≡ us)
one_tree t at a b p q ts us x y same =
    let read_a = envelopes_read t (papers_in t at a ts x) p in
    let read-b = envelopes_read t (papers_in t at b us y) q in
    let both = sym read_a ∙ ap (header 16 t at) same ∙ read-b in
    (fronts a b p q (let l = same_end both in omega arith) same, one_nesting t t at at a b ts us x y (same_rows both))
