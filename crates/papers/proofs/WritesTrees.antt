-- The writer and the papers: it accepts exactly the rows of a header's trees, starts aside, with the trees' skip numbers, and gives exactly that header's bytes.
use Rattle.std.specs.Prelude.{ℕ, suc, ◌≤◌, ◌↔◌, ◌≡◌, refl, length}
use mathlib.Core.List.{List, [], ◌∷◌, ◌++◌, map}
use Rattle.std.proofs.Math.Path.{ap, sym}
use Rattle.std.proofs.Common.{ap₂, ◌∙◌, eq-eqb}
use Rattle.meaning.specs.Told.{Edition, known, label_of, told}
use Rattle.meaning.specs.Skips.{Rank, rank, skips_from, right, held_against}
use Rattle.meaning.specs.Headers.{Placed, meant}
use Rattle.meaning.specs.Writing.{cell, written}
use Rattle.meaning.specs.Memory.{cells_of, ranks_of, skips_of, skips_held, write}
use Rattle.meaning.specs.Grammar.{TableOf}
use Rattle.meaning.specs.WriterFaults.{WritesAs}
use Rattle.laws_tables.specs.RightSkips.{standing, cells_ranks, right_skips}
use Rattle.laws_demands.specs.Demands.{writes_exactly}
use Rattle.papers.specs.Notation.{Trees, end, tree, flat, skip_numbers}
use Rattle.papers.specs.Papers.{Header}
use Rattle.papers.specs.TreeSkips.{ranks}
use Rattle.papers.proofs.Nested.{header_skips}
use Rattle.papers.proofs.Same.{same}

-- when rows are written, and as which bytes
pub record WritesTrees (edition : ℕ) (rows pool : List ℕ) (room : ℕ) (bytes : List ℕ) : Type 0 where
  pub e : Edition
  pub label : label_of edition ≡ known e
  pub trees : Trees
  pub is : Header (told e) 0 bytes trees
  -- each row is there and says what the tree's says: kind, level, length and viewed bytes
  pub say : cells_of pool rows ≡ map cell (map meant (flat trees))
  pub skips : skips_of rows ≡ skip_numbers 0 trees
  pub fits : length bytes ≤ room

-- where the rows of trees stand
both : (l m : List Placed) → map standing (map meant (l ++ m)) ≡ map standing (map meant l) ++ map standing (map meant m)
both [] m = refl
both (x ∷ l) m = ap (λ (y : List Rank). rank x.kind x.level ∷ y) (both l m)

ranks_meant : (ts : Trees) → map standing (map meant (flat ts)) ≡ ranks ts
ranks_meant end = refl
ranks_meant (tree k n s v inside beside) =
    ap (λ (y : List Rank). rank k n ∷ y) (both (flat inside) (flat beside) ∙ ap₂ (λ (y z : List Rank). y ++ z) (ranks_meant inside) (ranks_meant beside))

held_same : (i : ℕ) (xs : List ℕ) → held_against i xs xs ≡ right
unfolding held_against
held_same i [] = refl
held_same i (x ∷ xs) = rw (eq-eqb x x refl) (held_same (suc i) xs)

-- right skip numbers are the trees'
module _ (e : Edition) (rows pool bytes : List ℕ) (ts : Trees) (is : Header (told e) 0 bytes ts) (say : cells_of pool rows ≡ map cell (map meant (flat ts))) where
  right_are : skips_from 0 (ranks_of rows) ≡ skip_numbers 0 ts
  right_are = ap (skips_from 0) (cells_ranks pool rows (map meant (flat ts)) say ∙ ranks_meant ts) ∙ header_skips (told e) 0 0 bytes ts is

  skips_of_right : skips_held rows ≡ right → skips_of rows ≡ skip_numbers 0 ts
  skips_of_right q = right_skips rows q ∙ right_are

  right_of_skips : skips_of rows ≡ skip_numbers 0 ts → skips_held rows ≡ right
  unfolding skips_held
  right_of_skips q = ap (λ (l : List ℕ). held_against 0 (skips_of rows) l) (right_are ∙ sym q) ∙ held_same 0 (skips_of rows)

pub writes_trees : (edition : ℕ) (rows pool : List ℕ) (room : ℕ) (bytes : List ℕ) → (write edition rows pool room ≡ written bytes) ↔ WritesTrees edition rows pool room bytes
writes_trees edition rows pool room bytes = ((λ q. to ((writes_exactly edition rows pool room bytes).0 q)), λ w. (writes_exactly edition rows pool room bytes).1 (from w))
  where
    to : WritesAs edition rows pool room bytes → WritesTrees edition rows pool room bytes
    to w =
        let are = w.good.are in
        let (ts, is, laid) = (same w.e bytes are.rows).0 (record { marks = w.marks; header = are.header; small = w.small; few = w.few }) in
        let say : cells_of pool rows ≡ map cell (map meant (flat ts)) = are.say ∙ ap (λ (l : List Placed). map cell (map meant l)) (sym laid) in
        record { e = w.e; label = w.label; trees = ts; is = is; say = say; skips = skips_of_right w.e rows pool bytes ts is say w.good.skips; fits = w.fits }

    from : WritesTrees edition rows pool room bytes → WritesAs edition rows pool room bytes
    from w =
        let t : TableOf w.e bytes (flat w.trees) = (same w.e bytes (flat w.trees)).1 (w.trees, w.is, refl) in
        record {
          e = w.e;
          marks = t.marks;
          label = w.label;
          good = record { are = record { rows = flat w.trees; header = t.header; say = w.say }; skips = right_of_skips w.e rows pool bytes w.trees w.is w.say w.skips };
          small = t.small;
          few = t.few;
          fits = w.fits;
        }

-- where the rows stand
pub written_ranks : {edition : ℕ} {rows pool : List ℕ} {room : ℕ} {bytes : List ℕ} (w : WritesTrees edition rows pool room bytes) → ranks_of rows ≡ ranks w.trees
written_ranks {rows = rows} {pool = pool} w = cells_ranks pool rows (map meant (flat w.trees)) w.say ∙ ranks_meant w.trees
