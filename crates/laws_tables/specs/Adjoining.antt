-- Rows that were read, strictly or tolerantly, stand as neighbours do in a table: by their ranks, and by their places in memory.
use Rattle.std.specs.Prelude.{ℕ, zero, suc, ◌+◌, ◌<◌, List, [], ◌∷◌, map, ◌≡◌, refl, T, length}
use Rattle.std.proofs.Common.{ap, sym, ◌∙◌, subst, arith}
use Rattle.meaning.specs.Told.{Strictness, told_by}
use Rattle.meaning.specs.Skips.{Rank}
use Rattle.meaning.specs.Headers.{Placed, meant, accepted, read_by}
use Rattle.laws_steps.specs.Logic.{are_bytes}
use Rattle.laws_steps.specs.Hopping.{rank_at, ranks_for, ranks_length}
use Rattle.laws_tables.specs.RightSkips.{standing}
use Rattle.laws_tables.specs.AllTabled.{ranks_read}
use Rattle.laws_tables.specs.Ties.{accepted_known, whole_of}
use Rattle.laws_tables.specs.Neighbours.{Follows, Flat, Neighbours, none, next, table_neighbours}

ranks_meant : (rows : List Placed) → map standing (map meant rows) ≡ ranks_read rows
ranks_meant [] = refl
ranks_meant (r ∷ rows) = ap (λ (x : List Rank). standing (meant r) ∷ x) (ranks_meant rows)

pub read_neighbours : (w : Strictness) (edition : ℕ) (input : List ℕ) (place : ℕ) (rows : List Placed) → T (are_bytes input) → read_by w edition input ≡ accepted place rows → (first : Rank) → Neighbours first (ranks_read rows)
read_neighbours w edition input place rows t q first =
    let (e, k, r) = accepted_known w edition input place rows q in
    subst (Neighbours first) (ranks_meant rows) (table_neighbours e (whole_of (told_by w e) input place rows t r).written first)

-- of n rows, each by itself, and each behind the one before it
pub record AllNeighbours (m : List ℕ) (n : ℕ) : Type 0 where
  pub flat : (j : ℕ) → j < n → Flat (rank_at m j)
  pub follows : (j : ℕ) → suc j < n → Follows (rank_at m j) (rank_at m (suc j))

flat_at : (m : List ℕ) (first : Rank) (ranks : List Rank) (i : ℕ) → ranks_for m i (length ranks) ≡ ranks → Neighbours first ranks → (d : ℕ) → d < length ranks → Flat (rank_at m (i + d))
flat_at m first [] i q none d l = absurd (omega arith)
flat_at m first (r ∷ ranks) i q (next f h more) zero l =
    let head : rank_at m i ≡ r = cc q in
    let z : i ≡ i + 0 = omega arith in
    subst (λ (x : ℕ). Flat (rank_at m x)) z (subst Flat (sym head) h)
flat_at m first (r ∷ ranks) i q (next f h more) (suc d) l =
    let tail : ranks_for m (suc i) (length ranks) ≡ ranks = cc q in
    let z : suc i + d ≡ i + suc d = omega arith in
    subst (λ (x : ℕ). Flat (rank_at m x)) z (flat_at m r ranks (suc i) tail more d (omega arith))

follows_front : (m : List ℕ) (r : Rank) (ranks : List Rank) (i : ℕ) → rank_at m i ≡ r → ranks_for m (suc i) (length ranks) ≡ ranks → Neighbours r ranks → 0 < length ranks → Follows (rank_at m i) (rank_at m (suc i))
follows_front m r [] i p q h l = absurd (omega arith)
follows_front m r (s ∷ ranks) i p q (next f h more) l =
    let second : rank_at m (suc i) ≡ s = cc q in
    subst (λ (x : Rank). Follows x (rank_at m (suc i))) (sym p) (subst (Follows r) (sym second) f)

follows_at : (m : List ℕ) (first : Rank) (ranks : List Rank) (i : ℕ) → ranks_for m i (length ranks) ≡ ranks → Neighbours first ranks → (d : ℕ) → suc d < length ranks → Follows (rank_at m (i + d)) (rank_at m (suc (i + d)))
follows_at m first [] i q h d l = absurd (omega arith)
follows_at m first (r ∷ ranks) i q (next f h more) zero l =
    let head : rank_at m i ≡ r = cc q in
    let tail : ranks_for m (suc i) (length ranks) ≡ ranks = cc q in
    let z : i ≡ i + 0 = omega arith in
    subst (λ (x : ℕ). Follows (rank_at m x) (rank_at m (suc x))) z (follows_front m r ranks i head tail more (omega arith))
follows_at m first (r ∷ ranks) i q (next f h more) (suc d) l =
    let tail : ranks_for m (suc i) (length ranks) ≡ ranks = cc q in
    let z : suc i + d ≡ i + suc d = omega arith in
    subst (λ (x : ℕ). Follows (rank_at m x) (rank_at m (suc x))) z (follows_at m r ranks (suc i) tail more d (omega arith))

pub neighbours_at : (m : List ℕ) (n : ℕ) (first : Rank) (ranks : List Rank) → ranks_for m 0 n ≡ ranks → Neighbours first ranks → AllNeighbours m n
neighbours_at m n first ranks q h =
    let long : length ranks ≡ n = ap length (sym q) ∙ ranks_length m 0 n in
    let same : ranks_for m 0 (length ranks) ≡ ranks = ap (ranks_for m 0) long ∙ q in
    record {
      flat = λ j l. subst (λ (x : ℕ). Flat (rank_at m x)) (zero_more j) (flat_at m first ranks 0 same h j (omega arith));
      follows = λ j l. subst (λ (x : ℕ). Follows (rank_at m x) (rank_at m (suc x))) (zero_more j) (follows_at m first ranks 0 same h j (omega arith));
    }
  where
    zero_more : (j : ℕ) → 0 + j ≡ j
    zero_more j = omega arith
