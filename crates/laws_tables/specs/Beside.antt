-- Rows that were read and put: what the pass over them may take for granted. By what their header's ranks are.
use Rattle.std.specs.Prelude.{ℕ, zero, suc, ◌+◌, ◌-◌, ◌≤◌, ◌<◌, List, [], ◌∷◌, ◌++◌, Bool, ◌⊎◌, ◌≡◌, refl, T, length}
use Rattle.std.proofs.Common.{inl, inr, ap, sym, ◌∙◌, subst, arith}
use Rattle.meaning.specs.Basics.{every}
use Rattle.meaning.specs.Skips.{Rank}
use Rattle.meaning.specs.Headers.{Placed}
use Rattle.meaning.specs.Memory.{room_of}
use Rattle.laws_steps.specs.Logic.{left_of, right_of}
use Rattle.laws_steps.specs.Rows.{put_all, four_of, put_all_over}
use Rattle.laws_steps.specs.Hopping.{rank_at, ranks_for, ranks_length}
use Rattle.laws_tables.specs.Skipping.{ranks_over}
use Rattle.laws_tables.specs.Tabled.{is_inner}
use Rattle.laws_tables.specs.AllTabled.{ranks_read}
use Rattle.laws_tables.specs.Wording.{top, inner_three, Split, nothing, first}

-- each row is an envelope's own, or of a kind above theirs
abbrev Standing : Rank → Type 0
Standing r = (3 ≤ r.kind) ⊎ ((b : Bool) × (r ≡ top b))

abbrev AllStanding : List Rank → Type 0
AllStanding [] = Unit {0}
AllStanding (r ∷ rest) = Standing r × AllStanding rest

inner_standing : (inner rest : List Rank) → T (every is_inner inner) → AllStanding rest → AllStanding (inner ++ rest)
inner_standing [] rest t h = h
inner_standing (r ∷ inner) rest t h = (inl (inner_three r (left_of (is_inner r) (every is_inner inner) t)), inner_standing inner rest (right_of (is_inner r) (every is_inner inner) t) h)

split_standing : {n : ℕ} {ranks : List Rank} → Split n ranks → AllStanding ranks
split_standing nothing = tt
split_standing (first b inner rest n t z e more) = (inr (b, refl), inner_standing inner rest t (split_standing more))

each_standing : (m : List ℕ) (ranks : List Rank) (i : ℕ) → ranks_for m i (length ranks) ≡ ranks → AllStanding ranks → (j : ℕ) → i ≤ j → j < i + length ranks → Standing (rank_at m j)
each_standing m [] i q h j a b = absurd (omega arith)
each_standing m (r ∷ ranks) i q h j a b =
    let tail : ranks_for m (suc i) (length ranks) ≡ ranks = cc q in
    at (j - i) refl (each_standing m ranks (suc i) tail h.1 j)
  where
    at : (d : ℕ) → j - i ≡ d → (suc i ≤ j → j < suc i + length ranks → Standing (rank_at m j)) → Standing (rank_at m j)
    at zero e ih = let head : rank_at m i ≡ r = cc q in let x : i ≡ j = omega arith in subst (λ (k : ℕ). Standing (rank_at m k)) x (subst Standing (sym head) h.0)
    at (suc d) e ih = ih (omega arith) (omega arith)

module _ (rs : List Placed) (m mid : List ℕ) (n : ℕ) (put : put_all rs 0 m ≡ mid) (count : length rs ≡ n) (room : n ≤ room_of m) where
  pub put_ranks : ranks_for mid 0 n ≡ ranks_read rs
  put_ranks = ap (λ (x : List ℕ). ranks_for x 0 n) (sym put ∙ put_all_over rs m (omega arith)) ∙ ap (ranks_for (four_of rs m) 0) (sym count) ∙ ranks_over rs 0 [] m refl

  long : length (ranks_read rs) ≡ n
  long = sym (ap length put_ranks) ∙ ranks_length mid 0 n

  pub put_stands : {k : ℕ} → Split k (ranks_read rs) → (j : ℕ) → j < n → Standing (rank_at mid j)
  put_stands s j l = each_standing mid (ranks_read rs) 0 (ap (ranks_for mid 0) long ∙ put_ranks) (split_standing s) j (omega arith) (omega (arith, long))
