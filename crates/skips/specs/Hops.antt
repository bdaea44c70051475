-- One turn of a loop over the rows of row i: by hops over skip numbers that are right, or row by row.
use Rattle.std.specs.Prelude.{ℕ, ◌+◌, ◌-◌, ◌*◌, ◌≤◌, ◌<◌, List, Bool, true, false, ◌≡◌, get_or}
use Rattle.std.proofs.Common.{ap, sym, ◌∙◌, subst, arith}
use Rattle.meaning.specs.Skips.{Rank, rank, belongs}
use Rattle.meaning.specs.Memory.{row_width}
use Rattle.laws_steps.specs.Hopping.{rank_at, given_at, skip_at, skip_forward, HopsTo, hop_on, hop_ends, hop_stops, step_on}
use Rattle.skips.specs.Owners.{Hoppable, Owned, owns}
use Rattle.skips.specs.declared.owner.Owner.{Owner}

-- what a test told of row j is whether it belongs to row i
module _ (m : List ℕ) (n i : ℕ) {kind level j : ℕ} {told : Bool} (q : kind ≡ get_or m (j * row_width) 0) (x : level ≡ get_or m (j * row_width + 1) 0) (y : told ≡ belongs (rank_at m i) (rank kind level)) (h : HopsTo m n i j) (l : j < n) where
  told_of : {b : Bool} → told ≡ b → belongs (rank_at m i) (rank_at m j) ≡ b
  told_of z = ap (λ (k : ℕ). belongs (rank_at m i) (rank k (get_or m (j * row_width + 1) 0))) (sym q) ∙ ap (λ (v : ℕ). belongs (rank_at m i) (rank kind v)) (sym x) ∙ sym y ∙ z

  pub hops : {next : ℕ} → Hoppable m n i → told ≡ true → next ≡ given_at m j → HopsTo m n i next
  hops g t e = subst (HopsTo m n i) (sym (e ∙ g.behind j (omega (arith, h.behind)) l)) (hop_on m n i h l (told_of t))

  pub steps : told ≡ true → HopsTo m n i (j + 1)
  steps t = step_on m n i h l (told_of t)

  pub stops : told ≡ false → (j ≡ skip_at m n i) × (j ≤ n)
  stops t = (sym (hop_stops m n i h l (told_of t)), h.most)

-- what row i has among its rows, as the code was told
pub owned_as : (m : List ℕ) (i : ℕ) {kind : ℕ} {o o' : Owner} → kind ≡ get_or m (i * row_width) 0 → ((level : ℕ) (s : Rank) → belongs (rank kind level) s ≡ owns o level s) → o ≡ o' → Owned m i (owns o')
owned_as m i q f e = λ s. let at = get_or m (i * row_width + 1) 0 in ap (λ (k : ℕ). belongs (rank k at) s) (sym q) ∙ f at s ∙ ap (λ (x : Owner). owns x at s) e

pub hop_falls : {m : List ℕ} {n i j next : ℕ} → HopsTo m n i j → j < n → Hoppable m n i → next ≡ given_at m j → n - next < n - j
hop_falls {m} {n} {i} {j} h l g e = omega (arith, e, g.behind j (omega (arith, h.behind)) l, skip_forward m n j)

pub ends : {m : List ℕ} {n i j : ℕ} → HopsTo m n i j → n ≤ j → (j ≡ skip_at m n i) × (j ≤ n)
ends {m} {n} {i} h l = (sym (hop_ends m n i h l), h.most)
