-- Orders 1 and 8: what a walk by skip numbers passes over. A row that is no envelope's has no value among its rows, so a hop over it passes none.
use Prim.Native.Nat.{ℕ, zero, suc, ◌+◌, ◌-◌, ◌≤◌, ◌<◌}
use Rattle.std.specs.Prelude.{List, [], ◌∷◌, Bool, true, false, ◌&&◌, ◌≡◌, refl, eqb, ltb}
use Rattle.std.proofs.Common.{inl, inr, sym, ◌∙◌, eqb-true, ne_eqb, ltb-true, ltb-false}
use Rattle.std.proofs.Math.Path.{ap}
use native.Mathlib.Omega.{arith}
use Rattle.std.proofs.Math.ListN.{drop}
use Rattle.std.proofs.lemmas.Bool.{eqb-false}
use Rattle.meaning.specs.Editions.{closing}
use Rattle.meaning.specs.Kinds.{agent_name}
use Rattle.meaning.specs.Skips.{Rank, is_envelope, belongs, belonging}
use Rattle.meaning.specs.Codes.{code_of, has_value}
use Rattle.laws_steps.specs.Nesting.{by_beside, false_not, value_is, Belongs, belongs_how, belonging_on, belonging_ends, belonging_none, belonging_most}
use Rattle.laws_tables.specs.Firsts.{first_from}
use Rattle.laws_steps.specs.Hopping.{rank_at, ranks_at, ranks_for, ranks_length, ranks_next, ranks_drop, skip_at}

-- Rows without a value

module _ (code : ℕ) (n : code ≡ closing → ⊥) (s : Rank) where
  and_none : (b : Bool) → b && false ≡ false
  and_none true = refl
  and_none false = refl

  deep_none : 1 ≤ s.level → has_value code s ≡ false
  deep_none h = rw (ne_eqb s.level 0 (λ q. omega arith)) refl

  -- a row of a kind that opens and holds no parameter
  kind_none : (k : ℕ) → code_of k ≡ closing → s.kind ≡ k → has_value code s ≡ false
  kind_none k c q =
      ap (λ (b : Bool). eqb s.level 0 && b) (ap (λ (x : ℕ). eqb x code) (ap code_of q ∙ c) ∙ ne_eqb closing code (λ z. n (sym z))) ∙ and_none (eqb s.level 0)

  -- a row's own rows have none: they stand deeper, or are items and values
  own_none : (r : Rank) → is_envelope r.kind ≡ false → (r.kind ≡ agent_name → 1 ≤ r.level) → belongs r s ≡ true → has_value code s ≡ false
  own_none r e a q = at (belongs_how r s q)
    where
      at : Belongs r s → has_value code s ≡ false
      at (inl (h, l)) = deep_none (omega arith)
      at (inr (l, b)) =
          by_beside (λ f. f s.kind ≡ true → has_value code s ≡ false) r.kind (λ z i. false_not (sym e ∙ ap is_envelope z)) (λ z i. false_not (sym e ∙ ap is_envelope z))
          (λ z i. let d = a z in deep_none (omega arith)) (λ z i. kind_none 17 refl (eqb-true s.kind 17 i))
          (λ z i. value_is s.kind i (λ x. kind_none 20 refl x) (λ x. kind_none 21 refl x)) (λ z i. value_is s.kind i (λ x. kind_none 20 refl x) (λ x. kind_none 21 refl x))
          (λ z i. kind_none 26 refl (eqb-true s.kind 26 i)) (λ z i. kind_none 28 refl (eqb-true s.kind 28 i)) (λ i. false_not i) b

-- The first value by a row and the rows behind it

first_here : (code i : ℕ) (r : Rank) (rest : List Rank) → has_value code r ≡ true → first_from code i (r ∷ rest) ≡ i
unfolding first_from
first_here code i r rest h = rw h refl

first_behind : (code i : ℕ) (r : Rank) (rest : List Rank) → has_value code r ≡ false → first_from code i (r ∷ rest) ≡ first_from code (suc i) rest
unfolding first_from
first_behind code i r rest h = rw h refl

first_none : (code i : ℕ) → first_from code i [] ≡ i
unfolding first_from
first_none code i = refl

passes_own : (code : ℕ) → (code ≡ closing → ⊥) → (r : Rank) → is_envelope r.kind ≡ false → (r.kind ≡ agent_name → 1 ≤ r.level) → (i : ℕ) (rest : List Rank)
    → first_from code i rest ≡ first_from code (i + belonging r rest) (drop (belonging r rest) rest)
passes_own code n r e a i [] = first_none code i ∙ (let z : i ≡ i + 0 = omega arith in z) ∙ sym (first_none code (i + 0)) ∙ ap (λ (x : ℕ). first_from code (i + x) (drop x [])) (sym (belonging_none r))
passes_own code n r e a i (s ∷ rest) = at (belongs r s) refl (passes_own code n r e a (suc i) rest)
  where
    at : (b : Bool) → belongs r s ≡ b → first_from code (suc i) rest ≡ first_from code (suc i + belonging r rest) (drop (belonging r rest) rest)
        → first_from code i (s ∷ rest) ≡ first_from code (i + belonging r (s ∷ rest)) (drop (belonging r (s ∷ rest)) (s ∷ rest))
    at true q ih =
        let more : suc i + belonging r rest ≡ i + suc (belonging r rest) = omega arith in
        first_behind code i s rest (own_none code n s r e a q) ∙ ih ∙ ap (λ (x : ℕ). first_from code x (drop (belonging r rest) rest)) more
        ∙ ap (λ (x : ℕ). first_from code (i + x) (drop x (s ∷ rest))) (sym (belonging_on r s rest q))
    at false q ih =
        let none : i ≡ i + 0 = omega arith in
        ap (λ (x : ℕ). first_from code x (s ∷ rest)) none ∙ ap (λ (x : ℕ). first_from code (i + x) (drop x (s ∷ rest))) (sym (belonging_ends r s rest q))

-- The same by the rows' places in lent memory

-- the first row from row i on, of n, that has a value
unfoldable pub first_at : ℕ → List ℕ → ℕ → ℕ → ℕ
first_at code m n i = first_from code i (ranks_at m n i)

module _ (code : ℕ) (m : List ℕ) (n i : ℕ) where
  pub first_ends : n ≤ i → first_at code m n i ≡ i
  unfolding first_at
  first_ends h = let q : n - i ≡ 0 = omega arith in ap (λ (k : ℕ). first_from code i (ranks_for m i k)) q ∙ first_none code i

  module _ (h : i < n) where
    pub first_found : has_value code (rank_at m i) ≡ true → first_at code m n i ≡ i
    unfolding first_at
    first_found q = ap (first_from code i) (ranks_next m n i h) ∙ first_here code i (rank_at m i) (ranks_at m n (suc i)) q

    module _ (q : has_value code (rank_at m i) ≡ false) where
      -- into an envelope, or past a row that has no rows: the next row
      pub first_steps : first_at code m n i ≡ first_at code m n (i + 1)
      unfolding first_at
      first_steps =
          let p : suc i ≡ i + 1 = omega arith in
          ap (first_from code i) (ranks_next m n i h) ∙ first_behind code i (rank_at m i) (ranks_at m n (suc i)) q ∙ ap (λ (x : ℕ). first_from code x (ranks_at m n x)) p

      -- over a row and its rows: its skip number
      pub first_hops : (code ≡ closing → ⊥) → is_envelope (rank_at m i).kind ≡ false → ((rank_at m i).kind ≡ agent_name → 1 ≤ (rank_at m i).level) → first_at code m n i ≡ first_at code m n (skip_at m n i)
      unfolding first_at skip_at
      first_hops c e a =
          let r = rank_at m i in
          let rest = ranks_at m n (suc i) in
          let b = belonging r rest in
          let few : b ≤ n - suc i = omega (arith, belonging_most r rest, ranks_length m (suc i) (n - suc i)) in
          let left : n - suc i - b ≡ n - (suc i + b) = omega arith in
          let cut : drop b rest ≡ ranks_at m n (suc i + b) = ranks_drop m (suc i) (n - suc i) b few ∙ ap (ranks_for m (suc i + b)) left in
          ap (first_from code i) (ranks_next m n i h) ∙ first_behind code i r rest q ∙ passes_own code c r e a (suc i) rest ∙ ap (first_from code (suc i + b)) cut

-- What the first row is: it has a value, and none before it has one; where there is none, it is the row behind the last

pub record FirstIs (code : ℕ) (m : List ℕ) (n i x : ℕ) : Type 0 where
  pub from : i ≤ x
  pub most : x ≤ n
  pub has : x < n → has_value code (rank_at m x) ≡ true
  pub none_before : (j : ℕ) → i ≤ j → j < x → has_value code (rank_at m j) ≡ false

first_within : (code : ℕ) (m : List ℕ) (n k i : ℕ) → i ≤ n → n ≤ i + k → FirstIs code m n i (first_at code m n i)
first_within code m n zero i l h = rw (first_ends code m n i (omega arith)) (record { from = omega arith; most = l; has = λ z. absurd (omega arith); none_before = λ j u v. absurd (omega arith) })
first_within code m n (suc k) i l h = inside (ltb i n) refl (λ z. first_within code m n k (i + 1) z (omega arith))
  where
    at_end : n ≤ i → FirstIs code m n i (first_at code m n i)
    at_end z = rw (first_ends code m n i z) (record { from = omega arith; most = l; has = λ y. absurd (omega arith); none_before = λ j u v. absurd (omega arith) })

    here : i < n → (b : Bool) → has_value code (rank_at m i) ≡ b → FirstIs code m n (i + 1) (first_at code m n (i + 1)) → FirstIs code m n i (first_at code m n i)
    here z true q ih = rw (first_found code m n i z q) (record { from = omega arith; most = l; has = λ y. q; none_before = λ j u v. absurd (omega arith) })
    here z false q ih =
        rw (first_steps code m n i z q) (record { from = omega (arith, ih.from); most = ih.most; has = ih.has; none_before = λ j u v. by j (eqb j i) refl u v })
      where
        by : (j : ℕ) (b : Bool) → eqb j i ≡ b → i ≤ j → j < first_at code m n (i + 1) → has_value code (rank_at m j) ≡ false
        by j true p u v = ap (λ (x : ℕ). has_value code (rank_at m x)) (eqb-true j i p) ∙ q
        by j false p u v = let d = eqb-false j i p in ih.none_before j (omega arith) v

    inside : (b : Bool) → ltb i n ≡ b → (i + 1 ≤ n → FirstIs code m n (i + 1) (first_at code m n (i + 1))) → FirstIs code m n i (first_at code m n i)
    inside true p ih = let z = ltb-true i n p in here z (has_value code (rank_at m i)) refl (ih (omega arith))
    inside false p ih = at_end (ltb-false i n p)

pub first_is : (code : ℕ) (m : List ℕ) (n : ℕ) → FirstIs code m n 0 (first_at code m n 0)
first_is code m n = first_within code m n n 0 (omega arith) (omega arith)
