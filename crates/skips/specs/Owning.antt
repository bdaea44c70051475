-- What a kind has among its rows, as the code tells it: by each kind, and for all others.
use Rattle.std.specs.Prelude.{ℕ, ◌+◌, ◌*◌, ◌<◌, Bool, true, ◌&&◌, ◌||◌, ◌≡◌, ltb}
use Rattle.std.proofs.Math.Bool.{false}
use Rattle.std.proofs.Math.Path.{refl}
use Rattle.std.proofs.Common.{ap, sym, ◌∙◌, arith}
use Rattle.std.proofs.Math.Dec.{eqb}
use borrow.Author.Tests.{eq-eqb, ne_eqb, ltb-true, ltb-false, lt-ltb, le-ltb, eqb-true, eqb-false}
use Rattle.meaning.specs.Skips.{Rank, rank, beside, holds_deeper, belongs}
use Rattle.skips.specs.Owners.{above_test, beside_test, owns}
use Rattle.skips.specs.declared.owner.Owner.{Owner}

pub or_none : (a b : Bool) → a || b && false ≡ a
or_none true b = refl
or_none false true = refl
or_none false false = refl

twice : (b : Bool) → b ≡ b || b
twice true = refl
twice false = refl

module _ (at : ℕ) (s : Rank) where
  abbrev Has : ℕ → Bool → Type 0
  Has k test = belongs (rank k at) s ≡ test

  -- a kind is the one that its arm names
  as_named : {kind : ℕ} {test : Bool} (k : ℕ) → Has k test → kind ≡ k → Has kind test
  as_named k h q = ap (λ (x : ℕ). belongs (rank x at) s) q ∙ h

  deeper : (k : ℕ) → holds_deeper k ≡ true → beside k s.kind ≡ false → Has k (ltb at s.level)
  unfolding belongs
  deeper k h b = rw (h, b) (or_none (ltb at s.level) (eqb s.level at))

  pub of_envelope : {kind : ℕ} → kind ≡ 1 → Has kind (above_test 2 at s)
  unfolding belongs
  of_envelope = as_named 1 refl

  pub of_base : {kind : ℕ} → kind ≡ 2 → Has kind (above_test 2 at s)
  unfolding belongs
  of_base = as_named 2 refl

  pub of_agent : {kind : ℕ} → kind ≡ 15 → Has kind (above_test 15 at s)
  unfolding belongs
  of_agent = as_named 15 refl

  pub of_received : {kind : ℕ} → kind ≡ 8 → Has kind (ltb at s.level)
  of_received = as_named 8 (deeper 8 refl refl)

  pub of_to : {kind : ℕ} → kind ≡ 12 → Has kind (ltb at s.level)
  of_to = as_named 12 (deeper 12 refl refl)

  pub of_from : {kind : ℕ} → kind ≡ 13 → Has kind (ltb at s.level)
  of_from = as_named 13 (deeper 13 refl refl)

  pub of_receiver : {kind : ℕ} → kind ≡ 14 → Has kind (ltb at s.level)
  of_receiver = as_named 14 (deeper 14 refl refl)

  pub of_resolvers : {kind : ℕ} → kind ≡ 18 → Has kind (ltb at s.level)
  of_resolvers = as_named 18 (deeper 18 refl refl)

  pub of_addresses : {kind : ℕ} → kind ≡ 16 → Has kind (beside_test 17 17 at s)
  unfolding belongs
  of_addresses = as_named 16 (ap (λ (b : Bool). eqb s.level at && b) (twice (eqb s.kind 17)))

  pub of_extra : {kind : ℕ} → kind ≡ 19 → Has kind (beside_test 20 21 at s)
  unfolding belongs
  of_extra = as_named 19 refl

  pub of_behaviour : {kind : ℕ} → kind ≡ 29 → Has kind (beside_test 20 21 at s)
  unfolding belongs
  of_behaviour = as_named 29 refl

  pub of_encrypted : {kind : ℕ} → kind ≡ 25 → Has kind (beside_test 26 26 at s)
  unfolding belongs
  of_encrypted = as_named 25 (ap (λ (b : Bool). eqb s.level at && b) (twice (eqb s.kind 26)))

  pub of_own : {kind : ℕ} → kind ≡ 27 → Has kind (beside_test 28 28 at s)
  unfolding belongs
  of_own = as_named 27 (ap (λ (b : Bool). eqb s.level at && b) (twice (eqb s.kind 28)))

  pub of_others : (kind : ℕ) → (kind ≡ 1 → ⊥) → (kind ≡ 2 → ⊥) → (kind ≡ 8 → ⊥) → (kind ≡ 12 → ⊥) → (kind ≡ 13 → ⊥) → (kind ≡ 14 → ⊥) → (kind ≡ 15 → ⊥) → (kind ≡ 16 → ⊥) → (kind ≡ 18 → ⊥)
      → (kind ≡ 19 → ⊥) → (kind ≡ 25 → ⊥) → (kind ≡ 27 → ⊥) → (kind ≡ 29 → ⊥) → Has kind false
  unfolding belongs
  of_others kind n₁ n₂ n₈ n₁₂ n₁₃ n₁₄ n₁₅ n₁₆ n₁₈ n₁₉ n₂₅ n₂₇ n₂₉ =
      rw (
        ne_eqb kind 1 n₁,
        ne_eqb kind 2 n₂,
        ne_eqb kind 8 n₈,
        ne_eqb kind 12 n₁₂,
        ne_eqb kind 13 n₁₃,
        ne_eqb kind 14 n₁₄,
        ne_eqb kind 15 n₁₅,
        ne_eqb kind 16 n₁₆,
        ne_eqb kind 18 n₁₈,
        ne_eqb kind 19 n₁₉,
        ne_eqb kind 25 n₂₅,
        ne_eqb kind 27 n₂₇,
        ne_eqb kind 29 n₂₉,
      )
      (or_none false (eqb s.level at))

-- The tests

-- rows by where they stand: first the level decides, then the kind
pub stands_above : (above at kind level : ℕ) → above < 4294967296 → kind < 4294967296 → ltb (4294967296 * at + above) (4294967296 * level + kind) ≡ above_test above at (rank kind level)
stands_above above at kind level a k = by (ltb at level) (eqb level at) refl refl
  where
    same : level ≡ at → (z : Bool) → ltb above kind ≡ z → ltb (4294967296 * at + above) (4294967296 * level + kind) ≡ z
    same e true r = let l = ltb-true above kind r in lt-ltb (4294967296 * at + above) (4294967296 * level + kind) (omega (arith, e, l))
    same e false r = let l = ltb-false above kind r in le-ltb (4294967296 * at + above) (4294967296 * level + kind) (omega (arith, e, l))

    by : (x y : Bool) → ltb at level ≡ x → eqb level at ≡ y → ltb (4294967296 * at + above) (4294967296 * level + kind) ≡ (x || y && ltb above kind)
    by true y p q = let l = ltb-true at level p in lt-ltb (4294967296 * at + above) (4294967296 * level + kind) (omega (arith, l, a, k))
    by false true p q = same (eqb-true level at q) (ltb above kind) refl
    by false false p q = let l = ltb-false at level p in let d = eqb-false level at q in le-ltb (4294967296 * at + above) (4294967296 * level + kind) (omega (arith, l, d, a, k))

and_true : (b : Bool) → b ≡ b && true
and_true true = refl
and_true false = refl

and_false : (b : Bool) → false ≡ b && false
and_false true = refl
and_false false = refl

or_true : (b : Bool) → true ≡ b || true
or_true true = refl
or_true false = refl

pub one_kind : (one other at kind level : ℕ) → kind ≡ one → eqb level at ≡ beside_test one other at (rank kind level)
one_kind one other at kind level q = rw (eq-eqb kind one q) (and_true (eqb level at))

pub other_kind : (one other at kind level : ℕ) → kind ≡ other → eqb level at ≡ beside_test one other at (rank kind level)
other_kind one other at kind level q = and_true (eqb level at) ∙ ap (λ (b : Bool). eqb level at && b) (or_true (eqb kind one) ∙ rw (eq-eqb kind other q) refl)

pub no_kind : (one other at kind level : ℕ) → (kind ≡ one → ⊥) → (kind ≡ other → ⊥) → false ≡ beside_test one other at (rank kind level)
no_kind one other at kind level p q = rw (ne_eqb kind one p, ne_eqb kind other q) (and_false (eqb level at))

-- what an owner's test answers, where the owner is told
pub by_owner : (at : ℕ) (s : Rank) {o o' : Owner} {r : Bool} → o ≡ o' → r ≡ owns o' at s → r ≡ owns o at s
by_owner at s q e = e ∙ ap (λ (x : Owner). owns x at s) (sym q)
