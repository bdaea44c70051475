-- What belongs to a row, by what its kind is: to one that follows another nothing, to one that holds nothing deeper only rows that follow it.
use Rattle.std.specs.Prelude.{ℕ, ◌≤◌, Bool, true, false, ◌||◌, ◌≡◌, refl, eqb}
use Rattle.std.proofs.Common.{inl, inr, ap, sym, ◌∙◌, subst, arith, eqb-true}
use Rattle.meaning.specs.Skips.{Rank, rank, is_envelope, holds_deeper, is_value, beside, belongs}
use Rattle.laws_steps.specs.Nesting.{false_not, by_beside, value_is, Belongs, belongs_how}
use Rattle.laws_tables.specs.Neighbours.{is_follower, leads}
use Rattle.skips.specs.Owning.{or_none}

-- the kinds that follow another
pub by_follower : (P : ℕ → Type 0) → P 17 → P 20 → P 21 → P 26 → P 28 → (k : ℕ) → is_follower k ≡ true → P k
by_follower P p₁₇ p₂₀ p₂₁ p₂₆ p₂₈ k h = at (eqb k 17) (eqb k 20) (eqb k 21) (eqb k 26) (eqb k 28) refl refl refl refl refl h
  where
    at : (a b c d e : Bool) → eqb k 17 ≡ a → eqb k 20 ≡ b → eqb k 21 ≡ c → eqb k 26 ≡ d → eqb k 28 ≡ e → a || b || c || d || e ≡ true → P k
    at true b c d e qa qb qc qd qe z = subst P (sym (eqb-true k 17 qa)) p₁₇
    at false true c d e qa qb qc qd qe z = subst P (sym (eqb-true k 20 qb)) p₂₀
    at false false true d e qa qb qc qd qe z = subst P (sym (eqb-true k 21 qc)) p₂₁
    at false false false true e qa qb qc qd qe z = subst P (sym (eqb-true k 26 qd)) p₂₆
    at false false false false true qa qb qc qd qe z = subst P (sym (eqb-true k 28 qe)) p₂₈
    at false false false false false qa qb qc qd qe z = false_not z

pub follower_inner : (k : ℕ) → is_follower k ≡ true → 3 ≤ k
follower_inner = by_follower (λ k. 3 ≤ k) (omega arith) (omega arith) (omega arith) (omega arith) (omega arith)

-- a kind that holds nothing has nothing among its rows
pub alone : (level : ℕ) (s : Rank) (k : ℕ) → holds_deeper k ≡ false → beside k s.kind ≡ false → belongs (rank k level) s ≡ false
unfolding belongs
alone level s k h b = rw (h, b) (or_none false (eqb s.level level))

pub follower_alone : (r s : Rank) → is_follower r.kind ≡ true → belongs r s ≡ false
follower_alone r s h =
    by_follower (λ k. belongs (rank k r.level) s ≡ false) (alone r.level s 17 refl refl) (alone r.level s 20 refl refl) (alone r.level s 21 refl refl) (alone r.level s 26 refl refl) (alone r.level s 28 refl refl)
    r.kind h

-- a kind that holds nothing deeper, neither an envelope's nor an agent's
pub record Light (kind : ℕ) : Type 0 where
  pub no_envelope : is_envelope kind ≡ false
  pub no_agent : eqb kind 15 ≡ false
  pub shallow : holds_deeper kind ≡ false

pub light_belongs : (r s : Rank) → Light r.kind → belongs r s ≡ true → is_follower s.kind ≡ true
light_belongs r s l q = by (belongs_how r s q)
  where
    not_first : {A : Type 0} (k : ℕ) → is_envelope k ≡ true → r.kind ≡ k → A
    not_first k e z = false_not (sym l.no_envelope ∙ ap is_envelope z ∙ e)

    by : Belongs r s → is_follower s.kind ≡ true
    by (inl (d, x)) = false_not (sym l.shallow ∙ d)
    by (inr (x, b)) =
        by_beside (λ f. f s.kind ≡ true → is_follower s.kind ≡ true) r.kind (λ k i. not_first 1 refl k) (λ k i. not_first 2 refl k)
        (λ k i. false_not (sym l.no_agent ∙ ap (λ (x : ℕ). eqb x 15) k))
        (λ k i. ap is_follower (eqb-true s.kind 17 i)) (λ k i. value_is s.kind i (λ e. ap is_follower e) (λ e. ap is_follower e)) (λ k i. value_is s.kind i (λ e. ap is_follower e) (λ e. ap is_follower e))
        (λ k i. ap is_follower (eqb-true s.kind 26 i)) (λ k i. ap is_follower (eqb-true s.kind 28 i)) (λ i. false_not i) b

-- the row that opens a run
pub record Leader (first kind : ℕ) : Type 0 where
  pub light : Light first
  pub inner : 3 ≤ first
  pub follows_none : is_follower first ≡ false
  pub has : beside first kind ≡ true

pub is_leader : (first kind : ℕ) → is_follower kind ≡ true → leads first kind ≡ true → Leader first kind
is_leader first kind h = by_follower (λ k. leads first k ≡ true → Leader first k) (one 16 17 (well (omega arith) refl refl refl refl refl)) (value 20 refl) (value 21 refl) (one 25 26 (well (omega arith) refl refl refl refl refl)) (one 27 28 (well (omega arith) refl refl refl refl refl)) kind h
  where
    well : {f k : ℕ} → 3 ≤ f → is_envelope f ≡ false → eqb f 15 ≡ false → holds_deeper f ≡ false → is_follower f ≡ false → beside f k ≡ true → Leader f k
    well z a b c d e = record { inner = z; light = record { no_envelope = a; no_agent = b; shallow = c }; follows_none = d; has = e }

    one : (f k : ℕ) → Leader f k → eqb first f ≡ true → Leader first k
    one f k l q = subst (λ (x : ℕ). Leader x k) (sym (eqb-true first f q)) l

    value : (k : ℕ) → is_value k ≡ true → eqb first 19 || eqb first 29 ≡ true → Leader first k
    value k v q = at (eqb first 19) (eqb first 29) refl refl q
      where
        at : (a b : Bool) → eqb first 19 ≡ a → eqb first 29 ≡ b → a || b ≡ true → Leader first k
        at true b x y z = one 19 k (well (omega arith) refl refl refl refl v) x
        at false true x y z = one 29 k (well (omega arith) refl refl refl refl v) y
        at false false x y z = false_not z
