-- Belonging nests: what belongs to a row that belongs to another belongs to that too, whatever kinds and levels they have. So a row's rows are found
-- by hopping over those of the rows in it.
use Rattle.std.specs.Prelude.{ℕ, suc, ◌+◌, ◌≤◌, ◌<◌, List, [], ◌∷◌, Bool, true, false, ◌&&◌, ◌||◌, ◌⊎◌, ◌≡◌, refl, eqb, ltb, length, drop}
use Rattle.std.proofs.Common.{inl, inr, ap, sym, ◌∙◌, arith, ltb-true, eqb-true, lt-ltb, eq-eqb}
use Rattle.meaning.specs.Basics.{pick}
use Rattle.meaning.specs.Skips.{Rank, holds_deeper, is_value, beside, belongs, belonging}

-- Kinds

-- what holds of each test of kinds, under the kinds that have it, holds of a kind's own
pub by_beside : (P : (ℕ → Bool) → Type 0) (k : ℕ) → (k ≡ 1 → P (λ c. ltb 2 c)) → (k ≡ 2 → P (λ c. ltb 2 c)) → (k ≡ 15 → P (λ c. ltb 15 c)) → (k ≡ 16 → P (λ c. eqb c 17)) → (k ≡ 19 → P (λ c. is_value c)) → (k ≡ 29 → P (λ c. is_value c))
    → (k ≡ 25 → P (λ c. eqb c 26)) → (k ≡ 27 → P (λ c. eqb c 28)) → P (λ c. false) → P (λ c. beside k c)
by_beside P k p₁ p₂ p₁₅ p₁₆ p₁₉ p₂₉ p₂₅ p₂₇ p₀ = at (eqb k 1) (eqb k 2) (eqb k 15) (eqb k 16) (eqb k 19) (eqb k 29) (eqb k 25) (eqb k 27) refl refl refl refl refl refl refl refl
  where
    at : (a b c d e f g h : Bool) → eqb k 1 ≡ a → eqb k 2 ≡ b → eqb k 15 ≡ c → eqb k 16 ≡ d → eqb k 19 ≡ e → eqb k 29 ≡ f → eqb k 25 ≡ g → eqb k 27 ≡ h
        → P (λ x. pick (a || b) (ltb 2 x) (pick c (ltb 15 x) (pick d (eqb x 17) (pick (e || f) (is_value x) (pick g (eqb x 26) (pick h (eqb x 28) false))))))
    at true b c d e f g h qa qb qc qd qe qf qg qh = p₁ (eqb-true k 1 qa)
    at false true c d e f g h qa qb qc qd qe qf qg qh = p₂ (eqb-true k 2 qb)
    at false false true d e f g h qa qb qc qd qe qf qg qh = p₁₅ (eqb-true k 15 qc)
    at false false false true e f g h qa qb qc qd qe qf qg qh = p₁₆ (eqb-true k 16 qd)
    at false false false false true f g h qa qb qc qd qe qf qg qh = p₁₉ (eqb-true k 19 qe)
    at false false false false false true g h qa qb qc qd qe qf qg qh = p₂₉ (eqb-true k 29 qf)
    at false false false false false false true h qa qb qc qd qe qf qg qh = p₂₅ (eqb-true k 25 qg)
    at false false false false false false false true qa qb qc qd qe qf qg qh = p₂₇ (eqb-true k 27 qh)
    at false false false false false false false false qa qb qc qd qe qf qg qh = p₀

pub false_not : {A : Type 0} → false ≡ true → A
false_not q = let z : ◌≡◌ {A = ℕ} 0 1 = cc q in absurd (omega arith)

pub value_is : {A : Type 0} (c : ℕ) → is_value c ≡ true → (c ≡ 20 → A) → (c ≡ 21 → A) → A
value_is {A} c h f g = at (eqb c 20) (eqb c 21) refl refl h
  where
    at : (x y : Bool) → eqb c 20 ≡ x → eqb c 21 ≡ y → x || y ≡ true → A
    at true y p q r = f (eqb-true c 20 p)
    at false true p q r = g (eqb-true c 21 q)
    at false false p q r = false_not r

-- what a row has beside it is above an envelope's kind; beside an agent's own rows, above an agent's
pub above : (least b c : ℕ) → (b ≡ 1 → least ≤ 2) → (b ≡ 2 → least ≤ 2) → (b ≡ 15 → least ≤ 15) → least ≤ 16 → beside b c ≡ true → least < c
above least b c h₁ h₂ h₁₅ h =
    by_beside (λ f. f c ≡ true → least < c) b (λ q i. let x = ltb-true 2 c i in let y = h₁ q in omega arith) (λ q i. let x = ltb-true 2 c i in let y = h₂ q in omega arith)
    (λ q i. let x = ltb-true 15 c i in let y = h₁₅ q in omega arith) (λ q i. let x = eqb-true c 17 i in omega arith) (λ q i. value_is c i (λ x. omega arith) (λ x. omega arith)) (λ q i. value_is c i (λ x. omega arith) (λ x. omega arith))
    (λ q i. let x = eqb-true c 26 i in omega arith) (λ q i. let x = eqb-true c 28 i in omega arith) (λ i. false_not i)

-- a value, an item, an address have nothing beside them
none_beside : (k b c : ℕ) → ((x : ℕ) → beside k x ≡ false) → b ≡ k → beside b c ≡ true → ⊥
none_beside k b c n q i = false_not (sym (n c) ∙ ap (λ (x : ℕ). beside x c) (sym q) ∙ i)

kinds_nest : (a b c : ℕ) → beside a b ≡ true → beside b c ≡ true → beside a c ≡ true
kinds_nest a b c =
    by_beside (λ f. f b ≡ true → beside b c ≡ true → f c ≡ true) a (λ q i j. envelopes i j) (λ q i j. envelopes i j)
    (λ q i j. let l = ltb-true 15 b i in lt-ltb 15 c (above 15 b c (λ e. absurd (omega arith)) (λ e. absurd (omega arith)) (λ e. omega arith) (omega arith) j))
    (λ q i j. absurd (none_beside 17 b c (λ x. refl) (eqb-true b 17 i) j))
    (λ q i j. value_is b i (λ e. absurd (none_beside 20 b c (λ x. refl) e j)) (λ e. absurd (none_beside 21 b c (λ x. refl) e j)))
    (λ q i j. value_is b i (λ e. absurd (none_beside 20 b c (λ x. refl) e j)) (λ e. absurd (none_beside 21 b c (λ x. refl) e j)))
    (λ q i j. absurd (none_beside 26 b c (λ x. refl) (eqb-true b 26 i) j))
    (λ q i j. absurd (none_beside 28 b c (λ x. refl) (eqb-true b 28 i) j))
    (λ i j. false_not i)
  where
    envelopes : ltb 2 b ≡ true → beside b c ≡ true → ltb 2 c ≡ true
    envelopes i j = lt-ltb 2 c (above 2 b c (λ e. omega arith) (λ e. omega arith) (λ e. omega arith) (omega arith) j)

none_deeper : (k b : ℕ) → holds_deeper k ≡ false → b ≡ k → holds_deeper b ≡ true → ⊥
none_deeper k b n q h = false_not (sym n ∙ ap holds_deeper (sym q) ∙ h)

pub deeper_nests : (a b : ℕ) → beside a b ≡ true → holds_deeper b ≡ true → holds_deeper a ≡ true
deeper_nests a b =
    by_beside (λ f. f b ≡ true → holds_deeper b ≡ true → holds_deeper a ≡ true) a (λ q i h. ap holds_deeper q) (λ q i h. ap holds_deeper q) (λ q i h. ap holds_deeper q)
    (λ q i h. absurd (none_deeper 17 b refl (eqb-true b 17 i) h))
    (λ q i h. value_is b i (λ e. absurd (none_deeper 20 b refl e h)) (λ e. absurd (none_deeper 21 b refl e h)))
    (λ q i h. value_is b i (λ e. absurd (none_deeper 20 b refl e h)) (λ e. absurd (none_deeper 21 b refl e h)))
    (λ q i h. absurd (none_deeper 26 b refl (eqb-true b 26 i) h))
    (λ q i h. absurd (none_deeper 28 b refl (eqb-true b 28 i) h))
    (λ i h. false_not i)

-- Rows

-- the two ways to belong to a row: deeper, or beside
abbrev pub Belongs : Rank → Rank → Type 0
Belongs r s = ((holds_deeper r.kind ≡ true) × (r.level < s.level)) ⊎ ((s.level ≡ r.level) × (beside r.kind s.kind ≡ true))

pub belongs_how : (r s : Rank) → belongs r s ≡ true → Belongs r s
unfolding belongs
belongs_how r s = at (holds_deeper r.kind) (ltb r.level s.level) (eqb s.level r.level) (beside r.kind s.kind) refl refl refl refl
  where
    beside_how : (c d : Bool) → eqb s.level r.level ≡ c → beside r.kind s.kind ≡ d → c && d ≡ true → Belongs r s
    beside_how true true p q h = inr (eqb-true s.level r.level p, q)
    beside_how true false p q h = false_not h
    beside_how false d p q h = false_not h

    at : (a b c d : Bool) → holds_deeper r.kind ≡ a → ltb r.level s.level ≡ b → eqb s.level r.level ≡ c → beside r.kind s.kind ≡ d → a && b || c && d ≡ true → Belongs r s
    at true true c d p q x y h = inl (p, ltb-true r.level s.level q)
    at true false c d p q x y h = beside_how c d x y h
    at false b c d p q x y h = beside_how c d x y h

pub deeper_belongs : (r s : Rank) → holds_deeper r.kind ≡ true → r.level < s.level → belongs r s ≡ true
unfolding belongs
deeper_belongs r s h l = rw (h, lt-ltb r.level s.level l) refl

pub beside_belongs : (r s : Rank) → s.level ≡ r.level → beside r.kind s.kind ≡ true → belongs r s ≡ true
unfolding belongs
beside_belongs r s q h = rw (eq-eqb s.level r.level q, h) (or_true (holds_deeper r.kind && ltb r.level s.level))
  where
    or_true : (b : Bool) → b || true ≡ true
    or_true true = refl
    or_true false = refl

-- and what has neither does not belong
pub belongs_not : (r s : Rank) → (Belongs r s → ⊥) → belongs r s ≡ false
belongs_not r s h = at (belongs r s) refl
  where
    at : (b : Bool) → belongs r s ≡ b → belongs r s ≡ false
    at true q = absurd (h (belongs_how r s q))
    at false q = q

pub belonging_nests : (r s t : Rank) → belongs r s ≡ true → belongs s t ≡ true → belongs r t ≡ true
belonging_nests r s t p q = at (belongs_how r s p) (belongs_how s t q)
  where
    at : Belongs r s → Belongs s t → belongs r t ≡ true
    at (inl (h, l)) (inl (k, m)) = deeper_belongs r t h (omega arith)
    at (inl (h, l)) (inr (m, i)) = deeper_belongs r t h (omega arith)
    at (inr (l, i)) (inl (k, m)) = deeper_belongs r t (deeper_nests r.kind s.kind i k) (omega arith)
    at (inr (l, i)) (inr (m, j)) = beside_belongs r t (m ∙ l) (kinds_nest r.kind s.kind t.kind i j)

-- Runs of rows

pub belonging_on : (r s : Rank) (rest : List Rank) → belongs r s ≡ true → belonging r (s ∷ rest) ≡ suc (belonging r rest)
unfolding belonging
belonging_on r s rest h = rw h refl

pub belonging_ends : (r s : Rank) (rest : List Rank) → belongs r s ≡ false → belonging r (s ∷ rest) ≡ 0
unfolding belonging
belonging_ends r s rest h = rw h refl

pub belonging_none : (r : Rank) → belonging r [] ≡ 0
unfolding belonging
belonging_none r = refl

pub belonging_most : (r : Rank) (rest : List Rank) → belonging r rest ≤ length rest
belonging_most r [] = omega (arith, belonging_none r)
belonging_most r (s ∷ rest) = at (belongs r s) refl (belonging_most r rest)
  where
    at : (b : Bool) → belongs r s ≡ b → belonging r rest ≤ length rest → belonging r (s ∷ rest) ≤ suc (length rest)
    at true q ih = omega (arith, belonging_on r s rest q)
    at false q ih = omega (arith, belonging_ends r s rest q)

run_none : (r s : Rank) → belonging r [] ≡ belonging s [] + belonging r (drop (belonging s []) [])
unfolding belonging
run_none r s = refl

-- behind the rows of a row in it, an owner's run goes on
pub run_on : (r s : Rank) (rest : List Rank) → belongs r s ≡ true → belonging r rest ≡ belonging s rest + belonging r (drop (belonging s rest) rest)
run_on r s [] h = run_none r s
run_on r s (t ∷ rest) h = at (belongs s t) refl (run_on r s rest h)
  where
    at : (b : Bool) → belongs s t ≡ b → belonging r rest ≡ belonging s rest + belonging r (drop (belonging s rest) rest)
        → belonging r (t ∷ rest) ≡ belonging s (t ∷ rest) + belonging r (drop (belonging s (t ∷ rest)) (t ∷ rest))
    at true q ih = rw (belonging_on s t rest q) (belonging_on r t rest (belonging_nests r s t h q) ∙ ap suc ih ∙ omega arith)
    at false q ih = rw (belonging_ends s t rest q) (omega arith)
