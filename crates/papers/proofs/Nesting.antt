-- Nested trees, by the notation: what stands inside a row belongs to it, and what follows does not.
use Rattle.std.specs.Prelude.{ℕ, ◌+◌, ◌<◌, List, [], ◌∷◌, ◌++◌, Bool, true, false, ◌⊎◌, ◌≡◌, refl, T, length}
use Rattle.std.proofs.Common.{append_assoc, inl, inr, ap, sym, ◌∙◌, subst}
use Rattle.meaning.specs.Skips.{Rank, rank, holds_deeper, beside, belongs}
use Rattle.laws_steps.specs.Nesting.{false_not, Belongs, belongs_not, belonging_nests}
use Rattle.papers.specs.Notation.{Trees, end, tree, ◌⊕◌, flat, Syntax, Value, ◌⨾◌, ◌then◌, ◌∣◌, first, other, optional, absent, present, many, up_to, byte, unseen, these, when, met, leaf, shows, node, holds}
use Rattle.papers.specs.Papers.{envelope, of}
use Rattle.papers.specs.TreeSkips.{ranks, AllBelong, NotNext, Nested}

-- Classes of rows

abbrev pub Class : Type 1
Class = Rank → Type 0

abbrev pub Every : Class
Every x = Unit {0}

-- what belongs to a row
abbrev pub Own : Rank → Class
Own r x = belongs r x ≡ true

-- what stands higher than a level, or at it with one of these kinds
abbrev pub Up : ℕ → (ℕ → Bool) → Class
Up n p x = (x.level < n) ⊎ ((x.level ≡ n) × T (p x.kind))

abbrev pub All : Class → List Rank → Type 0
All A [] = Unit {0}
All A (x ∷ l) = A x × All A l

abbrev pub Next : Class → List Rank → Type 0
Next F [] = Unit {0}
Next F (x ∷ l) = F x

all_both : (A : Class) (l m : List Rank) → All A l → All A m → All A (l ++ m)
all_both A [] m p q = q
all_both A (x ∷ l) m p q = (p.0, all_both A l m p.1 q)

all_wider : {A A' : Class} → ((x : Rank) → A x → A' x) → (l : List Rank) → All A l → All A' l
all_wider h [] p = tt
all_wider {A} {A'} h (x ∷ l) p = (h x p.0, all_wider {A = A} {A' = A'} h l p.1)

next_wider : {F F' : Class} → ((x : Rank) → F x → F' x) → (l : List Rank) → Next F l → Next F' l
next_wider h [] p = tt
next_wider h (x ∷ l) p = h x p

all_own : (r : Rank) (l : List Rank) → All (Own r) l → AllBelong r l
all_own r [] p = tt
all_own r (x ∷ l) p = (p.0, all_own r l p.1)

not_next : (r : Rank) {F : Class} → ((x : Rank) → F x → belongs r x ≡ false) → (l : List Rank) → Next F l → NotNext r l
not_next r h [] p = tt
not_next r h (x ∷ l) p = h x p

-- Trees beside trees

ranks_⊕ : (ts us : Trees) → ranks (ts ⊕ us) ≡ ranks ts ++ ranks us
ranks_⊕ end us = refl
ranks_⊕ (tree k n s v inside beside) us =
    ap (λ (l : List Rank). rank k n ∷ l) (ap (λ (l : List Rank). ranks inside ++ l) (ranks_⊕ beside us) ∙ sym (append_assoc (ranks inside) (ranks beside) (ranks us)))

behind_⊕ : (ts us : Trees) (more : List Rank) → ranks ts ++ (ranks us ++ more) ≡ ranks (ts ⊕ us) ++ more
behind_⊕ ts us more = sym (append_assoc (ranks ts) (ranks us) more) ∙ ap (λ (l : List Rank). l ++ more) (sym (ranks_⊕ ts us))

nested_⊕ : (ts us : Trees) (more : List Rank) → Nested ts (ranks us ++ more) → Nested us more → Nested (ts ⊕ us) more
nested_⊕ end us more p q = q
nested_⊕ (tree k n s v inside beside) us more p q =
    let e = behind_⊕ beside us more in
    (p.0, subst (λ (l : List Rank). NotNext (rank k n) l) e p.1, subst (λ (l : List Rank). Nested inside l) e p.2, nested_⊕ beside us more p.3 q)

-- A syntax's trees: all their rows are of one class (A); where a row of the class F follows or none, what begins here is of the class S, and they are nested
pub record Good (P : Syntax) (A F S : Class) : Type 0 where
  pub rows : (at : ℕ) (a : List ℕ) (ts : Trees) → P at a ts → All A (ranks ts)
  pub nests : (at : ℕ) (a : List ℕ) (ts : Trees) → P at a ts → (more : List Rank) → Next F more → Next S (ranks ts ++ more) × Nested ts more

-- The notation

module _ {A : Class} where
  module _ {P Q : Syntax} {F S : Class} where
    pub good_then : {M : Class} → Good P A M S → Good Q A F M → Good (P ⨾ Q) A F S
    good_then {M} p q = record { rows = all; nests = nest }
      where
        all : (at : ℕ) (a : List ℕ) (ts : Trees) → (P ⨾ Q) at a ts → All A (ranks ts)
        all _ _ _ (◌then◌ {at} {a} {b} {ts} {us} x y) =
            subst (λ (l : List Rank). All A l) (sym (ranks_⊕ ts us)) (all_both A (ranks ts) (ranks us) (p.rows at a ts x) (q.rows (at + length a) b us y))

        nest : (at : ℕ) (a : List ℕ) (ts : Trees) → (P ⨾ Q) at a ts → (more : List Rank) → Next F more → Next S (ranks ts ++ more) × Nested ts more
        nest _ _ _ (◌then◌ {at} {a} {b} {ts} {us} x y) more h =
            let v = q.nests (at + length a) b us y more h in
            let u = p.nests at a ts x (ranks us ++ more) v.0 in
            (subst (λ (l : List Rank). Next S l) (behind_⊕ ts us more) u.0, nested_⊕ ts us more u.1 v.1)

    pub good_either : Good P A F S → Good Q A F S → Good (P ∣ Q) A F S
    good_either p q = record { rows = all; nests = nest }
      where
        all : (at : ℕ) (a : List ℕ) (ts : Trees) → (P ∣ Q) at a ts → All A (ranks ts)
        all at a ts (first x) = p.rows at a ts x
        all at a ts (other y) = q.rows at a ts y

        nest : (at : ℕ) (a : List ℕ) (ts : Trees) → (P ∣ Q) at a ts → (more : List Rank) → Next F more → Next S (ranks ts ++ more) × Nested ts more
        nest at a ts (first x) = p.nests at a ts x
        nest at a ts (other y) = q.nests at a ts y

  pub good_byte : {c : ℕ} {F : Class} → Good (byte c) A F F
  good_byte {c} {F} = record { rows = all; nests = nest }
    where
      all : (at : ℕ) (a : List ℕ) (ts : Trees) → byte c at a ts → All A (ranks ts)
      all _ _ _ byte.it = tt

      nest : (at : ℕ) (a : List ℕ) (ts : Trees) → byte c at a ts → (more : List Rank) → Next F more → Next F (ranks ts ++ more) × Nested ts more
      nest _ _ _ byte.it more h = (h, tt)

  pub good_unseen : {R : List ℕ → Type 0} {F : Class} → Good (unseen R) A F F
  good_unseen {R} {F} = record { rows = all; nests = nest }
    where
      all : (at : ℕ) (a : List ℕ) (ts : Trees) → unseen R at a ts → All A (ranks ts)
      all _ _ _ (these x) = tt

      nest : (at : ℕ) (a : List ℕ) (ts : Trees) → unseen R at a ts → (more : List Rank) → Next F more → Next F (ranks ts ++ more) × Nested ts more
      nest _ _ _ (these x) more h = (h, tt)

  module _ {P : Syntax} {S : Class} where
    pub good_optional : Good P A S S → Good (optional P) A S S
    good_optional p = record { rows = all; nests = nest }
      where
        all : (at : ℕ) (a : List ℕ) (ts : Trees) → optional P at a ts → All A (ranks ts)
        all _ _ _ absent = tt
        all at a ts (present x) = p.rows at a ts x

        nest : (at : ℕ) (a : List ℕ) (ts : Trees) → optional P at a ts → (more : List Rank) → Next S more → Next S (ranks ts ++ more) × Nested ts more
        nest _ _ _ absent more h = (h, tt)
        nest at a ts (present x) more h = p.nests at a ts x more h

    pub good_many : Good P A S S → Good (many P) A S S
    good_many p = record { rows = all; nests = nest }
      where
        all : (at : ℕ) (a : List ℕ) (ts : Trees) → many P at a ts → All A (ranks ts)
        all _ _ _ many.none = tt
        all _ _ _ (many.more {at} {a} {b} {ts} {us} x y) =
            subst (λ (l : List Rank). All A l) (sym (ranks_⊕ ts us)) (all_both A (ranks ts) (ranks us) (p.rows at a ts x) (all (at + length a) b us y))

        nest : (at : ℕ) (a : List ℕ) (ts : Trees) → many P at a ts → (more : List Rank) → Next S more → Next S (ranks ts ++ more) × Nested ts more
        nest _ _ _ many.none more h = (h, tt)
        nest _ _ _ (many.more {at} {a} {b} {ts} {us} x y) more h =
            let v = nest (at + length a) b us y more h in
            let u = p.nests at a ts x (ranks us ++ more) v.0 in
            (subst (λ (l : List Rank). Next S l) (behind_⊕ ts us more) u.0, nested_⊕ ts us more u.1 v.1)

    pub good_up_to : {n : ℕ} → Good P A S S → Good (up_to P n) A S S
    good_up_to {n} p = record { rows = all n; nests = nest n }
      where
        all : (n at : ℕ) (a : List ℕ) (ts : Trees) → up_to P n at a ts → All A (ranks ts)
        all _ _ _ _ up_to.none = tt
        all _ _ _ _ (up_to.more {n} {at} {a} {b} {ts} {us} x y) =
            subst (λ (l : List Rank). All A l) (sym (ranks_⊕ ts us)) (all_both A (ranks ts) (ranks us) (p.rows at a ts x) (all n (at + length a) b us y))

        nest : (n at : ℕ) (a : List ℕ) (ts : Trees) → up_to P n at a ts → (more : List Rank) → Next S more → Next S (ranks ts ++ more) × Nested ts more
        nest _ _ _ _ up_to.none more h = (h, tt)
        nest _ _ _ _ (up_to.more {n} {at} {a} {b} {ts} {us} x y) more h =
            let v = nest n (at + length a) b us y more h in
            let u = p.nests at a ts x (ranks us ++ more) v.0 in
            (subst (λ (l : List Rank). Next S l) (behind_⊕ ts us more) u.0, nested_⊕ ts us more u.1 v.1)

  pub good_when : {P : Syntax} {C : Type 0} {F S : Class} → Good P A F S → Good (when C P) A F S
  good_when {P} {C} {F} {S} p = record { rows = all; nests = nest }
    where
      all : (at : ℕ) (a : List ℕ) (ts : Trees) → when C P at a ts → All A (ranks ts)
      all at a ts (met q x) = p.rows at a ts x

      nest : (at : ℕ) (a : List ℕ) (ts : Trees) → when C P at a ts → (more : List Rank) → Next F more → Next S (ranks ts ++ more) × Nested ts more
      nest at a ts (met q x) = p.nests at a ts x

-- a row and what is inside it, with nothing beside it
module _ (r : Rank) (S : Class) {F F' : Class} (wider : (x : Rank) → F x → F' x) (out : (x : Rank) → F x → belongs r x ≡ false) (begins : S r) where
  row_nests : (s : ℕ) (v : List ℕ) (ts : Trees) → All (Own r) (ranks ts) → ((more : List Rank) → Next F' more → Nested ts more)
      → (more : List Rank) → Next F more → Next S (ranks (tree r.kind r.level s v ts end) ++ more) × Nested (tree r.kind r.level s v ts end) more
  row_nests s v ts all inside more h = (begins, (all_own r (ranks ts) all, not_next r {F = F} out more h, inside more (next_wider {F = F} {F' = F'} wider more h), tt))

module _ (owner : Rank) where
  row_all : (r : Rank) (l : List Rank) → belongs owner r ≡ true → All (Own r) l → All (Own owner) (r ∷ (l ++ []))
  row_all r l b p = (b, all_both (Own owner) l [] (all_wider {A = Own r} {A' = Own owner} (λ x h. belonging_nests owner r x b h) l p) tt)

  pub good_node : (k n : ℕ) {X : Value} {P : Syntax} {F S : Class} (F' S' : Class) → belongs owner (rank k n) ≡ true → S (rank k n) → ((x : Rank) → F x → F' x) → ((x : Rank) → F x → belongs (rank k n) x ≡ false)
      → Good P (Own (rank k n)) F' S' → Good (node k n X P) (Own owner) F S
  good_node k n {X} {P} {F} {S} F' S' b begins wider out p = record { rows = all; nests = nest }
    where
      all : (at : ℕ) (a : List ℕ) (ts : Trees) → node k n X P at a ts → All (Own owner) (ranks ts)
      all _ _ _ (holds {at} {a} {b = c} {ts} x y) = row_all (rank k n) (ranks ts) b (p.rows (at + length a) c ts y)

      nest : (at : ℕ) (a : List ℕ) (ts : Trees) → node k n X P at a ts → (more : List Rank) → Next F more → Next S (ranks ts ++ more) × Nested ts more
      nest _ _ _ (holds {at} {before} {a} {b = c} {view} {ts} x y) =
          row_nests (rank k n) S wider out begins (at + before) view ts (p.rows (at + length a) c ts y) (λ more h. (p.nests (at + length a) c ts y more h).1)

  pub good_leaf : (k n : ℕ) {X : Value} {F S : Class} → belongs owner (rank k n) ≡ true → S (rank k n) → holds_deeper k ≡ false → ((j : ℕ) → beside k j ≡ false) → Good (leaf k n X) (Own owner) F S
  good_leaf k n {X} {F} {S} b begins flat bare = record { rows = all; nests = nest }
    where
      out : (x : Rank) → belongs (rank k n) x ≡ false
      out x = belongs_not (rank k n) x at
        where
          at : Belongs (rank k n) x → ⊥
          at (inl (h, l)) = false_not (sym flat ∙ h)
          at (inr (l, h)) = false_not (sym (bare x.kind) ∙ h)

      all : (at : ℕ) (a : List ℕ) (ts : Trees) → leaf k n X at a ts → All (Own owner) (ranks ts)
      all _ _ _ (shows x) = (b, tt)

      nest : (at : ℕ) (a : List ℕ) (ts : Trees) → leaf k n X at a ts → (more : List Rank) → Next F more → Next S (ranks ts ++ more) × Nested ts more
      nest _ _ _ (shows {at} {before} {view} x) = row_nests (rank k n) S (λ y h. h) (λ y h. out y) begins (at + before) view end tt (λ more h. tt)

pub good_envelope : (k : ℕ) {P : ℕ → Syntax} {F S : Class} (F' S' : Class) → S (rank k 0) → ((x : Rank) → F x → F' x) → ((x : Rank) → F x → belongs (rank k 0) x ≡ false)
    → ((n : ℕ) → Good (P n) (Own (rank k 0)) F' S') → Good (envelope k P) Every F S
good_envelope k {P} {F} {S} F' S' begins wider out p = record { rows = λ at a ts x. every (ranks ts); nests = nest }
  where
    every : (l : List Rank) → All Every l
    every [] = tt
    every (x ∷ l) = (tt, every l)

    nest : (at : ℕ) (a : List ℕ) (ts : Trees) → envelope k P at a ts → (more : List Rank) → Next F more → Next S (ranks ts ++ more) × Nested ts more
    nest _ _ _ (of {at} {bytes} {ts} fits y) =
        row_nests (rank k 0) S wider out begins at [] ts ((p (length bytes)).rows at bytes ts y) (λ more h. ((p (length bytes)).nests at bytes ts y more h).1)
