-- A kind's class: what its number says of how the row's own rows are found, and the word's bits below.
use Rattle.std.specs.Prelude.{ℕ, zero, suc, ◌+◌, ◌%◌, ◌≤◌, ◌<◌, List, [], ◌∷◌, Bool, true, false, ◌||◌, ◌≡◌, refl, T, eqb, ltb, length, get_or}
use Rattle.std.proofs.Common.{ap, sym, ◌∙◌, arith, eqb-true, ne_eqb}
use Rattle.std.specs.Int.Bits.{bit_or, or_zero_r}
use Rattle.std.proofs.lemmas.Nat.{or_mod, or_comm}
use Rattle.std.proofs.lemmas.Bool.{eqb-false}
use Rattle.meaning.specs.Basics.{pick}
use Rattle.meaning.specs.Editions.{closing}
use Rattle.meaning.specs.Skips.{Rank, rank, is_envelope, holds_deeper, belongs}
use Rattle.meaning.specs.Codes.{date_code, code_of}
use Rattle.meaning.specs.Words.{occurs, word_of}
use Rattle.laws_steps.specs.Nesting.{false_not}
use Rattle.laws_tables.specs.Presence.{or_words, no_other_bit}
use Rattle.laws_tables.specs.Neighbours.{is_follower, is_silent, Flat, kind_most}
use Rattle.skips.specs.Classes.{bit_of, way_of, class_of, ClassesAre}
use Rattle.skips.specs.Owning.{of_received, of_to, of_from, of_receiver, of_resolvers}
use Rattle.skips.specs.Belonging.{by_follower, Light}

-- What the number says

pub data Way (kind : ℕ) : ℕ → Type 0 where
  envelope : is_envelope kind ≡ true → Way kind 0x4000
  follower : is_follower kind ≡ true → Way kind 0x3000
  agent : kind ≡ 15 → Way kind 0x2000
  deeper : is_envelope kind ≡ false → is_follower kind ≡ false → eqb kind 15 ≡ false → holds_deeper kind ≡ true → Way kind 0x1000
  plain : Light kind → is_follower kind ≡ false → Way kind 0

way_is : (kind : ℕ) → Way kind (way_of kind)
way_is kind = at (is_envelope kind) (is_follower kind) (eqb kind 15) (holds_deeper kind) refl refl refl refl
  where
    at : (a b c d : Bool) → is_envelope kind ≡ a → is_follower kind ≡ b → eqb kind 15 ≡ c → holds_deeper kind ≡ d → Way kind (pick a 0x4000 (pick b 0x3000 (pick c 0x2000 (pick d 0x1000 0))))
    at true b c d p q r s = envelope p
    at false true c d p q r s = follower q
    at false false true d p q r s = agent (eqb-true kind 15 r)
    at false false false true p q r s = deeper p q r s
    at false false false false p q r s = plain (record { no_envelope = p; no_agent = r; shallow = s }) q

abbrev pub Deeper : ℕ → Type 0
Deeper kind = (is_envelope kind ≡ false) × (is_follower kind ≡ false) × (eqb kind 15 ≡ false) × (holds_deeper kind ≡ true)

bit_small : (kind : ℕ) → bit_of kind < 4096
bit_small kind = (no_other_bit (rank kind 0 ∷ [])).0

module _ (kind class : ℕ) (is : class ≡ class_of kind) where
  pub is_plain : class < 0x1000 → Light kind × (is_follower kind ≡ false)
  is_plain h = at (way_of kind) (way_is kind) (omega arith)
    where
      at : (w : ℕ) → Way kind w → w < 0x1000 → Light kind × (is_follower kind ≡ false)
      at w (envelope p) u = absurd (omega arith)
      at w (follower p) u = absurd (omega arith)
      at w (agent p) u = absurd (omega arith)
      at w (deeper p q r s) u = absurd (omega arith)
      at w (plain l f) u = (l, f)

  pub is_deeper : 0x1000 ≤ class → class < 0x2000 → Deeper kind
  is_deeper g h = at (way_of kind) (way_is kind) (omega arith) (omega (arith, bit_small kind))
    where
      at : (w : ℕ) → Way kind w → w < 0x2000 → 0x1000 < w + 4096 → Deeper kind
      at w (envelope p) u v = absurd (omega arith)
      at w (follower p) u v = absurd (omega arith)
      at w (agent p) u v = absurd (omega arith)
      at w (deeper p q r s) u v = (p, q, r, s)
      at w (plain l f) u v = absurd (omega arith)

  pub is_agent : 0x2000 ≤ class → class < 0x3000 → kind ≡ 15
  is_agent g h = at (way_of kind) (way_is kind) (omega arith) (omega (arith, bit_small kind))
    where
      at : (w : ℕ) → Way kind w → w < 0x3000 → 0x2000 < w + 4096 → kind ≡ 15
      at w (envelope p) u v = absurd (omega arith)
      at w (follower p) u v = absurd (omega arith)
      at w (agent p) u v = p
      at w (deeper p q r s) u v = absurd (omega arith)
      at w (plain l f) u v = absurd (omega arith)

  pub is_follower_lem : 0x3000 ≤ class → class < 0x4000 → is_follower kind ≡ true
  is_follower_lem g h = at (way_of kind) (way_is kind) (omega arith) (omega (arith, bit_small kind))
    where
      at : (w : ℕ) → Way kind w → w < 0x4000 → 0x3000 < w + 4096 → is_follower kind ≡ true
      at w (envelope p) u v = absurd (omega arith)
      at w (follower p) u v = p
      at w (agent p) u v = absurd (omega arith)
      at w (deeper p q r s) u v = absurd (omega arith)
      at w (plain l f) u v = absurd (omega arith)

  pub is_envelope_lem : 0x4000 ≤ class → is_envelope kind ≡ true
  is_envelope_lem g = at (way_of kind) (way_is kind) (omega (arith, bit_small kind))
    where
      at : (w : ℕ) → Way kind w → 0x4000 < w + 4096 → is_envelope kind ≡ true
      at w (envelope p) v = p
      at w (follower p) v = absurd (omega arith)
      at w (agent p) v = absurd (omega arith)
      at w (deeper p q r s) v = absurd (omega arith)
      at w (plain l f) v = absurd (omega arith)

-- deeper rows belong to it, and no others
pub deeper_owns : (kind level : ℕ) (s : Rank) → is_envelope kind ≡ false → eqb kind 15 ≡ false → holds_deeper kind ≡ true → belongs (rank kind level) s ≡ ltb level s.level
deeper_owns kind level s p r h = at (is_envelope kind) (eqb kind 8) (eqb kind 12) (eqb kind 13) (eqb kind 14) (eqb kind 15) (eqb kind 18) p r refl refl refl refl refl h
  where
    at : (v a b c d g e : Bool) → v ≡ false → g ≡ false → eqb kind 8 ≡ a → eqb kind 12 ≡ b → eqb kind 13 ≡ c → eqb kind 14 ≡ d → eqb kind 18 ≡ e → v || a || b || c || d || g || e ≡ true → belongs (rank kind level) s ≡ ltb level s.level
    at true a b c d g e vq gq qa qb qc qd qe z = false_not (sym vq)
    at false true b c d g e vq gq qa qb qc qd qe z = of_received level s (eqb-true kind 8 qa)
    at false false true c d g e vq gq qa qb qc qd qe z = of_to level s (eqb-true kind 12 qb)
    at false false false true d g e vq gq qa qb qc qd qe z = of_from level s (eqb-true kind 13 qc)
    at false false false false true g e vq gq qa qb qc qd qe z = of_receiver level s (eqb-true kind 14 qd)
    at false false false false false true e vq gq qa qb qc qd qe z = false_not (sym gq)
    at false false false false false false true vq gq qa qb qc qd qe z = of_resolvers level s (eqb-true kind 18 qe)
    at false false false false false false false vq gq qa qb qc qd qe z = false_not z

-- The bits below

class_bits : (kind : ℕ) → class_of kind % 4096 ≡ bit_of kind
class_bits kind = at (way_of kind) (way_is kind)
  where
    at : (w : ℕ) → Way kind w → (w + bit_of kind) % 4096 ≡ bit_of kind
    at w (envelope p) = omega (arith, bit_small kind)
    at w (follower p) = omega (arith, bit_small kind)
    at w (agent p) = omega (arith, bit_small kind)
    at w (deeper p q r s) = omega (arith, bit_small kind)
    at w (plain l f) = omega (arith, bit_small kind)

silent_bit : (kind : ℕ) → T (is_silent kind) → 0 ≡ bit_of kind
unfolding word_of occurs
silent_bit kind t = at (eqb (code_of kind) closing) (eqb (code_of kind) date_code) refl refl t
  where
    at : (a b : Bool) → eqb (code_of kind) closing ≡ a → eqb (code_of kind) date_code ≡ b → T (a || b) → 0 ≡ word_of (rank kind 0 ∷ [])
    at true b p q t = rw (eqb-true (code_of kind) closing p) refl
    at false true p q t = rw (eqb-true (code_of kind) date_code q) refl
    at false false p q t = absurd t

deeper_bit : (kind level : ℕ) → (level ≡ 0 → ⊥) → 0 ≡ word_of (rank kind level ∷ [])
unfolding word_of occurs
deeper_bit kind level h = rw (ne_eqb level 0 h) refl

-- a row's bit is its kind's
bit_here : (r : Rank) → Flat r → bit_of r.kind ≡ word_of (r ∷ [])
bit_here r f = at (eqb r.level 0) refl
  where
    at : (z : Bool) → eqb r.level 0 ≡ z → bit_of r.kind ≡ word_of (r ∷ [])
    at true z = ap (λ (l : ℕ). word_of (rank r.kind l ∷ [])) (sym (eqb-true r.level 0 z))
    at false z = let d = eqb-false r.level 0 z in sym (silent_bit r.kind (f.silent d)) ∙ deeper_bit r.kind r.level d

pub one_seen : (r : Rank) (rest : List Rank) (word : ℕ) {class : ℕ} → Flat r → word % 4096 ≡ word_of rest → class ≡ class_of r.kind → bit_or word class % 4096 ≡ word_of (r ∷ rest)
one_seen r rest word {class} f w c =
    or_mod word class 12 ∙ ap (λ (x : ℕ). bit_or x (class % 4096)) w ∙ ap (bit_or (word_of rest)) (ap (λ (x : ℕ). x % 4096) c ∙ class_bits r.kind ∙ bit_here r f)
    ∙ or_comm (word_of rest) (word_of (r ∷ [])) ∙ or_words (r ∷ []) rest

-- a row that follows another, and an envelope's own, have none
follower_bit : (kind : ℕ) → is_follower kind ≡ true → bit_of kind ≡ 0
unfolding word_of occurs
follower_bit kind h = by_follower (λ k. word_of (rank k 0 ∷ []) ≡ 0) refl refl refl refl refl kind h

envelope_bit : (kind : ℕ) → is_envelope kind ≡ true → bit_of kind ≡ 0
unfolding word_of occurs
envelope_bit kind h = at (eqb kind 1) (eqb kind 2) refl refl h
  where
    at : (a b : Bool) → eqb kind 1 ≡ a → eqb kind 2 ≡ b → a || b ≡ true → word_of (rank kind 0 ∷ []) ≡ 0
    at true b p q z = ap (λ (k : ℕ). word_of (rank k 0 ∷ [])) (eqb-true kind 1 p)
    at false true p q z = ap (λ (k : ℕ). word_of (rank k 0 ∷ [])) (eqb-true kind 2 q)
    at false false p q z = false_not z

pub follower_unseen : (r : Rank) (rest : List Rank) → Flat r → is_follower r.kind ≡ true → word_of (r ∷ rest) ≡ word_of rest
follower_unseen r rest f h =
    sym (or_words (r ∷ []) rest) ∙ ap (λ (x : ℕ). bit_or x (word_of rest)) (sym (bit_here r f) ∙ follower_bit r.kind h)

pub envelope_unseen : (kind word : ℕ) {class seen : ℕ} → is_envelope kind ≡ true → word % 4096 ≡ seen → class ≡ class_of kind → bit_or word class % 4096 ≡ seen
envelope_unseen kind word {class} {seen} h w c =
    or_mod word class 12 ∙ ap (λ (x : ℕ). bit_or x (class % 4096)) w ∙ ap (bit_or seen) (ap (λ (x : ℕ). x % 4096) c ∙ class_bits kind ∙ envelope_bit kind h) ∙ or_zero_r seen

-- Classes looked up

abbrev pub are_classes : ℕ → List ℕ → Bool
are_classes kind [] = true
are_classes kind (x ∷ l) = pick (eqb x (class_of kind)) (are_classes (suc kind) l) false

class_at : (l : List ℕ) (from k : ℕ) → T (are_classes from l) → k < length l → get_or l k 0 ≡ class_of (from + k)
class_at [] from k t h = absurd (omega arith)
class_at (x ∷ l) from k t h = at (eqb x (class_of from)) refl t k h (λ j u v. class_at l (suc from) j u v)
  where
    at : (z : Bool) → eqb x (class_of from) ≡ z → T (pick z (are_classes (suc from) l) false) → (k : ℕ) → k < suc (length l) → ((j : ℕ) → T (are_classes (suc from) l) → j < length l → get_or l j 0 ≡ class_of (suc from + j)) → get_or (x ∷ l) k 0 ≡ class_of (from + k)
    at false q t k h ih = absurd t
    at true q t zero h ih = let e : from ≡ from + 0 = omega arith in eqb-true x (class_of from) q ∙ ap class_of e
    at true q t (suc k) h ih = let e : suc from + k ≡ from + suc k = omega arith in ih k t (omega arith) ∙ ap class_of e

-- the classes of all kinds, by one computed test
pub classes_held : (l : List ℕ) → T (are_classes 0 l) → kind_most < length l → ClassesAre l
classes_held l t h kind k = let e : 0 + kind ≡ kind = omega arith in class_at l 0 kind t (omega (arith, h)) ∙ ap class_of e
