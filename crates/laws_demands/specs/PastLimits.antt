-- The limits of a plan's envelopes are those of their marks: within them, or past one at the lowest row that is (`PastLimit`).
use Rattle.std.specs.Prelude.{ℕ, zero, suc, ◌≤◌, List, [], ◌∷◌, map, Bool, true, false, ◌≡◌, refl, length}
use Rattle.std.proofs.Common.{ap, ◌∙◌, arith, leb-true, leb-false}
use Rattle.meaning.specs.Basics.{pick}
use Rattle.meaning.specs.Headers.{envelope_most}
use Rattle.meaning.specs.Writing.{Envelope, envelope_size, within_limit, Limit, fine, exceeds, limits}
use Rattle.meaning.specs.Grammar.{Mark, Small, PastLimit, one_too_many, too_large, later}
use Rattle.laws_demands.specs.Planning.{mark_of}

-- From what is given to what is said

abbrev pub LimitIs : ℕ → List Mark → Limit → Type 0
LimitIs n marks fine = Small marks × (length marks ≤ n)
LimitIs n marks (exceeds i) = PastLimit n marks i

limit_later : (n : ℕ) (m : Mark) (marks : List Mark) (o : Limit) → m.size ≤ envelope_most → LimitIs n marks o → LimitIs (suc n) (m ∷ marks) o
limit_later n m marks fine h (s, few) = ((h, s), omega arith)
limit_later n m marks (exceeds i) h p = later h p

pub limit_is : (n : ℕ) (vs : List Envelope) → LimitIs n (map mark_of vs) (limits n vs)
limit_is n [] = (tt, omega arith)
limit_is zero (v ∷ vs) = one_too_many
limit_is (suc n) (v ∷ vs) = at (within_limit (length v.body)) refl (limit_is n vs)
  where
    at : (b : Bool) → within_limit (length v.body) ≡ b → LimitIs n (map mark_of vs) (limits n vs) → LimitIs (suc n) (map mark_of (v ∷ vs)) (pick b (limits n vs) (exceeds v.at))
    at true q ih = limit_later n (mark_of v) (map mark_of vs) (limits n vs) (leb-true (envelope_size (length v.body)) envelope_most q) ih
    at false q ih = too_large (leb-false (envelope_size (length v.body)) envelope_most q)

-- From what is said to what is given

past_not_small : {n i : ℕ} {marks : List Mark} → PastLimit n marks i → Small marks → length marks ≤ n → ⊥
past_not_small one_too_many s few = omega arith
past_not_small (too_large h) (s, t) few = omega arith
past_not_small (later h p) (s, t) few = past_not_small p t (omega arith)

past_once : {n i : ℕ} {marks : List Mark} → PastLimit n marks i → (j : ℕ) → PastLimit n marks j → i ≡ j
past_once one_too_many j one_too_many = refl
past_once (too_large h) j (too_large k) = refl
past_once (too_large h) j (later k p) = absurd (omega arith)
past_once (later h p) j (too_large k) = absurd (omega arith)
past_once (later h p) j (later k q) = past_once p j q

pub limit_fine : (n : ℕ) (vs : List Envelope) → Small (map mark_of vs) → length (map mark_of vs) ≤ n → limits n vs ≡ fine
limit_fine n vs s few = at (limits n vs) refl (limit_is n vs)
  where
    at : (o : Limit) → limits n vs ≡ o → LimitIs n (map mark_of vs) o → limits n vs ≡ fine
    at fine q i = q
    at (exceeds i) q p = absurd (past_not_small p s few)

pub limit_past : (n : ℕ) (vs : List Envelope) (i : ℕ) → PastLimit n (map mark_of vs) i → limits n vs ≡ exceeds i
limit_past n vs i p = at (limits n vs) refl (limit_is n vs)
  where
    at : (o : Limit) → limits n vs ≡ o → LimitIs n (map mark_of vs) o → limits n vs ≡ exceeds i
    at fine q (s, few) = absurd (past_not_small p s few)
    at (exceeds j) q r = q ∙ ap exceeds (past_once r i p)
