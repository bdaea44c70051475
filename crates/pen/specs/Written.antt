-- The pen: a byte written, one text behind another, and a text written part by part in a loop.
use Rattle.std.specs.Prelude.{ℕ, suc, ◌+◌, ◌≤◌, ◌<◌, List, [], ◌∷◌, ◌++◌, ◌≡◌, refl, length, get_or, drop, set}
use Rattle.std.proofs.Common.{append_assoc, append-nil, ap, sym, ◌∙◌, subst, add-one, arith, length-append, length-drop, drop_of_length-le, drop-cons}
use Rattle.std.proofs.Math.Seq.{set-append_seam}
use Rattle.meaning.specs.Memory.{laid_over}
use Rattle.pen.specs.Wrote.{Wrote}

lay_one : (lent front : List ℕ) (b : ℕ) → length front < length (laid_over lent front) → set (laid_over lent front) (length front) b ≡ laid_over lent (front ++ (b ∷ []))
unfolding laid_over
lay_one lent front b h =
    let n = length front in
    let k : n < length lent = omega (arith, length-append front (drop n lent), length-drop n lent) in
    let q : suc n ≡ length (front ++ (b ∷ [])) = omega (arith, length-append front (b ∷ [])) in
    ap (λ (x : List ℕ). set (front ++ x) n b) (drop-cons lent n 0 k)
    ∙ set-append_seam front (get_or lent n 0) (drop (suc n) lent) b
    ∙ sym (append_assoc front (b ∷ []) (drop (suc n) lent))
    ∙ ap (λ (m : ℕ). (front ++ (b ∷ [])) ++ drop m lent) q

pub wrote_one : (before : List ℕ) (at b : ℕ) → at < length before → Wrote before (set before at b) at (b ∷ []) (at + 1)
wrote_one before at b h = record { ends = omega arith; over = λ lent front l q. laid lent front l q }
  where
    laid : (lent front : List ℕ) → length front ≡ at → before ≡ laid_over lent front → set before at b ≡ laid_over lent (front ++ (b ∷ []))
    laid lent front l q =
        let k : length front < length (laid_over lent front) = omega (arith, ap length q) in
        ap (λ (x : List ℕ). set x at b) q ∙ ap (λ (n : ℕ). set (laid_over lent front) n b) (sym l) ∙ lay_one lent front b k

pub wrote_none : (before : List ℕ) (at : ℕ) → Wrote before before at [] at
wrote_none before at = record { ends = omega arith; over = λ lent front l q. q ∙ ap (laid_over lent) (sym (append-nil front)) }

pub wrote_then : {a b c : List ℕ} {at : ℕ} {x : List ℕ} {mid : ℕ} {y : List ℕ} {end : ℕ} → Wrote a b at x mid → Wrote b c mid y end → Wrote a c at (x ++ y) end
wrote_then {x = x} {y = y} v w =
    record {
      ends = omega (arith, length-append x y);
      over = λ lent front l q. w.over lent (front ++ x) (omega (arith, length-append front x)) (v.over lent front l q) ∙ ap (laid_over lent) (append_assoc front x y);
    }

pub wrote_as : {a b : List ℕ} {at : ℕ} {x y : List ℕ} {end : ℕ} → x ≡ y → Wrote a b at x end → Wrote a b at y end
wrote_as {a} {b} {at} {x} {y} {end} q w = subst (λ (z : List ℕ). Wrote a b at z end) q w

pub wrote_byte : {a b : List ℕ} {at x y end : ℕ} → x ≡ y → Wrote a b at (x ∷ []) end → Wrote a b at (y ∷ []) end
wrote_byte q w = wrote_as (ap (λ (z : ℕ). z ∷ []) q) w

-- a list's text written up to its member k
pub record Printing (text : List ℕ → List ℕ) (s : List ℕ) (k : ℕ) (before after : List ℕ) (at end : ℕ) : Type 0 where
  pub done : List ℕ
  pub wrote : Wrote before after at done end
  pub left : text s ≡ done ++ text (drop k s)

module _ {text : List ℕ → List ℕ} where
  pub printing_begins : (s before : List ℕ) (at : ℕ) → Printing text s 0 before before at at
  printing_begins s before at = record { done = []; wrote = wrote_none before at; left = refl }

  pub printing_goes : {s : List ℕ} {k : ℕ} {before after later : List ℕ} {at end far : ℕ} (part : ℕ → List ℕ) → ((x : ℕ) (xs : List ℕ) → text (x ∷ xs) ≡ part x ++ text xs)
      → Printing text s k before after at end → k < length s → Wrote after later end (part (get_or s k 0)) far → Printing text s (k + 1) before later at far
  printing_goes {s} {k} part each p h w =
      record {
        done = p.done ++ part (get_or s k 0);
        wrote = wrote_then p.wrote w;
        left = p.left ∙ ap (λ (x : List ℕ). p.done ++ text x) (drop-cons s k 0 h) ∙ ap (λ (x : List ℕ). p.done ++ x) (each (get_or s k 0) (drop (suc k) s)) ∙ sym (append_assoc p.done (part (get_or s k 0)) (text (drop (suc k) s))) ∙ rw (add-one k) refl;
      }

  pub printing_ends : {s : List ℕ} {k : ℕ} {before after : List ℕ} {at end : ℕ} → text [] ≡ [] → Printing text s k before after at end → length s ≤ k → Wrote before after at (text s) end
  printing_ends {s} {k} none p h =
      wrote_as (sym (p.left ∙ ap (λ (x : List ℕ). p.done ++ text x) (drop_of_length-le s h) ∙ ap (λ (x : List ℕ). p.done ++ x) none ∙ append-nil p.done)) p.wrote
