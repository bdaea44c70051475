-- An envelope of the papers, taken apart and put together: its identifier, its length, and what they stand before.
use Rattle.std.specs.Prelude.{ℕ, ◌+◌, ◌≤◌, ◌<◌, List, [], ◌∷◌, ◌++◌, Bool, true, false, ◌⊎◌, ◌≡◌, refl, length}
use Rattle.std.proofs.Common.{append_assoc, inl, inr, ap, sym, ◌∙◌, subst, arith, length-append, le-leb, leb-true, leb-false}
use Rattle.std.proofs.lemmas.Bool.{lt-leb}
use Rattle.meaning.specs.Basics.{pick}
use Rattle.meaning.specs.Bytes.{two_bytes, four_bytes, length_bytes}
use Rattle.meaning.specs.Headers.{envelope_most}
use Rattle.meaning.specs.Writing.{is_short, envelope_size, envelope_length}
use Rattle.meaning.specs.Grammar.{head_size}
use Rattle.papers.specs.Notation.{Trees, end, tree, ◌⊕◌, Syntax, ◌⨾◌, ◌then◌, first, other, byte, these, met}
use Rattle.papers.specs.Values.{short, long}
use Rattle.papers.specs.Papers.{EnvLen, envelope, of}
use Rattle.papers.proofs.Pieces.{⊕_assoc}

-- "Parentheses are used to group expansions": grouping changes nothing
module _ {P Q R : Syntax} where
  pub to_right : (at : ℕ) (a : List ℕ) (ts : Trees) → ((P ⨾ Q) ⨾ R) at a ts → (P ⨾ (Q ⨾ R)) at a ts
  to_right _ _ _ (◌then◌ {b = c} {us = vs} (◌then◌ {at} {a} {b} {ts} {us} x y) z) =
      let z' : R (at + length a + length b) c vs = subst (λ (n : ℕ). R n c vs) (omega (arith, length-append a b)) z in
      let w : (P ⨾ (Q ⨾ R)) at (a ++ (b ++ c)) (ts ⊕ (us ⊕ vs)) = x then (y then z') in
      subst (λ (l : List ℕ). (P ⨾ (Q ⨾ R)) at l ((ts ⊕ us) ⊕ vs)) (sym (append_assoc a b c)) (subst (λ (us : Trees). (P ⨾ (Q ⨾ R)) at (a ++ (b ++ c)) us) (sym (⊕_assoc ts us vs)) w)

  pub to_left : (at : ℕ) (a : List ℕ) (ts : Trees) → (P ⨾ (Q ⨾ R)) at a ts → ((P ⨾ Q) ⨾ R) at a ts
  to_left _ _ _ (◌then◌ {at} {a} {ts} x (◌then◌ {a = b} {b = c} {ts = us} {us = vs} y z)) =
      let z' : R (at + length (a ++ b)) c vs = subst (λ (n : ℕ). R n c vs) (omega (arith, length-append a b)) z in
      let w : ((P ⨾ Q) ⨾ R) at ((a ++ b) ++ c) ((ts ⊕ us) ⊕ vs) = (x then y) then z' in
      subst (λ (l : List ℕ). ((P ⨾ Q) ⨾ R) at l (ts ⊕ (us ⊕ vs))) (append_assoc a b c) (subst (λ (us : Trees). ((P ⨾ Q) ⨾ R) at ((a ++ b) ++ c) us) (⊕_assoc ts us vs) w)

-- an envelope's length: n, in its one form
abbrev Sized : ℕ → List ℕ → Type 0
Sized n a = ((a ≡ length_bytes two_bytes n) × (n < 65536)) ⊎ ((a ≡ 0 ∷ (0 ∷ length_bytes four_bytes n)) × (65540 ≤ n))

sized : (n at : ℕ) (a : List ℕ) (ts : Trees) → EnvLen n at a ts → (ts ≡ end) × Sized n a
sized n _ _ _ (first (these (short h))) = (refl, inl (refl, h))
sized n _ _ _ (other (met lo (◌then◌ (◌then◌ byte.it byte.it) (these (long h))))) = (refl, inr (refl, lo))

-- .. is what the writer gives for k bytes behind it
head_is : (n k : ℕ) (a : List ℕ) → n ≡ 1 + length a + k → Sized n a → (a ≡ envelope_length k) × (1 + length a ≡ head_size k) × (n ≡ envelope_size k)
head_is n k a all (inl (q, h)) =
    let two : length a ≡ 2 = ap length q in
    let same : n ≡ 3 + k = omega arith in
    rw (le-leb (3 + k) 65535 (omega arith)) (q ∙ ap (length_bytes two_bytes) same, omega arith, same)
head_is n k a all (inr (q, h)) =
    let six : length a ≡ 6 = ap length q in
    let same : n ≡ 7 + k = omega arith in
    rw (lt-leb (3 + k) 65535 (omega arith)) (q ∙ ap (λ (x : ℕ). 0 ∷ (0 ∷ length_bytes four_bytes x)) same, omega arith, same)

sized_by : (k at : ℕ) → envelope_size k ≤ envelope_most → EnvLen (envelope_size k) at (envelope_length k) end
sized_by k at h = by (is_short k) refl h
  where
    by : (b : Bool) → is_short k ≡ b → pick b (3 + k) (7 + k) ≤ envelope_most → EnvLen (pick b (3 + k) (7 + k)) at (pick b (length_bytes two_bytes (3 + k)) (0 ∷ (0 ∷ length_bytes four_bytes (7 + k)))) end
    by true q h = let l = leb-true (3 + k) 65535 q in first (these (short (omega arith)))
    by false q h = let l = leb-false (3 + k) 65535 q in other (met (omega arith) ((byte.it then byte.it) then these (long (omega arith))))

head_long : (k : ℕ) → (1 + length (envelope_length k) ≡ head_size k) × (1 + length (envelope_length k) + k ≡ envelope_size k)
head_long k = by (is_short k)
  where
    by : (b : Bool) → (1 + length (pick b (length_bytes two_bytes (3 + k)) (0 ∷ (0 ∷ length_bytes four_bytes (7 + k)))) ≡ pick b 3 7) × (1 + length (pick b (length_bytes two_bytes (3 + k)) (0 ∷ (0 ∷ length_bytes four_bytes (7 + k)))) + k ≡ pick b (3 + k) (7 + k))
    by true = (refl, refl)
    by false = (refl, refl)

-- what stands behind identifier and length
pub record Opened (kind id : ℕ) (P : Syntax) (at : ℕ) (a : List ℕ) (ts : Trees) : Type 0 where
  pub body : List ℕ
  pub held : Trees
  pub is : a ≡ id ∷ (envelope_length (length body) ++ body)
  pub trees : ts ≡ tree kind 0 at [] held end
  pub fits : envelope_size (length body) ≤ envelope_most
  pub inside : P (at + head_size (length body)) body held

module _ (kind id : ℕ) (H P : Syntax) where
  abbrev Whole : ℕ → Syntax
  Whole n = (byte id ⨾ (EnvLen n ⨾ H)) ⨾ P

  parted : (n at : ℕ) (a : List ℕ) (ts : Trees) → n ≡ length a → n ≤ envelope_most → Whole n at a ts → Opened kind id (H ⨾ P) at a (tree kind 0 at [] ts end)
  parted n _ _ _ all fits (◌then◌ {b = d} {us = vs} (◌then◌ {at} byte.it (◌then◌ {a = b} {b = c} {ts = us} {us = ws} len h)) p) = at_once (sized n (at + 1) b us len)
    where
      at_once : (us ≡ end) × Sized n b → Opened kind id (H ⨾ P) at (((id ∷ []) ++ (b ++ c)) ++ d) (tree kind 0 at [] ((end ⊕ (us ⊕ ws)) ⊕ vs) end)
      at_once (none, len) =
          let (same, head, whole) = head_is n (length (c ++ d)) b (omega (arith, all, length-append (b ++ c) d, length-append b c, length-append c d)) len in
          let h' : H (at + head_size (length (c ++ d))) c ws = subst (λ (x : ℕ). H x c ws) (omega (arith, head)) h in
          let p' : P (at + head_size (length (c ++ d)) + length c) d vs = subst (λ (x : ℕ). P x d vs) (omega (arith, head, length-append b c)) p in
          record {
            body = c ++ d;
            held = ws ⊕ vs;
            is = ap (λ (l : List ℕ). id ∷ l) (append_assoc b c d ∙ ap (λ (l : List ℕ). l ++ (c ++ d)) same);
            trees = ap (λ (x : Trees). tree kind 0 at [] ((x ⊕ ws) ⊕ vs) end) none;
            fits = omega (arith, whole);
            inside = h' then p';
          }

  pub opened : (at : ℕ) (a : List ℕ) (ts : Trees) → envelope kind Whole at a ts → Opened kind id (H ⨾ P) at a ts
  opened _ _ _ (of {at} {bytes} {ts} fits x) = parted (length bytes) at bytes ts refl fits x

  pub closed : (at : ℕ) (body : List ℕ) (held : Trees) → envelope_size (length body) ≤ envelope_most → (H ⨾ P) (at + head_size (length body)) body held → envelope kind Whole at (id ∷ (envelope_length (length body) ++ body)) (tree kind 0 at [] held end)
  closed at _ _ fits (◌then◌ {a = c} {b = d} {ts = ws} {us = vs} h p) =
      let k = length (c ++ d) in
      let b = envelope_length k in
      let whole = (id ∷ (b ++ c)) ++ d in
      let (head, all) = head_long k in
      let long : length whole ≡ envelope_size k = omega (arith, all, length-append (b ++ c) d, length-append b c, length-append c d) in
      let len : EnvLen (length whole) (at + 1) b end = subst (λ (x : ℕ). EnvLen x (at + 1) b end) (sym long) (sized_by k (at + 1) fits) in
      let h' : H (at + 1 + length b) c ws = subst (λ (x : ℕ). H x c ws) (omega (arith, head)) h in
      let p' : P (at + length (id ∷ (b ++ c))) d vs = subst (λ (x : ℕ). P x d vs) (omega (arith, head, length-append b c)) p in
      let x : Whole (length whole) at whole (ws ⊕ vs) = (byte.it then (len then h')) then p' in
      let y : envelope kind Whole at whole (tree kind 0 at [] (ws ⊕ vs) end) = of {bytes = whole} (omega (arith, long, fits)) x in
      subst (λ (l : List ℕ). envelope kind Whole at (id ∷ l) (tree kind 0 at [] (ws ⊕ vs) end)) (append_assoc b c d) y
