-- An envelope's identifier and length: each refusal in its order, and the declared bytes as places.
use Prim.Native.Nat.{ℕ, zero, suc, ◌+◌, ◌-◌, ◌*◌, ◌≤◌, ◌<◌}
use mathlib.Core.List.{List, [], ◌∷◌}
use Rattle.std.specs.Prelude.{Bool, true, false, ◌≡◌, get_or}
use Rattle.std.proofs.Math.Path.{refl, ap}
use Rattle.std.proofs.Common.{sym, ◌∙◌, take_all}
use native.Mathlib.Omega.{arith}
use Rattle.std.proofs.Math.ListN.{length, take, drop}
use borrow.Author.Tests.{lt-ltb, le-ltb, ne_eqb}
use Rattle.meaning.specs.Bytes.{counted, high_first}
use Rattle.meaning.specs.Told.{Told}
use Rattle.meaning.specs.Headers.{Answer, refused, envelope_most, Onward, envelope, short_least, long_least, sized, Identifier, neither, identifier_of, header}
use Rattle.meaning.specs.Headers as meaning
use Rattle.laws_steps.specs.From.{from, from_length, from_end, from_cons, from_drop}
use Rattle.laws_steps.specs.HighFirst.{high_few, high_two, high_four}
use Rattle.laws_steps.specs.Finishing.{opened}

pub from_all : (s : List ℕ) → from s 0 (length s) ≡ s
unfolding from
from_all s = take_all (length s - 0) s (omega arith)

take_from : (s : List ℕ) (n at end : ℕ) → at + n ≤ end → end ≤ length s → take n (from s at end) ≡ from s at (at + n)
take_from s zero at end h k = sym (from_end s at (at + 0) (omega arith))
take_from s (suc n) at end h k =
    let q : at + 1 + n ≡ at + suc n = omega arith in
    ap (take (suc n)) (from_cons s at end (omega arith) k)
    ∙ ap (λ (x : List ℕ). get_or s at 0 ∷ x) (take_from s n (at + 1) end (omega arith) k ∙ ap (from s (at + 1)) q)
    ∙ sym (from_cons s at (at + suc n) (omega arith) (omega arith))

-- The declared length

module _ (s : List ℕ) (base : Bool) (least at head n : ℕ) (room : at + head ≤ length s) where
  abbrev pub Whole : Told → Onward → Answer
  Whole t more = envelope t base least at head n (from s (at + head) (length s)) more

  pub too_low : n < least → (t : Told) (more : Onward) → Whole t more ≡ refused 4 (at + 1)
  unfolding envelope
  too_low h t more = rw (lt-ltb n least h) refl

  module _ (low : least ≤ n) where
    pub too_long : envelope_most < n → (t : Told) (more : Onward) → Whole t more ≡ refused 5 (at + 1)
    unfolding envelope
    too_long h t more = rw (le-ltb n least low, lt-ltb envelope_most n h) refl

    module _ (high : n ≤ envelope_most) where
      all_is : head + length (from s (at + head) (length s)) ≡ length s - at
      all_is = omega (arith, from_length s (at + head) (length s) room (omega arith))

      pub too_far : length s - at < n → (t : Told) (more : Onward) → Whole t more ≡ refused 2 (length s)
      unfolding envelope
      too_far h t more =
          let q : at + head + length (from s (at + head) (length s)) ≡ length s = omega (arith, from_length s (at + head) (length s) room (omega arith)) in
          rw (le-ltb n least low, le-ltb envelope_most n high, lt-ltb (head + length (from s (at + head) (length s))) n (omega (arith, all_is)), q) refl

      pub opens_at : head ≤ n → at + n ≤ length s → (t : Told) (more : Onward) → Whole t more ≡ opened t more s at base (at + head) (at + n)
      unfolding envelope
      opens_at h l t more =
          let q : at + head + (n - head) ≡ at + n = omega arith in
          let front : take (n - head) (from s (at + head) (length s)) ≡ from s (at + head) (at + n) = take_from s (n - head) (at + head) (length s) (omega arith) (omega arith) ∙ ap (from s (at + head)) q in
          let d : drop (n - head) (from s (at + head) (length s)) ≡ from s (at + n) (length s) = from_drop s (n - head) (at + head) (length s) (omega arith) (omega arith) ∙ ap (λ (x : ℕ). from s x (length s)) q in
          rw (le-ltb n least low, le-ltb envelope_most n high, le-ltb (head + length (from s (at + head) (length s))) n (omega (arith, all_is)), front, d) refl

-- The length's bytes

module _ (s : List ℕ) (at : ℕ) (base : Bool) (here : at < length s) where
  -- an envelope from its length on
  abbrev pub Sized : Told → Onward → Answer
  Sized t more = sized t base at (suc (length (from s (at + 1) (length s)))) more (high_first 2 0 (from s (at + 1) (length s)))

  all_of : at + suc (length (from s (at + 1) (length s))) ≡ length s
  all_of = omega (arith, from_length s (at + 1) (length s) (omega arith) (omega arith))

  -- "2: input ends inside identifier or length"
  pub no_length : length s - at < 3 → (t : Told) (more : Onward) → Sized t more ≡ refused 2 (length s)
  no_length h t more = rw (high_few 2 0 (from s (at + 1) (length s)) (omega (arith, from_length s (at + 1) (length s) (omega arith) (omega arith))), all_of) refl

  module _ (n : ℕ) (room : 3 ≤ length s - at) (is : n ≡ 256 * get_or s (at + 1) 0 + get_or s (at + 1 + 1) 0) where
    short_length : high_first 2 0 (from s (at + 1) (length s)) ≡ counted n (from s (at + 3) (length s))
    short_length =
        let q : at + 1 + 2 ≡ at + 3 = omega arith in
        high_two s (length s) (at + 1) (omega arith) (omega arith) ∙ rw (← is, q) refl

    pub short_form : (n ≡ 0 → ⊥) → (t : Told) (more : Onward) → Sized t more ≡ envelope t base short_least at 3 n (from s (at + 3) (length s)) more
    short_form h t more = rw (short_length, ne_eqb n 0 h) refl

    pub no_long_length : n ≡ 0 → length s - at < 7 → (t : Told) (more : Onward) → Sized t more ≡ refused 2 (length s)
    no_long_length z h t more =
        rw (short_length, z, high_few 4 0 (from s (at + 3) (length s)) (omega (arith, from_length s (at + 3) (length s) (omega arith) (omega arith))), all_of) refl

    pub long_form : (k : ℕ) → n ≡ 0 → 7 ≤ length s - at
        → k ≡ 65536 * (256 * get_or s (at + 3) 0 + get_or s (at + 3 + 1) 0) + (256 * get_or s (at + 3 + 2) 0 + get_or s (at + 3 + 2 + 1) 0)
        → (t : Told) (more : Onward) → Sized t more ≡ envelope t base long_least at 7 k (from s (at + 7) (length s)) more
    long_form k z h w t more =
        let q : at + 3 + 4 ≡ at + 7 = omega arith in
        let l : high_first 4 0 (from s (at + 3) (length s)) ≡ counted k (from s (at + 7) (length s)) = high_four s (length s) (at + 3) (omega arith) (omega arith) ∙ rw (← w, q) refl in
        rw (short_length, z, l) refl

-- The identifier, and how many envelopes may still come

abbrev pub identifier_is : Bool → Identifier
identifier_is true = meaning.base
identifier_is false = meaning.extension

-- the byte at a place opens such an envelope
unfoldable pub Identified : List ℕ → ℕ → Bool → Type 0
Identified s at isBase = identifier_of (get_or s at 0) ≡ identifier_is isBase

header_empty : (left : ℕ) (t : Told) (at : ℕ) → header left t at [] ≡ refused 2 at
unfolding header
header_empty zero t at = refl
header_empty (suc left) t at = refl

header_neither : (left : ℕ) (t : Told) (at b : ℕ) (s : List ℕ) → identifier_of b ≡ neither → header left t at (b ∷ s) ≡ refused 3 at
unfolding header
header_neither zero t at b s h = rw h refl
header_neither (suc left) t at b s h = rw h refl

header_seventeenth : (t : Told) (at b : ℕ) (base : Bool) (s : List ℕ) → identifier_of b ≡ identifier_is base → header 0 t at (b ∷ s) ≡ refused 5 at
unfolding header
header_seventeenth t at b true s h = rw h refl
header_seventeenth t at b false s h = rw h refl

header_more : (left : ℕ) (t : Told) (at b : ℕ) (base : Bool) (s : List ℕ) → identifier_of b ≡ identifier_is base → header (suc left) t at (b ∷ s) ≡ sized t base at (suc (length s)) (header left t) (high_first 2 0 s)
unfolding header
header_more left t at b true s h = rw h refl
header_more left t at b false s h = rw h refl

module _ (s : List ℕ) (at left : ℕ) (t : Told) where
  abbrev From : Answer
  From = header left t at (from s at (length s))

  -- "2: input ends inside identifier or length"
  pub no_identifier : length s ≤ at → From ≡ refused 2 at
  no_identifier k = rw (from_end s at (length s) k) (header_empty left t at)

  module _ (here : at < length s) where
    byte_at : from s at (length s) ≡ get_or s at 0 ∷ from s (at + 1) (length s)
    byte_at = from_cons s at (length s) here (omega arith)

    pub no_envelope : identifier_of (get_or s at 0) ≡ neither → From ≡ refused 3 at
    no_envelope h = rw byte_at (header_neither left t at (get_or s at 0) (from s (at + 1) (length s)) h)

    module _ (base : Bool) (known : Identified s at base) where
      pub one_too_many : left ≡ 0 → From ≡ refused 5 at
      unfolding Identified
      one_too_many z = rw (byte_at, z) (header_seventeenth t at (get_or s at 0) base (from s (at + 1) (length s)) known)

      pub may_open : (left ≡ 0 → ⊥) → From ≡ Sized s at base here t (header (left - 1) t)
      unfolding Identified
      may_open h =
          let q : left ≡ suc (left - 1) = omega arith in
          ap (λ (x : List ℕ). header left t at x) byte_at ∙ ap (λ (k : ℕ). header k t at (get_or s at 0 ∷ from s (at + 1) (length s))) q
          ∙ header_more (left - 1) t at (get_or s at 0) base (from s (at + 1) (length s)) known
