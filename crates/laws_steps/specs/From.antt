-- From the lists that are left to places in a slice: `from s at end` are the bytes from a place to the declared end.
use Rattle.std.specs.Prelude.{ℕ, zero, suc, ◌+◌, ◌-◌, ◌≤◌, ◌<◌, List, [], ◌∷◌, ◌≡◌, refl, length, get_or, take, drop}
use Rattle.std.proofs.Common.{ap, ◌∙◌, arith, add-one, length-take, length-drop, drop-cons}

unfoldable pub from : List ℕ → ℕ → ℕ → List ℕ
from s at end = take (end - at) (drop at s)

pub from_length : (s : List ℕ) (at end : ℕ) → at ≤ end → end ≤ length s → length (from s at end) ≡ end - at
unfolding from
from_length s at end h k = omega (arith, length-take (end - at) (drop at s), length-drop at s)

pub from_end : (s : List ℕ) (at end : ℕ) → end ≤ at → from s at end ≡ []
unfolding from
from_end s at end h = let q : end - at ≡ 0 = omega arith in rw q refl

pub from_cons : (s : List ℕ) (at end : ℕ) → at < end → end ≤ length s → from s at end ≡ get_or s at 0 ∷ from s (at + 1) end
unfolding from
from_cons s at end h k =
    let q : end - at ≡ suc (end - (at + 1)) = omega arith in
    rw (q, drop-cons s at 0 (omega arith), add-one at) refl

pub from_drop : (s : List ℕ) (n at end : ℕ) → at + n ≤ end → end ≤ length s → drop n (from s at end) ≡ from s (at + n) end
from_drop s zero at end h k = let q : at ≡ at + 0 = omega arith in ap (λ (x : ℕ). from s x end) q
from_drop s (suc n) at end h k =
    let q : at + 1 + n ≡ at + suc n = omega arith in
    ap (drop (suc n)) (from_cons s at end (omega arith) k) ∙ from_drop s n (at + 1) end (omega arith) k ∙ ap (λ (x : ℕ). from s x end) q
