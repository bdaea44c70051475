-- Numbers of some bytes, high first, by the places of their bytes.
use Rattle.std.specs.Prelude.{ℕ, zero, suc, ◌+◌, ◌*◌, ◌≤◌, ◌<◌, List, [], ◌∷◌, ◌≡◌, length}
use Rattle.std.proofs.Math.Path.{refl}
use native.Mathlib.Omega.{arith}
use Rattle.std.proofs.Math.ListN.{get_or}
use Rattle.meaning.specs.Bytes.{counted, short, high_first}
use Rattle.laws_steps.specs.From.{from, from_cons}

pub high_few : (w n : ℕ) (t : List ℕ) → length t < w → high_first w n t ≡ short
unfolding high_first
high_few zero n t h = absurd (omega arith)
high_few (suc w) n [] h = refl
high_few (suc w) n (b ∷ t) h = high_few w (256 * n + b) t (omega arith)

module _ (s : List ℕ) (end at : ℕ) (l : end ≤ length s) where
  pub high_one : at + 1 ≤ end → high_first 1 0 (from s at end) ≡ counted (get_or s at 0) (from s (at + 1) end)
  unfolding high_first
  high_one h =
      let q : 256 * 0 + get_or s at 0 ≡ get_or s at 0 = omega arith in
      rw (from_cons s at end (omega arith) l, q) refl

  pub high_two : at + 2 ≤ end → high_first 2 0 (from s at end) ≡ counted (256 * get_or s at 0 + get_or s (at + 1) 0) (from s (at + 2) end)
  unfolding high_first
  high_two h =
      let q : 256 * (256 * 0 + get_or s at 0) + get_or s (at + 1) 0 ≡ 256 * get_or s at 0 + get_or s (at + 1) 0 = omega arith in
      let p : at + 1 + 1 ≡ at + 2 = omega arith in
      rw (from_cons s at end (omega arith) l, from_cons s (at + 1) end (omega arith) l, q, p) refl

  pub high_four : at + 4 ≤ end
      → high_first 4 0 (from s at end) ≡ counted (65536 * (256 * get_or s at 0 + get_or s (at + 1) 0) + (256 * get_or s (at + 2) 0 + get_or s (at + 2 + 1) 0)) (from s (at + 4) end)
  unfolding high_first
  high_four h =
      let p : at + 1 + 1 ≡ at + 2 = omega arith in
      let r : at + 2 + 1 + 1 ≡ at + 4 = omega arith in
      let a = get_or s at 0 in
      let b = get_or s (at + 1) 0 in
      let c = get_or s (at + 2) 0 in
      let d = get_or s (at + 2 + 1) 0 in
      let q : 256 * (256 * (256 * (256 * 0 + a) + b) + c) + d ≡ 65536 * (256 * a + b) + (256 * c + d) = omega arith in
      rw (from_cons s at end (omega arith) l, from_cons s (at + 1) end (omega arith) l, p, from_cons s (at + 2) end (omega arith) l, from_cons s (at + 2 + 1) end (omega arith) l, r, q) refl
