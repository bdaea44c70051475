-- A mask of eight bytes, in which a bit says that its byte is below 20: the lowest bit is the first such byte's.
use Rattle.std.specs.Prelude.{ℕ, ◌+◌, ◌%◌, ◌^◌, ◌≤◌, ◌<◌, List, Some, Bool, true, false, ◌≡◌}
use Rattle.std.proofs.Common.{cond, ltb, length, get_or, take, drop, map, replicate, refl, sym, ap, ◌∙◌, arith, w8, w64}
use Rattle.std.proofs.lemmas.Bool.{ltb-true, ltb-false}
use Rattle.std.proofs.lemmas.List.{get_or_past}
use Rattle.std.proofs.lemmas.Nat.Bits.{bit_at-zero, bit_at-trailing_zeros}
use Rattle.std.proofs.lemmas.Simd.{length-chunk, get_or-chunk, length-zip2, get_or-zip2, get_or-replicate, bit_mask_l, mask_l-mod, tops_compared}
use Rattle.std.specs.Int.{bit_at, trailing_zeros}
use Rattle.std.specs.Simd.Lanes.{zip2, mask_l, top}
use Rattle.meaning.specs.Bytes.{line}
use Rattle.values.specs.Stages.{all_text, FirstBelow}
use Rattle.values.proofs.Texts.{all_above, no_text}

abbrev eight : List ℕ → ℕ → List ℕ
eight s at = take 8 (drop at s)

abbrev tests : List ℕ → ℕ → List Bool
tests s at = zip2 ltb (eight s at) (replicate 8 32)

abbrev pub mask : List ℕ → ℕ → ℕ
mask s at = mask_l (map (top 7) (zip2 (λ a b. cond (ltb a b) 255 0) (eight s at) (replicate 8 32))) % 2 ^ 64

-- a bit tells its test
cleared : (b : ℕ) (z : Bool) → ltb b 32 ≡ z → cond {A = ℕ} z 1 0 ≡ 0 → 32 ≤ b
cleared b true q e = absurd (omega arith)
cleared b false q e = ltb-false b 32 q

set_one : (b : ℕ) (z : Bool) → ltb b 32 ≡ z → cond {A = ℕ} z 1 0 ≡ 1 → b < 32
set_one b true q e = ltb-true b 32 q
set_one b false q e = absurd (omega arith)

within : (ms : List Bool) (k n : ℕ) → length ms ≡ n → cond {A = ℕ} (get_or ms k false) 1 0 ≡ 1 → (z : Bool) → ltb k n ≡ z → k < n
within ms k n l e true q = ltb-true k n q
within ms k n l e false q =
    let past : get_or ms k false ≡ false = get_or_past ms k false (omega (arith, l, ltb-false k n q)) in
    let z : ◌≡◌ {A = ℕ} 0 1 = sym (ap (λ (b : Bool). cond {A = ℕ} b 1 0) past) ∙ e in
    absurd (omega arith)

module _ (s : List ℕ) (at : ℕ) (h : at + 8 ≤ length s) where
  long : length (eight s at) ≡ 8
  long = length-chunk at 8 s h

  tests_long : length (tests s at) ≡ 8
  tests_long = length-zip2 ltb (eight s at) (replicate 8 32) long ∙ long

  mask_is : mask s at ≡ mask_l (tests s at)
  mask_is = ap (λ ms. mask_l ms % 2 ^ 64) (tops_compared w8 ltb (eight s at) (replicate 8 32)) ∙ mask_l-mod (tests s at) 64 (omega (arith, tests_long))

  test_at : (k : ℕ) → k < 8 → get_or (tests s at) k false ≡ ltb (get_or s (at + k) 0) 32
  test_at k l =
      get_or-zip2 ltb (eight s at) (replicate 8 32) k 0 0 false (omega (arith, long)) l
      ∙ ap (λ (x : ℕ). ltb x (get_or (replicate 8 32) k 0)) (get_or-chunk at 8 s k 0 l) ∙ ap (ltb (get_or s (at + k) 0)) (get_or-replicate 8 k 32 0 l)

  bit_of : (k : ℕ) → bit_at (mask s at) k ≡ cond (get_or (tests s at) k false) 1 0
  bit_of k = ap (λ (m : ℕ). bit_at m k) mask_is ∙ bit_mask_l (tests s at) k

  bit_is : (k : ℕ) → k < 8 → bit_at (mask s at) k ≡ cond (ltb (get_or s (at + k) 0) 32) 1 0
  bit_is k l = bit_of k ∙ ap (λ (b : Bool). cond b 1 0) (test_at k l)

  above : (k : ℕ) → k < 8 → bit_at (mask s at) k ≡ 0 → 32 ≤ get_or s (at + k) 0
  above k l z = cleared (get_or s (at + k) 0) _ refl (sym (bit_is k l) ∙ z)

  pub none_below : mask s at ≡ 0 → all_text line s at 8 ≡ true
  none_below z = all_above s at 8 (λ k l. above k l (ap (λ (m : ℕ). bit_at m k) z ∙ bit_at-zero k))

  pub some_below : (mask s at ≡ 0 → ⊥) → FirstBelow s at (Some (trailing_zeros w64 (mask s at)))
  some_below some =
      let n = trailing_zeros w64 (mask s at) in
      let lowest = bit_at-trailing_zeros w64 (mask s at) (omega arith) (omega arith) in
      let few : n < 8 = within (tests s at) n 8 tests_long (sym (bit_of n) ∙ lowest.1) _ refl in
      (few, all_above s at n (λ k l. above k (omega arith) (lowest.2 k l)), no_text (get_or s (at + n) 0) (set_one (get_or s (at + n) 0) _ refl (sym (bit_is n few) ∙ lowest.1)))
