-- The count of ones by the machine's own is that of 32 binary digits.
use Prim.Native.Nat.{ℕ, zero, suc, ◌+◌, ◌*◌, ◌/◌, ◌%◌, ◌^◌, ◌<◌}
use mathlib.Core.Path.{◌≡◌, refl, ap, ◌∙◌}
use native.Mathlib.Nat.{pow-suc}
use native.Mathlib.Omega.{arith}
use lib.Count.{ones, ones_step}
use Rattle.meaning.specs.Words.{ones_within, ones_of}

ones_none : ones 0 ≡ 0
unfolding ones
ones_none = refl

ones_within_lem : (digits n : ℕ) → n < 2 ^ digits → ones n ≡ ones_within digits n
unfolding ones_within
ones_within_lem zero n h = let q : n ≡ 0 = omega arith in ap ones q ∙ ones_none
ones_within_lem (suc d) n h = let e : 2 ^ suc d ≡ 2 ^ d * 2 = pow-suc 2 d in ones_step n ∙ ap (λ (x : ℕ). n % 2 + x) (ones_within_lem d (n / 2) (omega arith))

pub ones_are : (word : ℕ) → word < 4294967296 → ones word ≡ ones_of word
unfolding ones_of
ones_are word h = ones_within_lem 32 word h
