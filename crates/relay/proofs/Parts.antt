-- The new envelope over the front of the output, and the old header in the part behind it, which was lent on: the joined header over its front.
use Prim.Native.Nat.{ℕ, ◌-◌}
use mathlib.Core.List.{List, ◌++◌, append_assoc, append-nil}
use mathlib.Core.Path.{◌≡◌, refl, ap, sym, ◌∙◌}
use native.Mathlib.Omega.{arith}
use lib.ListN.{length, take, drop, length-append}
use lib.Seq.{take-length, drop-length, take-append_seam, drop-append_seam}
use borrow.Rule.Slice.PartMut.{put_mid, Post-is}
use Rattle.meaning.specs.Memory.{laid_over}

-- the part behind `new`, with `old` copied over its front
abbrev pub copied : List ℕ → List ℕ → ℕ → List ℕ
copied old laid size = take (length old) old ++ drop (length old) (take (length laid - size) (drop size laid))

part_filled : (new rest old : List ℕ) → put_mid (length new) (length (new ++ rest) - length new) (new ++ rest) (copied old (new ++ rest) (length new)) ≡ new ++ (old ++ drop (length old) rest)
part_filled new rest old =
    let k : length (new ++ rest) - length new ≡ length rest = omega (arith, length-append new rest) in
    rw (k, drop-append_seam new rest, take-append_seam new rest, take-length rest, take-length old, drop-length rest, append-nil (old ++ drop (length old) rest)) refl

pub joined_laid : (output new old laid : List ℕ) (size : ℕ) → length new ≡ size → laid ≡ laid_over output new → put_mid size (length laid - size) laid (copied old laid size) ≡ laid_over output (new ++ old)
unfolding laid_over
joined_laid output new old laid size n l =
    let behind : drop (length old) (drop (length new) output) ≡ drop (length (new ++ old)) output =
    (let k : length old ≡ length (new ++ old) - length new = omega (arith, length-append new old) in ap (λ (x : ℕ). drop x (drop (length new) output)) k)
    ∙ Post-is (length new) (length (new ++ old)) output (omega (arith, length-append new old)) in
    ap (λ (x : List ℕ). put_mid size (length x - size) x (copied old x size)) l
    ∙ ap (λ (x : ℕ). put_mid x (length (new ++ drop (length new) output) - x) (new ++ drop (length new) output) (copied old (new ++ drop (length new) output) x)) (sym n)
    ∙ part_filled new (drop (length new) output) old ∙ ap (λ (x : List ℕ). new ++ (old ++ x)) behind ∙ sym (append_assoc new old (drop (length (new ++ old)) output))
