-- `class::Classes::new`: each is its kind's, by one computed test.
use Prim.Native.Nat.{ℕ}
use mathlib.Core.List.{List, [], ◌∷◌}
use Rattle.meaning.specs.Words.{occurs, word_of}
use Rattle.skips.specs.Classing.{classes_held}
use native.Mathlib.Omega.{arith}
use Rattle.skips.proofs.class.Classes.new.Goals as goal

abbrev numbers : List ℕ
numbers =
    0x0000 ∷ 0x4000 ∷ 0x4000 ∷ 0x0010 ∷ 0x0010 ∷ 0x0000 ∷ 0x0000 ∷ 0x0000 ∷ 0x1400 ∷ 0x0000 ∷ 0x0000 ∷ 0x0000 ∷ 0x1004 ∷ 0x1008 ∷ 0x1200 ∷ 0x2000 ∷ 0x0000 ∷ 0x3000 ∷ 0x1000 ∷ 0x0000 ∷ 0x3000 ∷ 0x3000 ∷ 0x0020 ∷ 0x0040 ∷ 0x0080 ∷ 0x0100 ∷ 0x3000 ∷ 0x0001 ∷ 0x3000 ∷ 0x0800 ∷ []

pub invariant_of-result : goal.invariant_of-result
unfolding word_of occurs
invariant_of-result c = record { are = classes_held numbers tt (omega arith) }
