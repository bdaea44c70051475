-- The number that two coded digits say.
use Rattle.std.specs.Prelude.{ℕ, ◌≤◌, ◌<◌, List, ◌≡◌, get_or}
use Rattle.std.proofs.Common.{ap, ◌∙◌, arith}
use Rattle.meaning.specs.Bytes.{two_digits}

-- two digits of any byte
pub record PairAt (bytes : List ℕ) (j two : ℕ) : Type 0 where
  pub is : two ≡ two_digits (get_or bytes j 0)
  pub small : two ≤ 154

pub pair_small : (s : List ℕ) (j : ℕ) {b two : ℕ} → b < 256 → b ≡ get_or s j 0 → two ≡ two_digits b → PairAt s j two
pair_small s j h q p = record { is = p ∙ ap two_digits q; small = omega arith }
