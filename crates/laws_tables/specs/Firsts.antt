-- The first row of level 0 that opens or holds a value with a code: what orders 1 and 8 come down to on a table.
use Rattle.std.specs.Prelude.{ℕ, suc, List, [], ◌∷◌}
use Rattle.meaning.specs.Basics.{pick}
use Rattle.meaning.specs.Skips.{Rank}
use Rattle.meaning.specs.Codes.{has_value}

-- among these rows, the first of them row i; the row behind the last where there is none
unfoldable pub first_from : ℕ → ℕ → List Rank → ℕ
first_from code i [] = i
first_from code i (r ∷ rest) =
    let later : ℕ = first_from code (suc i) rest in
    pick (has_value code r) i later
