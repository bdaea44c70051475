-- What an owner has among its rows, and when its rows can be found by hops.
use Rattle.std.specs.Prelude.{ℕ, Option, Some, None, ◌+◌, ◌≤◌, ◌<◌, List, Bool, false, ◌&&◌, ◌||◌, ◌≡◌, eqb, ltb}
use Rattle.meaning.specs.Skips.{Rank, belongs, Skips, right, wrong_at}
use Rattle.meaning.specs.Memory.{room_of}
use Rattle.laws_steps.specs.Hopping.{rank_at, AllRight}
use Rattle.skips.specs.declared.owner.Owner.{Owner}
use Rattle.skips.specs.declared.owner.Owner.TheVariants.{Nothing, Deeper, Envelope, Agent, Addresses, Valued, Encrypted, OwnKey}

-- told the owner's level: deeper; deeper, or beside it and of a kind above this one; or beside it and of one of two kinds
abbrev pub deeper_test : ℕ → Rank → Bool
deeper_test at s = ltb at s.level

abbrev pub above_test : ℕ → ℕ → Rank → Bool
above_test above at s = ltb at s.level || eqb s.level at && ltb above s.kind

abbrev pub beside_test : ℕ → ℕ → ℕ → Rank → Bool
beside_test one other at s = eqb s.level at && (eqb s.kind one || eqb s.kind other)

-- whether a row belongs to an owner of this level
abbrev pub owns : Owner → ℕ → Rank → Bool
owns Nothing at s = false
owns Deeper at s = deeper_test at s
owns Envelope at s = above_test 2 at s
owns Agent at s = above_test 15 at s
owns Addresses at s = beside_test 17 17 at s
owns Valued at s = beside_test 20 21 at s
owns Encrypted at s = beside_test 26 26 at s
owns OwnKey at s = beside_test 28 28 at s

-- to row i belongs what passes this test, which is told its level
abbrev pub Owned : List ℕ → ℕ → (ℕ → Rank → Bool) → Type 0
Owned m i test = (s : Rank) → belongs (rank_at m i) s ≡ test (rank_at m i).level s

-- row i of n, where all rows are there and the skip numbers behind it are right
pub record Hoppable (m : List ℕ) (n i : ℕ) : Type 0 where
  pub inside : i < n
  pub room : n ≤ room_of m
  pub behind : AllRight m n (i + 1)

-- what is said of skip numbers: this row is the lowest whose number is wrong, or all are right
abbrev pub held_as : Option ℕ → Skips
held_as None = right
held_as (Some i) = wrong_at i
