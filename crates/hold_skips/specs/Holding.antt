-- What the pass over given skip numbers is told of those that it has held, and what a turn of it says.
use Rattle.std.specs.Prelude.{ℕ, Option, Some, None, suc, ◌≤◌, ◌<◌, List, true, false, ◌≡◌, eqb}
use Rattle.meaning.specs.Basics.{pick}
use Rattle.meaning.specs.Memory.{room_of}
use Rattle.laws_steps.specs.Hopping.{rank_at, given_at, AllRight}
use Rattle.laws_tables.specs.Neighbours.{is_follower}
use Rattle.skips.specs.Ends.{IsTop}
use Rattle.hold_skips.specs.declared.Held.{Held}

-- row i where its skip number is the right one, and the next envelope's row; else none
abbrev pub held_if : ℕ → ℕ → ℕ → ℕ → Option Held
held_if given right i end = pick (eqb given right) (Some (record { next = i; end = end })) None

-- the skip numbers from row `next` on are right, and the rows up to `end`, an envelope's or n, are inside whatever envelope opens before them
pub record HeldFrom (m : List ℕ) (n next end : ℕ) : Type 0 where
  pub room : n ≤ room_of m
  pub few : next ≤ end
  pub most : end ≤ n
  pub right : AllRight m n next
  pub inner : (j : ℕ) → next ≤ j → j < end → 3 ≤ (rank_at m j).kind
  pub free : next < n → is_follower (rank_at m next).kind ≡ false
  pub there : end < n → IsTop (rank_at m end)

-- what a turn answers: the skip numbers from this row on are right; or none, where one is wrong
unfoldable pub HeldTurn : List ℕ → ℕ → ℕ → Option Held → Type 0
HeldTurn m n next (Some h) = HeldFrom m n h.next h.end × (h.next < next)
HeldTurn m n next None = Unit {0}

-- row i has level 0 and this skip number
unfoldable pub EnvelopeHeld : List ℕ → ℕ → ℕ → Option Held → Type 0
EnvelopeHeld m i end (Some h) = (h ≡ record { next = i; end = i }) × ((rank_at m i).level ≡ 0) × (given_at m i ≡ end)
EnvelopeHeld m i end None = Unit {0}

-- row `last` is of a kind that follows another, and what stands behind it is held
pub record RunToHold (m : List ℕ) (n last kind end : ℕ) : Type 0 where
  pub from : HeldFrom m n (suc last) end
  pub kind_is : kind ≡ (rank_at m last).kind
  pub follower : is_follower kind ≡ true
