-- What the pass over rows that were read is told, and what it makes of a row, of an envelope and of them all.
use Rattle.std.specs.Prelude.{ℕ, Option, Some, None, suc, ◌-◌, ◌%◌, ◌≤◌, ◌<◌, List, true, false, ◌⊎◌, ◌≡◌, length}
use Rattle.meaning.specs.Skips.{is_envelope}
use Rattle.meaning.specs.Words.{word_of, words_of}
use Rattle.meaning.specs.Memory.{room_of, laid_over}
use Rattle.laws_steps.specs.Hopping.{rank_at, ranks_for, ranks_at}
use Rattle.laws_tables.specs.Skipping.{skips_laid}
use Rattle.laws_tables.specs.Wording.{Split}
use Rattle.laws_tables.specs.Neighbours.{is_follower}
use Rattle.laws_tables.specs.Adjoining.{AllNeighbours}
use Rattle.table.specs.Rows.{u32_most}
use Rattle.skips.specs.Ends.{IsTop}
use Rattle.lay_skips.specs.declared.Laid.{Laid}

-- n rows in memory as a header's stand: the first is an envelope's own, each is, or of a kind above theirs; and as neighbours stand
pub record Stands (m : List ℕ) (n : ℕ) : Type 0 where
  pub room : n ≤ room_of m
  pub most : n ≤ u32_most
  pub opens : 0 < n → IsTop (rank_at m 0)
  pub each : (j : ℕ) → j < n → (3 ≤ (rank_at m j).kind) ⊎ IsTop (rank_at m j)
  pub beside : AllNeighbours m n

-- .. that have their skip numbers from row `end` on, which is an envelope's or n
pub record LaidFrom (m : List ℕ) (n : ℕ) (rows : List ℕ) (end : ℕ) : Type 0 where
  pub stands : Stands m n
  pub some : 0 < end
  pub few : end ≤ n
  pub there : end < n → IsTop (rank_at m end)
  pub is : rows ≡ skips_laid m n (n - end)

-- .. and from row `next` on, inside the envelope before `end`, with what has been seen of its word
pub record LaidBack (m : List ℕ) (n end : ℕ) (rows : List ℕ) (next word : ℕ) : Type 0 where
  pub stands : Stands m n
  pub some : 0 < next
  pub most : next ≤ end
  pub few : end ≤ n
  pub is : rows ≡ skips_laid m n (n - next)
  pub inner : (j : ℕ) → next ≤ j → j < end → 3 ≤ (rank_at m j).kind
  pub free : next < n → is_follower (rank_at m next).kind ≡ false
  pub seen : word % 4096 ≡ word_of (ranks_for m next (end - next))

-- row i is the envelope's own: the rows behind it up to `end` have their skip numbers, and this is its word
pub record InsideLaid (m : List ℕ) (n end : ℕ) (rows : List ℕ) (i word : ℕ) : Type 0 where
  pub less : i < end
  pub opened : IsTop (rank_at m i)
  pub inner : (j : ℕ) → i < j → j < end → 3 ≤ (rank_at m j).kind
  pub is : rows ≡ skips_laid m n (n - suc i)
  pub carries : word ≡ word_of (ranks_for m (suc i) (end - suc i))

-- what one turn answers: the rows from this one on are laid; or nothing is, the row before them being the envelope's own
unfoldable pub Turned : List ℕ → ℕ → ℕ → ℕ → ℕ → List ℕ → Option Laid → Type 0
Turned m n end next word rows (Some laid) = LaidBack m n end rows laid.row laid.word × (laid.row < next)
Turned m n end next word rows None = InsideLaid m n end rows (next - 1) (word % 4096)

-- row `last` follows another, and the row behind it, from which on all are laid, does not
pub record RunBefore (m : List ℕ) (n : ℕ) (rows : List ℕ) (last kind : ℕ) : Type 0 where
  pub stands : Stands m n
  pub inside : last < n
  pub is : rows ≡ skips_laid m n (n - suc last)
  pub kind_is : kind ≡ (rank_at m last).kind
  pub follower : is_follower kind ≡ true
  pub free : suc last < n → is_follower (rank_at m (suc last)).kind ≡ false

-- row `first` opens the run of rows of this kind up to row `last`, and all are laid
pub record RunLaid (m : List ℕ) (n : ℕ) (rows : List ℕ) (first last kind : ℕ) : Type 0 where
  pub less : first < last
  pub is : rows ≡ skips_laid m n (n - first)
  pub run : (j : ℕ) → first < j → j ≤ last → (rank_at m j).kind ≡ kind
  pub leads : is_follower (rank_at m first).kind ≡ false
  pub inside : is_envelope (rank_at m first).kind ≡ false

-- All rows, and the words that are lent beside them
pub record Finishable (m : List ℕ) (n : ℕ) (words : List ℕ) : Type 0 where
  pub stands : Stands m n
  pub count : ℕ
  pub split : Split count (ranks_at m n 0)
  pub few : count ≤ length words

pub record Finished (m words : List ℕ) (n : ℕ) (rows left : List ℕ) : Type 0 where
  pub rows_are : rows ≡ skips_laid m n n
  pub words_are : left ≡ laid_over words (words_of (ranks_at m n 0))
