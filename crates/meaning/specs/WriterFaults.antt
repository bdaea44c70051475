-- What each refusal of the writer says, over document 01's grammar (`Grammar`), and when it writes: no clause speaks of how it goes about it.
use Rattle.std.specs.Prelude.{ℕ, ◌≤◌, ◌<◌, List, [], ◌∷◌, ◌++◌, map, ◌≡◌, length}
use Rattle.meaning.specs.Told.{Edition, known, unknown, label_of}
use Rattle.meaning.specs.Skips.{right, wrong_at}
use Rattle.meaning.specs.Headers.{Placed, meant, envelopes_most}
use Rattle.meaning.specs.Writing.{Cell, cell}
use Rattle.meaning.specs.Memory.{cells_of, skips_held}
use Rattle.meaning.specs.Grammar.{Mark, Header, Small, PastLimit}

-- lent rows are a table of the edition, limits aside: each is there, and they say what the grammar's rows say; with that table's bytes, and its envelopes' rows and sizes
pub record RowsAre (e : Edition) (cells : List Cell) (bytes : List ℕ) (marks : List Mark) : Type 0 where
  pub rows : List Placed
  pub header : Header e 0 0 bytes rows marks
  pub say : cells ≡ map cell (map meant rows)

pub record AreTable (e : Edition) (cells : List Cell) : Type 0 where
  pub bytes : List ℕ
  pub marks : List Mark
  pub are : RowsAre e cells bytes marks

-- rows begin a table if some rows behind them make one
pub record BeginTable (e : Edition) (cells : List Cell) : Type 0 where
  pub more : List Cell
  pub table : AreTable e (cells ++ more)

-- with the next of the rows none do; where no row is left, they are none
abbrev pub NoneWithNext : Edition → List Cell → List Cell → Type 0
NoneWithNext e front [] = AreTable e front → ⊥
NoneWithNext e front (c ∷ rest) = BeginTable e (front ++ (c ∷ [])) → ⊥

-- "15: rows up to here begin no table of this edition, or start plus length passes the pool, or rows or slice end early, row number from 0": the lowest such row
pub record StopsAt (e : Edition) (cells : List Cell) (i : ℕ) : Type 0 where
  pub front : List Cell
  pub rest : List Cell
  pub parts : cells ≡ front ++ rest
  pub count : length front ≡ i
  pub begins : BeginTable e front
  pub none : NoneWithNext e front rest

-- a table whose skip numbers are right
pub record GoodRows (e : Edition) (rows pool bytes : List ℕ) (marks : List Mark) : Type 0 where
  pub are : RowsAre e (cells_of pool rows) bytes marks
  pub skips : skips_held rows ≡ right

-- "It checks 1, then 15 over all rows, then 5 (place: the envelope's row), then 16"
pub data WriterFault (edition : ℕ) (rows pool : List ℕ) (room : ℕ) : ℕ → ℕ → Type 0 where
  no_edition : label_of edition ≡ unknown → WriterFault edition rows pool room 1 0
  no_table : {e : Edition} {i : ℕ} → label_of edition ≡ known e → StopsAt e (cells_of pool rows) i → WriterFault edition rows pool room 15 i
  -- order 7: "15 for a wrong skip number, at its row, after 15's other faults"
  wrong_skip_lem : {e : Edition} {i : ℕ} → label_of edition ≡ known e → AreTable e (cells_of pool rows) → skips_held rows ≡ wrong_at i → WriterFault edition rows pool room 15 i
  past_limit : {e : Edition} {i : ℕ} {bytes : List ℕ} {marks : List Mark} → label_of edition ≡ known e → GoodRows e rows pool bytes marks → PastLimit envelopes_most marks i → WriterFault edition rows pool room 5 i
  -- "16: output too short, bytes needed"
  no_room : {e : Edition} {bytes : List ℕ} {marks : List Mark} → label_of edition ≡ known e → GoodRows e rows pool bytes marks → Small marks → length marks ≤ envelopes_most → room < length bytes
      → WriterFault edition rows pool room 16 (length bytes)

-- when rows are written, and as which bytes
pub record WritesAs (edition : ℕ) (rows pool : List ℕ) (room : ℕ) (bytes : List ℕ) : Type 0 where
  pub e : Edition
  pub marks : List Mark
  pub label : label_of edition ≡ known e
  pub good : GoodRows e rows pool bytes marks
  pub small : Small marks
  pub few : length marks ≤ envelopes_most
  pub fits : length bytes ≤ room
