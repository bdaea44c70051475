-- A row taken off the lent numbers, and the row ahead as a cell of the table.
use Rattle.std.specs.Prelude.{ℕ, ◌+◌, ◌-◌, ◌*◌, ◌≤◌, ◌<◌, List, [], ◌∷◌, Bool, true, false, Option, None, Some, ◌≡◌, refl, length, get_or, take, drop}
use Rattle.std.proofs.Common.{ap, sym, ◌∙◌, subst, arith, le-leb}
use Rattle.std.proofs.lemmas.Bool.{lt-leb}
use Rattle.meaning.specs.Basics.{pick}
use Rattle.meaning.specs.Reading as meaning
use Rattle.meaning.specs.Writing.{Cell, cell, broken}
use Rattle.meaning.specs.Memory.{row_width, room_of, cell_of}
use Rattle.laws_steps.specs.Rows.{whole_rows, row_cell, cells_at, cells_next, cells_last}
use Rattle.table.specs.declared.rows.Row.{Row}
use Rattle.table.specs.declared.rows.Ahead.{Ahead}

abbrev pub u32_most : ℕ
u32_most = 4294967295

-- the numbers of row i
pub record RowIs (rows : List ℕ) (i : ℕ) (r : Row) : Type 0 where
  pub kind_is : r.kind ≡ get_or rows (i * row_width) 0
  pub level_is : r.level ≡ get_or rows (i * row_width + 1) 0
  pub start_is : r.start ≡ get_or rows (i * row_width + 2) 0
  pub length_is : r.length ≡ get_or rows (i * row_width + 3) 0
  pub start_most : r.start ≤ u32_most
  pub length_most : r.length ≤ u32_most

-- what a row of this kind and level says that views these bytes
abbrev pub row_with : ℕ → ℕ → List ℕ → meaning.Row
row_with kind level v = record { kind = kind; level = level; view = v }

-- the bytes that a row views
abbrev pub viewed : List ℕ → Ahead → List ℕ
viewed pool r = take (r.end - r.start) (drop r.start pool)

abbrev pub row_ahead : List ℕ → Ahead → meaning.Row
row_ahead pool r = row_with r.kind r.level (viewed pool r)

-- no row is ahead: the rows end, or what is there views past the pool or is no whole row
abbrev pub NoRow : List Cell → Type 0
NoRow [] = Unit {0}
NoRow (broken ∷ cs) = Unit {0}
NoRow (cell row ∷ cs) = ⊥

pub record RowAhead (pool rows : List ℕ) (i : ℕ) (row : meaning.Row) : Type 0 where
  pub within : i < room_of rows
  pub cells : cells_at pool rows i ≡ cell row ∷ cells_at pool rows (i + 1)

-- r is the row ahead, and its bytes are all in the pool
pub record IsAhead (pool rows : List ℕ) (i : ℕ) (r : Ahead) : Type 0 where
  pub ordered : r.start ≤ r.end
  pub inside : r.end ≤ length pool
  pub short : r.end ≤ r.start + u32_most
  pub row : RowAhead pool rows i (row_ahead pool r)

abbrev pub AheadIs : List ℕ → List ℕ → ℕ → Option Ahead → Type 0
AheadIs pool rows i None = NoRow (cells_at pool rows i)
AheadIs pool rows i (Some r) = IsAhead pool rows i r

-- Laws of the row ahead

pub ahead_end : (pool rows : List ℕ) (i : ℕ) → room_of rows ≤ i → NoRow (cells_at pool rows i)
ahead_end pool rows i h = subst NoRow (sym (cells_last pool rows i h)) (at (whole_rows rows))
  where
    at : (b : Bool) → NoRow (pick b [] (broken ∷ []))
    at true = tt
    at false = tt

module _ (pool rows : List ℕ) {i : ℕ} {n : Row} (h : i < room_of rows) (w : RowIs rows i n) where
  row_cell_lem : row_cell pool rows i ≡ cell_of pool n.kind n.level n.start n.length
  row_cell_lem = rw (w.kind_is, w.level_is, w.start_is, w.length_is) refl

  pub ahead_out : length pool < n.start + n.length → NoRow (cells_at pool rows i)
  ahead_out k =
      let c : cells_at pool rows i ≡ broken ∷ cells_at pool rows (i + 1)
      = cells_next pool rows i h ∙ ap (λ (x : Cell). x ∷ cells_at pool rows (i + 1)) (row_cell_lem ∙ rw (lt-leb (n.start + n.length) (length pool) k) refl) in
      subst NoRow (sym c) tt

  pub ahead_in : n.start + n.length ≤ length pool → IsAhead pool rows i (record { kind = n.kind; level = n.level; start = n.start; end = n.start + n.length })
  ahead_in k =
      let q : n.length ≡ n.start + n.length - n.start = omega arith in
      let c = cells_next pool rows i h
      ∙ ap (λ (x : Cell). x ∷ cells_at pool rows (i + 1))
      (row_cell_lem ∙ (rw (le-leb (n.start + n.length) (length pool) k) refl) ∙ ap (λ (x : ℕ). cell (row_with n.kind n.level (take x (drop n.start pool)))) q) in
      record { ordered = omega arith; inside = k; short = omega (arith, w.length_most); row = record { within = h; cells = c } }

pub no_row_lem : (P : List Cell → Type 0) → P [] → ((cs : List Cell) → P (broken ∷ cs)) → (cs : List Cell) → NoRow cs → P cs
no_row_lem P end out [] x = end
no_row_lem P end out (broken ∷ cs) x = out cs
no_row_lem P end out (cell row ∷ cs) x = absurd x

-- what holds of the row ahead, and where there is none, holds of the cells
pub ahead_cells : (P : List Cell → Type 0) (pool rows : List ℕ) (i : ℕ) (o : Option Ahead) → AheadIs pool rows i o → P [] → ((cs : List Cell) → P (broken ∷ cs)) → ((r : Ahead) → IsAhead pool rows i r → P (cell (row_ahead pool r) ∷ cells_at pool rows (i + 1))) → P (cells_at pool rows i)
ahead_cells P pool rows i None a end out row = no_row_lem P end out (cells_at pool rows i) a
ahead_cells P pool rows i (Some r) a end out row = subst P (sym a.row.cells) (row r a)
