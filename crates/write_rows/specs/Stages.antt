-- What a stage of the writer promises, by the row ahead of it.
use Rattle.std.specs.Prelude.{ℕ, ◌+◌, ◌≤◌, ◌<◌, List, [], ◌∷◌, ◌++◌, false, ◌≡◌, length, Option, None, Some, Result, Ok, Err}
use Rattle.meaning.specs.Editions.{state, parameters, State, Move}
use Rattle.meaning.specs.Reading.{Row, hit}
use Rattle.meaning.specs.Writing.{Cell, cell, broken, lead, write_value, opens_of}
use Rattle.table.specs.Rows.{row_with, u32_most, RowAhead, viewed}
use Rattle.meaning.specs.Told.{Edition}
use Rattle.meaning.specs.Memory.{room_of}
use Rattle.write_rows.specs.Laying.{Laid, Layable}
use Rattle.write_rows.specs.Bodies.{Body, halt, body_of, opens_number, BodyOnto}
use Rattle.laws_steps.specs.Rows.{cells_at}
use Rattle.write_rows.specs.Rooms.{own_among, NotAmong}
use Rattle.table.specs.declared.rows.Ahead.{Ahead}
use Rattle.write_rows.specs.declared.advance.Onto.{Onto}
use Rattle.write_rows.specs.declared.advance.Misfit.{Misfit}
use Rattle.write_rows.specs.declared.lent.Table.{Table}

-- the row ahead is not of this kind and level
abbrev pub NotOf : ℕ → ℕ → List Cell → Type 0
NotOf kind level [] = Unit {0}
NotOf kind level (broken ∷ cs) = Unit {0}
NotOf kind level (cell row ∷ cs) = row.kind ≡ kind → row.level ≡ level → ⊥

-- or it is r
pub record IsSought (pool rows : List ℕ) (i kind level : ℕ) (r : Ahead) : Type 0 where
  pub of_kind : r.kind ≡ kind
  pub ordered : r.start ≤ r.end
  pub inside : r.end ≤ length pool
  pub short : r.end ≤ r.start + u32_most
  pub row : RowAhead pool rows i (row_with kind level (viewed pool r))

abbrev pub SoughtIs : List ℕ → List ℕ → ℕ → ℕ → ℕ → Option Ahead → Type 0
SoughtIs pool rows i kind level None = NotOf kind level (cells_at pool rows i)
SoughtIs pool rows i kind level (Some r) = IsSought pool rows i kind level r

-- One row, by its own move among some

pub record RowTaken (l : List Move) (level : ℕ) (pool rows : List ℕ) (i : ℕ) (before : List ℕ) (at : ℕ) (after : List ℕ) (p : ℕ) : Type 0 where
  pub row : Row
  pub move : Move
  pub ahead : RowAhead pool rows i row
  pub inner : opens_number (opens_of row) ≡ 0
  pub stands : own_among l level row ≡ hit move
  pub laid : Laid before at (lead move ++ write_value move.form row.view) after p

-- what a stage asks: the row ahead is one of the table or its end, and bytes can be laid
pub record StageRequires (rows : List ℕ) (i : ℕ) (part : List ℕ) (at : ℕ) : Type 0 where
  pub inside : i ≤ room_of rows
  pub layable : Layable part at

-- and what one asks that is told its row's kind
pub record TakeRequires (rows : List ℕ) (i kind : ℕ) (part : List ℕ) (at : ℕ) : Type 0 where
  pub inside : i ≤ room_of rows
  pub inner : 3 ≤ kind
  pub layable : Layable part at

-- the row ahead was laid, or it has no move among these and nothing was
abbrev pub TriedIs : List Move → ℕ → List ℕ → List ℕ → ℕ → List ℕ → ℕ → Option ℕ → List ℕ → Type 0
TriedIs l level pool rows i before at (Some p) after = RowTaken l level pool rows i before at after p
TriedIs l level pool rows i before at None after = (after ≡ before) × NotAmong l level (cells_at pool rows i)

-- Stages, by the body of the envelope

-- from row i on, in a state
abbrev pub body_at : Edition → List ℕ → List ℕ → ℕ → State → Body
body_at edition pool rows i st = body_of edition (cells_at pool rows i) i st

-- from row and state to row and state, with the bytes between laid
pub record Onward (edition : Edition) (pool rows : List ℕ) (i : ℕ) (st : State) (k : ℕ) (st₁ : State) (before : List ℕ) (at : ℕ) (after : List ℕ) (p : ℕ) : Type 0 where
  pub onto : BodyOnto (body_at edition pool rows i st) (body_at edition pool rows k st₁) before at after p
  pub later : i ≤ k
  pub inside : k ≤ room_of rows

abbrev pub AdvanceIs : Edition → List ℕ → List ℕ → ℕ → State → State → List ℕ → ℕ → Result Onto Misfit → List ℕ → Type 0
AdvanceIs edition pool rows i st st₁ before at (Ok onto) after = Onward edition pool rows i st onto.row st₁ before at after onto.at
AdvanceIs edition pool rows i st st₁ before at (Err misfit) after = body_at edition pool rows i st ≡ halt misfit.row

-- and rows were taken
abbrev pub Beyond : ℕ → Result Onto Misfit → Type 0
Beyond i (Ok onto) = i < onto.row
Beyond i (Err misfit) = Unit {0}

-- what has to stand in row i
abbrev pub after_needed : ℕ → Option ℕ → Result Onto Misfit
after_needed i (Some p) = Ok (record { row = i + 1; at = p })
after_needed i None = Err (record { row = i })

-- between two parameters
abbrev pub at_parameters : State
at_parameters = state parameters 0 false

-- The same of a table that is lent

-- its rows from row i on
abbrev pub cells_from : Table → ℕ → List Cell
cells_from table i = cells_at table.pool.now table.rows.now i

abbrev pub SoughtAt : Table → ℕ → ℕ → ℕ → Option Ahead → Type 0
SoughtAt table i kind level r = SoughtIs table.pool.now table.rows.now i kind level r

abbrev pub StageReady : Table → ℕ → List ℕ → ℕ → Type 0
StageReady table i part at = StageRequires table.rows.now i part at

abbrev pub TakeReady : Table → ℕ → ℕ → List ℕ → ℕ → Type 0
TakeReady table i kind part at = TakeRequires table.rows.now i kind part at

abbrev pub TriedAt : List Move → ℕ → Table → ℕ → List ℕ → ℕ → Option ℕ → List ℕ → Type 0
TriedAt l level table i before at r after = TriedIs l level table.pool.now table.rows.now i before at r after

abbrev pub OnwardAt : Edition → Table → ℕ → State → ℕ → State → List ℕ → ℕ → List ℕ → ℕ → Type 0
OnwardAt edition table i st k st₁ before at after p = Onward edition table.pool.now table.rows.now i st k st₁ before at after p

abbrev pub AdvanceAt : Edition → Table → ℕ → State → State → List ℕ → ℕ → Result Onto Misfit → List ℕ → Type 0
AdvanceAt edition table i st st₁ before at r after = AdvanceIs edition table.pool.now table.rows.now i st st₁ before at r after
