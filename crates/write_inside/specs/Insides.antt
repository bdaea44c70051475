-- What the code says of the inside of an envelope: what opens at a row, and where the inside ends.
use Rattle.std.specs.Prelude.{ℕ, ◌≤◌, List, [], ◌∷◌, Bool, true, false, not, ◌≡◌, refl, eqb, Option, None, Some, Result, Ok, Err}
use Rattle.std.proofs.Common.{ap, sym, ◌∙◌}
use Rattle.meaning.specs.Basics.{pick}
use Rattle.meaning.specs.Told.{Edition}
use Rattle.meaning.specs.Editions.{state, closed}
use Rattle.meaning.specs.Reading.{Row}
use Rattle.meaning.specs.Writing.{Fit, unfit, fits, fit_row, Cell, cell, broken, Opens, envelope_row, inner_row, opens_of}
use Rattle.meaning.specs.Memory.{room_of}
use Rattle.laws_steps.specs.Plans.{closed_fits}
use Rattle.laws_steps.specs.Rows.{whole_rows, cells_at, cells_last}
use Rattle.write_rows.specs.Laying.{Laid}
use Rattle.write_rows.specs.Bodies.{Body, halt, body, opens_number}
use Rattle.write_rows.specs.declared.advance.Misfit.{Misfit}
use Rattle.write_rows.specs.declared.lent.Table.{Table}
use Rattle.write_inside.specs.declared.body.Inside.{Inside}

-- whether a row opens the base or an extension
abbrev pub base_of : Opens → Option Bool
base_of inner_row = None
base_of (envelope_row base) = Some base

-- the same of the first of these cells
abbrev pub open_base : List Cell → Option Bool
open_base [] = None
open_base (broken ∷ cells) = None
open_base (cell row ∷ cells) = base_of (opens_of row)

-- an envelope ends before these cells: the next one's row is the first, or there is none
abbrev pub ends_before : List Cell → Bool
ends_before [] = true
ends_before (broken ∷ cells) = false
ends_before (cell row ∷ cells) = not (eqb (opens_number (opens_of row)) 0)

abbrev pub BodyIs : Body → List ℕ → List ℕ → List ℕ → ℕ → Result Inside Misfit → List ℕ → Type 0
BodyIs (halt j) pool rows before at (Err misfit) after = misfit.row ≡ j
BodyIs (halt j) pool rows before at (Ok inside) after = ⊥
BodyIs (body bytes j cells) pool rows before at (Err misfit) after = ⊥
BodyIs (body bytes j cells) pool rows before at (Ok inside) after = (inside.row ≡ j) × (inside.row ≤ room_of rows) × (cells ≡ cells_at pool rows inside.row) × Laid before at bytes after inside.many

-- the same of a table that is lent
abbrev pub BodyAt : Body → Table → List ℕ → ℕ → Result Inside Misfit → List ℕ → Type 0
BodyAt b table before at r after = BodyIs b table.pool.now table.rows.now before at r after

-- Laws

pub open_end : (pool rows : List ℕ) (i : ℕ) → room_of rows ≤ i → None ≡ open_base (cells_at pool rows i)
open_end pool rows i h = sym (ap open_base (cells_last pool rows i h) ∙ at (whole_rows rows))
  where
    at : (b : Bool) → open_base (pick b [] (broken ∷ [])) ≡ None
    at true = refl
    at false = refl

-- before the first envelope nothing is open, and nothing fits
pub none_fits : (e : Edition) (row : Row) (o : Fit) → fit_row e (state closed 0 false) row ≡ o → o ≡ unfit
none_fits e row unfit q = refl
none_fits e row (fits st bs) q = absurd (closed_fits e row (state closed 0 false) st bs q refl)
