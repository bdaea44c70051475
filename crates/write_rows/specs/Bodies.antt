-- The inside of one envelope as the code goes over it: its bytes, row by row.
use Rattle.std.specs.Prelude.{ℕ, suc, ◌+◌, true, false, ◌≡◌, refl}
use mathlib.Core.List.{List, [], ◌∷◌, ◌++◌}
use Rattle.std.proofs.Common.{sym, ◌∙◌, arith, add-one}
use Rattle.std.proofs.Math.Path.{ap}
use Rattle.meaning.specs.Told.{Edition}
use Rattle.meaning.specs.Editions.{State}
use Rattle.meaning.specs.Reading.{Row}
use Rattle.meaning.specs.Writing.{Fit, unfit, fits, fit_row, close, Cell, cell, broken, Opens, envelope_row, inner_row, opens_of}
use Rattle.write_rows.specs.Laying.{Laid, Layable, laid_none}

-- the inside of an envelope: the row that fits nowhere; or its bytes, the row where it ends, and the cells from there
pub data Body : Type 0 where
  halt : ℕ → Body
  body : List ℕ → ℕ → List Cell → Body

abbrev pub on_body : List ℕ → Body → Body
on_body bytes (halt j) = halt j
on_body bytes (body cs j ds) = body (bytes ++ cs) j ds

abbrev pub seal_body : ℕ → List Cell → Fit → Body
seal_body i cells unfit = halt i
seal_body i cells (fits st bytes) = body bytes i cells

abbrev pub row_body : ℕ → (State → Body) → Fit → Body
row_body i f unfit = halt i
row_body i f (fits st bytes) = on_body bytes (f st)

abbrev pub cell_body : Edition → State → ℕ → Row → List Cell → (State → Body) → Opens → Body
cell_body e st i row cells f inner_row = row_body i f (fit_row e st row)
cell_body e st i row cells f (envelope_row c) = seal_body i (cell row ∷ cells) (close e st)

unfoldable pub body_of : Edition → List Cell → ℕ → State → Body
body_of e [] i st = seal_body i [] (close e st)
body_of e (broken ∷ cells) i st = halt i
body_of e (cell row ∷ cells) i st = cell_body e st i row cells (body_of e cells (suc i)) (opens_of row)

abbrev pub opens_number : Opens → ℕ
opens_number inner_row = 0
opens_number (envelope_row false) = 1
opens_number (envelope_row true) = 2

pub record BodyOnto (whole rest : Body) (before : List ℕ) (at : ℕ) (after : List ℕ) (p : ℕ) : Type 0 where
  pub bytes : List ℕ
  pub is : whole ≡ on_body bytes rest
  pub laid : Laid before at bytes after p

-- One cell of a body

module _ (e : Edition) (i : ℕ) (st : State) where
  inner_cell : (row : Row) (ds : List Cell) (f : State → Body) (o : Opens) → opens_number o ≡ 0 → cell_body e st i row ds f o ≡ row_body i f (fit_row e st row)
  inner_cell row ds f inner_row h = refl
  inner_cell row ds f (envelope_row true) h = absurd (omega arith)
  inner_cell row ds f (envelope_row false) h = absurd (omega arith)

  pub body_row : {cs : List Cell} {row : Row} {ds : List Cell} → cs ≡ cell row ∷ ds → opens_number (opens_of row) ≡ 0 → body_of e cs i st ≡ row_body i (body_of e ds (i + 1)) (fit_row e st row)
  unfolding body_of
  body_row {row = row} {ds = ds} q h =
      ap (λ (x : List Cell). body_of e x i st) q ∙ inner_cell row ds (body_of e ds (suc i)) (opens_of row) h ∙ ap (λ (k : ℕ). row_body i (body_of e ds k) (fit_row e st row)) (sym (add-one i))

-- Bytes so far

on_nil : (o : Body) → o ≡ on_body [] o
on_nil (halt j) = refl
on_nil (body bs j cs) = refl

pub body_starts : (o : Body) {m : List ℕ} {at : ℕ} → Layable m at → BodyOnto o o m at m at
body_starts o {m} {at} h = record { bytes = []; is = on_nil o; laid = laid_none m at h }
