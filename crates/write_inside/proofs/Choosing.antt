-- A parameter by the kind of its first row: the only move of that kind among the parameters, a pass before it, or the closing.
use Prim.Native.Nat.{ℕ, ◌+◌, ◌≤◌, suc}
use mathlib.Core.List.{List, [], ◌∷◌}
use mathlib.Core.Bool.{Bool, true, false, ◌&&◌, not}
use mathlib.Core.Path.{◌≡◌, refl, ap, sym, ◌∙◌, subst}
use native.Mathlib.Omega.{arith}
use lib.Dec.{eqb, ltb}
use lib.ListN.{length}
use borrow.Author.Tests.{eqb-true}
use Rattle.meaning.specs.Basics.{pick}
use Rattle.meaning.specs.Kinds.{agent_name}
use Rattle.meaning.specs.Editions.{State, state, parameters, closed, is_quiet, closing, Next, opens, Move, moves, go, outer, shared, own, on◌▸◌▸◌▸◌, pass◌▸◌}
use Rattle.meaning.specs.Reading.{level_most, Row, none, hit, find, too_deep, Found, or_else}
use Rattle.meaning.specs.Writing.{at_level, stands_for, way_to, is_pass, Cell, cell, broken, Opens, envelope_row, inner_row, opens_of, fit_row}
use Rattle.meaning.specs.Told.{Edition, B, D}
use Rattle.meaning.specs.Memory.{room_of}
use Rattle.meaning.specs.Headers.{envelope_most}
use Rattle.write_rows.specs.Bodies.{on_body, row_body, cell_body, body_of, opens_number}
use Rattle.write_rows.specs.Stands.{fits_pass, led_row, LedBy, closing_first}
use Rattle.write_rows.specs.Laying.{Laid}
use Rattle.laws_steps.specs.Rows.{cells_at}
use Rattle.write_rows.specs.Rooms.{of_kind, own_among, NotAmong}
use Rattle.table.specs.Rows.{row_ahead, IsAhead, NoRow, no_row_lem}
use Rattle.write_rows.specs.Stages.{RowTaken, TriedIs, Onward, AdvanceIs, Beyond, at_parameters}
use Rattle.write_inside.specs.Parameters.{encrypted_in, after_one, after_advance, InParameters, ParameterIs, KindAhead, ClosingAhead, FoundIs}
use Rattle.table.specs.declared.rows.Ahead.{Ahead}
use Rattle.write_rows.specs.declared.advance.Onto.{Onto}
use Rattle.write_rows.specs.declared.advance.Misfit.{Misfit}
use Rattle.std.specs.Prelude.{Option, None, Some, Result, Ok, Err}
use Rattle.write_rows.specs.Among.{find_kind, nothing_among, not_hit, sole_move, same_kind, takes}
use Rattle.write_rows.specs.Openings.{opens_past}
use Rattle.write_rows.specs.Onward.{leading, onward_then, onward_stuck, own_on}

-- Before a row that has no move of its own

-- the row ahead is led on by the code of its parameter
abbrev pub WayAhead : Edition → ℕ → List Cell → Type 0
WayAhead edition c [] = ⊥
WayAhead edition c (broken ∷ cs) = ⊥
WayAhead edition c (cell row ∷ cs) = (way_to row.kind ≡ c) × (opens_number (opens_of row) ≡ 0) × NotAmong (moves edition parameters) 0 (cell row ∷ cs)

-- the parameters, before a row that has no code of its own there
pub parameters_close : (e : Edition) (cs : List Cell) (i : ℕ) → ClosingAhead cs → NotAmong (moves e parameters) 0 cs → body_of e cs i at_parameters ≡ on_body (0x01 ∷ []) (body_of e cs i (state closed 0 false))
unfolding moves shared own find
parameters_close e cs i h = closing_first e at_parameters refl (closing_is e) cs i (all cs h)
  where
    closing_is : (e : Edition) → find (is_pass closing) (moves e parameters) ≡ hit (pass 0x01 ▸ outer closed)
    closing_is B = refl
    closing_is D = refl

    all : (cs : List Cell) → ClosingAhead cs → LedBy e at_parameters refl (hit (pass 0x01 ▸ outer closed)) cs
    all [] h = tt
    all (broken ∷ cs) h = tt
    all (cell row ∷ cs) h = ap (λ (c : ℕ). or_else (find (is_pass c) (moves e parameters)) (find (is_pass closing) (moves e parameters))) h ∙ ap (λ (o : Found). or_else o o) (closing_is e)

-- and before one that has
pub parameters_pass : (edition : Edition) (c : ℕ) {m : Move} (cs : List Cell) (i : ℕ) → find (is_pass c) (moves edition parameters) ≡ hit m → WayAhead edition c cs → body_of edition cs i at_parameters ≡ on_body (m.code ∷ []) (body_of edition cs i (go m.next at_parameters))
unfolding body_of
parameters_pass edition c [] i q w = absurd w
parameters_pass edition c (broken ∷ cs) i q w = absurd w
parameters_pass edition c {m} (cell row ∷ cs) i q w = at (opens_of row) w.1
  where
    at : (o : Opens) → opens_number o ≡ 0 → cell_body edition at_parameters i row cs (body_of edition cs (suc i)) o ≡ on_body (m.code ∷ []) (cell_body edition (go m.next at_parameters) i row cs (body_of edition cs (suc i)) o)
    at inner_row z =
        ap (row_body i (body_of edition cs (suc i)))
        (fits_pass edition at_parameters row w.2 (ap (λ (d : ℕ). or_else (find (is_pass d) (moves edition parameters)) (find (is_pass closing) (moves edition parameters))) w.0 ∙ ap (λ (o : Found). or_else o (find (is_pass closing) (moves edition parameters))) q))
        ∙ led_row i (body_of edition cs (suc i)) (m.code ∷ []) (fit_row edition (go m.next at_parameters) row)
    at (envelope_row true) z = absurd (omega arith)
    at (envelope_row false) z = absurd (omega arith)

-- A row by the only move of its kind

both : (a b : Bool) → (a && b) ≡ true → (a ≡ true) × (b ≡ true)
both true b q = (refl, q)
both false b q = absurd (no q)
  where
    no : false ≡ true → ⊥
    no z = let y : ◌≡◌ {A = ℕ} 0 1 = cc z in omega arith

module _ (edition : Edition) (m : Move) (is : InParameters edition m) (row : Row) where
  stands_there : {x : Move} → own_among (m ∷ []) 0 row ≡ hit x → own_among (moves edition parameters) 0 row ≡ hit x
  unfolding find
  stands_there {x} q = at (eqb row.level 0) q
    where
      of : (b : Bool) → stands_for row m ≡ b → pick b (hit m) none ≡ hit x → find (stands_for row) (moves edition parameters) ≡ hit x
      of true s z =
          let p = both (not (is_quiet m.form) && eqb m.kind row.kind) (takes row.view m) s in
          let k : m.kind ≡ row.kind = eqb-true m.kind row.kind (both (not (is_quiet m.form)) (eqb m.kind row.kind) p.0).1 in
          find_kind row (moves edition parameters) ∙ ap (λ (n : ℕ). find (takes row.view) (of_kind n (moves edition parameters))) (sym k)
          ∙ ap (find (takes row.view)) is ∙ ap (λ (b : Bool). pick b (hit m) none) p.1 ∙ z
      of false s z = absurd (not_hit z)

      at : (b : Bool) → at_level b (find (stands_for row) (m ∷ [])) ≡ hit x → at_level b (find (stands_for row) (moves edition parameters)) ≡ hit x
      at true z = of (stands_for row m) refl z
      at false z = z

pub parameter_row : (edition : Edition) (pool rows : List ℕ) {i : ℕ} (m : Move) {before : List ℕ} {at : ℕ} {after : List ℕ} {p : ℕ} → InParameters edition m → eqb m.kind agent_name ≡ false → RowTaken (m ∷ []) 0 pool rows i before at after p → Onward edition pool rows i at_parameters (i + 1) (go m.next at_parameters) before at after p
parameter_row edition pool rows {i} m {before} {at} {after} {p} q d t =
    let same = sole_move m 0 t.row t.stands in
    subst (λ (x : Move). Onward edition pool rows i at_parameters (i + 1) (go x.next at_parameters) before at after p) (sym same)
    (own_on edition pool rows at_parameters t (stands_there edition m q t.row t.stands) (ap (λ (x : Move). too_deep x at_parameters) (sym same) ∙ ap (λ (b : Bool). b && ltb level_most 0) d))

-- the same by its code
pub tried_move : (kind : ℕ) (next : Next) (pool rows : List ℕ) (i : ℕ) (before : List ℕ) (at : ℕ) (t : Option ℕ) (after : List ℕ) {code code₁ : ℕ} → code ≡ code₁ → TriedIs (on code ▸ kind ▸ opens ▸ next ∷ []) 0 pool rows i before at t after → TriedIs (on code₁ ▸ kind ▸ opens ▸ next ∷ []) 0 pool rows i before at t after
tried_move kind next pool rows i before at t after q x = subst (λ (c : ℕ). TriedIs (on c ▸ kind ▸ opens ▸ next ∷ []) 0 pool rows i before at t after) q x

-- What follows it

module _ (edition : Edition) (l : List Move) {pool rows : List ℕ} {i : ℕ} {st : State} {m : List ℕ} {at : ℕ} {m₁ : List ℕ} {p₁ : ℕ} (small : length m ≤ envelope_most) (a : Onward edition pool rows i at_parameters (i + 1) st m at m₁ p₁) where
  followed : (s : Result Onto Misfit) (m₂ : List ℕ) → AdvanceIs edition pool rows (i + 1) st at_parameters m₁ p₁ s m₂ → ParameterIs edition l pool rows i m at (after_advance s) m₂
  followed (Ok onto) m₂ x = (onward_then small a x, omega (arith, x.later))
  followed (Err misfit) m₂ x = onward_stuck small a x

  pub after_first : (s : Result Onto Misfit) (m₂ : List ℕ) {r : Result (Option Onto) Misfit} → AdvanceIs edition pool rows (i + 1) st at_parameters m₁ p₁ s m₂ → r ≡ after_advance s → ParameterIs edition l pool rows i m at r m₂
  after_first s m₂ x q = subst (λ (y : Result (Option Onto) Misfit). ParameterIs edition l pool rows i m at y m₂) (sym q) (followed s m₂ x)

pub after_single : (edition : Edition) (pool rows : List ℕ) (i : ℕ) (m : Move) (before : List ℕ) (at : ℕ) (t : Option ℕ) (after : List ℕ) {r : Option Onto} → InParameters edition m → eqb m.kind agent_name ≡ false → go m.next at_parameters ≡ at_parameters → TriedIs (m ∷ []) 0 pool rows i before at t after → r ≡ after_one i t → ParameterIs edition (m ∷ []) pool rows i before at (Ok r) after
after_single edition pool rows i m before at t after q d g x e = subst (λ (y : Option Onto). ParameterIs edition (m ∷ []) pool rows i before at (Ok y) after) (sym e) (by t x)
  where
    by : (t : Option ℕ) → TriedIs (m ∷ []) 0 pool rows i before at t after → ParameterIs edition (m ∷ []) pool rows i before at (Ok (after_one i t)) after
    by (Some p) y = (leading g (parameter_row edition pool rows m q d y), omega arith)
    by None y = y

-- The row ahead, by its kind

module _ (edition : Edition) (pool rows : List ℕ) (i : ℕ) {r : Ahead} (a : IsAhead pool rows i r) (l : List Move) (is : of_kind r.kind (moves edition parameters) ≡ of_kind r.kind l) where
  none_there : NotAmong l 0 (cells_at pool rows i) → NotAmong (moves edition parameters) 0 (cells_at pool rows i)
  none_there x = subst (NotAmong (moves edition parameters) 0) (sym a.row.cells) (ap (at_level (eqb r.level 0)) (same_kind (row_ahead pool r) (moves edition parameters) l is) ∙ subst (NotAmong l 0) a.row.cells x)

  closing_ahead : way_to r.kind ≡ closing → ClosingAhead (cells_at pool rows i)
  closing_ahead w = subst ClosingAhead (sym a.row.cells) w

  found_by : (before : List ℕ) (at : ℕ) (p : Result (Option Onto) Misfit) (after : List ℕ) → way_to r.kind ≡ closing → ParameterIs edition l pool rows i before at p after → FoundIs edition pool rows i before at p after
  found_by before at (Ok (Some onto)) after w x = x
  found_by before at (Ok None) after w x = (x.0, none_there x.1, closing_ahead w)
  found_by before at (Err misfit) after w x = x

module _ (edition : Edition) (pool rows : List ℕ) (i k : ℕ) {r : Ahead} (a : IsAhead pool rows i r) (q : r.kind ≡ k) (w : way_to k ≡ closing) (before : List ℕ) (at : ℕ) where
  pub found_kind : (l : List Move) → of_kind k (moves edition parameters) ≡ of_kind k l → (p : Result (Option Onto) Misfit) (after : List ℕ) → ParameterIs edition l pool rows i before at p after → FoundIs edition pool rows i before at p after
  found_kind l is p after x =
      found_by edition pool rows i a l (ap (λ (n : ℕ). of_kind n (moves edition parameters)) q ∙ is ∙ sym (ap (λ (n : ℕ). of_kind n l) q)) before at p after (ap way_to q ∙ w) x

  pub found_none : {after : List ℕ} → after ≡ before → of_kind k (moves edition parameters) ≡ [] → FoundIs edition pool rows i before at (Ok None) after
  found_none {after} e is = found_kind [] is (Ok None) after (e, nothing_among 0 (cells_at pool rows i))

-- no row is ahead
pub found_nothing : (edition : Edition) (pool rows : List ℕ) (i : ℕ) (before : List ℕ) (at : ℕ) → NoRow (cells_at pool rows i) → FoundIs edition pool rows i before at (Ok None) before
found_nothing edition pool rows i before at x = (refl, no_row_lem (NotAmong (moves edition parameters) 0) tt (λ cs. tt) (cells_at pool rows i) x, no_row_lem ClosingAhead tt (λ cs. tt) (cells_at pool rows i) x)

-- "08 encrypted", of an edition that is known
pub encrypted_as : {edition : Edition} (pool rows : List ℕ) (i : ℕ) (before : List ℕ) (at : ℕ) (p : Result (Option Onto) Misfit) (after : List ℕ) {edition₁ : Edition} → edition ≡ edition₁ → ParameterIs edition₁ (encrypted_in edition₁) pool rows i before at p after → ParameterIs edition (encrypted_in edition) pool rows i before at p after
encrypted_as pool rows i before at p after q x = subst (λ (e : Edition). ParameterIs e (encrypted_in e) pool rows i before at p after) (sym q) x

-- a row before which the parameter's code stands
pub kind_ahead : {pool rows : List ℕ} {i : ℕ} {r : Ahead} → IsAhead pool rows i r → {k : ℕ} → r.kind ≡ k → KindAhead k (cells_at pool rows i)
kind_ahead a {k} q = subst (KindAhead k) (sym a.row.cells) q

pub way_ahead : (edition : Edition) (k : ℕ) (cs : List Cell) → KindAhead k cs → 3 ≤ k → of_kind k (moves edition parameters) ≡ [] → WayAhead edition (way_to k) cs
unfolding find
way_ahead edition k [] a h is = absurd a
way_ahead edition k (broken ∷ cs) a h is = absurd a
way_ahead edition k (cell row ∷ cs) q h is =
    let none_of : of_kind row.kind (moves edition parameters) ≡ [] = ap (λ (n : ℕ). of_kind n (moves edition parameters)) q ∙ is in
    (ap way_to q, sym (opens_past row.kind row.level row.view (omega (arith, q))), ap (at_level (eqb row.level 0)) (same_kind row (moves edition parameters) [] none_of) ∙ level (eqb row.level 0))
  where
    level : (b : Bool) → at_level b none ≡ none
    level true = refl
    level false = refl

pub pass_on : (edition : Edition) (pool rows : List ℕ) (i c : ℕ) {m : Move} {before : List ℕ} {at : ℕ} {after : List ℕ} {p : ℕ} → find (is_pass c) (moves edition parameters) ≡ hit m → i ≤ room_of rows → WayAhead edition c (cells_at pool rows i) → Laid before at (m.code ∷ []) after p → Onward edition pool rows i at_parameters i (go m.next at_parameters) before at after p
pass_on edition pool rows i c {m} q h w l =
    record {
      onto = record { bytes = m.code ∷ []; is = parameters_pass edition c (cells_at pool rows i) i q w; laid = l };
      later = omega arith;
      inside = h;
    }

pub found_advance : (edition : Edition) (pool rows : List ℕ) (i : ℕ) (before : List ℕ) (at : ℕ) (s : Result Onto Misfit) (after : List ℕ) {r : Result (Option Onto) Misfit} → AdvanceIs edition pool rows i at_parameters at_parameters before at s after → Beyond i s → r ≡ after_advance s → FoundIs edition pool rows i before at r after
found_advance edition pool rows i before at s after x b q = subst (λ (y : Result (Option Onto) Misfit). FoundIs edition pool rows i before at y after) (sym q) (by s x b)
  where
    by : (s : Result Onto Misfit) → AdvanceIs edition pool rows i at_parameters at_parameters before at s after → Beyond i s → FoundIs edition pool rows i before at (after_advance s) after
    by (Ok onto) y z = (y, z)
    by (Err misfit) y z = y

-- The end of the parameters

pub parameters_end : (edition : Edition) (pool rows : List ℕ) (i : ℕ) {before : List ℕ} {at : ℕ} {after : List ℕ} {p : ℕ} → NotAmong (moves edition parameters) 0 (cells_at pool rows i) → ClosingAhead (cells_at pool rows i) → i ≤ room_of rows → Laid before at (1 ∷ []) after p → Onward edition pool rows i at_parameters i (state closed 0 false) before at after p
parameters_end edition pool rows i x w h l =
    record {
      onto = record { bytes = 1 ∷ []; is = parameters_close edition (cells_at pool rows i) i w x; laid = l };
      later = omega arith;
      inside = h;
    }

pub found_as : (edition : Edition) (pool rows : List ℕ) (i : ℕ) (before : List ℕ) (at : ℕ) (after : List ℕ) {r r₁ : Result (Option Onto) Misfit} → r ≡ r₁ → FoundIs edition pool rows i before at r after → FoundIs edition pool rows i before at r₁ after
found_as edition pool rows i before at after q f = subst (λ (x : Result (Option Onto) Misfit). FoundIs edition pool rows i before at x after) q f
