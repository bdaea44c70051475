-- Stages one behind the other, and the steps that they are made of: a row by its own move, a closing, an optional part left out.
use Rattle.std.specs.Prelude.{ℕ, ◌+◌, ◌≤◌, ◌<◌, List, [], ◌∷◌, ◌++◌, Bool, true, false, ◌≡◌, refl, eqb, length, Option, None, Some, Result, Ok, Err, IsErr, IsErrAnd}
use Rattle.std.proofs.Common.{append_assoc, ap, sym, ◌∙◌, subst, arith}
use Rattle.meaning.specs.Basics.{pick}
use Rattle.meaning.specs.Told.{Edition}
use Rattle.meaning.specs.Editions.{State, Next, Move, moves, go}
use Rattle.meaning.specs.Reading.{too_deep, none, hit, find}
use Rattle.meaning.specs.Writing.{unfit, fits, lead, at_level, stands_for, write_value, Cell, cell, broken}
use Rattle.meaning.specs.Memory.{room_of}
use Rattle.meaning.specs.Headers.{envelope_most}
use Rattle.write_rows.specs.Laying.{Laid, Layable, laid_then, laid_layable}
use Rattle.write_rows.specs.Bodies.{Body, halt, body, on_body, row_body, body_of, body_row, body_starts}
use Rattle.laws_steps.specs.Rows.{cells_at}
use Rattle.write_rows.specs.Rooms.{rows_of, own_among, NotAmong, AllLead, Closes, Needs}
use Rattle.write_rows.specs.Stages.{body_at, RowTaken, TriedIs, Onward, AdvanceIs, Beyond, after_needed}
use Rattle.write_rows.specs.declared.advance.Onto.{Onto}
use Rattle.write_rows.specs.declared.advance.Misfit.{Misfit}
use Rattle.write_rows.specs.Among.{find_rows, hit_leads, level_hit}
use Rattle.write_rows.specs.Stands.{fits_own, body_closes, body_lost}

on_on : (bs cs : List ℕ) (b : Body) → on_body bs (on_body cs b) ≡ on_body (bs ++ cs) b
on_on bs cs (halt j) = refl
on_on bs cs (body ds j xs) = ap (λ (y : List ℕ). body y j xs) (sym (append_assoc bs cs ds))

pub onward_none : (edition : Edition) (pool rows : List ℕ) {i : ℕ} (st : State) {m : List ℕ} {at : ℕ} → i ≤ room_of rows → Layable m at → Onward edition pool rows i st i st m at m at
onward_none edition pool rows {i} st h l = record { onto = body_starts (body_at edition pool rows i st) l; later = omega arith; inside = h }

pub onward_layable : {edition : Edition} {pool rows : List ℕ} {i : ℕ} {st : State} {k : ℕ} {st₁ : State} {m : List ℕ} {at : ℕ} {m₁ : List ℕ} {p : ℕ} → Onward edition pool rows i st k st₁ m at m₁ p → Layable m at → Layable m₁ p
onward_layable a l = laid_layable a.onto.laid l

module _ {edition : Edition} {pool rows : List ℕ} {i : ℕ} {st : State} {k : ℕ} {st₁ : State} {m : List ℕ} {at : ℕ} {m₁ : List ℕ} {p₁ : ℕ} (small : length m ≤ envelope_most) (a : Onward edition pool rows i st k st₁ m at m₁ p₁) where
  pub onward_then : {n : ℕ} {st₂ : State} {m₂ : List ℕ} {p₂ : ℕ} → Onward edition pool rows k st₁ n st₂ m₁ p₁ m₂ p₂ → Onward edition pool rows i st n st₂ m at m₂ p₂
  onward_then {n} {st₂} b =
      record {
        onto = record {
          bytes = a.onto.bytes ++ b.onto.bytes;
          is = a.onto.is ∙ ap (on_body a.onto.bytes) b.onto.is ∙ on_on a.onto.bytes b.onto.bytes (body_at edition pool rows n st₂);
          laid = laid_then a.onto.laid small b.onto.laid;
        };
        later = omega (arith, a.later, b.later);
        inside = b.inside;
      }

  pub onward_stuck : {j : ℕ} → body_at edition pool rows k st₁ ≡ halt j → body_at edition pool rows i st ≡ halt j
  onward_stuck b = a.onto.is ∙ ap (on_body a.onto.bytes) b

  pub advance_then : (st₂ : State) (m₂ : List ℕ) (r : Result Onto Misfit) → AdvanceIs edition pool rows k st₁ st₂ m₁ p₁ r m₂ → AdvanceIs edition pool rows i st st₂ m at r m₂
  advance_then st₂ m₂ (Ok onto) b = onward_then b
  advance_then st₂ m₂ (Err misfit) b = onward_stuck b

pub beyond : (edition : Edition) (pool rows : List ℕ) (k : ℕ) (st st₁ : State) (m : List ℕ) (at : ℕ) (r : Result Onto Misfit) (m₁ : List ℕ) {i : ℕ} → i < k → AdvanceIs edition pool rows k st st₁ m at r m₁ → Beyond i r
beyond edition pool rows k st st₁ m at (Ok onto) m₁ h s = omega (arith, s.later)
beyond edition pool rows k st st₁ m at (Err misfit) m₁ h s = tt

-- to the same state, said otherwise
pub leading : {edition : Edition} {pool rows : List ℕ} {i : ℕ} {st : State} {k : ℕ} {st₁ st₂ : State} {before : List ℕ} {at : ℕ} {after : List ℕ} {p : ℕ} → st₁ ≡ st₂ → Onward edition pool rows i st k st₁ before at after p → Onward edition pool rows i st k st₂ before at after p
leading {edition} {pool} {rows} {i} {st} {k} {before = before} {at = at} {after = after} {p = p} q a = subst (λ (s : State). Onward edition pool rows i st k s before at after p) q a

-- the same by the answer
pub advance_as : (edition : Edition) (pool rows : List ℕ) (i : ℕ) (st st₁ : State) (before : List ℕ) (at : ℕ) (after : List ℕ) {r r₁ : Result Onto Misfit} → r ≡ r₁ → AdvanceIs edition pool rows i st st₁ before at r after → AdvanceIs edition pool rows i st st₁ before at r₁ after
advance_as edition pool rows i st st₁ before at after q s = subst (λ (x : Result Onto Misfit). AdvanceIs edition pool rows i st st₁ before at x after) q s

pub tried_as : (l : List Move) (level : ℕ) (pool rows : List ℕ) (i : ℕ) (before : List ℕ) (at : ℕ) (after : List ℕ) {r r₁ : Option ℕ} → r ≡ r₁ → TriedIs l level pool rows i before at r after → TriedIs l level pool rows i before at r₁ after
tried_as l level pool rows i before at after q t = subst (λ (x : Option ℕ). TriedIs l level pool rows i before at x after) q t

-- a refusal handed up
pub handed_up : {T E : Type 0} (r : Result T E) {refusal : E} → IsErr r × IsErrAnd r (λ e. e ≡ refusal) → Err refusal ≡ r
handed_up (Ok x) q = absurd q.1
handed_up (Err e) q = ap Err (sym q.1)

-- what had to stand in row i stood there
pub needed_beyond : (i : ℕ) (t : Option ℕ) {r : Result Onto Misfit} → r ≡ after_needed i t → Beyond i r
needed_beyond i t q = subst (Beyond i) (sym q) (by t)
  where
    by : (t : Option ℕ) → Beyond i (after_needed i t)
    by (Some p) = omega arith
    by None = tt

-- memory that a row which stands elsewhere left as it was
pub laid_from : {before after : List ℕ} {at : ℕ} {bytes m : List ℕ} {p : ℕ} → after ≡ before → Laid after at bytes m p → Laid before at bytes m p
laid_from {at = at} {bytes = bytes} {m = m} {p = p} q l = subst (λ (x : List ℕ). Laid x at bytes m p) q l

pub tried_from : (l : List Move) (level : ℕ) (pool rows : List ℕ) (i : ℕ) {before after : List ℕ} (at : ℕ) (t : Option ℕ) (m : List ℕ) → after ≡ before → TriedIs l level pool rows i after at t m → TriedIs l level pool rows i before at t m
tried_from l level pool rows i at t m q x = subst (λ (y : List ℕ). TriedIs l level pool rows i y at t m) q x

pub layable_from : {before after : List ℕ} {at : ℕ} → after ≡ before → Layable before at → Layable after at
layable_from {at = at} q l = subst (λ (x : List ℕ). Layable x at) (sym q) l

pub unmoved : {edition : Edition} {pool rows : List ℕ} {i : ℕ} {st : State} {k : ℕ} {st₁ : State} {before : List ℕ} {at : ℕ} {after : List ℕ} {p : ℕ} → after ≡ before → Onward edition pool rows i st k st₁ before at before p → Onward edition pool rows i st k st₁ before at after p
unmoved {edition} {pool} {rows} {i} {st} {k} {st₁} {before} {at} {p = p} q o = subst (λ (x : List ℕ). Onward edition pool rows i st k st₁ before at x p) (sym q) o

-- A row by its own move

module _ (edition : Edition) (pool rows : List ℕ) {i : ℕ} (st : State) {l : List Move} {before : List ℕ} {at : ℕ} {after : List ℕ} {p : ℕ} (t : RowTaken l st.level pool rows i before at after p) where
  -- a move that the room has too
  pub own_on : own_among (moves edition st.room) st.level t.row ≡ hit t.move → too_deep t.move st ≡ false → Onward edition pool rows i st (i + 1) (go t.move.next st) before at after p
  own_on q d =
      record {
        onto = record {
          bytes = lead t.move ++ write_value t.move.form t.row.view;
          is =
              body_row edition i st t.ahead.cells t.inner
              ∙ ap (row_body i (body_of edition (cells_at pool rows (i + 1)) (i + 1)))
              (fits_own edition st t.row q ∙ ap (λ (b : Bool). pick b unfit (fits (go t.move.next st) (lead t.move ++ write_value t.move.form t.row.view))) d);
          laid = t.laid;
        };
        later = omega arith;
        inside = omega (arith, t.ahead.within);
      }

  -- the same, where the moves tried are all that the room has
  pub taken_on : (n : Next) → rows_of (moves edition st.room) ≡ l → AllLead l n st → Onward edition pool rows i st (i + 1) (go n st) before at after p
  taken_on n q a =
      let own : find (stands_for t.row) (moves edition st.room) ≡ find (stands_for t.row) l = find_rows t.row (moves edition st.room) ∙ ap (find (stands_for t.row)) q in
      let leads = hit_leads (stands_for t.row) l st a (level_hit (eqb t.row.level st.level) _ t.stands) in
      subst (λ (x : Next). Onward edition pool rows i st (i + 1) (go x st) before at after p) leads.0
      (own_on (ap (at_level (eqb t.row.level st.level)) own ∙ t.stands) leads.1)

  -- "Level 9 is 15"
  pub taken_deep : rows_of (moves edition st.room) ≡ l → too_deep t.move st ≡ true → body_at edition pool rows i st ≡ halt i
  taken_deep q d =
      let own : find (stands_for t.row) (moves edition st.room) ≡ find (stands_for t.row) l = find_rows t.row (moves edition st.room) ∙ ap (find (stands_for t.row)) q in
      body_row edition i st t.ahead.cells t.inner
      ∙ ap (row_body i (body_of edition (cells_at pool rows (i + 1)) (i + 1)))
      (fits_own edition st t.row (ap (at_level (eqb t.row.level st.level)) own ∙ t.stands) ∙ ap (λ (b : Bool). pick b unfit (fits (go t.move.next st) (lead t.move ++ write_value t.move.form t.row.view))) d)

-- A row that stands elsewhere

not_in_room : (e : Edition) (st : State) (l : List Move) (cs : List Cell) → rows_of (moves e st.room) ≡ l → NotAmong l st.level cs → NotAmong (moves e st.room) st.level cs
not_in_room e st l [] q x = tt
not_in_room e st l (broken ∷ cs) q x = tt
not_in_room e st l (cell row ∷ cs) q x = ap (at_level (eqb row.level st.level)) (find_rows row (moves e st.room) ∙ ap (find (stands_for row)) q) ∙ x

module _ (edition : Edition) (pool rows : List ℕ) {i : ℕ} (st : State) {l : List Move} (q : rows_of (moves edition st.room) ≡ l) (x : NotAmong l st.level (cells_at pool rows i)) where
  pub close_on : {m : Move} {before : List ℕ} {at : ℕ} {after : List ℕ} {p : ℕ} → Closes edition st.room (hit m) → i ≤ room_of rows → Laid before at (m.code ∷ []) after p → Onward edition pool rows i st i (go m.next st) before at after p
  close_on {m} c h d =
      record {
        onto = record { bytes = m.code ∷ []; is = body_closes edition st c (cells_at pool rows i) i (not_in_room edition st l (cells_at pool rows i) q x); laid = d };
        later = omega arith;
        inside = h;
      }

  pub lost_on : Closes edition st.room none → body_at edition pool rows i st ≡ halt i
  lost_on c = body_lost edition st c (cells_at pool rows i) i (not_in_room edition st l (cells_at pool rows i) q x)

-- What has to stand here

module _ (edition : Edition) (pool rows : List ℕ) {i : ℕ} (st : State) {l : List Move} {n : Next} (w : Needs edition st l n) where
  pub needed_on : {before : List ℕ} {at : ℕ} {after : List ℕ} {p : ℕ} → RowTaken l st.level pool rows i before at after p → Onward edition pool rows i st (i + 1) (go n st) before at after p
  needed_on t = taken_on edition pool rows st t n w.rows w.lead

  pub needed_lost : NotAmong l st.level (cells_at pool rows i) → body_at edition pool rows i st ≡ halt i
  needed_lost x = lost_on edition pool rows st w.rows x w.lost

pub needed_is : (edition : Edition) (pool rows : List ℕ) (i : ℕ) (st : State) {l : List Move} {n : Next} → Needs edition st l n → (before : List ℕ) (at : ℕ) (t : Option ℕ) (after : List ℕ) {r : Result Onto Misfit} → TriedIs l st.level pool rows i before at t after → r ≡ after_needed i t → AdvanceIs edition pool rows i st (go n st) before at r after
needed_is edition pool rows i st {l} {n} w before at t after x q = advance_as edition pool rows i st (go n st) before at after (sym q) (by t x)
  where
    by : (t : Option ℕ) → TriedIs l st.level pool rows i before at t after → AdvanceIs edition pool rows i st (go n st) before at (after_needed i t) after
    by (Some p) y = needed_on edition pool rows st w y
    by None y = needed_lost edition pool rows st w y.1
