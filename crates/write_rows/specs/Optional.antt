-- A part that may be left out: the room behind it has the same moves but the part's own, so what is not the part fits alike in both.
use Rattle.std.specs.Prelude.{ℕ, suc, ◌+◌, ◌≤◌, Bool, ◌&&◌, ◌≡◌}
use mathlib.Core.List.{List, [], ◌∷◌, ◌++◌}
use Rattle.std.proofs.Math.Bool.{true, false}
use Rattle.std.proofs.Math.Path.{refl, ap, sym, subst}
use Rattle.std.proofs.Common.{◌∙◌, arith}
use Rattle.std.proofs.Math.Dec.{eqb}
use Rattle.meaning.specs.Basics.{pick}
use Rattle.meaning.specs.Told.{Edition}
use Rattle.meaning.specs.Editions.{Room, State, state, Next, outer, inner, inner_one, stay, deeper, list_ends, agent_ends, is_quiet, closing, Move, moves, go}
use Rattle.meaning.specs.Reading.{is_closed, too_deep, Row, Found, none, hit, find, or_else}
use Rattle.meaning.specs.Writing.{unfit, fits, led, Way, by_own, by_pass, nowhere, ways, way_of, way_to, fit_by, close, close_by, Opens, envelope_row, inner_row, lead, at_level, stands_for, is_pass, write_value, fit_row, Cell, cell, broken, opens_of}
use Rattle.laws_steps.specs.Fits.{fit_once, close_once}
use Rattle.meaning.specs.Memory.{room_of}
use Rattle.write_rows.specs.Laying.{Layable}
use Rattle.write_rows.specs.Bodies.{seal_body, row_body, cell_body, body_of, body_starts}
use Rattle.laws_steps.specs.Rows.{cells_at}
use Rattle.write_rows.specs.Rooms.{own_among, NotAmong}
use Rattle.write_rows.specs.Stages.{body_at, RowTaken, Onward}
use Rattle.write_rows.specs.Among.{level_hit, not_hit, sole_move}
use Rattle.write_rows.specs.Onward.{own_on}
use Rattle.write_rows.specs.Stands.{pass_move}

same_go : (n : Next) (r r₁ : Room) (level : ℕ) (single : Bool) → go n (state r level single) ≡ go n (state r₁ level single)
same_go (outer t) r r₁ level single = refl
same_go (inner t) r r₁ level single = refl
same_go (inner_one t) r r₁ level single = refl
same_go (stay t) r r₁ level single = refl
same_go (deeper t) r r₁ level single = refl
same_go list_ends r r₁ level single = refl
same_go agent_ends r r₁ level single = refl

module _ (e : Edition) (r r₁ : Room) (m : Move) (is : moves e r ≡ m ∷ moves e r₁) (q : is_quiet m.form ≡ false) (o : is_closed r ≡ false) (o₁ : is_closed r₁ ≡ false) (level : ℕ) (single : Bool) where
  same_pass : (c : ℕ) → find (is_pass c) (moves e r) ≡ find (is_pass c) (moves e r₁)
  unfolding find
  same_pass c = ap (find (is_pass c)) is ∙ ap (λ (b : Bool). pick (b && eqb m.code c) (hit m) (find (is_pass c) (moves e r₁))) q

  same_own : (row : Row) → own_among (m ∷ []) level row ≡ none → own_among (moves e r) level row ≡ own_among (moves e r₁) level row
  unfolding find
  same_own row x = at (eqb row.level level) x
    where
      past : (b : Bool) → pick b (hit m) none ≡ none → pick b (hit m) (find (stands_for row) (moves e r₁)) ≡ find (stands_for row) (moves e r₁)
      past true z = absurd (not_hit (sym z))
      past false z = refl

      at : (b : Bool) → at_level b (find (stands_for row) (m ∷ [])) ≡ none → at_level b (find (stands_for row) (moves e r)) ≡ at_level b (find (stands_for row) (moves e r₁))
      at true z = ap (find (stands_for row)) is ∙ past (stands_for row m) z
      at false z = refl

  same_row : (row : Row) → own_among (m ∷ []) level row ≡ none → fit_row e (state r level single) row ≡ fit_row e (state r₁ level single) row
  unfolding way_of
  same_row row x =
      fit_once e (state r level single) row
      ∙ ap (fit_by (state r level single) row (fit_row e))
      (ap (λ (y : Found). ways y (pass_move e (state r level single) row)) (same_own row x)
      ∙ ap (ways (own_among (moves e r₁) level row)) (ap (λ (y : Found). or_else y (find (is_pass closing) (moves e r))) (same_pass (way_to row.kind)) ∙ ap (or_else (find (is_pass (way_to row.kind)) (moves e r₁))) (same_pass closing)))
      ∙ by (ways (own_among (moves e r₁) level row) (pass_move e (state r₁ level single) row)) ∙ sym (fit_once e (state r₁ level single) row)
    where
      by : (w : Way) → fit_by (state r level single) row (fit_row e) w ≡ fit_by (state r₁ level single) row (fit_row e) w
      by nowhere = refl
      by (by_pass y) = ap (λ (s : State). led (y.code ∷ []) (fit_row e s row)) (same_go y.next r r₁ level single)
      by (by_own y) = ap (λ (s : State). pick (too_deep y (state r level single)) unfit (fits s (lead y ++ write_value y.form row.view))) (same_go y.next r r₁ level single)

  same_close : close e (state r level single) ≡ close e (state r₁ level single)
  same_close =
      close_once e (state r level single) ∙ ap (λ (b : Bool). pick b (fits (state r level single) []) (close_by (state r level single) (close e) (find (is_pass closing) (moves e r)))) o
      ∙ ap (close_by (state r level single) (close e)) (same_pass closing) ∙ by (find (is_pass closing) (moves e r₁))
      ∙ sym (close_once e (state r₁ level single) ∙ ap (λ (b : Bool). pick b (fits (state r₁ level single) []) (close_by (state r₁ level single) (close e) (find (is_pass closing) (moves e r₁)))) o₁)
    where
      by : (y : Found) → close_by (state r level single) (close e) y ≡ close_by (state r₁ level single) (close e) y
      by none = refl
      by (hit y) = ap (λ (s : State). led (y.code ∷ []) (close e s)) (same_go y.next r r₁ level single)

  body_skips : (cs : List Cell) (i : ℕ) → NotAmong (m ∷ []) level cs → body_of e cs i (state r level single) ≡ body_of e cs i (state r₁ level single)
  unfolding body_of
  body_skips [] i x = ap (seal_body i []) same_close
  body_skips (broken ∷ cs) i x = refl
  body_skips (cell row ∷ cs) i x = at (opens_of row)
    where
      at : (y : Opens) → cell_body e (state r level single) i row cs (body_of e cs (suc i)) y ≡ cell_body e (state r₁ level single) i row cs (body_of e cs (suc i)) y
      at inner_row = ap (row_body i (body_of e cs (suc i))) (same_row row x)
      at (envelope_row c) = ap (seal_body i (cell row ∷ cs)) same_close

module _ (edition : Edition) (pool rows : List ℕ) {i : ℕ} (r r₁ : Room) {m : Move} (is : moves edition r ≡ m ∷ moves edition r₁) (level : ℕ) (single : Bool) {before : List ℕ} {at : ℕ} where
  -- the part is there
  pub part_on : {after : List ℕ} {p : ℕ} → RowTaken (m ∷ []) level pool rows i before at after p → too_deep m (state r level single) ≡ false → Onward edition pool rows i (state r level single) (i + 1) (go m.next (state r level single)) before at after p
  unfolding find
  part_on {after} {p} t d =
      let own = level_hit (eqb t.row.level level) (find (stands_for t.row) (m ∷ [])) t.stands in
      let same = sole_move m level t.row t.stands in
      let there : own_among (moves edition r) level t.row ≡ hit t.move = at_level_lem (eqb t.row.level level) _ _ t.stands (ap (find (stands_for t.row)) is ∙ first (stands_for t.row m) (find (stands_for t.row) (moves edition r₁)) own) in
      subst (λ (x : Move). Onward edition pool rows i (state r level single) (i + 1) (go x.next (state r level single)) before at after p) (sym same)
      (own_on edition pool rows (state r level single) t there (ap (λ (x : Move). too_deep x (state r level single)) (sym same) ∙ d))
    where
      first : (b : Bool) {x : Move} (f : Found) → pick b (hit m) none ≡ hit x → pick b (hit m) f ≡ hit x
      first true f z = z
      first false f z = absurd (not_hit z)

      at_level_lem : (b : Bool) {x : Move} (f g : Found) → at_level b f ≡ hit x → g ≡ hit x → at_level b g ≡ hit x
      at_level_lem true f g z y = y
      at_level_lem false f g z y = absurd (not_hit z)

  -- the part is left out
  pub part_off : is_quiet m.form ≡ false → is_closed r ≡ false → is_closed r₁ ≡ false → i ≤ room_of rows → Layable before at → NotAmong (m ∷ []) level (cells_at pool rows i) → Onward edition pool rows i (state r level single) i (state r₁ level single) before at before at
  part_off q o o₁ h l x =
      record {
        onto = let s = body_starts (body_at edition pool rows i (state r₁ level single)) l in record { bytes = s.bytes; is = body_skips edition r r₁ m is q o o₁ level single (cells_at pool rows i) i x ∙ s.is; laid = s.laid };
        later = omega arith;
        inside = h;
      }
