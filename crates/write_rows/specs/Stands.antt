-- What the row ahead does in a room: it stands there, it is led on by a pass, or it fits nowhere.
use Rattle.std.specs.Prelude.{ℕ, suc, Bool, true, false, ◌||◌, ◌≡◌, eqb}
use mathlib.Core.List.{List, [], ◌∷◌, ◌++◌, append_assoc}
use Rattle.std.proofs.Math.Path.{refl, ap}
use Rattle.std.proofs.Common.{◌∙◌}
use Rattle.meaning.specs.Basics.{pick}
use Rattle.meaning.specs.Told.{Edition}
use Rattle.meaning.specs.Editions.{State, closing, Move, moves, go}
use Rattle.meaning.specs.Reading.{is_closed, Row, Found, none, hit, find, or_else}
use Rattle.meaning.specs.Writing.{Fit, unfit, fits, led, Way, ways, way_of, way_to, fit_by, place, is_pass, fit_row, close_by, close, Cell, cell, broken, Opens, envelope_row, inner_row, opens_of}
use Rattle.laws_steps.specs.Fits.{fit_once, close_once}
use Rattle.write_rows.specs.Rooms.{own_among, NotAmong, Passes, Closes}
use Rattle.write_rows.specs.Bodies.{Body, halt, body, on_body, seal_body, row_body, cell_body, body_of}

module _ (e : Edition) (st : State) (row : Row) where
  abbrev own_move : Found
  own_move = own_among (moves e st.room) st.level row

  abbrev pub pass_move : Found
  pass_move = or_else (find (is_pass (way_to row.kind)) (moves e st.room)) (find (is_pass closing) (moves e st.room))

  by_way : {w : Way} → ways own_move pass_move ≡ w → fit_row e st row ≡ fit_by st row (fit_row e) w
  unfolding way_of
  by_way q = fit_once e st row ∙ ap (fit_by st row (fit_row e)) q

  pub fits_own : {m : Move} → own_move ≡ hit m → fit_row e st row ≡ place st row m
  fits_own q = by_way (ap (λ (o : Found). ways o pass_move) q)

  pub fits_pass : {m : Move} → own_move ≡ none → pass_move ≡ hit m → fit_row e st row ≡ led (m.code ∷ []) (fit_row e (go m.next st) row)
  fits_pass q p = by_way (ap (λ (o : Found). ways o pass_move) q ∙ ap (ways none) p)

  fits_none : own_move ≡ none → pass_move ≡ none → fit_row e st row ≡ unfit
  fits_none q p = by_way (ap (λ (o : Found). ways o pass_move) q ∙ ap (ways none) p)

-- in a room whose only pass is a closing, every row is led on by it
one_pass : (l : List Move) {o : Found} → find (is_pass 0x04) l ≡ none → find (is_pass 0x0a) l ≡ none → find (is_pass closing) l ≡ o → (kind : ℕ) → or_else (find (is_pass (way_to kind)) l) (find (is_pass closing) l) ≡ o
one_pass l {o} p q r kind = at (eqb kind 3 || eqb kind 4) (eqb kind 8)
  where
    first : (x : Found) → x ≡ none → or_else x (find (is_pass closing) l) ≡ o
    first x z = ap (λ (y : Found). or_else y (find (is_pass closing) l)) z ∙ r

    twice : (x : Found) → or_else x x ≡ x
    twice none = refl
    twice (hit m) = refl

    at : (a b : Bool) → or_else (find (is_pass (pick a 0x04 (pick b 0x0a closing))) l) (find (is_pass closing) l) ≡ o
    at true b = first (find (is_pass 0x04) l) p
    at false true = first (find (is_pass 0x0a) l) q
    at false false = twice (find (is_pass closing) l) ∙ r

-- Bodies

pub led_row : (i : ℕ) (f : State → Body) (bs : List ℕ) (o : Fit) → row_body i f (led bs o) ≡ on_body bs (row_body i f o)
led_row i f bs unfit = refl
led_row i f bs (fits st cs) = on_on (f st)
  where
    on_on : (b : Body) → on_body (bs ++ cs) b ≡ on_body bs (on_body cs b)
    on_on (halt j) = refl
    on_on (body ds j xs) = ap (λ (y : List ℕ). body y j xs) (append_assoc bs cs ds)

led_seal : (i : ℕ) (cells : List Cell) (bs : List ℕ) (o : Fit) → seal_body i cells (led bs o) ≡ on_body bs (seal_body i cells o)
led_seal i cells bs unfit = refl
led_seal i cells bs (fits st cs) = refl

module _ (e : Edition) (st : State) (within : is_closed st.room ≡ false) where
  abbrev pub LedBy : Found → List Cell → Type 0
  LedBy o [] = Unit {0}
  LedBy o (broken ∷ cs) = Unit {0}
  LedBy o (cell row ∷ cs) = pass_move e st row ≡ o

  closes_by : {o : Found} → find (is_pass closing) (moves e st.room) ≡ o → close e st ≡ close_by st (close e) o
  closes_by r = close_once e st ∙ ap (λ (b : Bool). pick b (fits st []) (close_by st (close e) (find (is_pass closing) (moves e st.room)))) within ∙ ap (close_by st (close e)) r

  -- where the row ahead stands elsewhere, the room is closed before it
  pub closing_first : {m : Move} → find (is_pass closing) (moves e st.room) ≡ hit m → (cs : List Cell) (i : ℕ) → LedBy (hit m) cs → NotAmong (moves e st.room) st.level cs → body_of e cs i st ≡ on_body (m.code ∷ []) (body_of e cs i (go m.next st))
  unfolding body_of
  closing_first {m} r [] i b h = ap (seal_body i []) (closes_by r) ∙ led_seal i [] (m.code ∷ []) (close e (go m.next st))
  closing_first r (broken ∷ cs) i b h = refl
  closing_first {m} r (cell row ∷ cs) i b h = at (opens_of row)
    where
      at : (o : Opens) → cell_body e st i row cs (body_of e cs (suc i)) o ≡ on_body (m.code ∷ []) (cell_body e (go m.next st) i row cs (body_of e cs (suc i)) o)
      at inner_row = ap (row_body i (body_of e cs (suc i))) (fits_pass e st row h b) ∙ led_row i (body_of e cs (suc i)) (m.code ∷ []) (fit_row e (go m.next st) row)
      at (envelope_row c) = ap (seal_body i (cell row ∷ cs)) (closes_by r) ∙ led_seal i (cell row ∷ cs) (m.code ∷ []) (close e (go m.next st))

  -- where the room has no pass, nothing fits
  nothing_fits : find (is_pass closing) (moves e st.room) ≡ none → (cs : List Cell) (i : ℕ) → LedBy none cs → NotAmong (moves e st.room) st.level cs → body_of e cs i st ≡ halt i
  unfolding body_of
  nothing_fits r [] i b h = ap (seal_body i []) (closes_by r)
  nothing_fits r (broken ∷ cs) i b h = refl
  nothing_fits r (cell row ∷ cs) i b h = at (opens_of row)
    where
      at : (o : Opens) → cell_body e st i row cs (body_of e cs (suc i)) o ≡ halt i
      at inner_row = ap (row_body i (body_of e cs (suc i))) (fits_none e st row h b)
      at (envelope_row c) = ap (seal_body i (cell row ∷ cs)) (closes_by r)

-- a room whose only pass is a closing, or that has none
module _ (e : Edition) (st : State) {o : Found} (c : Closes e st.room o) where
  within : is_closed st.room ≡ false
  within = ap (λ (p : Passes). p.ended) c

  by : find (is_pass closing) (moves e st.room) ≡ o
  by = ap (λ (p : Passes). p.closes) c

  led_all : (cs : List Cell) → LedBy e st within o cs
  led_all [] = tt
  led_all (broken ∷ cs) = tt
  led_all (cell row ∷ cs) = one_pass (moves e st.room) (ap (λ (p : Passes). p.represents) c) (ap (λ (p : Passes). p.receives) c) by row.kind

pub body_closes : (e : Edition) (st : State) {m : Move} → Closes e st.room (hit m) → (cs : List Cell) (i : ℕ) → NotAmong (moves e st.room) st.level cs → body_of e cs i st ≡ on_body (m.code ∷ []) (body_of e cs i (go m.next st))
body_closes e st c cs i = closing_first e st (within e st c) (by e st c) cs i (led_all e st c cs)

pub body_lost : (e : Edition) (st : State) → Closes e st.room none → (cs : List Cell) (i : ℕ) → NotAmong (moves e st.room) st.level cs → body_of e cs i st ≡ halt i
body_lost e st c cs i = nothing_fits e st (within e st c) (by e st c) cs i (led_all e st c cs)
