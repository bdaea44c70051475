-- The grammar (`Grammar`) and the writer's rows: what it allows is a table that is written so (`Writes`), and every such table it allows.
-- Row by row: a move with a row is that row's way, and a pass is the way to what stands behind it.
use Rattle.std.specs.Prelude.{ℕ, suc, ◌+◌, ◌≤◌, List, [], ◌∷◌, ◌++◌, map, Bool, true, false, ◌≡◌, refl, length}
use Rattle.std.proofs.Common.{append_assoc, append-nil, ap, sym, ◌∙◌, subst, arith, length-append, eq-eqb, ltb-false, le-leb}
use Rattle.meaning.specs.Basics.{In}
use Rattle.meaning.specs.Kinds.{agent_name}
use Rattle.meaning.specs.Told.{Edition}
use Rattle.meaning.specs.Editions.{State, go, Move, moves}
use Rattle.meaning.specs.Reading.{Row, is_closed, level_most, too_deep}
use Rattle.meaning.specs.Headers.{Placed, placed_row, meant, envelope_most, start}
use Rattle.meaning.specs.Writing.{fits, fit_row, close, envelope_size, wrap}
use Rattle.laws_steps.specs.Lookups.{row_at}
use Rattle.laws_steps.specs.Fits.{Placing, fit_holds, close_holds, close_once}
use Rattle.laws_steps.specs.WrittenRead.{fit_all, Split, then_inv, then_make}
use Rattle.laws_tables.specs.Ahead.{all_behind}
use Rattle.laws_tables.specs.ReadWritten.{fit_own}
use Rattle.laws_steps.specs.Envelopes.{opening_row, Writes, map_append, limit_size}
use Rattle.meaning.specs.Grammar.{standing, start_in, Steps, none, row, pass, Inside, head_size, Mark, Header, the_base, extension, Small}
use Rattle.laws_demands.specs.Grammatical.{not_deep}

-- From the grammar to the writer

pub steps_fit : (e : Edition) {st st' : State} {at : ℕ} {bytes : List ℕ} {rows : List Placed} → Steps e st at bytes rows st' → is_closed st'.room ≡ true → fit_all e (map meant rows) st ≡ fits st' bytes
unfolding fit_all
steps_fit e (none {st} {at}) c = close_once e st ∙ rw c refl
steps_fit e (row {st} {st'} {at} {bytes} {rows} m v i q ok deep more) c =
    then_make (fit_row e st (row_at m st.level v)) (fit_all e (map meant rows)) (go m.next st) st' (standing m v) bytes (fit_own e st m v i q (not_deep m st deep) ok) (steps_fit e more c)
steps_fit e (pass {st} {st'} {at} {bytes} {rows} m i q more) c = all_behind e (map meant rows) st st' m bytes i q (steps_fit e more c)

-- From the writer to the grammar

pub steps_append : (e : Edition) {st st₁ st₂ : State} {at : ℕ} {xs ys : List ℕ} {rs ts : List Placed} → Steps e st at xs rs st₁ → Steps e st₁ (at + length xs) ys ts st₂ → Steps e st at (xs ++ ys) (rs ++ ts) st₂
steps_append e {st₂ = st₂} {ys = ys} {ts = ts} (none {st} {at}) b = subst (λ (x : ℕ). Steps e st x ys ts st₂) (omega arith) b
steps_append e {st₁ = st₁} {st₂ = st₂} {ys = ys} {ts = ts} (row {st = st} {at = at} {bytes = bytes} {rows = rows} m v i q ok deep more) b =
    subst (λ (x : List ℕ). Steps e st at x (placed_row m.kind st.level (at + start_in m) v ∷ (rows ++ ts)) st₂) (sym (append_assoc (standing m v) bytes ys))
    (row m v i q ok deep (steps_append e more (subst (λ (x : ℕ). Steps e st₁ x ys ts st₂) (omega (arith, length-append (standing m v) bytes)) b)))
steps_append e {st₁ = st₁} {st₂ = st₂} {ys = ys} {ts = ts} (pass {at = at} {bytes = bytes} m i q more) b = pass m i q (steps_append e more (subst (λ (x : ℕ). Steps e st₁ x ys ts st₂) (omega arith) b))

-- an agent that is not too deep
pub shallow : (m : Move) (st : State) → too_deep m st ≡ false → m.kind ≡ agent_name → st.level ≤ level_most
shallow m st d k = ltb-false level_most st.level (rw (eq-eqb m.kind agent_name k) at d)

-- one row, from any place on
abbrev RowSteps : Edition → Row → State → State → List ℕ → Type 0
RowSteps e r st st' bs = (at : ℕ) → (begin : ℕ) × Steps e st at bs (placed_row r.kind r.level begin r.view ∷ []) st'

row_own : (e : Edition) (r : Row) (st st' : State) (m : Move) (bs : List ℕ) → In m (moves e st.room) → Placing st r m st' bs → RowSteps e r st st' bs
row_own e r st st' m bs i p at =
    let begin = at + start_in m in
    let own : Steps e st at (standing m r.view ++ []) (placed_row m.kind st.level begin r.view ∷ []) (go m.next st) = row m r.view i p.loud p.ok (shallow m st p.flat) none in
    let bytes : standing m r.view ++ [] ≡ bs = append-nil (standing m r.view) ∙ p.out in
    let said : placed_row m.kind st.level begin r.view ≡ placed_row r.kind r.level begin r.view = λ j. placed_row (p.kind_is j) (sym p.level_is j) begin r.view in (
      begin,
      subst (λ (x : State). Steps e st at bs (placed_row r.kind r.level begin r.view ∷ []) x) p.to
          (subst (λ (x : Placed). Steps e st at bs (x ∷ []) (go m.next st)) said (subst (λ (x : List ℕ). Steps e st at x (placed_row m.kind st.level begin r.view ∷ []) (go m.next st)) bytes own)),
    )

row_steps : (e : Edition) (r : Row) (st st' : State) (bs : List ℕ) → fit_row e st r ≡ fits st' bs → RowSteps e r st st' bs
row_steps e r = fit_holds e r (RowSteps e r) (row_own e r) (λ st st' m bs i q p at. let (begin, s) = p (at + 1) in (begin, pass m i q s))

abbrev ClosingSteps : Edition → State → State → List ℕ → Type 0
ClosingSteps e st st' bs = (is_closed st'.room ≡ true) × ((at : ℕ) → Steps e st at bs [] st')

closing_steps : (e : Edition) (st st' : State) (bs : List ℕ) → close e st ≡ fits st' bs → ClosingSteps e st st' bs
closing_steps e = close_holds e (ClosingSteps e) (λ st h. (h, λ at. none)) (λ st st' m bs i q (h, s). (h, λ at. pass m i q (s (at + 1))))

pub record Fitting (e : Edition) (st : State) (at : ℕ) (bs : List ℕ) (rows : List Row) (st' : State) : Type 0 where
  pub placed_rows : List Placed
  pub steps : Steps e st at bs placed_rows st'
  pub closes : is_closed st'.room ≡ true
  pub mean : map meant placed_rows ≡ rows

pub fit_steps : (e : Edition) (rows : List Row) (st st' : State) (bs : List ℕ) → fit_all e rows st ≡ fits st' bs → (at : ℕ) → Fitting e st at bs rows st'
unfolding fit_all
fit_steps e [] st st' bs q at = let (h, s) = closing_steps e st st' bs q in record { placed_rows = []; steps = s at; closes = h; mean = refl }
fit_steps e (r ∷ rows) st st' bs q at = over_row (then_inv (fit_row e st r) (fit_all e rows) st' bs q) (λ st₁ ds. fit_steps e rows st₁ st' ds)
  where
    over_row : Split (fit_row e st r) (fit_all e rows) st' bs → ((st₁ : State) (ds : List ℕ) → fit_all e rows st₁ ≡ fits st' ds → (at : ℕ) → Fitting e st₁ at ds rows st') → Fitting e st at bs (r ∷ rows) st'
    over_row (st₁, cs, ds, q₁, q₂, q₃) ih =
        let (begin, s) = row_steps e r st st₁ cs q₁ at in
        let f = ih st₁ ds q₂ (at + length cs) in
        let all = placed_row r.kind r.level begin r.view ∷ f.placed_rows in
        record { placed_rows = all; steps = subst (λ (x : List ℕ). Steps e st at x all st') (sym q₃) (steps_append e s f.steps); closes = f.closes; mean = ap (λ (x : List Row). r ∷ x) f.mean }

-- Whole tables

-- a table that is written, as the grammar has it: from any place and row on
pub record Grammatical (e : Edition) (i at : ℕ) (bytes : List ℕ) (table : List Row) (n : ℕ) : Type 0 where
  pub rows : List Placed
  pub marks : List Mark
  pub header : Header e i at bytes rows marks
  pub mean : map meant rows ≡ table
  pub small : Small marks
  pub count : length marks ≡ n

inside_of : (e : Edition) (base : Bool) (rows : List Row) (st : State) (bs : List ℕ) → fit_all e rows (start base) ≡ fits st bs → (at : ℕ) → (placed_rows : List Placed) × Inside e base at bs placed_rows × (map meant placed_rows ≡ rows)
inside_of e base rows st bs q at = let f = fit_steps e rows (start base) st bs q at in (f.placed_rows, record { last = st; steps = f.steps; closes = f.closes }, f.mean)

pub writes_grammatical : (e : Edition) {n : ℕ} {table : List Row} {w : List ℕ} → Writes e n table w → (i at : ℕ) → Grammatical e i at w table n
writes_grammatical e (Writes.the_base rows st bs q l) i at =
    let (placed_rows, h, mean) = inside_of e true rows st bs q (at + head_size (length bs)) in
    record { rows = _; marks = _; header = the_base h; mean = ap (λ (x : List Row). opening_row true ∷ x) mean; small = (limit_size (length bs) l, tt); count = refl }
writes_grammatical e (Writes.before rows table st bs w n q l more) i at =
    let (placed_rows, h, mean) = inside_of e false rows st bs q (at + head_size (length bs)) in
    let g = writes_grammatical e more (suc i + length placed_rows) (at + envelope_size (length bs)) in
    record {
      rows = _;
      marks = _;
      header = extension h g.header;
      mean = ap (λ (x : List Row). opening_row false ∷ x) (map_append placed_rows g.rows ∙ ap (λ (x : List Row). x ++ map meant g.rows) mean ∙ ap (λ (x : List Row). rows ++ x) g.mean);
      small = (limit_size (length bs) l, g.small);
      count = ap suc g.count;
    }

pub grammatical_writes : (e : Edition) {i at : ℕ} {bytes : List ℕ} {rows : List Placed} {marks : List Mark} → Header e i at bytes rows marks → Small marks → Writes e (length marks) (map meant rows) bytes
grammatical_writes e (the_base {bytes = bytes} {rows = rows} h) s = Writes.the_base (map meant rows) h.last bytes (steps_fit e h.steps h.closes) (le-leb (envelope_size (length bytes)) envelope_most s.0)
grammatical_writes e (extension {bytes = bytes} {more = w} {rows = rows} {table = table} {marks = marks} h more) s =
    subst (λ (x : List Row). Writes e (suc (length marks)) (opening_row false ∷ x) (wrap false bytes ++ w)) (sym (map_append rows table))
    (Writes.before (map meant rows) (map meant table) h.last bytes w (length marks) (steps_fit e h.steps h.closes) (le-leb (envelope_size (length bytes)) envelope_most s.0) (grammatical_writes e more s.1))
