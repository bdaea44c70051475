-- The writer's plan and the grammar (`Grammar`): rows have a plan exactly if they are a table, limits aside; its envelopes are that table's, with their rows and sizes.
-- By induction over the rows, then over the envelopes.
use Rattle.std.specs.Prelude.{ℕ, suc, ◌+◌, Bool, true, false, ◌≡◌, refl, length}
use mathlib.Core.List.{List, [], ◌∷◌, ◌++◌, append-nil, map}
use Rattle.std.proofs.Common.{ap, sym, ◌∙◌, arith}
use Rattle.std.proofs.Math.Path.{subst}
use Rattle.meaning.specs.Told.{Edition}
use Rattle.meaning.specs.Editions.{closed, State, state}
use Rattle.meaning.specs.Reading.{Row}
use Rattle.meaning.specs.Headers.{Placed, placed_row, meant, opening, start}
use Rattle.meaning.specs.Writing.{Fit, unfit, fits, fit_row, close, Cell, cell, broken, Opens, envelope_row, inner_row, opens_of, Envelope, envelope_at, Plan, stuck, plan, on_plan, new_plan, row_plan, turn_plan, end_plan, next_row, last_row, plan_of, whole_plan, envelope_size, wrap, header_of}
use Rattle.laws_steps.specs.Fits.{close_once}
use Rattle.laws_steps.specs.WrittenRead.{fit_all, then_inv, then_make}
use Rattle.laws_steps.specs.Envelopes.{opening_row, map_append}
use Rattle.laws_steps.specs.Plans.{OpensIs, opens_is, closed_fits, Planned, plan_row, plan_end, plan_turn}
use Rattle.laws_tables.specs.RowCounts.{length_meant}
use Rattle.meaning.specs.Grammar.{head_size, Mark, mark, Header, the_base, extension}
use Rattle.laws_demands.specs.GrammarWritten.{steps_fit, fit_steps}
use Rattle.meaning.specs.WriterFaults.{RowsAre}

-- an envelope of a plan: its row and its size
abbrev pub mark_of : Envelope → Mark
mark_of v = mark v.at (envelope_size (length v.body))

-- From a plan to a table

-- the envelopes of a plan are a header of the grammar, from any place on
record Heading (e : Edition) (i at : ℕ) (table : List Row) (vs : List Envelope) : Type 0 where
  rows : List Placed
  header : Header e i at (header_of vs) rows (map mark_of vs)
  mean : map meant rows ≡ table

abbrev Behind : Edition → Bool → ℕ → List Row → List Envelope → Type 0
Behind e true i table vs = (table ≡ []) × (vs ≡ [])
Behind e false i table vs = (at : ℕ) → Heading e i at table vs

-- from row i on: the rows left of the envelope that is open, and the envelopes behind it
record Parsed (e : Edition) (i : ℕ) (b : Bool) (st : State) (cs : List Cell) (bs : List ℕ) (vs : List Envelope) : Type 0 where
  rows : List Row
  table : List Row
  last : State
  cells : cs ≡ map cell (rows ++ table)
  fits_all : fit_all e rows st ≡ fits last bs
  rest : Behind e b (i + length rows) table vs

abbrev Parse : Edition → ℕ → Bool → State → List Cell → Plan → Type 0
Parse e i b st cs (stuck j) = Unit {0}
Parse e i b st cs (plan bs vs) = Parsed e i b st cs bs vs

parse_end : (e : Edition) (st : State) (i j : ℕ) (o : Fit) → close e st ≡ o → Parse e i true st [] (end_plan j o)
unfolding fit_all
parse_end e st i j unfit q = tt
parse_end e st i j (fits st₁ bs) q = record { rows = []; table = []; last = st₁; cells = refl; fits_all = q; rest = (refl, refl) }

parse_last : (e : Edition) (i : ℕ) (b : Bool) (st : State) → Parse e i b st [] (last_row e b st i)
parse_last e i true st = parse_end e st i i (close e st) refl
parse_last e i false st = tt

behind_moved : (e : Edition) (b : Bool) (i j : ℕ) (table : List Row) (vs : List Envelope) → i ≡ j → Behind e b i table vs → Behind e b j table vs
behind_moved e b i j table vs q h = subst (λ (x : ℕ). Behind e b x table vs) q h

parse_on : (e : Edition) (i : ℕ) (b : Bool) (st st₁ : State) (r : Row) (cs : List Cell) (bs : List ℕ) (p : Plan) → fit_row e st r ≡ fits st₁ bs → Parse e (suc i) b st₁ cs p → Parse e i b st (cell r ∷ cs) (on_plan bs p)
unfolding fit_all
parse_on e i b st st₁ r cs bs (stuck j) q w = tt
parse_on e i b st st₁ r cs bs (plan ds vs) q w =
    record {
      rows = r ∷ w.rows;
      table = w.table;
      last = w.last;
      cells = ap (λ (x : List Cell). cell r ∷ x) w.cells;
      fits_all = then_make (fit_row e st r) (fit_all e w.rows) st₁ w.last bs ds q w.fits_all;
      rest = behind_moved e b (suc i + length w.rows) (i + length (r ∷ w.rows)) w.table vs (omega arith) w.rest;
    }

parse_row : (e : Edition) (i : ℕ) (b : Bool) (st : State) (r : Row) (cs : List Cell) (f : State → Plan) (o : Fit) → fit_row e st r ≡ o → ((st : State) → Parse e (suc i) b st cs (f st)) → Parse e i b st (cell r ∷ cs) (row_plan i f o)
parse_row e i b st r cs f unfit q ih = tt
parse_row e i b st r cs f (fits st₁ bs) q ih = parse_on e i b st st₁ r cs bs (f st₁) q (ih st₁)

-- an envelope's own row, its rows and what is behind it are a header from that row on
heading_of : (e : Edition) (c : Bool) (i : ℕ) (rows table : List Row) (last : State) (ds : List ℕ) (vs : List Envelope) → fit_all e rows (start c) ≡ fits last ds → Behind e c (suc i + length rows) table vs
    → (at : ℕ) → Heading e i at (opening_row c ∷ (rows ++ table)) (envelope_at i c ds ∷ vs)
heading_of e true i rows table last ds vs q (t, v) at =
    let f = fit_steps e rows (start true) last ds q (at + head_size (length ds)) in
    let one : Header e i at (wrap true ds ++ []) (placed_row (opening true) 0 at [] ∷ f.placed_rows) (mark i (envelope_size (length ds)) ∷ [])
    = subst (λ (x : List ℕ). Header e i at x (placed_row (opening true) 0 at [] ∷ f.placed_rows) (mark i (envelope_size (length ds)) ∷ [])) (sym (append-nil (wrap true ds))) (the_base (record { last = last; steps = f.steps; closes = f.closes })) in
    record {
      rows = placed_row (opening true) 0 at [] ∷ f.placed_rows;
      header = subst (λ (x : List Envelope). Header e i at (wrap true ds ++ header_of x) (placed_row (opening true) 0 at [] ∷ f.placed_rows) (mark i (envelope_size (length ds)) ∷ map mark_of x)) (sym v) one;
      mean = ap (λ (x : List Row). opening_row true ∷ x) (f.mean ∙ sym (append-nil rows) ∙ ap (λ (x : List Row). rows ++ x) (sym t));
    }
heading_of e false i rows table last ds vs q h at =
    let f = fit_steps e rows (start false) last ds q (at + head_size (length ds)) in
    let many : suc i + length rows ≡ suc i + length f.placed_rows = omega (arith, ap length f.mean, length_meant f.placed_rows) in
    let g = subst (λ (x : ℕ). Heading e x (at + envelope_size (length ds)) table vs) many (h (at + envelope_size (length ds))) in
    record {
      rows = placed_row (opening false) 0 at [] ∷ (f.placed_rows ++ g.rows);
      header = extension (record { last = last; steps = f.steps; closes = f.closes }) g.header;
      mean = ap (λ (x : List Row). opening_row false ∷ x) (map_append f.placed_rows g.rows ∙ ap (λ (x : List Row). x ++ map meant g.rows) f.mean ∙ ap (λ (x : List Row). rows ++ x) g.mean);
    }

parse_new : (e : Edition) (st st₁ : State) (i : ℕ) (c : Bool) (r : Row) (cs : List Cell) (bs : List ℕ) (p : Plan) → r ≡ opening_row c → close e st ≡ fits st₁ bs → Parse e (suc i) c (start c) cs p → Parse e i false st (cell r ∷ cs) (new_plan i c bs p)
unfolding fit_all
parse_new e st st₁ i c r cs bs (stuck j) o q w = tt
parse_new e st st₁ i c r cs bs (plan ds vs) o q w =
    record {
      rows = [];
      table = opening_row c ∷ (w.rows ++ w.table);
      last = st₁;
      cells = ap (λ (x : Row). cell x ∷ cs) o ∙ ap (λ (x : List Cell). cell (opening_row c) ∷ x) w.cells;
      fits_all = q;
      rest = λ at. subst (λ (x : ℕ). Heading e x at (opening_row c ∷ (w.rows ++ w.table)) (envelope_at i c ds ∷ vs)) (omega arith) (heading_of e c i w.rows w.table w.last ds vs w.fits_all w.rest at);
    }

parse_turn : (e : Edition) (st : State) (i : ℕ) (c : Bool) (r : Row) (cs : List Cell) (f : State → Plan) (o : Fit) → r ≡ opening_row c → close e st ≡ o → ((st : State) → Parse e (suc i) c st cs (f st)) → Parse e i false st (cell r ∷ cs) (turn_plan i c f o)
parse_turn e st i c r cs f unfit p q ih = tt
parse_turn e st i c r cs f (fits st₁ bs) p q ih = parse_new e st st₁ i c r cs bs (f (start c)) p q (ih (start c))

parse_next : (e : Edition) (i : ℕ) (b : Bool) (st : State) (r : Row) (cs : List Cell) (f : Bool → State → Plan) (o : Opens) → OpensIs r o → ((b : Bool) (st : State) → Parse e (suc i) b st cs (f b st)) → Parse e i b st (cell r ∷ cs) (next_row e b st i r f o)
parse_next e i b st r cs f inner_row q ih = parse_row e i b st r cs (f b) (fit_row e st r) refl (ih b)
parse_next e i true st r cs f (envelope_row c) q ih = tt
parse_next e i false st r cs f (envelope_row c) q ih = parse_turn e st i c r cs (f c) (close e st) q refl (ih c)

parse : (e : Edition) (cs : List Cell) (i : ℕ) (b : Bool) (st : State) → Parse e i b st cs (plan_of e cs i b st)
unfolding plan_of
parse e [] i b st = parse_last e i b st
parse e (broken ∷ cs) i b st = tt
parse e (cell r ∷ cs) i b st = parse_next e i b st r cs (plan_of e cs (suc i)) (opens_of r) (opens_is r) (parse e cs (suc i))

-- before the first envelope nothing fits
parsed_whole : (e : Edition) (cs : List Cell) (bs : List ℕ) (vs : List Envelope) → Parsed e 0 false (state closed 0 false) cs bs vs → RowsAre e cs (header_of vs) (map mark_of vs)
unfolding fit_all
parsed_whole e cs bs vs p = at p.rows p.cells p.fits_all p.rest
  where
    at : (rows : List Row) → cs ≡ map cell (rows ++ p.table) → fit_all e rows (state closed 0 false) ≡ fits p.last bs → Behind e false (0 + length rows) p.table vs → RowsAre e cs (header_of vs) (map mark_of vs)
    at [] c f rest = let h = rest 0 in record { rows = h.rows; header = h.header; say = c ∙ ap (map cell) (sym h.mean) }
    at (r ∷ rows) c f rest =
        let (st₁, xs, ys, q, q₂, q₃) = then_inv (fit_row e (state closed 0 false) r) (fit_all e rows) p.last bs f in
        absurd (closed_fits e r (state closed 0 false) st₁ xs q refl)

pub planned_table : (e : Edition) (cs : List Cell) (bs : List ℕ) (vs : List Envelope) → whole_plan e cs ≡ plan bs vs → RowsAre e cs (header_of vs) (map mark_of vs)
planned_table e cs bs vs q = parsed_whole e cs bs vs (subst (Parse e 0 false (state closed 0 false) cs) q (parse e cs 0 false (state closed 0 false)))

-- From a table to a plan

module _ (e : Edition) (Q : List Envelope → Type 0) where
  -- rows of an envelope, before what its end is planned with at their count
  rows_planned : (rows table : List Row) (b : Bool) (i : ℕ) → ((st st' : State) (bs : List ℕ) → close e st ≡ fits st' bs → Planned e Q (map cell table) (i + length rows) b st bs)
      → (st st' : State) (bs : List ℕ) → fit_all e rows st ≡ fits st' bs → Planned e Q (map cell (rows ++ table)) i b st bs
  unfolding fit_all
  rows_planned [] table b i h st st' bs q = subst (λ (x : ℕ). Planned e Q (map cell table) x b st bs) (omega arith) (h st st' bs q)
  rows_planned (r ∷ rows) table b i h st st' bs q =
      let (st₁, cs, ds, q₁, q₂, q₃) = then_inv (fit_row e st r) (fit_all e rows) st' bs q in
      let later = rows_planned rows table b (suc i) (λ st₂ st₃ xs z. subst (λ (x : ℕ). Planned e Q (map cell table) x b st₂ xs) (omega arith) (h st₂ st₃ xs z)) st₁ st' ds q₂ in
      subst (Planned e Q (map cell ((r ∷ rows) ++ table)) i b st) (sym q₃) (plan_row e Q r (map cell (rows ++ table)) i b st st₁ cs ds q₁ later)

-- a plan whose envelopes are these
abbrev Makes : List ℕ → List Mark → List Envelope → Type 0
Makes bytes marks vs = (header_of vs ≡ bytes) × (map mark_of vs ≡ marks)

header_planned : (e : Edition) {i at : ℕ} {bytes : List ℕ} {rows : List Placed} {marks : List Mark} → Header e i at bytes rows marks → (st st' : State) (bs : List ℕ) → close e st ≡ fits st' bs → Planned e (Makes bytes marks) (map cell (map meant rows)) i false st bs
header_planned e (the_base {i} {at} {bytes} {rows} h) st st' bs q =
    let inner : Planned e (Makes [] []) (map cell (map meant rows ++ [])) (suc i) true (start true) bytes
    = rows_planned e (Makes [] []) (map meant rows) [] true (suc i) (λ st₁ st₂ xs z. plan_end e (Makes [] []) (refl, refl) (suc i + length (map meant rows)) st₁ st₂ xs z) (start true) h.last bytes (steps_fit e h.steps h.closes) in
    plan_turn e (Makes [] []) (Makes (wrap true bytes) (mark i (envelope_size (length bytes)) ∷ [])) true (map cell (map meant rows)) i st st' bs bytes q
    (λ vs (a, b). (ap (λ (x : List ℕ). wrap true bytes ++ x) a ∙ append-nil (wrap true bytes), ap (λ (x : List Mark). mark i (envelope_size (length bytes)) ∷ x) b))
    (subst (λ (x : List Row). Planned e (Makes [] []) (map cell x) (suc i) true (start true) bytes) (append-nil (map meant rows)) inner)
header_planned e (extension {i} {at} {bytes} {more} {rows} {table} {marks} h later) st st' bs q =
    let count : suc i + length rows ≡ suc i + length (map meant rows) = omega (arith, length_meant rows) in
    let inner : Planned e (Makes more marks) (map cell (map meant rows ++ map meant table)) (suc i) false (start false) bytes
    = rows_planned e (Makes more marks) (map meant rows) (map meant table) false (suc i) (λ st₁ st₂ xs z. subst (λ (x : ℕ). Planned e (Makes more marks) (map cell (map meant table)) x false st₁ xs) count (header_planned e later st₁ st₂ xs z))
    (start false) h.last bytes (steps_fit e h.steps h.closes) in
    plan_turn e (Makes more marks) (Makes (wrap false bytes ++ more) (mark i (envelope_size (length bytes)) ∷ marks)) false (map cell (map meant (rows ++ table))) i st st' bs bytes q
    (λ vs (a, b). (ap (λ (x : List ℕ). wrap false bytes ++ x) a, ap (λ (x : List Mark). mark i (envelope_size (length bytes)) ∷ x) b))
    (subst (λ (x : List Row). Planned e (Makes more marks) (map cell x) (suc i) false (start false) bytes) (sym (map_append rows table)) inner)

pub table_planned : (e : Edition) (cs : List Cell) (bytes : List ℕ) (marks : List Mark) → RowsAre e cs bytes marks → (vs : List Envelope) × (whole_plan e cs ≡ plan [] vs) × (header_of vs ≡ bytes) × (map mark_of vs ≡ marks)
table_planned e cs bytes marks t =
    let (vs, p, (a, b)) = header_planned e t.header (state closed 0 false) (state closed 0 false) [] (close_once e (state closed 0 false)) in
    (vs, ap (whole_plan e) t.say ∙ p, a, b)
