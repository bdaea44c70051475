-- The writer over a flat table: what it writes is a table of envelopes (`Writes`), and every such table it writes.
use Rattle.std.specs.Prelude.{ℕ, zero, suc, ◌≤◌, Bool, true, false, ◌&&◌, ◌||◌, ◌≡◌, T, eqb, leb, length}
use mathlib.Core.List.{List, [], ◌∷◌, ◌++◌, append-nil, map}
use Rattle.std.proofs.Math.Path.{refl}
use Rattle.std.proofs.Common.{ap, sym, ◌∙◌, subst, arith, leb→le, eqb→eq, le-leb, leb-true, ne_eqb, eqb-true}
use Rattle.meaning.specs.Basics.{pick, is_empty, every, In}
use Rattle.meaning.specs.Kinds.{extension_opens, base_opens}
use Rattle.meaning.specs.Told.{Edition, B, D}
use Rattle.meaning.specs.Editions.{State, state, closed, is_quiet, Move, moves, shared, own, Room}
use Rattle.meaning.specs.Reading.{Row}
use Rattle.meaning.specs.Skips.{Skips, right, wrong_at}
use Rattle.meaning.specs.Headers.{start, envelopes_most, opening}
use Rattle.meaning.specs.Writing.{Fit, unfit, fits, fit_row, close, Cell, cell, broken, Opens, envelope_row, inner_row, opens_of, Envelope, envelope_at, Plan, stuck, plan, on_plan, new_plan, row_plan, turn_plan, end_plan, next_row, last_row, plan_of, whole_plan, within_limit, wrap, header_of, Limit, fine, exceeds, limits, Written, written, unwritten, limited, planned, write_rows}
use Rattle.laws_steps.specs.Logic.{left_of, right_of}
use Rattle.laws_steps.specs.Tables.{every_in, all_rooms, each_room}
use Rattle.laws_steps.specs.Fits.{fit_holds, close_once}
use Rattle.laws_steps.specs.WrittenRead.{fit_all, then_inv, then_make}
use Rattle.laws_steps.specs.Envelopes.{opening_row, Writes, the_base, before}

-- Which rows open an envelope

empty_is : (v : List ℕ) → T (is_empty v) → v ≡ []
empty_is [] t = refl
empty_is (b ∷ v) t = absurd t

abbrev pub OpensIs : Row → Opens → Type 0
OpensIs row inner_row = Unit {0}
OpensIs row (envelope_row b) = row ≡ opening_row b

row_is : (row : Row) (b : Bool) → row.kind ≡ opening b → row.level ≡ 0 → row.view ≡ [] → row ≡ opening_row b
row_is row b p q r = λ i. record { kind = p i; level = q i; view = r i }

opens_kind : (row : Row) (x y : Bool) → eqb row.kind extension_opens ≡ x → eqb row.kind base_opens ≡ y → row.level ≡ 0 → row.view ≡ [] → OpensIs row (pick x (envelope_row false) (pick y (envelope_row true) inner_row))
opens_kind row true y p q l v = row_is row false (eqb-true row.kind extension_opens p) l v
opens_kind row false true p q l v = row_is row true (eqb-true row.kind base_opens q) l v
opens_kind row false false p q l v = tt

opens_level : (row : Row) (z : Bool) → eqb row.level 0 && is_empty row.view ≡ z
    → OpensIs row (pick z (pick (eqb row.kind extension_opens) (envelope_row false) (pick (eqb row.kind base_opens) (envelope_row true) inner_row)) inner_row)
opens_level row true q =
    let t : T (eqb row.level 0 && is_empty row.view) = subst T (sym q) tt in
    opens_kind row (eqb row.kind extension_opens) (eqb row.kind base_opens) refl refl (eqb→eq row.level 0 (left_of (eqb row.level 0) (is_empty row.view) t)) (empty_is row.view (right_of (eqb row.level 0) (is_empty row.view) t))
opens_level row false q = tt

pub opens_is : (row : Row) → OpensIs row (opens_of row)
opens_is row = opens_level row (eqb row.level 0 && is_empty row.view) refl

pub opens_envelope_lem : (b : Bool) → opens_of (opening_row b) ≡ envelope_row b
opens_envelope_lem true = refl
opens_envelope_lem false = refl

-- a row that fits inside an envelope opens none
abbrev inner_move : Move → Bool
inner_move m = is_quiet m.form || leb 3 m.kind

abbrev inner_moves : Edition → Room → Bool
inner_moves e r = every inner_move (moves e r)

inner_test : T (all_rooms inner_moves)
unfolding moves shared own
inner_test = tt

pub inner_kind : (e : Edition) (row : Row) (st st' : State) (bs : List ℕ) → fit_row e st row ≡ fits st' bs → 3 ≤ row.kind
inner_kind e row =
    fit_holds e row (λ st st' bs. 3 ≤ row.kind)
    (λ st st' m bs i p.
    let t : T (inner_move m) = every_in inner_move i (each_room inner_moves inner_test e st.room) in
    let h : 3 ≤ m.kind = leb→le 3 m.kind (rw p.loud at t) in
    subst (λ (k : ℕ). 3 ≤ k) p.kind_is h)
    (λ st st' m bs i q h. h)

pick_same : (z : Bool) → pick z inner_row inner_row ≡ inner_row
pick_same true = refl
pick_same false = refl

pub fits_inner : (e : Edition) (row : Row) (st st' : State) (bs : List ℕ) → fit_row e st row ≡ fits st' bs → opens_of row ≡ inner_row
fits_inner e row st st' bs q =
    let h = inner_kind e row st st' bs q in
    rw (ne_eqb row.kind extension_opens (λ x. omega arith), ne_eqb row.kind base_opens (λ x. omega arith)) (pick_same (eqb row.level 0 && is_empty row.view))

-- What a plan is: the rows of the envelope that is open, and a chain of envelopes behind it

data Chain (e : Edition) : List Row → List Envelope → Type 0 where
  ends_with : (i : ℕ) (rows : List Row) (st : State) (bs : List ℕ) → fit_all e rows (start true) ≡ fits st bs → Chain e (opening_row true ∷ rows) (envelope_at i true bs ∷ [])
  goes_on : (i : ℕ) (rows table : List Row) (st : State) (bs : List ℕ) (vs : List Envelope) → fit_all e rows (start false) ≡ fits st bs → Chain e table vs
      → Chain e (opening_row false ∷ (rows ++ table)) (envelope_at i false bs ∷ vs)

abbrev Behind : Edition → Bool → List Row → List Envelope → Type 0
Behind e true table vs = (table ≡ []) × (vs ≡ [])
Behind e false table vs = Chain e table vs

record Parsed (e : Edition) (b : Bool) (st : State) (cs : List Cell) (bs : List ℕ) (vs : List Envelope) : Type 0 where
  rows : List Row
  table : List Row
  to : State
  cells : cs ≡ map cell (rows ++ table)
  fits_all : fit_all e rows st ≡ fits to bs
  rest : Behind e b table vs

abbrev Parse : Edition → Bool → State → List Cell → Plan → Type 0
Parse e b st cs (stuck i) = Unit {0}
Parse e b st cs (plan bs vs) = Parsed e b st cs bs vs

parse_end : (e : Edition) (st : State) (i : ℕ) (o : Fit) → close e st ≡ o → Parse e true st [] (end_plan i o)
unfolding fit_all
parse_end e st i unfit q = tt
parse_end e st i (fits st₁ bs) q = record { rows = []; table = []; to = st₁; cells = refl; fits_all = q; rest = (refl, refl) }

parse_last : (e : Edition) (b : Bool) (st : State) (i : ℕ) → Parse e b st [] (last_row e b st i)
parse_last e true st i = parse_end e st i (close e st) refl
parse_last e false st i = tt

parse_on : (e : Edition) (b : Bool) (st st₁ : State) (row : Row) (cs : List Cell) (bs : List ℕ) (p : Plan) → fit_row e st row ≡ fits st₁ bs → Parse e b st₁ cs p → Parse e b st (cell row ∷ cs) (on_plan bs p)
unfolding fit_all
parse_on e b st st₁ row cs bs (stuck i) q w = tt
parse_on e b st st₁ row cs bs (plan ds vs) q w =
    record {
      rows = row ∷ w.rows;
      table = w.table;
      to = w.to;
      cells = ap (λ (x : List Cell). cell row ∷ x) w.cells;
      fits_all = then_make (fit_row e st row) (fit_all e w.rows) st₁ w.to bs ds q w.fits_all;
      rest = w.rest;
    }

parse_row : (e : Edition) (b : Bool) (st : State) (i : ℕ) (row : Row) (cs : List Cell) (f : State → Plan) (o : Fit) → fit_row e st row ≡ o → ((st : State) → Parse e b st cs (f st)) → Parse e b st (cell row ∷ cs) (row_plan i f o)
parse_row e b st i row cs f unfit q ih = tt
parse_row e b st i row cs f (fits st₁ bs) q ih = parse_on e b st st₁ row cs bs (f st₁) q (ih st₁)

-- what follows an envelope's own row is that envelope and the rest
chain_of : (e : Edition) (c : Bool) (i : ℕ) (rows table : List Row) (to : State) (ds : List ℕ) (vs : List Envelope) → fit_all e rows (start c) ≡ fits to ds → Behind e c table vs
    → Chain e (opening_row c ∷ (rows ++ table)) (envelope_at i c ds ∷ vs)
chain_of e true i rows table to ds vs q (t, v) =
    subst (λ (x : List Row). Chain e (opening_row true ∷ (rows ++ x)) (envelope_at i true ds ∷ vs)) (sym t)
    (subst (λ (x : List Envelope). Chain e (opening_row true ∷ (rows ++ [])) (envelope_at i true ds ∷ x)) (sym v)
    (subst (λ (x : List Row). Chain e (opening_row true ∷ x) (envelope_at i true ds ∷ [])) (sym (append-nil rows)) (ends_with i rows to ds q)))
chain_of e false i rows table to ds vs q c = goes_on i rows table to ds vs q c

parse_new : (e : Edition) (st st₁ : State) (i : ℕ) (c : Bool) (row : Row) (cs : List Cell) (bs : List ℕ) (p : Plan) → row ≡ opening_row c → close e st ≡ fits st₁ bs → Parse e c (start c) cs p → Parse e false st (cell row ∷ cs) (new_plan i c bs p)
unfolding fit_all
parse_new e st st₁ i c row cs bs (stuck j) r q w = tt
parse_new e st st₁ i c row cs bs (plan ds vs) r q w =
    record {
      rows = [];
      table = opening_row c ∷ (w.rows ++ w.table);
      to = st₁;
      cells = rw (r, w.cells) refl;
      fits_all = q;
      rest = chain_of e c i w.rows w.table w.to ds vs w.fits_all w.rest;
    }

parse_turn : (e : Edition) (st : State) (i : ℕ) (c : Bool) (row : Row) (cs : List Cell) (f : State → Plan) (o : Fit) → row ≡ opening_row c → close e st ≡ o → ((st : State) → Parse e c st cs (f st)) → Parse e false st (cell row ∷ cs) (turn_plan i c f o)
parse_turn e st i c row cs f unfit r q ih = tt
parse_turn e st i c row cs f (fits st₁ bs) r q ih = parse_new e st st₁ i c row cs bs (f (start c)) r q (ih (start c))

parse_next : (e : Edition) (b : Bool) (st : State) (i : ℕ) (row : Row) (cs : List Cell) (f : Bool → State → Plan) (o : Opens) → OpensIs row o → ((b : Bool) (st : State) → Parse e b st cs (f b st)) → Parse e b st (cell row ∷ cs) (next_row e b st i row f o)
parse_next e b st i row cs f inner_row q ih = parse_row e b st i row cs (f b) (fit_row e st row) refl (ih b)
parse_next e true st i row cs f (envelope_row c) q ih = tt
parse_next e false st i row cs f (envelope_row c) q ih = parse_turn e st i c row cs (f c) (close e st) q refl (ih c)

parse : (e : Edition) (cs : List Cell) (i : ℕ) (b : Bool) (st : State) → Parse e b st cs (plan_of e cs i b st)
unfolding plan_of
parse e [] i b st = parse_last e b st i
parse e (broken ∷ cs) i b st = tt
parse e (cell row ∷ cs) i b st = parse_next e b st i row cs (plan_of e cs (suc i)) (opens_of row) (opens_is row) (parse e cs (suc i))

-- rows behind which nothing opens are those of the envelope that is open, up to its end
pub last_parsed : (e : Edition) (cs : List Cell) (i : ℕ) (st : State) (bs : List ℕ) (vs : List Envelope) → plan_of e cs i true st ≡ plan bs vs → (rows : List Row) × (to : State) × (cs ≡ map cell rows) × (fit_all e rows st ≡ fits to bs)
last_parsed e cs i st bs vs q =
    let p : Parsed e true st cs bs vs = subst (Parse e true st cs) q (parse e cs i true st) in
    (p.rows, p.to, p.cells ∙ ap (map cell) (ap (λ (x : List Row). p.rows ++ x) p.rest.0 ∙ append-nil p.rows), p.fits_all)

-- before the first envelope nothing is open, and nothing fits
closed_close : (e : Edition) → close e (state closed 0 false) ≡ fits (state closed 0 false) []
closed_close e = close_once e (state closed 0 false)

closed_moves : (e : Edition) {m : Move} → In m (moves e closed) → ⊥
unfolding moves shared own
closed_moves B i = every_in (λ m. false) i tt
closed_moves D i = every_in (λ m. false) i tt

pub closed_fits : (e : Edition) (row : Row) (st st' : State) (bs : List ℕ) → fit_row e st row ≡ fits st' bs → st.room ≡ closed → ⊥
closed_fits e row =
    fit_holds e row (λ st st' bs. st.room ≡ closed → ⊥) (λ st st' m bs i p q. closed_moves e (subst (λ (r : Room). In m (moves e r)) q i)) (λ st st' m bs i p h q. closed_moves e (subst (λ (r : Room). In m (moves e r)) q i))

parsed_whole : (e : Edition) (cs : List Cell) (bs : List ℕ) (vs : List Envelope) → Parsed e false (state closed 0 false) cs bs vs → (table : List Row) × (cs ≡ map cell table) × Chain e table vs
unfolding fit_all
parsed_whole e cs bs vs p = at p.rows p.cells p.fits_all
  where
    at : (rows : List Row) → cs ≡ map cell (rows ++ p.table) → fit_all e rows (state closed 0 false) ≡ fits p.to bs → (table : List Row) × (cs ≡ map cell table) × Chain e table vs
    at [] c f = (p.table, c, p.rest)
    at (row ∷ rows) c f =
        let (st₁, xs, ys, q, q₂, q₃) = then_inv (fit_row e (state closed 0 false) row) (fit_all e rows) p.to bs f in
        absurd (closed_fits e row (state closed 0 false) st₁ xs q refl)

-- within the limits a chain is written
limit_inv : (n : ℕ) (v : Envelope) (vs : List Envelope) (z : Bool) → pick z (limits n vs) (exceeds v.at) ≡ fine → (z ≡ true) × (limits n vs ≡ fine)
limit_inv n v vs true q = (refl, q)
limit_inv n v vs false q = let z : ◌≡◌ {A = ℕ} 0 1 = cc q in absurd (omega arith)

no_limit : {A : Type 0} (i : ℕ) → exceeds i ≡ fine → A
no_limit i q = let z : ◌≡◌ {A = ℕ} 0 1 = cc q in absurd (omega arith)

chain_writes : (e : Edition) {table : List Row} {vs : List Envelope} → Chain e table vs → (n : ℕ) → limits n vs ≡ fine → (k : ℕ) × Writes e k table (header_of vs) × (k ≤ n)
chain_writes e (ends_with i rows st bs q) zero l = no_limit i l
chain_writes e (ends_with i rows st bs q) (suc n) l =
    let (z, _) = limit_inv n (envelope_at i true bs) [] (within_limit (length bs)) l in
    (1, subst (Writes e 1 (opening_row true ∷ rows)) (sym (append-nil (wrap true bs))) (the_base rows st bs q z), omega arith)
chain_writes e (goes_on i rows table st bs vs q c) zero l = no_limit i l
chain_writes e (goes_on i rows table st bs vs q c) (suc n) l =
    let (z, l₁) = limit_inv n (envelope_at i false bs) vs (within_limit (length bs)) l in
    let (k, w, h) = chain_writes e c n l₁ in
    (suc k, before rows table st bs (header_of vs) k q z w, omega arith)

abbrev WrittenIs : Edition → ℕ → List Cell → Written → Type 0
WrittenIs e room cs (unwritten refusal i) = Unit {0}
WrittenIs e room cs (written w) = (table : List Row) × (n : ℕ) × (cs ≡ map cell table) × Writes e n table w × (n ≤ envelopes_most) × (length w ≤ room)

roomed_is : (e : Edition) (room : ℕ) (cs : List Cell) (table : List Row) (n : ℕ) (w : List ℕ) (z : Bool) → leb (length w) room ≡ z → cs ≡ map cell table → Writes e n table w → n ≤ envelopes_most → WrittenIs e room cs (pick z (written w) (unwritten 16 (length w)))
roomed_is e room cs table n w true q c h k = (table, n, c, h, k, leb-true (length w) room q)
roomed_is e room cs table n w false q c h k = tt

limited_is : (e : Edition) (room : ℕ) (cs : List Cell) (table : List Row) (vs : List Envelope) (o : Limit) → limits envelopes_most vs ≡ o → cs ≡ map cell table → Chain e table vs → WrittenIs e room cs (limited room vs o)
limited_is e room cs table vs fine q c h = let (n, w, k) = chain_writes e h envelopes_most q in roomed_is e room cs table n (header_of vs) (leb (length (header_of vs)) room) refl c w k
limited_is e room cs table vs (exceeds i) q c h = tt

planned_is : (e : Edition) (room : ℕ) (cs : List Cell) (skips : Skips) (p : Plan) → Parse e false (state closed 0 false) cs p → WrittenIs e room cs (planned room skips p)
planned_is e room cs skips (stuck i) w = tt
planned_is e room cs right (plan bs vs) w = let (table, c, h) = parsed_whole e cs bs vs w in limited_is e room cs table vs (limits envelopes_most vs) refl c h
planned_is e room cs (wrong_at i) (plan bs vs) w = tt

written_is : (e : Edition) (room : ℕ) (cs : List Cell) (skips : Skips) → WrittenIs e room cs (write_rows e room cs skips)
unfolding write_rows
written_is e room cs skips = planned_is e room cs skips (whole_plan e cs) (parse e cs 0 false (state closed 0 false))

-- what is written is a table of envelopes
pub written_writes : (e : Edition) (room : ℕ) (cs : List Cell) (skips : Skips) (w : List ℕ) → write_rows e room cs skips ≡ written w → (table : List Row) × (n : ℕ) × (cs ≡ map cell table) × Writes e n table w × (n ≤ envelopes_most) × (length w ≤ room)
written_writes e room cs skips w q = subst (WrittenIs e room cs) q (written_is e room cs skips)

-- The other way: every table of envelopes is written

-- the rows from row i on make a plan whose envelopes have the property Q
module _ (e : Edition) (Q : List Envelope → Type 0) where
  abbrev pub Planned : List Cell → ℕ → Bool → State → List ℕ → Type 0
  Planned cs i b st bs = (vs : List Envelope) × (plan_of e cs i b st ≡ plan bs vs) × Q vs

  pub plan_row : (row : Row) (cs : List Cell) (i : ℕ) (b : Bool) (st st₁ : State) (xs bs : List ℕ) → fit_row e st row ≡ fits st₁ xs → Planned cs (suc i) b st₁ bs → Planned (cell row ∷ cs) i b st (xs ++ bs)
  unfolding plan_of
  plan_row row cs i b st st₁ xs bs q (vs, p, h) = (vs, rw (fits_inner e row st st₁ xs q) (ap (row_plan i (plan_of e cs (suc i) b)) q ∙ rw p refl), h)

  -- rows of an envelope, before what its end is planned with
  pub plan_rows : (rows table : List Row) (b : Bool) → ((i : ℕ) (st st' : State) (bs : List ℕ) → close e st ≡ fits st' bs → Planned (map cell table) i b st bs)
      → (i : ℕ) (st st' : State) (bs : List ℕ) → fit_all e rows st ≡ fits st' bs → Planned (map cell (rows ++ table)) i b st bs
  unfolding fit_all
  plan_rows [] table b h i st st' bs q = h i st st' bs q
  plan_rows (row ∷ rows) table b h i st st' bs q =
      let (st₁, cs, ds, q₁, q₂, q₃) = then_inv (fit_row e st row) (fit_all e rows) st' bs q in
      rw q₃ (plan_row row (map cell (rows ++ table)) i b st st₁ cs ds q₁ (plan_rows rows table b h (suc i) st₁ st' ds q₂))

  pub plan_end : Q [] → (i : ℕ) (st st' : State) (bs : List ℕ) → close e st ≡ fits st' bs → Planned [] i true st bs
  unfolding plan_of
  plan_end z i st st' bs q = ([], rw q refl, z)

-- an envelope's own row, before an envelope and what follows it
pub plan_turn : (e : Edition) (Q Q' : List Envelope → Type 0) (c : Bool) (cs : List Cell) (i : ℕ) (st st₁ : State) (bs ds : List ℕ) → close e st ≡ fits st₁ bs
    → ((vs : List Envelope) → Q vs → Q' (envelope_at i c ds ∷ vs)) → Planned e Q cs (suc i) c (start c) ds → Planned e Q' (cell (opening_row c) ∷ cs) i false st bs
unfolding plan_of
plan_turn e Q Q' c cs i st st₁ bs ds q k (vs, p, h) = (envelope_at i c ds ∷ vs, rw (opens_envelope_lem c) (ap (turn_plan i c (plan_of e cs (suc i) c)) q ∙ rw p refl), k vs h)

-- the plan writes w with at most n envelopes
abbrev PlanWrites : List ℕ → ℕ → List Envelope → Type 0
PlanWrites w n vs = (header_of vs ≡ w) × (limits n vs ≡ fine)

writes_one_more : (c : Bool) (ds w : List ℕ) (n i : ℕ) → within_limit (length ds) ≡ true → (vs : List Envelope) → PlanWrites w n vs → PlanWrites (wrap c ds ++ w) (suc n) (envelope_at i c ds ∷ vs)
writes_one_more c ds w n i small vs (h, l) = (ap (λ (x : List ℕ). wrap c ds ++ x) h, rw small l)

writes_planned : (e : Edition) {k : ℕ} {table : List Row} {w : List ℕ} → Writes e k table w → (n : ℕ) → k ≤ n → (i : ℕ) (st st' : State) (bs : List ℕ) → close e st ≡ fits st' bs → Planned e (PlanWrites w n) (map cell table) i false st bs
writes_planned e (the_base rows st₁ ds f small) zero h i st st' bs q = absurd (omega arith)
writes_planned e (the_base rows st₁ ds f small) (suc n) h i st st' bs q =
    subst (λ (x : List ℕ). Planned e (PlanWrites x (suc n)) (cell (opening_row true) ∷ map cell rows) i false st bs) (append-nil (wrap true ds))
    (plan_turn e (PlanWrites [] n) (PlanWrites (wrap true ds ++ []) (suc n)) true (map cell rows) i st st' bs ds q (writes_one_more true ds [] n i small)
    (subst (λ (x : List Row). Planned e (PlanWrites [] n) (map cell x) (suc i) true (start true) ds) (append-nil rows) (plan_rows e (PlanWrites [] n) rows [] true (plan_end e (PlanWrites [] n) (refl, refl)) (suc i) (start true) st₁ ds f)))
writes_planned e (before rows table st₁ ds w k f small more) zero h i st st' bs q = absurd (omega arith)
writes_planned e (before rows table st₁ ds w k f small more) (suc n) h i st st' bs q =
    plan_turn e (PlanWrites w n) (PlanWrites (wrap false ds ++ w) (suc n)) false (map cell (rows ++ table)) i st st' bs ds q (writes_one_more false ds w n i small)
    (plan_rows e (PlanWrites w n) rows table false (λ j st₂ st₃ cs r. writes_planned e more n (omega arith) j st₂ st₃ cs r) (suc i) (start false) st₁ ds f)

planned_written : (room : ℕ) (vs : List Envelope) (bs w : List ℕ) → header_of vs ≡ w → limits envelopes_most vs ≡ fine → length w ≤ room → planned room right (plan bs vs) ≡ written w
planned_written room vs bs w h l k = rw (l, h, le-leb (length w) room k) refl

pub writes_written : (e : Edition) (n : ℕ) (table : List Row) (w : List ℕ) (room : ℕ) → Writes e n table w → n ≤ envelopes_most → length w ≤ room → write_rows e room (map cell table) right ≡ written w
unfolding write_rows
writes_written e n table w room h few k =
    let (vs, p, (a, l)) = writes_planned e h envelopes_most few 0 (state closed 0 false) (state closed 0 false) [] (closed_close e) in
    ap (planned room right) p ∙ planned_written room vs [] w a l k
