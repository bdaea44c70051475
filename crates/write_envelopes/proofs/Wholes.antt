-- `meaning`'s plan is that of the bodies and the edges between them; and the verdict over all rows goes envelope by envelope.
use Prim.Native.Nat.{ℕ, zero, suc, ◌+◌, ◌-◌, ◌≤◌}
use mathlib.Core.List.{List, [], ◌∷◌, ◌++◌}
use mathlib.Core.Bool.{Bool, true, false}
use mathlib.Core.Path.{◌≡◌, refl, ap, sym, ◌∙◌}
use native.Mathlib.Omega.{arith}
use native.Mathlib.Numerals.{add-one}
use lib.Dec.{ltb}
use lib.ListN.{length, length-append}
use borrow.Author.Tests.{lt-leb, ltb-false}
use Rattle.meaning.specs.Basics.{pick}
use Rattle.meaning.specs.Told.{Edition}
use Rattle.meaning.specs.Editions.{State, state, closed}
use Rattle.meaning.specs.Reading.{Row}
use Rattle.meaning.specs.Headers.{start, envelope_most}
use Rattle.meaning.specs.Writing.{Fit, unfit, fits, fit_row, close, Cell, cell, broken, Opens, envelope_row, inner_row, opens_of, Envelope, envelope_at, Plan, stuck, plan, on_plan, new_plan, row_plan, turn_plan, end_plan, next_row, last_row, plan_of, whole_plan, envelope_size, within_limit, wrap, header_of, Limit, fine, exceeds, limits}
use Rattle.laws_steps.specs.Fits.{close_once}
use Rattle.laws_steps.specs.Envelopes.{wrap_length}
use Rattle.write_rows.specs.Laying.{capped}
use Rattle.write_rows.specs.Bodies.{Body, halt, body, on_body, seal_body, row_body, cell_body, body_of}
use Rattle.write_inside.specs.Insides.{base_of, open_base, none_fits}
use Rattle.write_envelopes.specs.Whole.{open_plan, edge, from_body, needs, first_over, verdict_of, verdict, sized, end_verdict, limit_of, OneMore}
use Rattle.write_envelopes.specs.declared.measure.Sizes.{Sizes}
use Rattle.std.specs.Prelude.{Option, None, Some}

-- Bodies and edges are the plan

on_new : (j : ℕ) (c : Bool) (xs bs : List ℕ) (p : Plan) → on_plan xs (new_plan j c bs p) ≡ new_plan j c (xs ++ bs) p
on_new j c xs bs (stuck i) = refl
on_new j c xs bs (plan cs vs) = refl

on_open : (j : ℕ) (xs bs : List ℕ) (f : Bool → Plan) (o : Opens) → on_plan xs (open_plan j bs f o) ≡ open_plan j (xs ++ bs) f o
on_open j xs bs f inner_row = refl
on_open j xs bs f (envelope_row c) = on_new j c xs bs (f c)

on_edge : (e : Edition) (b : Bool) (xs bs : List ℕ) (j : ℕ) (cs : List Cell) → on_plan xs (edge e b bs j cs) ≡ edge e b (xs ++ bs) j cs
on_edge e true xs bs j [] = refl
on_edge e false xs bs j [] = refl
on_edge e true xs bs j (broken ∷ cs) = refl
on_edge e false xs bs j (broken ∷ cs) = refl
on_edge e true xs bs j (cell row ∷ cs) = refl
on_edge e false xs bs j (cell row ∷ cs) = on_open j xs bs (λ c. plan_of e cs (suc j) c (start c)) (opens_of row)

on_body_lem : (e : Edition) (b : Bool) (xs : List ℕ) (x : Body) → on_plan xs (from_body e b x) ≡ from_body e b (on_body xs x)
on_body_lem e b xs (halt j) = refl
on_body_lem e b xs (body bs j cs) = on_edge e b xs bs j cs

row_same : (e : Edition) (b : Bool) (i : ℕ) (f : State → Plan) (g : State → Body) (o : Fit) → ((st : State) → f st ≡ from_body e b (g st)) → row_plan i f o ≡ from_body e b (row_body i g o)
row_same e b i f g unfit h = refl
row_same e b i f g (fits st bs) h = ap (on_plan bs) (h st) ∙ on_body_lem e b bs (g st)

end_same : (e : Edition) (b : Bool) (st : State) (i : ℕ) (o : Fit) → close e st ≡ o → last_row e b st i ≡ from_body e b (seal_body i [] o)
end_same e true st i unfit q = ap (end_plan i) q
end_same e true st i (fits st₁ bs) q = ap (end_plan i) q
end_same e false st i unfit q = refl
end_same e false st i (fits st₁ bs) q = refl

turn_same : (e : Edition) (st : State) (i : ℕ) (row : Row) (cs : List Cell) (c : Bool) (o : Fit) → opens_of row ≡ envelope_row c → turn_plan i c (plan_of e cs (suc i) c) o ≡ from_body e false (seal_body i (cell row ∷ cs) o)
turn_same e st i row cs c unfit q = refl
turn_same e st i row cs c (fits st₁ bs) q = sym (ap (open_plan i bs (λ c. plan_of e cs (suc i) c (start c))) q)

base_same : (e : Edition) (i : ℕ) (row : Row) (cs : List Cell) (o : Fit) → stuck i ≡ from_body e true (seal_body i (cell row ∷ cs) o)
base_same e i row cs unfit = refl
base_same e i row cs (fits st bs) = refl

cell_same : (e : Edition) (b : Bool) (st : State) (i : ℕ) (row : Row) (cs : List Cell) (o : Opens) → opens_of row ≡ o → ((st : State) → plan_of e cs (suc i) b st ≡ from_body e b (body_of e cs (suc i) st))
    → next_row e b st i row (plan_of e cs (suc i)) o ≡ from_body e b (cell_body e st i row cs (body_of e cs (suc i)) o)
cell_same e b st i row cs inner_row q ih = row_same e b i (plan_of e cs (suc i) b) (body_of e cs (suc i)) (fit_row e st row) ih
cell_same e true st i row cs (envelope_row c) q ih = base_same e i row cs (close e st)
cell_same e false st i row cs (envelope_row c) q ih = turn_same e st i row cs c (close e st) q

-- THE tie: the definition's plan is that of the bodies
pub plan_body : (e : Edition) (cs : List Cell) (i : ℕ) (b : Bool) (st : State) → plan_of e cs i b st ≡ from_body e b (body_of e cs i st)
unfolding plan_of body_of
plan_body e [] i b st = end_same e b st i (close e st) refl
plan_body e (broken ∷ cs) i b st = refl
plan_body e (cell row ∷ cs) i b st = cell_same e b st i row cs (opens_of row) refl (plan_body e cs (suc i) b)

-- the whole is the edge before row 0
pub whole_edge : (e : Edition) (cs : List Cell) → whole_plan e cs ≡ edge e false [] 0 cs
unfolding plan_of
whole_edge e [] = refl
whole_edge e (broken ∷ cs) = refl
whole_edge e (cell row ∷ cs) = at (opens_of row)
  where
    at : (o : Opens) → next_row e false (state closed 0 false) 0 row (plan_of e cs 1) o ≡ open_plan 0 [] (λ c. plan_of e cs 1 c (start c)) o
    at inner_row = ap (row_plan 0 (plan_of e cs 1 false)) (none_fits e row (fit_row e (state closed 0 false) row) refl)
    at (envelope_row b) = ap (turn_plan 0 b (plan_of e cs 1 b)) (close_once e (state closed 0 false))

pub edge_none : (e : Edition) (bs : List ℕ) (j : ℕ) (cs : List Cell) → open_base cs ≡ None → edge e false bs j cs ≡ stuck j
edge_none e bs j [] h = refl
edge_none e bs j (broken ∷ cs) h = refl
edge_none e bs j (cell row ∷ cs) h = at (opens_of row) h
  where
    at : (o : Opens) → base_of o ≡ None → open_plan j bs (λ c. plan_of e cs (suc j) c (start c)) o ≡ stuck j
    at inner_row q = refl
    at (envelope_row base) q = cc

-- an envelope that opens at row j is the body behind it
abbrev pub opened : List Cell → List Cell
opened [] = []
opened (c ∷ cs) = cs

opens_some : (o : Opens) {base : Bool} → Some base ≡ base_of o → o ≡ envelope_row base
opens_some inner_row q = cc
opens_some (envelope_row c) q = cc

pub edge_open : (e : Edition) (bs : List ℕ) (j : ℕ) (cs ds : List Cell) {base : Bool} → Some base ≡ open_base cs → opened cs ≡ ds → edge e false bs j cs ≡ new_plan j base bs (from_body e base (body_of e ds (j + 1) (start base)))
edge_open e bs j [] ds q d = cc
edge_open e bs j (broken ∷ cs) ds q d = cc
edge_open e bs j (cell row ∷ cs) ds {base} q d =
    ap (open_plan j bs (λ c. plan_of e cs (suc j) c (start c))) (opens_some (opens_of row) q) ∙ ap (new_plan j base bs) (plan_body e cs (suc j) base (start base))
    ∙ ap (λ (k : ℕ). new_plan j base bs (from_body e base (body_of e cs k (start base)))) (sym (add-one j))
    ∙ ap (λ (x : List Cell). new_plan j base bs (from_body e base (body_of e x (j + 1) (start base)))) d

-- The verdict, envelope by envelope

first_first : (o p q : Limit) → first_over (first_over o p) q ≡ first_over o (first_over p q)
first_first fine p q = refl
first_first (exceeds i) p q = refl

limits_cons : (n : ℕ) (v : Envelope) (vs : List Envelope) → limits n (v ∷ vs) ≡ first_over (sized n v.at (length v.body)) (limits (n - 1) vs)
limits_cons zero v vs = refl
limits_cons (suc n) v vs =
    let q : n ≡ suc n - 1 = omega arith in
    at (within_limit (length v.body)) ∙ ap (λ (k : ℕ). first_over (pick (within_limit (length v.body)) fine (exceeds v.at)) (limits k vs)) q
  where
    at : (b : Bool) → pick b (limits n vs) (exceeds v.at) ≡ first_over (pick b fine (exceeds v.at)) (limits n vs)
    at true = refl
    at false = refl

verdict_new : (n t i : ℕ) (b : Bool) (o : Limit) (bs cs : List ℕ) (vs : List Envelope)
    → verdict n t o (new_plan i b bs (plan cs vs)) ≡ verdict (n - 1) (t + envelope_size (length cs)) (first_over o (sized n i (length cs))) (plan cs vs)
verdict_new n t i b o bs cs vs =
    let q : t + length (wrap b cs ++ header_of vs) ≡ t + envelope_size (length cs) + length (header_of vs) = omega (arith, length-append (wrap b cs) (header_of vs), wrap_length b cs) in
    ap (λ (x : Limit). verdict_of (t + length (wrap b cs ++ header_of vs)) (first_over o x)) (limits_cons n (envelope_at i b cs) vs)
    ∙ ap (λ (x : ℕ). verdict_of x (first_over o (first_over (sized n i (length cs)) (limits (n - 1) vs)))) q
    ∙ ap (verdict_of (t + envelope_size (length cs) + length (header_of vs))) (sym (first_first o (sized n i (length cs)) (limits (n - 1) vs)))

-- an extension more, behind which the rows go on at row r
pub verdict_extension : (n t i : ℕ) (o : Limit) (e : Edition) (bs : List ℕ) (r : ℕ) (cs : List Cell)
    → verdict n t o (new_plan i false [] (edge e false bs r cs)) ≡ verdict (n - 1) (t + envelope_size (length bs)) (first_over o (sized n i (length bs))) (edge e false [] r cs)
verdict_extension n t i o e bs r [] = refl
verdict_extension n t i o e bs r (broken ∷ cs) = refl
verdict_extension n t i o e bs r (cell row ∷ cs) = at (opens_of row)
  where
    plans : (c : Bool) (p : Plan) → verdict n t o (new_plan i false [] (new_plan r c bs p)) ≡ verdict (n - 1) (t + envelope_size (length bs)) (first_over o (sized n i (length bs))) (new_plan r c [] p)
    plans c (stuck j) = refl
    plans c (plan ds vs) = verdict_new n t i false o [] bs (envelope_at r c ds ∷ vs)

    at : (x : Opens) → verdict n t o (new_plan i false [] (open_plan r bs (λ c. plan_of e cs (suc r) c (start c)) x)) ≡ verdict (n - 1) (t + envelope_size (length bs)) (first_over o (sized n i (length bs))) (open_plan r [] (λ c. plan_of e cs (suc r) c (start c)) x)
    at inner_row = refl
    at (envelope_row c) = plans c (plan_of e cs (suc r) c (start c))

-- the base, behind which no row may follow
pub verdict_base : (n t i : ℕ) (o : Limit) (e : Edition) (bs : List ℕ) (r : ℕ) (cs : List Cell)
    → verdict n t o (new_plan i true [] (edge e true bs r cs)) ≡ end_verdict cs r (t + envelope_size (length bs)) (first_over o (sized n i (length bs)))
verdict_base n t i o e bs r [] =
    let q : t + envelope_size (length bs) + 0 ≡ t + envelope_size (length bs) = omega arith in
    verdict_new n t i true o [] bs [] ∙ ap (λ (x : ℕ). verdict_of x (first_over (first_over o (sized n i (length bs))) fine)) q ∙ ap (verdict_of (t + envelope_size (length bs))) (last (first_over o (sized n i (length bs))))
  where
    last : (x : Limit) → first_over x fine ≡ x
    last fine = refl
    last (exceeds j) = refl
verdict_base n t i o e bs r (broken ∷ cs) = refl
verdict_base n t i o e bs r (cell row ∷ cs) = refl

-- The overAt says the same, though its count stops at the limit

sized_past : (n i k : ℕ) → envelope_most ≤ k → sized n i k ≡ exceeds i
sized_past zero i k h = refl
sized_past (suc n) i k h = rw (lt-leb (3 + k) 65535 (omega arith), lt-leb (7 + k) envelope_most (omega arith)) refl

sized_capped : (n i k : ℕ) → sized n i (capped k) ≡ sized n i k
sized_capped n i k = at (ltb k envelope_most) refl
  where
    at : (b : Bool) → ltb k envelope_most ≡ b → sized n i (pick b k envelope_most) ≡ sized n i k
    at true q = refl
    at false q = let h = ltb-false k envelope_most q in sized_past n i envelope_most (omega arith) ∙ sym (sized_past n i k h)

-- where no limit is passed the count is exact
pub small_count : (n i k : ℕ) → sized n i k ≡ fine → capped k ≡ k
small_count n i k q = at (ltb k envelope_most) refl
  where
    at : (b : Bool) → ltb k envelope_most ≡ b → pick b k envelope_most ≡ k
    at true e = refl
    at false e = let p : exceeds i ≡ fine = sym (sized_past n i k (ltb-false k envelope_most e)) ∙ q in let z : ◌≡◌ {A = ℕ} 0 1 = cc p in absurd (omega arith)

exact : (n i k : ℕ) (o : Limit) → first_over o (sized n i k) ≡ fine → capped k ≡ k
exact n i k (exceeds j) q = let z : ◌≡◌ {A = ℕ} 0 1 = cc q in absurd (omega arith)
exact n i k fine q = small_count n i k q

module _ {t : Sizes} {i many : ℕ} {r : Sizes} (a : OneMore t i many r) (k : ℕ) (m : many ≡ capped k) where
  more_limit : limit_of r.over ≡ first_over (limit_of t.over) (sized t.left i k)
  more_limit = a.limit ∙ ap (first_over (limit_of t.over)) (ap (sized t.left i) m ∙ sized_capped t.left i k)

  more_total : r.over ≡ None → t.total + envelope_size k ≡ r.total
  more_total q =
      let f : fine ≡ first_over (limit_of t.over) (sized t.left i k) = ap limit_of (sym q) ∙ more_limit in
      let c : many ≡ k = m ∙ exact t.left i k (limit_of t.over) (sym f) in
      ap (λ (n : ℕ). t.total + envelope_size n) (sym c) ∙ sym (a.sum q)

  more_plan : (p : Plan) (o : Option ℕ) → r.over ≡ o → verdict (t.left - 1) (t.total + envelope_size k) (limit_of o) p ≡ verdict r.left r.total (limit_of o) p
  more_plan (stuck j) o q = refl
  more_plan (plan bs vs) (Some i) q = refl
  more_plan (plan bs vs) None q = ap (λ (n : ℕ). verdict_of (t.total + envelope_size k + length (header_of vs)) (limits n vs)) (sym a.less) ∙ ap (λ (n : ℕ). verdict_of (n + length (header_of vs)) (limits r.left vs)) (more_total q)

  more_end : (cs : List Cell) (j : ℕ) (o : Option ℕ) → r.over ≡ o → end_verdict cs j (t.total + envelope_size k) (limit_of o) ≡ end_verdict cs j r.total (limit_of o)
  more_end [] j (Some i) q = refl
  more_end [] j None q = ap needs (more_total q)
  more_end (c ∷ cs) j o q = refl

  pub more_extension : (e : Edition) (bs : List ℕ) (j : ℕ) (cs : List Cell) → length bs ≡ k
      → verdict t.left t.total (limit_of t.over) (new_plan i false [] (edge e false bs j cs)) ≡ verdict r.left r.total (limit_of r.over) (edge e false [] j cs)
  more_extension e bs j cs q =
      verdict_extension t.left t.total i (limit_of t.over) e bs j cs
      ∙ ap (λ (n : ℕ). verdict (t.left - 1) (t.total + envelope_size n) (first_over (limit_of t.over) (sized t.left i n)) (edge e false [] j cs)) q
      ∙ ap (λ (o : Limit). verdict (t.left - 1) (t.total + envelope_size k) o (edge e false [] j cs)) (sym more_limit)
      ∙ more_plan (edge e false [] j cs) r.over refl

  pub more_base : (e : Edition) (bs : List ℕ) (j : ℕ) (cs : List Cell) → length bs ≡ k
      → verdict t.left t.total (limit_of t.over) (new_plan i true [] (edge e true bs j cs)) ≡ end_verdict cs j r.total (limit_of r.over)
  more_base e bs j cs q =
      verdict_base t.left t.total i (limit_of t.over) e bs j cs
      ∙ ap (λ (n : ℕ). end_verdict cs j (t.total + envelope_size n) (first_over (limit_of t.over) (sized t.left i n))) q
      ∙ ap (end_verdict cs j (t.total + envelope_size k)) (sym more_limit) ∙ more_end cs j r.over refl

-- An envelope ends no earlier than it begins

abbrev pub Later : ℕ → Body → Type 0
Later i (halt j) = Unit {0}
Later i (body bs j cs) = i ≤ j

later_seal : (i : ℕ) (cs : List Cell) (o : Fit) → Later i (seal_body i cs o)
later_seal i cs unfit = tt
later_seal i cs (fits st bs) = omega arith

later_on : (i : ℕ) (bs : List ℕ) (x : Body) → Later (suc i) x → Later i (on_body bs x)
later_on i bs (halt j) h = tt
later_on i bs (body cs j ds) h = omega arith

later_row : (i : ℕ) (f : State → Body) (o : Fit) → ((st : State) → Later (suc i) (f st)) → Later i (row_body i f o)
later_row i f unfit h = tt
later_row i f (fits st bs) h = later_on i bs (f st) (h st)

later_cell : (e : Edition) (st : State) (i : ℕ) (row : Row) (cs : List Cell) (f : State → Body) (o : Opens) → ((st : State) → Later (suc i) (f st)) → Later i (cell_body e st i row cs f o)
later_cell e st i row cs f inner_row h = later_row i f (fit_row e st row) h
later_cell e st i row cs f (envelope_row c) h = later_seal i (cell row ∷ cs) (close e st)

pub body_later : (e : Edition) (cs : List Cell) (i : ℕ) (st : State) → Later i (body_of e cs i st)
unfolding body_of
body_later e [] i st = later_seal i [] (close e st)
body_later e (broken ∷ cs) i st = tt
body_later e (cell row ∷ cs) i st = later_cell e st i row cs (body_of e cs (suc i)) (opens_of row) (body_later e cs (suc i))
