-- What a row's fit tells of its parts; and that the search for it ends: a row's fit is one move, then the fit from there.
-- The search falls by a weight of level and room, which every pass lowers.
use Prim.Native.Nat.{ℕ, zero, suc, ◌+◌, ◌*◌, ◌≤◌, ◌<◌}
use Rattle.std.specs.Prelude.{List, [], ◌∷◌, ◌++◌, Bool, true, false, ◌&&◌, ◌||◌, not, ◌≡◌, T, eqb, leb, ltb}
use Rattle.std.proofs.Math.Path.{refl}
use Rattle.std.proofs.Common.{ap, sym, subst, arith, leb→le, ltb→lt, eqb→eq}
use Rattle.meaning.specs.Basics.{pick, every, In}
use Rattle.meaning.specs.Told.{Edition}
use Rattle.meaning.specs.Editions.{Room, received_begins, head_representation, head_date, parameters, own_text, parameter_representation, behaviour_value, encrypted_texts, received_date, after_date, after_from, after_id, after_via, received_extra, agent_list, one_agent, after_name, address_texts, after_addresses, after_resolvers, agent_extra, closed, State, state, Next, outer, inner, inner_one, stay, deeper, list_ends, agent_ends, list_end, go, is_quiet, Move, closing, moves, shared, own}
use Rattle.meaning.specs.Reading.{Row, Found, none, hit, find, is_closed, too_deep}
use Rattle.meaning.specs.Writing.{valid, write_value, stands_for, is_pass, Way, by_own, by_pass, nowhere, way_of, Fit, unfit, fits, led, lead, place, fit_by, fit, passes_most, fit_row, close_by, close_within, close}
use Rattle.laws_steps.specs.Logic.{left_of, right_of}
use Rattle.laws_steps.specs.Tables.{every_in, Hits, find_hits, all_rooms, each_room}
use Rattle.laws_steps.specs.Lookups.{stands, WayIs, way_is, pass_facts}

pub unfit_fits : {A : Type 0} {st : State} {bs : List ℕ} → unfit ≡ fits st bs → A
unfit_fits q = let z : ◌≡◌ {A = ℕ} 0 1 = cc q in absurd (omega arith)

pub led_inv : (bs : List ℕ) (o : Fit) {st : State} {s : List ℕ} → led bs o ≡ fits st s → (cs : List ℕ) × (o ≡ fits st cs) × (s ≡ bs ++ cs)
led_inv bs unfit q = unfit_fits q
led_inv bs (fits st₁ cs) q = (cs, cc q, cc q)

-- a row in its own place
pub record Placing (st : State) (row : Row) (m : Move) (st' : State) (bs : List ℕ) : Type 0 where
  pub loud : is_quiet m.form ≡ false
  pub kind_is : m.kind ≡ row.kind
  pub level_is : row.level ≡ st.level
  pub flat : too_deep m st ≡ false
  pub ok : T (valid m.form m.code row.view)
  pub to : go m.next st ≡ st'
  pub out : lead m ++ write_value m.form row.view ≡ bs

place_flat : (st st' : State) (row : Row) (m : Move) (bs : List ℕ) (b : Bool) → too_deep m st ≡ b → row.level ≡ st.level → T (stands_for row m)
    → pick b unfit (fits (go m.next st) (lead m ++ write_value m.form row.view)) ≡ fits st' bs → Placing st row m st' bs
place_flat st st' row m bs true d l t q = unfit_fits q
place_flat st st' row m bs false d l t q =
    let (loud, kind, ok) = stands row m t in
    record { loud = loud; kind_is = kind; level_is = l; flat = d; ok = ok; to = cc q; out = cc q }

pub placing : (st st' : State) (row : Row) (m : Move) (bs : List ℕ) → row.level ≡ st.level → T (stands_for row m) → place st row m ≡ fits st' bs → Placing st row m st' bs
placing st st' row m bs l t q = place_flat st st' row m bs (too_deep m st) refl l t q

-- Induction over a fit: what holds of a row in its place, and is kept by a pass before it, holds of every fit

module _ (e : Edition) (row : Row) (P : State → State → List ℕ → Type 0)
    (own-holds : (st st' : State) (m : Move) (bs : List ℕ) → In m (moves e st.room) → Placing st row m st' bs → P st st' bs)
    (pass-keeps : (st st' : State) (m : Move) (bs : List ℕ) → In m (moves e st.room) → is_quiet m.form ≡ true → P (go m.next st) st' bs → P st st' (m.code ∷ bs)) where
  abbrev Holds : (State → Row → Fit) → Type 0
  Holds f = (st st' : State) (bs : List ℕ) → f st row ≡ fits st' bs → P st st' bs

  by_way : (f : State → Row → Fit) → Holds f → (st st' : State) (bs : List ℕ) (w : Way) → WayIs (moves e st.room) st.level row w → fit_by st row f w ≡ fits st' bs → P st st' bs
  by_way f ih st st' bs nowhere i q = unfit_fits q
  by_way f ih st st' bs (by_own m) i q = own-holds st st' m bs i.0 (placing st st' row m bs i.1 i.2 q)
  by_way f ih st st' bs (by_pass m) i q =
      let (cs, a, b) = led_inv (m.code ∷ []) (f (go m.next st) row) q in
      subst (P st st') (sym b) (pass-keeps st st' m cs i.0 i.1 (ih (go m.next st) st' cs a))

  fit_within : (n : ℕ) → Holds (fit n e)
  unfolding fit
  fit_within zero st st' bs q = unfit_fits q
  fit_within (suc n) st st' bs q = by_way (fit n e) (fit_within n) st st' bs (way_of (moves e st.room) st.level row) (way_is (moves e st.room) st.level row) q

  pub fit_holds : (st st' : State) (bs : List ℕ) → fit_row e st row ≡ fits st' bs → P st st' bs
  unfolding fit_row
  fit_holds st st' bs q = fit_within (suc (passes_most st)) st st' bs q

-- and over a closing: what holds at the end, and is kept by a closing 01 before it

module _ (e : Edition) (P : State → State → List ℕ → Type 0)
    (end-holds : (st : State) → is_closed st.room ≡ true → P st st [])
    (closing-keeps : (st st' : State) (m : Move) (bs : List ℕ) → In m (moves e st.room) → is_quiet m.form ≡ true → P (go m.next st) st' bs → P st st' (m.code ∷ bs)) where
  abbrev HoldsClosing : (State → Fit) → Type 0
  HoldsClosing f = (st st' : State) (bs : List ℕ) → f st ≡ fits st' bs → P st st' bs

  by_closing : (f : State → Fit) → HoldsClosing f → (st st' : State) (bs : List ℕ) (o : Found) → Hits (is_pass closing) (moves e st.room) o → close_by st f o ≡ fits st' bs → P st st' bs
  by_closing f ih st st' bs none i q = unfit_fits q
  by_closing f ih st st' bs (hit m) i q =
      let (cs, a, b) = led_inv (m.code ∷ []) (f (go m.next st)) q in
      subst (P st st') (sym b) (closing-keeps st st' m cs i.0 (pass_facts closing m i.1).0 (ih (go m.next st) st' cs a))

  at_end : (st st' : State) (bs : List ℕ) → is_closed st.room ≡ true → fits st [] ≡ fits st' bs → P st st' bs
  at_end st st' bs h q =
      let a : st ≡ st' = cc q in
      let b : ◌≡◌ {A = List ℕ} [] bs = cc q in
      subst (λ (x : State). P st x bs) a (subst (P st st) b (end-holds st h))

  close_pick : (f : State → Fit) → HoldsClosing f → (st st' : State) (bs : List ℕ) (b : Bool) → is_closed st.room ≡ b
      → pick b (fits st []) (close_by st f (find (is_pass closing) (moves e st.room))) ≡ fits st' bs → P st st' bs
  close_pick f ih st st' bs true h q = at_end st st' bs h q
  close_pick f ih st st' bs false h q = by_closing f ih st st' bs (find (is_pass closing) (moves e st.room)) (find_hits (is_pass closing) (moves e st.room)) q

  close_within_lem : (n : ℕ) → HoldsClosing (close_within n e)
  unfolding close_within
  close_within_lem zero st st' bs q = unfit_fits q
  close_within_lem (suc n) st st' bs q = close_pick (close_within n e) (close_within_lem n) st st' bs (is_closed st.room) refl q

  pub close_holds : (st st' : State) (bs : List ℕ) → close e st ≡ fits st' bs → P st st' bs
  unfolding close
  close_holds st st' bs q = close_within_lem (suc (passes_most st)) st st' bs q

-- The weight: how many passes can come one after another from a room at one level

abbrev pub weight : Room → ℕ
weight received_begins = 0
weight head_representation = 0
weight head_date = 0
weight parameters = 1
weight own_text = 0
weight parameter_representation = 0
weight behaviour_value = 0
weight encrypted_texts = 2
weight received_date = 0
weight after_date = 2
weight after_from = 2
weight after_id = 2
weight after_via = 2
weight received_extra = 0
weight agent_list = 2
weight one_agent = 0
weight after_name = 3
weight address_texts = 4
weight after_addresses = 3
weight after_resolvers = 3
weight agent_extra = 0
weight closed = 0

abbrev pub heavy : State → ℕ
heavy st = 2 * st.level + weight st.room

abbrev lighter_by : Room → Next → Bool
lighter_by r (outer t) = ltb (weight t) (weight r)
lighter_by r (inner t) = false
lighter_by r (inner_one t) = false
lighter_by r (stay t) = ltb (weight t) (weight r)
lighter_by r (deeper t) = false
lighter_by r list_ends = eqb (weight r) 2
lighter_by r agent_ends = eqb (weight r) 3

abbrev pass_lighter : Room → Move → Bool
pass_lighter r m = not (is_quiet m.form) || lighter_by r m.next

abbrev lightens : Edition → Room → Bool
lightens e r = leb (weight r) 4 && every (pass_lighter r) (moves e r)

lightens_test : T (all_rooms lightens)
unfolding moves shared own
lightens_test = tt

pub heavy_most : (e : Edition) (st : State) → heavy st ≤ passes_most st
heavy_most e st =
    let h : weight st.room ≤ 4 = leb→le (weight st.room) 4 (left_of (leb (weight st.room) 4) (every (pass_lighter st.room) (moves e st.room)) (each_room lightens lightens_test e st.room)) in
    omega arith

list_lighter : (st : State) (n : ℕ) (o : Bool) → st.level ≡ n → weight st.room ≡ 2 → heavy (list_end n o) < heavy st
list_lighter st zero o q w = omega arith
list_lighter st (suc zero) o q w = omega arith
list_lighter st (suc (suc n)) o q w = omega arith

agent_lighter : (st : State) (b : Bool) → weight st.room ≡ 3 → heavy (pick b (state parameters 0 false) (state agent_list st.level st.single)) < heavy st
agent_lighter st true w = omega arith
agent_lighter st false w = omega arith

go_lighter : (st : State) (n : Next) → T (lighter_by st.room n) → heavy (go n st) < heavy st
go_lighter st (outer t) ok = let h = ltb→lt (weight t) (weight st.room) ok in omega arith
go_lighter st (inner t) ok = absurd ok
go_lighter st (inner_one t) ok = absurd ok
go_lighter st (stay t) ok = let h = ltb→lt (weight t) (weight st.room) ok in omega arith
go_lighter st (deeper t) ok = absurd ok
go_lighter st list_ends ok = list_lighter st st.level st.single refl (eqb→eq (weight st.room) 2 ok)
go_lighter st agent_ends ok = agent_lighter st (st.single && eqb st.level 1) (eqb→eq (weight st.room) 3 ok)

pub pass_lightens : (e : Edition) (st : State) {m : Move} → In m (moves e st.room) → is_quiet m.form ≡ true → heavy (go m.next st) < heavy st
pass_lightens e st {m} i q =
    let t : T (pass_lighter st.room m)
    = every_in (pass_lighter st.room) i (right_of (leb (weight st.room) 4) (every (pass_lighter st.room) (moves e st.room)) (each_room lightens lightens_test e st.room)) in
    go_lighter st m.next (rw q at t)

-- Enough fuel is as good as any

same_way : (e : Edition) (st : State) (row : Row) (f g : State → Row → Fit) → ((st₁ : State) → heavy st₁ < heavy st → f st₁ row ≡ g st₁ row) → (w : Way) → WayIs (moves e st.room) st.level row w → fit_by st row f w ≡ fit_by st row g w
same_way e st row f g h nowhere i = refl
same_way e st row f g h (by_own m) i = refl
same_way e st row f g h (by_pass m) i = ap (led (m.code ∷ [])) (h (go m.next st) (pass_lightens e st i.0 i.1))

fit_same : (n k : ℕ) (e : Edition) (row : Row) (st : State) → heavy st < n → heavy st < k → fit n e st row ≡ fit k e st row
unfolding fit
fit_same zero k e row st h j = absurd (omega arith)
fit_same (suc n) zero e row st h j = absurd (omega arith)
fit_same (suc n) (suc k) e row st h j =
    same_way e st row (fit n e) (fit k e) (λ st₁ l. fit_same n k e row st₁ (omega arith) (omega arith)) (way_of (moves e st.room) st.level row) (way_is (moves e st.room) st.level row)

-- THE equation of a row's fit
pub fit_once : (e : Edition) (st : State) (row : Row) → fit_row e st row ≡ fit_by st row (fit_row e) (way_of (moves e st.room) st.level row)
unfolding fit_row fit
fit_once e st row =
    let h = heavy_most e st in
    same_way e st row (fit (passes_most st) e) (λ st₁. fit (suc (passes_most st₁)) e st₁)
    (λ st₁ l. let k = heavy_most e st₁ in fit_same (passes_most st) (suc (passes_most st₁)) e row st₁ (omega arith) (omega arith)) (way_of (moves e st.room) st.level row) (way_is (moves e st.room) st.level row)

same_closing : (e : Edition) (st : State) (f g : State → Fit) → ((st₁ : State) → heavy st₁ < heavy st → f st₁ ≡ g st₁) → (o : Found) → Hits (is_pass closing) (moves e st.room) o → close_by st f o ≡ close_by st g o
same_closing e st f g h none i = refl
same_closing e st f g h (hit m) i = ap (led (m.code ∷ [])) (h (go m.next st) (pass_lightens e st i.0 (pass_facts closing m i.1).0))

close_same : (n k : ℕ) (e : Edition) (st : State) → heavy st < n → heavy st < k → close_within n e st ≡ close_within k e st
unfolding close_within
close_same zero k e st h j = absurd (omega arith)
close_same (suc n) zero e st h j = absurd (omega arith)
close_same (suc n) (suc k) e st h j =
    ap (pick (is_closed st.room) (fits st []))
    (same_closing e st (close_within n e) (close_within k e) (λ st₁ l. close_same n k e st₁ (omega arith) (omega arith)) (find (is_pass closing) (moves e st.room)) (find_hits (is_pass closing) (moves e st.room)))

-- and of the closing
pub close_once : (e : Edition) (st : State) → close e st ≡ pick (is_closed st.room) (fits st []) (close_by st (close e) (find (is_pass closing) (moves e st.room)))
unfolding close close_within
close_once e st =
    let h = heavy_most e st in
    ap (pick (is_closed st.room) (fits st []))
    (same_closing e st (close_within (passes_most st) e) (λ st₁. close_within (suc (passes_most st₁)) e st₁)
    (λ st₁ l. let k = heavy_most e st₁ in close_same (passes_most st) (suc (passes_most st₁)) e st₁ (omega arith) (omega arith)) (find (is_pass closing) (moves e st.room)) (find_hits (is_pass closing) (moves e st.room)))
