-- Which kinds can come first from a room, by a move of its own or behind passes: a computed list.
-- By it the writer takes the pass that the reader took.
use Rattle.std.specs.Prelude.{ℕ, zero, suc, ◌≤◌, ◌<◌, List, [], ◌∷◌, ◌++◌, Bool, true, false, ◌&&◌, ◌||◌, not, ◌⊎◌, ◌≡◌, refl, T, eqb}
use Rattle.std.proofs.Common.{inl, inr, ap, sym, ◌∙◌, subst, arith, eqb→eq, ne_eqb, eq-eqb}
use Rattle.std.proofs.Math.Dec.{eqb_refl}
use Rattle.meaning.specs.Basics.{pick, every, In, here, there}
use Rattle.meaning.specs.Told.{Edition}
use Rattle.meaning.specs.Editions.{Room, parameters, agent_list, after_resolvers, State, state, Next, outer, inner, inner_one, stay, deeper, list_ends, agent_ends, list_end, go, is_quiet, Move, closing, moves, shared, own}
use Rattle.meaning.specs.Reading.{Row, Found, none, hit, find, or_else, has_code, is_closed}
use Rattle.meaning.specs.Writing.{stands_for, is_pass, way_to, by_pass, at_level, way_of, unfit, fits, led, fit_by, fit_row, close}
use Rattle.laws_steps.specs.Logic.{left_of, right_of, either, or_left, or_right, is_false, not_both}
use Rattle.laws_steps.specs.Tables.{every_in, Hits, find_hits, finds_none, all_rooms, each_room}
use Rattle.laws_steps.specs.Lookups.{closed_none, stands, pass_facts, pass_found}
use Rattle.laws_steps.specs.Fits.{unfit_fits, fit_holds, fit_once, close_once}
use Rattle.laws_steps.specs.WrittenRead.{and_then, fit_all, Split, then_inv, then_make}

-- Which kinds can come first from a room: by a move of its own, or at the same level behind passes

abbrev loud_kinds : List Move → List ℕ
loud_kinds [] = []
loud_kinds (m ∷ l) = pick (is_quiet m.form) (loud_kinds l) (m.kind ∷ loud_kinds l)

abbrev targets : Next → List Room
targets (outer r) = r ∷ []
targets (inner r) = []
targets (inner_one r) = []
targets (stay r) = r ∷ []
targets (deeper r) = []
targets list_ends = parameters ∷ []
targets agent_ends = parameters ∷ agent_list ∷ []

abbrev pass_targets : List Move → List Room
pass_targets [] = []
pass_targets (m ∷ l) = pick (is_quiet m.form) (targets m.next ++ pass_targets l) (pass_targets l)

kinds : Edition → Room → List ℕ
kinds e r = loud_kinds (moves e r)

abbrev gather : (Room → List ℕ) → List Room → List ℕ
gather f [] = []
gather f (r ∷ rs) = f r ++ gather f rs

later_within : ℕ → Edition → Room → List ℕ
later_within zero e r = []
later_within (suc n) e r = gather (λ t. kinds e t ++ later_within n e t) (pass_targets (moves e r))

later : Edition → Room → List ℕ
later e r = later_within 4 e r

pub reach : Edition → Room → List ℕ
reach e r = kinds e r ++ later e r

abbrev among : ℕ → List ℕ → Bool
among k [] = false
among k (x ∷ xs) = eqb k x || among k xs

abbrev subset : List ℕ → List ℕ → Bool
subset xs ys = every (λ x. among x ys) xs

every_among : (p : ℕ → Bool) (k : ℕ) (xs : List ℕ) → T (among k xs) → T (every p xs) → T (p k)
every_among p k [] m t = absurd m
every_among p k (x ∷ xs) m t = at (λ i. every_among p k xs i (right_of (p x) (every p xs) t)) (either (eqb k x) (among k xs) m)
  where
    at : (T (among k xs) → T (p k)) → T (eqb k x) ⊎ T (among k xs) → T (p k)
    at ih (inl q) = subst (λ (y : ℕ). T (p y)) (sym (eqb→eq k x q)) (left_of (p x) (every p xs) t)
    at ih (inr i) = ih i

among_front : (k : ℕ) (xs ys : List ℕ) → T (among k xs) → T (among k (xs ++ ys))
among_front k [] ys t = absurd t
among_front k (x ∷ xs) ys t = at (among_front k xs ys) (either (eqb k x) (among k xs) t)
  where
    at : (T (among k xs) → T (among k (xs ++ ys))) → T (eqb k x) ⊎ T (among k xs) → T (eqb k x || among k (xs ++ ys))
    at ih (inl q) = or_left (eqb k x) (among k (xs ++ ys)) q
    at ih (inr i) = or_right (eqb k x) (among k (xs ++ ys)) (ih i)

among_behind : (k : ℕ) (xs ys : List ℕ) → T (among k ys) → T (among k (xs ++ ys))
among_behind k [] ys t = t
among_behind k (x ∷ xs) ys t = or_right (eqb k x) (among k (xs ++ ys)) (among_behind k xs ys t)

loud_cons : (m x : Move) (l : List Move) (b : Bool) → T (among m.kind (loud_kinds l)) → T (among m.kind (pick b (loud_kinds l) (x.kind ∷ loud_kinds l)))
loud_cons m x l true t = t
loud_cons m x l false t = or_right (eqb m.kind x.kind) (among m.kind (loud_kinds l)) t

loud_in : {m : Move} {l : List Move} → In m l → is_quiet m.form ≡ false → T (among m.kind (loud_kinds l))
loud_in {m} (here {l = l}) q = rw q (or_left (eqb m.kind m.kind) (among m.kind (loud_kinds l)) (eqb_refl m.kind))
loud_in {m} (there {y = x} {l = l} i) q = loud_cons m x l (is_quiet x.form) (loud_in i q)

-- The test of the passes: what can come first behind one is later here, and this pass is the way to it

abbrev leads_later : Edition → Room → Next → Bool
leads_later e r (outer t) = subset (reach e t) (later e r)
leads_later e r (inner t) = false
leads_later e r (inner_one t) = false
leads_later e r (stay t) = subset (reach e t) (later e r)
leads_later e r (deeper t) = false
leads_later e r list_ends = subset (reach e parameters) (later e r)
leads_later e r agent_ends = subset (reach e parameters) (later e r) && subset (reach e agent_list) (later e r)

-- every kind behind the pass has its code as its way
abbrev way_behind : Edition → ℕ → Next → Bool
way_behind e c (outer t) = every (λ k. eqb (way_to k) c) (reach e t)
way_behind e c (inner t) = false
way_behind e c (inner_one t) = false
way_behind e c (stay t) = false
way_behind e c (deeper t) = false
way_behind e c list_ends = false
way_behind e c agent_ends = false

-- the room's only pass is a closing
abbrev only_closing : Move → Bool
only_closing m = not (is_quiet m.form) || has_code closing m

abbrev way_ok : Edition → Room → Move → Bool
way_ok e r m = (has_code closing m && every only_closing (moves e r)) || way_behind e m.code m.next

-- from behind a pass that is no closing the envelope's end is not near
abbrev no_end : Edition → Next → Bool
no_end e (outer t) = every (λ m. not (is_pass closing m)) (moves e t) && not (is_closed t)
no_end e (inner t) = false
no_end e (inner_one t) = false
no_end e (stay t) = false
no_end e (deeper t) = false
no_end e list_ends = false
no_end e agent_ends = false

abbrev end_ok : Edition → Move → Bool
end_ok e m = has_code closing m || no_end e m.next

abbrev pass_ok : Edition → Room → Move → Bool
pass_ok e r m = not (is_quiet m.form) || (leads_later e r m.next && (way_ok e r m && end_ok e m))

-- no kind of the room's own comes later too
abbrev not_later : Edition → Room → Move → Bool
not_later e r m = is_quiet m.form || not (among m.kind (later e r))

abbrev back_ok : Edition → Room → Bool
back_ok e r = every (pass_ok e r) (moves e r) && every (not_later e r) (moves e r)

back_test : T (all_rooms back_ok)
unfolding moves shared own kinds later_within later reach
back_test = tt

not_later_lem : (e : Edition) (r : Room) {m : Move} → In m (moves e r) → T (not_later e r m)
not_later_lem e r i = every_in (not_later e r) i (right_of (every (pass_ok e r) (moves e r)) (every (not_later e r) (moves e r)) (each_room back_ok back_test e r))

record Pass (e : Edition) (r : Room) (m : Move) : Type 0 where
  leads : T (leads_later e r m.next)
  way : T (way_ok e r m)
  end : T (end_ok e m)

pass_of : (e : Edition) (r : Room) {m : Move} → In m (moves e r) → is_quiet m.form ≡ true → Pass e r m
pass_of e r {m} i q =
    let t : T (pass_ok e r m) = every_in (pass_ok e r) i (left_of (every (pass_ok e r) (moves e r)) (every (not_later e r) (moves e r)) (each_room back_ok back_test e r)) in
    let a = leads_later e r m.next in let b = way_ok e r m in let c = end_ok e m in
    let u : T (a && (b && c)) = rw q at t in
    record { leads = left_of a (b && c) u; way = left_of b c (right_of a (b && c) u); end = right_of b c (right_of a (b && c) u) }

-- a row can come first from a state: at its level, or from a lower one
abbrev Ahead : Edition → State → Row → Type 0
Ahead e st row = (row.level < st.level) ⊎ ((row.level ≡ st.level) × T (among row.kind (reach e st.room)))

abbrev Later : Edition → State → Row → Type 0
Later e st row = (row.level < st.level) ⊎ ((row.level ≡ st.level) × T (among row.kind (later e st.room)))

later_ahead : (e : Edition) (st : State) (row : Row) → Later e st row → Ahead e st row
unfolding reach
later_ahead e st row (inl h) = inl h
later_ahead e st row (inr (h, t)) = inr (h, among_behind row.kind (kinds e st.room) (later e st.room) t)

outer_later : (e : Edition) (st : State) (row : Row) (n : ℕ) (t : Room) → st.level ≡ n → T (subset (reach e t) (later e st.room)) → Ahead e (state t 0 false) row → Later e st row
outer_later e st row n t q s (inl h) = absurd (omega arith)
outer_later e st row zero t q s (inr (h, m)) = inr (h ∙ sym q, every_among (λ x. among x (later e st.room)) row.kind (reach e t) m s)
outer_later e st row (suc n) t q s (inr (h, m)) = inl (omega arith)

stay_later : (e : Edition) (st : State) (row : Row) (t : Room) → T (subset (reach e t) (later e st.room)) → Ahead e (state t st.level st.single) row → Later e st row
stay_later e st row t s (inl h) = inl h
stay_later e st row t s (inr (h, m)) = inr (h, every_among (λ x. among x (later e st.room)) row.kind (reach e t) m s)

ahead_level : (e : Edition) (st : State) (row : Row) → Ahead e st row → row.level ≤ st.level
ahead_level e st row (inl h) = omega arith
ahead_level e st row (inr (h, m)) = omega arith

list_later : (e : Edition) (st : State) (row : Row) (n : ℕ) (o : Bool) → st.level ≡ n → T (subset (reach e parameters) (later e st.room)) → Ahead e (list_end n o) row → Later e st row
list_later e st row zero o q s a = outer_later e st row 0 parameters q s a
list_later e st row (suc zero) o q s a = outer_later e st row 1 parameters q s a
list_later e st row (suc (suc n)) o q s a = let h = ahead_level e (state after_resolvers (suc n) o) row a in inl (omega arith)

agent_later : (e : Edition) (st : State) (row : Row) (b : Bool) → T (subset (reach e parameters) (later e st.room)) → T (subset (reach e agent_list) (later e st.room))
    → Ahead e (pick b (state parameters 0 false) (state agent_list st.level st.single)) row → Later e st row
agent_later e st row true s u a = outer_later e st row st.level parameters refl s a
agent_later e st row false s u a = stay_later e st row agent_list u a

go_later : (e : Edition) (st : State) (row : Row) (n : Next) → T (leads_later e st.room n) → Ahead e (go n st) row → Later e st row
go_later e st row (outer t) ok a = outer_later e st row st.level t refl ok a
go_later e st row (inner t) ok a = absurd ok
go_later e st row (inner_one t) ok a = absurd ok
go_later e st row (stay t) ok a = stay_later e st row t ok a
go_later e st row (deeper t) ok a = absurd ok
go_later e st row list_ends ok a = list_later e st row st.level st.single refl ok a
go_later e st row agent_ends ok a =
    let x = subset (reach e parameters) (later e st.room) in let y = subset (reach e agent_list) (later e st.room) in
    agent_later e st row (st.single && eqb st.level 1) (left_of x y ok) (right_of x y ok) a

-- a row that fits is ahead
fits_ahead : (e : Edition) (row : Row) (st st' : State) (bs : List ℕ) → fit_row e st row ≡ fits st' bs → Ahead e st row
unfolding reach kinds
fits_ahead e row =
    fit_holds e row (λ st st' bs. Ahead e st row)
    (λ st st' m bs i p. inr (p.level_is, subst (λ (k : ℕ). T (among k (kinds e st.room ++ later e st.room))) p.kind_is (among_front m.kind (kinds e st.room) (later e st.room) (loud_in i p.loud))))
    (λ st st' m bs i q a. later_ahead e st row (go_later e st row m.next (pass_of e st.room i q).leads a))

-- Behind a pass: the row has no move of its own before it, and the writer takes this pass

later_none : (e : Edition) (st : State) (row : Row) → Later e st row → at_level (eqb row.level st.level) (find (stands_for row) (moves e st.room)) ≡ none
later_none e st row (inl h) = rw (ne_eqb row.level st.level (λ q. omega arith)) refl
later_none e st row (inr (h, t)) = rw (eq-eqb row.level st.level h) (nothing (find (stands_for row) (moves e st.room)) (find_hits (stands_for row) (moves e st.room)))
  where
    nothing : (o : Found) → Hits (stands_for row) (moves e st.room) o → o ≡ none
    nothing none i = refl
    nothing (hit m) i =
        let (loud, kind, ok) = stands row m i.1 in
        let u : T (not_later e st.room m) = not_later_lem e st.room i.0 in
        let v : T (not (among m.kind (later e st.room))) = rw loud at u in
        absurd (not_both (among m.kind (later e st.room)) (subst (λ (k : ℕ). T (among k (later e st.room))) (sym kind) t) v)

only_closing_lem : (l : List Move) (c : ℕ) (m : Move) → T (every only_closing l) → find (is_pass closing) l ≡ hit m → (o : Found) → find (is_pass c) l ≡ o → Hits (is_pass c) l o → or_else o (find (is_pass closing) l) ≡ hit m
only_closing_lem l c m t q none eo i = q
only_closing_lem l c m t q (hit x) eo i =
    let (quietly, code) = pass_facts c x i.1 in
    let u : T (only_closing x) = every_in only_closing i.0 t in
    let v : T (has_code closing x) = rw quietly at u in
    let e : c ≡ closing = sym code ∙ eqb→eq x.code closing v in
    sym eo ∙ ap (λ (k : ℕ). find (is_pass k) l) e ∙ q

way_behind_lem : (e : Edition) (st : State) (row : Row) (c : ℕ) (n : Next) → T (way_behind e c n) → Ahead e (go n st) row → way_to row.kind ≡ c
way_behind_lem e st row c (outer t) ok (inl h) = absurd (omega arith)
way_behind_lem e st row c (outer t) ok (inr (h, m)) = eqb→eq (way_to row.kind) c (every_among (λ k. eqb (way_to k) c) row.kind (reach e t) m ok)
way_behind_lem e st row c (inner t) ok a = absurd ok
way_behind_lem e st row c (inner_one t) ok a = absurd ok
way_behind_lem e st row c (stay t) ok a = absurd ok
way_behind_lem e st row c (deeper t) ok a = absurd ok
way_behind_lem e st row c list_ends ok a = absurd ok
way_behind_lem e st row c agent_ends ok a = absurd ok

pass_taken : (e : Edition) (st : State) (row : Row) (m : Move) → In m (moves e st.room) → is_quiet m.form ≡ true → Ahead e (go m.next st) row
    → or_else (find (is_pass (way_to row.kind)) (moves e st.room)) (find (is_pass closing) (moves e st.room)) ≡ hit m
pass_taken e st row m i q a =
    at (either (has_code closing m && every only_closing (moves e st.room)) (way_behind e m.code m.next) (pass_of e st.room i q).way)
  where
    at : T (has_code closing m && every only_closing (moves e st.room)) ⊎ T (way_behind e m.code m.next) → or_else (find (is_pass (way_to row.kind)) (moves e st.room)) (find (is_pass closing) (moves e st.room)) ≡ hit m
    at (inl t) =
        let c : m.code ≡ closing = eqb→eq m.code closing (left_of (has_code closing m) (every only_closing (moves e st.room)) t) in
        only_closing_lem (moves e st.room) (way_to row.kind) m (right_of (has_code closing m) (every only_closing (moves e st.room)) t) (ap (λ (k : ℕ). find (is_pass k) (moves e st.room)) (sym c) ∙ pass_found e st.room i q)
        (find (is_pass (way_to row.kind)) (moves e st.room)) refl (find_hits (is_pass (way_to row.kind)) (moves e st.room))
    at (inr t) = rw (way_behind_lem e st row m.code m.next t a, pass_found e st.room i q) refl

way_passes : (e : Edition) (st : State) (row : Row) (m : Move) → In m (moves e st.room) → is_quiet m.form ≡ true → Ahead e (go m.next st) row → way_of (moves e st.room) st.level row ≡ by_pass m
unfolding way_of
way_passes e st row m i q a =
    rw (later_none e st row (go_later e st row m.next (pass_of e st.room i q).leads a), pass_taken e st row m i q a) refl

row_behind : (e : Edition) (row : Row) (st st₁ : State) (m : Move) (cs : List ℕ) → In m (moves e st.room) → is_quiet m.form ≡ true → fit_row e (go m.next st) row ≡ fits st₁ cs → fit_row e st row ≡ fits st₁ (m.code ∷ cs)
row_behind e row st st₁ m cs i q f =
    fit_once e st row ∙ ap (fit_by st row (fit_row e)) (way_passes e st row m i q (fits_ahead e row (go m.next st) st₁ cs f)) ∙ ap (led (m.code ∷ [])) f

no_end_lem : (e : Edition) (st st' : State) (n : Next) (bs : List ℕ) → T (no_end e n) → close e (go n st) ≡ fits st' bs → ⊥
no_end_lem e st st' (outer r) bs t q =
    let a = every (λ m. not (is_pass closing m)) (moves e r) in let b = not (is_closed r) in
    let u : close e (state r 0 false) ≡ unfit
    = close_once e (state r 0 false) ∙ rw (is_false (is_closed r) (right_of a b t), finds_none (is_pass closing) (moves e r) (left_of a b t)) refl in
    unfit_fits (sym u ∙ q)
no_end_lem e st st' (inner r) bs t q = t
no_end_lem e st st' (inner_one r) bs t q = t
no_end_lem e st st' (stay r) bs t q = t
no_end_lem e st st' (deeper r) bs t q = t
no_end_lem e st st' list_ends bs t q = t
no_end_lem e st st' agent_ends bs t q = t

close_behind : (e : Edition) (st st' : State) (m : Move) (bs : List ℕ) → In m (moves e st.room) → is_quiet m.form ≡ true → close e (go m.next st) ≡ fits st' bs → close e st ≡ fits st' (m.code ∷ bs)
close_behind e st st' m bs i q f = at (either (has_code closing m) (no_end e m.next) (pass_of e st.room i q).end)
  where
    at : T (has_code closing m) ⊎ T (no_end e m.next) → close e st ≡ fits st' (m.code ∷ bs)
    at (inl t) =
        let c : find (is_pass closing) (moves e st.room) ≡ hit m = ap (λ (k : ℕ). find (is_pass k) (moves e st.room)) (sym (eqb→eq m.code closing t)) ∙ pass_found e st.room i q in
        close_once e st ∙ rw (closed_none e st.room i, c, f) refl
    at (inr t) = absurd (no_end_lem e st st' m.next bs t f)

pub all_behind : (e : Edition) (rows : List Row) (st st' : State) (m : Move) (bs : List ℕ) → In m (moves e st.room) → is_quiet m.form ≡ true → fit_all e rows (go m.next st) ≡ fits st' bs → fit_all e rows st ≡ fits st' (m.code ∷ bs)
unfolding fit_all
all_behind e [] st st' m bs i q f = close_behind e st st' m bs i q f
all_behind e (row ∷ rows) st st' m bs i q f = at (then_inv (fit_row e (go m.next st) row) (fit_all e rows) st' bs f)
  where
    at : Split (fit_row e (go m.next st) row) (fit_all e rows) st' bs → and_then (fit_row e st row) (fit_all e rows) ≡ fits st' (m.code ∷ bs)
    at (st₁, cs, ds, q₁, q₂, q₃) = rw q₃ (then_make (fit_row e st row) (fit_all e rows) st₁ st' (m.code ∷ cs) ds (row_behind e row st st₁ m cs i q q₁) q₂)
