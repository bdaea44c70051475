-- How the rows of an accepted header stand: each envelope's own row at level 0, behind it its head's first row, then rows of other kinds, of which
-- no agent stands at level 0. By the table's moves, from room to room.
use Rattle.std.specs.Prelude.{ℕ, zero, suc, ◌≤◌, List, [], ◌∷◌, ◌++◌, map, Bool, true, false, ◌&&◌, ◌||◌, not, ◌≡◌, refl, T, eqb, leb, length}
use Rattle.std.proofs.Common.{sym, subst, arith, ne_eqb}
use Rattle.meaning.specs.Basics.{pick, every}
use Rattle.meaning.specs.Bytes.{Taken, took, failed}
use Rattle.meaning.specs.Kinds.{agent_name}
use Rattle.meaning.specs.Told.{Edition, B, D, Told}
use Rattle.meaning.specs.Editions.{Room, received_begins, head_representation, head_date, parameters, own_text, parameter_representation, behaviour_value, encrypted_texts, received_date, after_date, after_from, after_id, after_via, received_extra, agent_list, one_agent, after_name, address_texts, after_addresses, after_resolvers, agent_extra, closed, State, state, Next, outer, inner, inner_one, stay, deeper, list_ends, agent_ends, list_end, go, is_quiet, Move, shared, own, moves}
use Rattle.meaning.specs.Reading.{Seen, seen, take_value, Found, none, hit, look, is_closed, strange, too_deep, Step, fails, over, next, step_taken, value_from, step_move, step, Out, dry, fault, done, with_rows, onward, run, inside}
use Rattle.meaning.specs.Skips.{Rank, rank}
use Rattle.meaning.specs.Codes.{has_value}
use Rattle.meaning.specs.Headers.{opening, start}
use Rattle.laws_steps.specs.Logic.{left_of, right_of, both, is_true, not_both}
use Rattle.laws_steps.specs.Tables.{every_in, all_rooms, each_room}
use Rattle.laws_steps.specs.Lookups.{Looked, looked}

-- a row inside an envelope
abbrev pub is_inner : Rank → Bool
is_inner r = leb 3 r.kind && not (eqb r.kind agent_name && eqb r.level 0)

-- its first: a base's representation, an extension's received object
abbrev pub is_head : Bool → Rank → Bool
is_head b r = has_value (pick b 0x04 0x0a) r

-- the ranks of a table of so many envelopes
pub data Tabled : ℕ → List Rank → Type 0 where
  the_last : (head : Rank) (inner : List Rank) → T (is_head true head) → T (every is_inner (head ∷ inner)) → Tabled 1 (rank (opening true) 0 ∷ head ∷ inner)
  one_more : (head : Rank) (inner rest : List Rank) (n : ℕ) → T (is_head false head) → T (every is_inner (head ∷ inner)) → Tabled n rest → Tabled (suc n) (rank (opening false) 0 ∷ head ∷ (inner ++ rest))

-- Rooms that stand deeper than an envelope's level

abbrev pub is_deep : Room → Bool
is_deep received_begins = false
is_deep head_representation = false
is_deep head_date = false
is_deep parameters = false
is_deep own_text = false
is_deep parameter_representation = false
is_deep behaviour_value = false
is_deep encrypted_texts = false
is_deep received_date = true
is_deep after_date = true
is_deep after_from = true
is_deep after_id = true
is_deep after_via = true
is_deep received_extra = true
is_deep agent_list = true
is_deep one_agent = true
is_deep after_name = true
is_deep address_texts = true
is_deep after_addresses = true
is_deep after_resolvers = true
is_deep agent_extra = true
is_deep closed = false

abbrev pub leads_well : Bool → Next → Bool
leads_well deep (outer r) = not (is_deep r)
leads_well deep (inner r) = true
leads_well deep (inner_one r) = true
leads_well deep (stay r) = not (is_deep r) || deep
leads_well deep (deeper r) = true
leads_well deep list_ends = true
leads_well deep agent_ends = deep

abbrev pub row_well : Room → Move → Bool
row_well r m = is_quiet m.form || leb 3 m.kind && (not (eqb m.kind agent_name) || is_deep r)

abbrev pub move_well : Room → Move → Bool
move_well r m = leads_well (is_deep r) m.next && row_well r m

abbrev pub moves_well : Edition → Room → Bool
moves_well e r = every (move_well r) (moves e r)

pub well_test : T (all_rooms moves_well)
unfolding moves shared own
well_test = tt

-- a state whose room stands deeper has such a level
abbrev pub Deep : State → Type 0
Deep st = is_deep st.room ≡ true → 1 ≤ st.level

false_is : {A : Type 0} → false ≡ true → A
false_is q = let z : ◌≡◌ {A = ℕ} 0 1 = cc q in absurd (omega arith)

list_deep : (n : ℕ) (o : Bool) → Deep (list_end n o)
list_deep zero o q = false_is q
list_deep (suc zero) o q = false_is q
list_deep (suc (suc n)) o q = omega arith

agent_deep : (st : State) (z : Bool) → 1 ≤ st.level → Deep (pick z (state parameters 0 false) (state agent_list st.level st.single))
agent_deep st true h q = false_is q
agent_deep st false h q = h

pub go_deep : (st : State) (n : Next) → T (leads_well (is_deep st.room) n) → Deep st → Deep (go n st)
go_deep st (outer r) t g q = absurd (not_both (is_deep r) (subst T (sym q) tt) t)
go_deep st (inner r) t g q = omega arith
go_deep st (inner_one r) t g q = omega arith
go_deep st (stay r) t g q = let u : T (not true || is_deep st.room) = subst (λ (x : Bool). T (not x || is_deep st.room)) q t in g (is_true (is_deep st.room) u)
go_deep st (deeper r) t g q = omega arith
go_deep st list_ends t g q = list_deep st.level st.single q
go_deep st agent_ends t g q = agent_deep st (st.single && eqb st.level 1) (g (is_true (is_deep st.room) t)) q

-- What a step reads

abbrev pub rank_seen : Seen → Rank
rank_seen r = rank r.kind r.level

abbrev pub are_inner : List Seen → Bool
are_inner rs = every is_inner (map rank_seen rs)

abbrev StepWell : Step → Type 0
StepWell (fails refusal left) = Unit {0}
StepWell (over s) = Unit {0}
StepWell (next st rs rest) = Deep st × T (are_inner rs)

-- an agent's row is a deep room's
not_top : (agent deep : Bool) (level : ℕ) → T (not agent || deep) → (deep ≡ true → 1 ≤ level) → T (not (agent && eqb level 0))
not_top false deep level t g = tt
not_top true true level t g = let h = g refl in subst (λ (b : Bool). T (not b)) (sym (ne_eqb level 0 (λ q. omega arith))) tt
not_top true false level t g = absurd t

row_inner : (st : State) (m : Move) (quiet : Bool) → is_quiet m.form ≡ quiet → T (quiet || leb 3 m.kind && (not (eqb m.kind agent_name) || is_deep st.room)) → Deep st → (left : ℕ) (v : List ℕ)
    → T (are_inner (pick quiet [] (seen m.kind st.level left v ∷ [])))
row_inner st m true q t g left v = tt
row_inner st m false q t g left v =
    let three = left_of (leb 3 m.kind) (not (eqb m.kind agent_name) || is_deep st.room) t in
    let deep = right_of (leb 3 m.kind) (not (eqb m.kind agent_name) || is_deep st.room) t in
    let own = both (leb 3 m.kind) (not (eqb m.kind agent_name && eqb st.level 0)) three (not_top (eqb m.kind agent_name) (is_deep st.room) st.level deep g) in
    both (is_inner (rank m.kind st.level)) true own tt

taken_well : (st : State) (m : Move) → T (move_well st.room m) → Deep st → (g : Taken) → StepWell (step_taken st m g)
taken_well st m t g (failed refusal left) = tt
taken_well st m t g (took v rest) =
    let leads = left_of (leads_well (is_deep st.room) m.next) (row_well st.room m) t in
    (go_deep st m.next leads g, row_inner st m (is_quiet m.form) refl (right_of (leads_well (is_deep st.room) m.next) (row_well st.room m) t) g _ v)

unless : (z : Bool) (x y : Step) → StepWell x → StepWell y → StepWell (pick z x y)
unless true x y p q = p
unless false x y p q = q

move_well_lem : (told : Told) (st : State) (b : ℕ) (s : List ℕ) (o : Found) → Looked b (moves told.edition st.room) o → Deep st → StepWell (step_move told st b s o)
unfolding step_move
move_well_lem told st b s none i g = unless (is_closed st.room) (over (b ∷ s)) (fails (strange st.room) (suc (length s))) tt tt
move_well_lem told st b s (hit m) i g =
    let t = every_in (move_well st.room) i.0 (each_room moves_well well_test told.edition st.room) in
    let value = take_value told m.form (suc (length s)) m.code (value_from m b s) in
    unless (too_deep m st) (fails 12 (suc (length s))) (step_taken st m value) tt (taken_well st m t g value)

step_well : (told : Told) (st : State) (s : List ℕ) → Deep st → StepWell (step told st s)
unfolding step
step_well told st [] g = unless (is_closed st.room) (over []) (fails 6 0) tt tt
step_well told st (b ∷ s) g = move_well_lem told st b s (look b (moves told.edition st.room)) (looked b (moves told.edition st.room)) g

-- What the inside of an envelope reads

abbrev OutWell : Out → Type 0
OutWell dry = Unit {0}
OutWell (fault refusal left) = Unit {0}
OutWell (done rs s) = T (are_inner rs)

inner_append : (rs ts : List Seen) → T (are_inner rs) → T (are_inner ts) → T (are_inner (rs ++ ts))
inner_append [] ts p q = q
inner_append (r ∷ rs) ts p q = both (is_inner (rank_seen r)) (are_inner (rs ++ ts)) (left_of (is_inner (rank_seen r)) (are_inner rs) p) (inner_append rs ts (right_of (is_inner (rank_seen r)) (are_inner rs) p) q)

with_rows_lem : (rs : List Seen) (o : Out) → T (are_inner rs) → OutWell o → OutWell (with_rows rs o)
with_rows_lem rs dry t w = tt
with_rows_lem rs (fault refusal left) t w = tt
with_rows_lem rs (done ts s) t w = inner_append rs ts t w

onward_well : (f : State → List ℕ → Out) → ((st : State) (s : List ℕ) → Deep st → OutWell (f st s)) → (x : Step) → StepWell x → OutWell (onward x f)
onward_well f h (fails refusal left) w = tt
onward_well f h (over s) w = tt
onward_well f h (next st rs rest) w = with_rows_lem rs (f st rest) w.1 (h st rest w.0)

run_well : (n : ℕ) (told : Told) (st : State) (s : List ℕ) → Deep st → OutWell (run n told st s)
unfolding run
run_well zero told st s g = tt
run_well (suc n) told st s g = onward_well (run n told) (λ st₁ s₁ g₁. run_well n told st₁ s₁ g₁) (step told st s) (step_well told st s g)

start_deep : (b : Bool) → Deep (start b)
start_deep true q = false_is q
start_deep false q = false_is q

-- The first row of an envelope's inside

abbrev HeadedRows : Bool → List Seen → Type 0
HeadedRows b [] = ⊥
HeadedRows b (r ∷ rs) = T (is_head b (rank_seen r))

abbrev Headed : Bool → Out → Type 0
Headed b dry = Unit {0}
Headed b (fault refusal left) = Unit {0}
Headed b (done rs s) = HeadedRows b rs

abbrev StepHeaded : Bool → Step → Type 0
StepHeaded b (fails refusal left) = Unit {0}
StepHeaded b (over s) = ⊥
StepHeaded b (next st rs rest) = HeadedRows b rs

abbrev head_move : Bool → Move → Bool
head_move b m = not (is_quiet m.form) && is_head b (rank m.kind 0)

heads_test : (e : Edition) (b : Bool) → T (every (head_move b) (moves e (start b).room))
unfolding moves shared own
heads_test B true = tt
heads_test B false = tt
heads_test D true = tt
heads_test D false = tt

start_flat : (b : Bool) → ((start b).level ≡ 0) × (is_closed (start b).room ≡ false)
start_flat true = (refl, refl)
start_flat false = (refl, refl)

head_row : (b : Bool) (kind left : ℕ) (v : List ℕ) (quiet : Bool) (level : ℕ) → level ≡ 0 → T (not quiet && is_head b (rank kind 0)) → HeadedRows b (pick quiet [] (seen kind level left v ∷ []))
head_row b kind left v true level q t = t
head_row b kind left v false level q t = subst (λ (n : ℕ). T (is_head b (rank kind n))) (sym q) t

taken_headed : (b : Bool) (m : Move) → T (head_move b m) → (g : Taken) → StepHeaded b (step_taken (start b) m g)
taken_headed b m t (failed refusal left) = tt
taken_headed b m t (took v rest) = head_row b m.kind _ v (is_quiet m.form) (start b).level (start_flat b).0 t

step_unless : (b : Bool) (z : Bool) (x : Step) (refusal left : ℕ) → StepHeaded b x → StepHeaded b (pick z (fails refusal left) x)
step_unless b true x refusal left h = tt
step_unless b false x refusal left h = h

move_headed : (told : Told) (b : Bool) (c : ℕ) (s : List ℕ) (o : Found) → Looked c (moves told.edition (start b).room) o → StepHeaded b (step_move told (start b) c s o)
unfolding step_move
move_headed told b c s none i = rw (start_flat b).1 tt
move_headed told b c s (hit m) i =
    let t = every_in (head_move b) i.0 (heads_test told.edition b) in
    let value = take_value told m.form (suc (length s)) m.code (value_from m c s) in
    step_unless b (too_deep m (start b)) (step_taken (start b) m value) 12 (suc (length s)) (taken_headed b m t value)

step_headed : (told : Told) (b : Bool) (s : List ℕ) → StepHeaded b (step told (start b) s)
unfolding step
step_headed told b [] = rw (start_flat b).1 tt
step_headed told b (c ∷ s) = move_headed told b c s (look c (moves told.edition (start b).room)) (looked c (moves told.edition (start b).room))

onward_headed : (b : Bool) (f : State → List ℕ → Out) (x : Step) → StepHeaded b x → Headed b (onward x f)
onward_headed b f (fails refusal left) h = tt
onward_headed b f (over s) h = absurd h
onward_headed b f (next st [] rest) h = absurd h
onward_headed b f (next st (r ∷ rs) rest) h = with_head (f st rest)
  where
    with_head : (o : Out) → Headed b (with_rows (r ∷ rs) o)
    with_head dry = tt
    with_head (fault refusal left) = tt
    with_head (done ts s) = h

-- the rows of an envelope's inside: its head, and rows of other kinds
abbrev pub InsideIs : Bool → Out → Type 0
InsideIs b dry = Unit {0}
InsideIs b (fault refusal left) = Unit {0}
InsideIs b (done [] s) = ⊥
InsideIs b (done (r ∷ rs) s) = T (is_head b (rank_seen r)) × T (are_inner (r ∷ rs))

pub inside_is : (told : Told) (b : Bool) (s : List ℕ) → InsideIs b (inside told (start b) s)
unfolding inside run
inside_is told b s = at (inside told (start b) s) (run_well (suc (length s)) told (start b) s (start_deep b)) (onward_headed b (run (length s) told) (step told (start b) s) (step_headed told b s))
  where
    at : (o : Out) → OutWell o → Headed b o → InsideIs b o
    at dry w h = tt
    at (fault refusal left) w h = tt
    at (done [] s) w h = h
    at (done (r ∷ rs) s) w h = (h, w)
