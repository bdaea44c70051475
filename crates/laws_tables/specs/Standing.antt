-- How the rows of a table stand: its first is an envelope's, envelopes stand at level 0, and agents deeper. By one computed test of the rooms of agents:
-- they are entered one level down, and left for others.
use Rattle.std.specs.Prelude.{ℕ, zero, suc, ◌≤◌, List, [], ◌∷◌, ◌++◌, map, Bool, true, false, ◌&&◌, ◌||◌, not, ◌⊎◌, ◌≡◌, refl, T, eqb, leb}
use Rattle.std.proofs.Common.{append-nil, inl, inr, ◌∙◌, subst, arith, eq-eqb}
use Rattle.meaning.specs.Basics.{pick, every, In}
use Rattle.meaning.specs.Kinds.{agent_name}
use Rattle.meaning.specs.Told.{Edition}
use Rattle.meaning.specs.Editions.{Room, parameters, agent_list, agent_extra, State, state, Next, outer, inner, inner_one, stay, deeper, list_ends, agent_ends, list_end, go, Move, moves, shared, own}
use Rattle.meaning.specs.Reading.{Row}
use Rattle.meaning.specs.Skips.{Rank, is_envelope}
use Rattle.meaning.specs.Headers.{start}
use Rattle.meaning.specs.Writing.{fits, fit_row}
use Rattle.laws_steps.specs.Logic.{left_of, right_of, either, not_both}
use Rattle.laws_steps.specs.Tables.{room_number, every_in, all_rooms, each_room}
use Rattle.laws_steps.specs.Fits.{fit_holds}
use Rattle.laws_steps.specs.WrittenRead.{fit_all, then_inv}
use Rattle.laws_steps.specs.Envelopes.{opening_row, Writes, the_base, before}
use Rattle.laws_steps.specs.Plans.{inner_kind}
use Rattle.laws_tables.specs.RightSkips.{standing}
use Rattle.laws_tables.specs.Filling.{envelope_kind, StandsWell, Standing, none_left, one_more}

-- Agents

-- the rooms of an agent and of a list of agents
abbrev in_agents : Room → Bool
in_agents r = leb (room_number agent_list) (room_number r) && leb (room_number r) (room_number agent_extra)

-- they are entered one level down, and otherwise only from each other
abbrev enters_deep : Room → Next → Bool
enters_deep r (outer t) = not (in_agents t)
enters_deep r (inner t) = true
enters_deep r (inner_one t) = true
enters_deep r (stay t) = not (in_agents t) || in_agents r
enters_deep r (deeper t) = true
enters_deep r list_ends = true
enters_deep r agent_ends = in_agents r

abbrev agents_apart : Room → Move → Bool
agents_apart r m = enters_deep r m.next && (not (eqb m.kind agent_name) || in_agents r)

abbrev all_apart : Edition → Room → Bool
all_apart e r = every (agents_apart r) (moves e r)

apart_test : T (all_rooms all_apart)
unfolding moves shared own
apart_test = tt

abbrev Deep : State → Type 0
Deep st = T (in_agents st.room) → 1 ≤ st.level

list_deep : (n : ℕ) (o : Bool) → Deep (list_end n o)
list_deep zero o t = absurd t
list_deep (suc zero) o t = absurd t
list_deep (suc (suc n)) o t = omega arith

agent_deep : (st : State) (b : Bool) → 1 ≤ st.level → Deep (pick b (state parameters 0 false) (state agent_list st.level st.single))
agent_deep st true h t = absurd t
agent_deep st false h t = h

go_deep : (st : State) (n : Next) → T (enters_deep st.room n) → Deep st → Deep (go n st)
go_deep st (outer t) ok d = λ u. absurd (not_both (in_agents t) u ok)
go_deep st (inner t) ok d = λ u. omega arith
go_deep st (inner_one t) ok d = λ u. omega arith
go_deep st (stay t) ok d = λ u. at u (either (not (in_agents t)) (in_agents st.room) ok)
  where
    at : T (in_agents t) → T (not (in_agents t)) ⊎ T (in_agents st.room) → 1 ≤ st.level
    at u (inl x) = absurd (not_both (in_agents t) u x)
    at u (inr x) = d x
go_deep st (deeper t) ok d = λ u. omega arith
go_deep st list_ends ok d = list_deep st.level st.single
go_deep st agent_ends ok d = agent_deep st (st.single && eqb st.level 1) (d ok)

module _ (e : Edition) (st : State) {m : Move} (i : In m (moves e st.room)) (d : Deep st) where
  apart : T (agents_apart st.room m)
  apart = every_in (agents_apart st.room) i (each_room all_apart apart_test e st.room)

  move_deep : Deep (go m.next st)
  move_deep = go_deep st m.next (left_of (enters_deep st.room m.next) (not (eqb m.kind agent_name) || in_agents st.room) apart) d

  name_deep : m.kind ≡ agent_name → 1 ≤ st.level
  name_deep q = at (either (not (eqb m.kind agent_name)) (in_agents st.room) (right_of (enters_deep st.room m.next) (not (eqb m.kind agent_name) || in_agents st.room) apart))
    where
      at : T (not (eqb m.kind agent_name)) ⊎ T (in_agents st.room) → 1 ≤ st.level
      at (inl x) = let z : T false = subst (λ (b : Bool). T (not b)) (eq-eqb m.kind agent_name q) x in absurd z
      at (inr x) = d x

-- a row that fits leads from deep rooms to deep ones, and an agent's stands deep
row_deep : (e : Edition) (row : Row) (st st' : State) (bs : List ℕ) → fit_row e st row ≡ fits st' bs → Deep st → Deep st' × (row.kind ≡ agent_name → 1 ≤ row.level)
row_deep e row =
    fit_holds e row (λ st st' bs. Deep st → Deep st' × (row.kind ≡ agent_name → 1 ≤ row.level))
    (λ st st' m bs i p d. (subst Deep p.to (move_deep e st i d), λ q. let h = name_deep e st i d (p.kind_is ∙ q) in omega (arith, p.level_is)))
    (λ st st' m bs i q h d. h (move_deep e st i d))

start_deep : (b : Bool) → Deep (start b)
start_deep true t = absurd t
start_deep false t = absurd t

-- Rows of a table

opening_stands : (b : Bool) → StandsWell (standing (opening_row b))
opening_stands true = record { some_kind = omega arith; envelope_out = λ q. refl; agent_in = λ q. absurd (omega arith) }
opening_stands false = record { some_kind = omega arith; envelope_out = λ q. refl; agent_in = λ q. absurd (omega arith) }

no_envelope : (k : ℕ) → 3 ≤ k → is_envelope k ≡ true → ⊥
no_envelope k h q = let (l, m) = envelope_kind k q in omega arith

inner_stand : (e : Edition) (rows table : List Row) (st st' : State) (bs : List ℕ) → fit_all e rows st ≡ fits st' bs → Deep st → Standing (map standing table) → Standing (map standing (rows ++ table))
unfolding fit_all
inner_stand e [] table st st' bs q d t = t
inner_stand e (row ∷ rows) table st st' bs q d t =
    let (st₁, cs, ds, q₁, q₂, q₃) = then_inv (fit_row e st row) (fit_all e rows) st' bs q in
    let k = inner_kind e row st st₁ cs q₁ in
    let (d₁, a) = row_deep e row st st₁ cs q₁ d in
    one_more {r = standing row} (record { some_kind = omega arith; envelope_out = λ o. absurd (no_envelope row.kind k o); agent_in = a }) (inner_stand e rows table st₁ st' ds q₂ d₁ t)

-- the first row is an envelope's
pub data Opened : List Rank → Type 0 where
  opened : {r : Rank} {rest : List Rank} → is_envelope r.kind ≡ true → Opened (r ∷ rest)

opens : (b : Bool) → is_envelope (standing (opening_row b)).kind ≡ true
opens true = refl
opens false = refl

pub table_stands : (e : Edition) {k : ℕ} {table : List Row} {w : List ℕ} → Writes e k table w → Standing (map standing table) × Opened (map standing table)
table_stands e (the_base rows st bs q z) =
    (one_more (opening_stands true) (subst (λ (x : List Row). Standing (map standing x)) (append-nil rows) (inner_stand e rows [] (start true) st bs q (start_deep true) none_left)), opened (opens true))
table_stands e (before rows table st bs w n q z more) =
    let (t, o) = table_stands e more in
    (one_more (opening_stands false) (inner_stand e rows table (start false) st bs q (start_deep false) t), opened (opens false))
