-- What stands before a row of a table: an address behind the row that opens addresses or behind another address, an encrypted item likewise, a value
-- behind its key; each at the level of the row before it. And a parameter's own row stands at level 0. By the moves of each room.
use Rattle.std.specs.Prelude.{ℕ, zero, suc, ◌≤◌, List, [], ◌∷◌, ◌++◌, map, Bool, true, false, ◌&&◌, ◌||◌, not, ◌≡◌, refl, T, eqb, leb}
use Rattle.std.proofs.Common.{append-nil, sym, ◌∙◌, subst, arith, leb→le, eqb-true, ltb-false}
use Rattle.meaning.specs.Basics.{pick, every, In}
use Rattle.meaning.specs.Kinds.{addresses_open, address, extra_key, any_text, any_bytes, encrypted_opens, encrypted_item, own_key, own_value, behaviour_opens}
use Rattle.meaning.specs.Told.{Edition}
use Rattle.meaning.specs.Editions.{Room, received_begins, head_representation, head_date, parameters, own_text, parameter_representation, behaviour_value, encrypted_texts, received_date, after_date, after_from, after_id, after_via, received_extra, agent_list, one_agent, after_name, address_texts, after_addresses, after_resolvers, agent_extra, closed, State, state, Next, outer, inner, inner_one, stay, deeper, list_ends, agent_ends, list_end, go, is_quiet, Move, moves, shared, own, closing}
use Rattle.meaning.specs.Reading.{Row}
use Rattle.meaning.specs.Skips.{Rank, rank}
use Rattle.meaning.specs.Codes.{date_code, code_of}
use Rattle.meaning.specs.Headers.{start}
use Rattle.meaning.specs.Writing.{fits, fit_row}
use Rattle.laws_steps.specs.Logic.{left_of, right_of, is_true, is_false}
use Rattle.laws_steps.specs.Tables.{every_in, all_rooms, each_room}
use Rattle.laws_steps.specs.Fits.{Placing, fit_holds}
use Rattle.laws_steps.specs.WrittenRead.{fit_all, then_inv}
use Rattle.laws_steps.specs.Envelopes.{opening_row, Writes, the_base, before}
use Rattle.laws_tables.specs.RightSkips.{standing}
use Rattle.laws_tables.specs.Levels.{is_inner, AtLevel, bad, move_level, row_kept}
use Rattle.laws_tables.specs.Ranked.{map_both}

-- rows that follow another of their own, and the rows that open them
abbrev pub is_follower : ℕ → Bool
is_follower kind = eqb kind address || eqb kind any_text || eqb kind any_bytes || eqb kind encrypted_item || eqb kind own_value

abbrev pub leads : ℕ → ℕ → Bool
leads first kind =
    pick (eqb kind address) (eqb first addresses_open)
    (pick (eqb kind encrypted_item) (eqb first encrypted_opens)
    (pick (eqb kind own_value) (eqb first own_key) (eqb first extra_key || eqb first behaviour_opens)))

abbrev pub may_stand_before : ℕ → ℕ → Bool
may_stand_before kind first = eqb first kind || leads first kind

-- no parameter begins with a row of this kind
abbrev pub is_silent : ℕ → Bool
is_silent kind = eqb (code_of kind) closing || eqb (code_of kind) date_code

abbrev pub kind_most : ℕ
kind_most = 29

pub record Follows (first r : Rank) : Type 0 where
  pub beside : is_follower r.kind ≡ true → first.level ≡ r.level
  pub behind : is_follower r.kind ≡ true → T (may_stand_before r.kind first.kind)

pub record Flat (r : Rank) : Type 0 where
  pub known : r.kind ≤ kind_most
  pub silent : (r.level ≡ 0 → ⊥) → T (is_silent r.kind)

-- rows, behind a first one
pub data Neighbours : Rank → List Rank → Type 0 where
  none : {first : Rank} → Neighbours first []
  next : {first r : Rank} {rest : List Rank} → Follows first r → Flat r → Neighbours r rest → Neighbours first (r ∷ rest)

-- Rooms

-- the kinds of the row before a room in which rows follow
abbrev awaited : Room → List ℕ
awaited received_begins = []
awaited head_representation = []
awaited head_date = []
awaited parameters = []
awaited own_text = own_key ∷ []
awaited parameter_representation = []
awaited behaviour_value = behaviour_opens ∷ []
awaited encrypted_texts = encrypted_opens ∷ encrypted_item ∷ []
awaited received_date = []
awaited after_date = []
awaited after_from = []
awaited after_id = []
awaited after_via = []
awaited received_extra = extra_key ∷ []
awaited agent_list = []
awaited one_agent = []
awaited after_name = []
awaited address_texts = addresses_open ∷ address ∷ []
awaited after_addresses = []
awaited after_resolvers = []
awaited agent_extra = extra_key ∷ []
awaited closed = []

abbrev is_any : List ℕ → Bool
is_any [] = false
is_any (k ∷ ks) = true

abbrev is_among : ℕ → List ℕ → Bool
is_among kind [] = false
is_among kind (k ∷ ks) = eqb kind k || is_among kind ks

-- a room is led to by a row that it awaits, at its own level
abbrev leads_to : Room → Move → Next → Bool
leads_to r m (outer t) = not (is_any (awaited t)) || not (is_quiet m.form) && is_among m.kind (awaited t) && not (is_inner r)
leads_to r m (inner t) = not (is_any (awaited t))
leads_to r m (inner_one t) = not (is_any (awaited t))
leads_to r m (stay t) = not (is_any (awaited t)) || not (is_quiet m.form) && is_among m.kind (awaited t)
leads_to r m (deeper t) = not (is_any (awaited t))
leads_to r m list_ends = true
leads_to r m agent_ends = true

-- what every move of a room keeps
abbrev keeps : Room → Move → Bool
keeps r m =
    leads_to r m m.next && (not (is_follower m.kind) || is_any (awaited r) && every (may_stand_before m.kind) (awaited r)) && leb m.kind kind_most &&
    (not (is_inner r) || is_silent m.kind)

abbrev keeps_room : Edition → Room → Bool
keeps_room e r = every (keeps r) (moves e r)

keeps_test : T (all_rooms keeps_room)
unfolding moves shared own
keeps_test = tt

record Kept (r : Room) (m : Move) : Type 0 where
  pub leading : T (leads_to r m m.next)
  pub following : T (not (is_follower m.kind) || is_any (awaited r) && every (may_stand_before m.kind) (awaited r))
  pub known : m.kind ≤ kind_most
  pub silent : T (not (is_inner r) || is_silent m.kind)

kept : (e : Edition) (r : Room) {m : Move} → In m (moves e r) → Kept r m
kept e r {m} i = at (every_in (keeps r) i (each_room keeps_room keeps_test e r))
  where
    at : T (keeps r m) → Kept r m
    at t =
        let a = leads_to r m m.next in
        let b = not (is_follower m.kind) || is_any (awaited r) && every (may_stand_before m.kind) (awaited r) in
        let c = leb m.kind kind_most in
        let d = not (is_inner r) || is_silent m.kind in
        let t₃ = left_of (a && b && c) d t in
        let t₂ = left_of (a && b) c t₃ in
        record { leading = left_of a b t₂; following = right_of a b t₂; known = leb→le m.kind kind_most (right_of (a && b) c t₃); silent = right_of (a && b && c) d t }

-- a state, behind a row
record Behind (st : State) (first : Rank) : Type 0 where
  pub level : is_any (awaited st.room) ≡ true → first.level ≡ st.level
  pub kind : is_any (awaited st.room) ≡ true → T (is_among first.kind (awaited st.room))

free : {st : State} {first : Rank} → is_any (awaited st.room) ≡ false → Behind st first
free q = record { level = λ h. bad (sym q ∙ h); kind = λ h. bad (sym q ∙ h) }

among_every : (test : ℕ → Bool) (kind : ℕ) (ks : List ℕ) → T (is_among kind ks) → T (every test ks) → T (test kind)
among_every test kind [] a t = absurd a
among_every test kind (k ∷ ks) a t = at (eqb kind k) refl a (λ more. among_every test kind ks more (right_of (test k) (every test ks) t))
  where
    at : (b : Bool) → eqb kind k ≡ b → T (b || is_among kind ks) → (T (is_among kind ks) → T (test kind)) → T (test kind)
    at true q a ih = subst (λ (x : ℕ). T (test x)) (sym (eqb-true kind k q)) (left_of (test k) (every test ks) t)
    at false q a ih = ih a

quiet_not : {A : Type 0} (q rest : Bool) → q ≡ true → T (not q && rest) → A
quiet_not true rest h t = absurd (left_of false rest t)
quiet_not false rest h t = bad h

list_free : (first : Rank) (n : ℕ) (o : Bool) → Behind (list_end n o) first
list_free first zero o = free refl
list_free first (suc zero) o = free refl
list_free first (suc (suc n)) o = free refl

agent_free : (first : Rank) (st : State) (b : Bool) → Behind (pick b (state parameters 0 false) (state agent_list st.level st.single)) first
agent_free first st true = free refl
agent_free first st false = free refl

-- a move without a row leads to a room that awaits none
passes : (st : State) (m : Move) (first : Rank) → is_quiet m.form ≡ true → (n : Next) → T (leads_to st.room m n) → Behind (go n st) first
passes st m first q (outer t) l = at (is_any (awaited t)) refl l
  where
    at : (b : Bool) → is_any (awaited t) ≡ b → T (not b || not (is_quiet m.form) && is_among m.kind (awaited t) && not (is_inner st.room)) → Behind (state t 0 false) first
    at false h l = free h
    at true h l = quiet_not (is_quiet m.form) (is_among m.kind (awaited t)) q (left_of (not (is_quiet m.form) && is_among m.kind (awaited t)) (not (is_inner st.room)) l)
passes st m first q (inner t) l = free (is_false (is_any (awaited t)) l)
passes st m first q (inner_one t) l = free (is_false (is_any (awaited t)) l)
passes st m first q (stay t) l = at (is_any (awaited t)) refl l
  where
    at : (b : Bool) → is_any (awaited t) ≡ b → T (not b || not (is_quiet m.form) && is_among m.kind (awaited t)) → Behind (state t st.level st.single) first
    at false h l = free h
    at true h l = quiet_not (is_quiet m.form) (is_among m.kind (awaited t)) q l
passes st m first q (deeper t) l = free (is_false (is_any (awaited t)) l)
passes st m first q list_ends l = list_free first st.level st.single
passes st m first q agent_ends l = agent_free first st (st.single && eqb st.level 1)

-- a move with a row leads to a room that awaits it, or none
leads_on : (st : State) (m : Move) → AtLevel st → (n : Next) → T (leads_to st.room m n) → Behind (go n st) (rank m.kind st.level)
leads_on st m flat (outer t) l = at (is_any (awaited t)) refl l
  where
    at : (b : Bool) → is_any (awaited t) ≡ b → T (not b || not (is_quiet m.form) && is_among m.kind (awaited t) && not (is_inner st.room)) → Behind (state t 0 false) (rank m.kind st.level)
    at false h l = free h
    at true h l =
        let loud = not (is_quiet m.form) in
        let both = left_of (loud && is_among m.kind (awaited t)) (not (is_inner st.room)) l in
        let out = is_false (is_inner st.room) (right_of (loud && is_among m.kind (awaited t)) (not (is_inner st.room)) l) in
        let low = ltb-false 0 st.level (sym flat ∙ out) in
        record { level = λ _. omega arith; kind = λ _. right_of loud (is_among m.kind (awaited t)) both }
leads_on st m flat (inner t) l = free (is_false (is_any (awaited t)) l)
leads_on st m flat (inner_one t) l = free (is_false (is_any (awaited t)) l)
leads_on st m flat (stay t) l = at (is_any (awaited t)) refl l
  where
    at : (b : Bool) → is_any (awaited t) ≡ b → T (not b || not (is_quiet m.form) && is_among m.kind (awaited t)) → Behind (state t st.level st.single) (rank m.kind st.level)
    at false h l = free h
    at true h l = record { level = λ _. refl; kind = λ _. right_of (not (is_quiet m.form)) (is_among m.kind (awaited t)) l }
leads_on st m flat (deeper t) l = free (is_false (is_any (awaited t)) l)
leads_on st m flat list_ends l = list_free (rank m.kind st.level) st.level st.single
leads_on st m flat agent_ends l = agent_free (rank m.kind st.level) st (st.single && eqb st.level 1)

-- What a row's fit keeps

record RowNext (first r : Rank) (st : State) : Type 0 where
  pub follows : Follows first r
  pub flat : Flat r
  pub leaves : Behind st r

moved_next : (st : State) (m : Move) (first : Rank) → Kept st.room m → AtLevel st → Behind st first → RowNext first (rank m.kind st.level) (go m.next st)
moved_next st m first k flat b =
    record {
      follows = record { beside = λ f. b.level (some f).0; behind = λ f. among_every (may_stand_before m.kind) first.kind (awaited st.room) (b.kind (some f).0) (some f).1 };
      flat = record { known = k.known; silent = silent };
      leaves = leads_on st m flat m.next k.leading;
    }
  where
    follower : (z : Bool) → z ≡ true → T (not z || is_any (awaited st.room) && every (may_stand_before m.kind) (awaited st.room))
        → (is_any (awaited st.room) ≡ true) × T (every (may_stand_before m.kind) (awaited st.room))
    follower true h t = (is_true (is_any (awaited st.room)) (left_of (is_any (awaited st.room)) (every (may_stand_before m.kind) (awaited st.room)) t), right_of (is_any (awaited st.room)) (every (may_stand_before m.kind) (awaited st.room)) t)
    follower false h t = bad h

    some : is_follower m.kind ≡ true → (is_any (awaited st.room) ≡ true) × T (every (may_stand_before m.kind) (awaited st.room))
    some f = follower (is_follower m.kind) f k.following

    deep : (z : Bool) → is_inner st.room ≡ z → T (not z || is_silent m.kind) → (st.level ≡ 0 → ⊥) → T (is_silent m.kind)
    deep true q t h = t
    deep false q t h = let low = ltb-false 0 st.level (sym flat ∙ q) in absurd (h (omega arith))

    silent : (st.level ≡ 0 → ⊥) → T (is_silent m.kind)
    silent h = deep (is_inner st.room) refl k.silent h

row_next : (e : Edition) (row : Row) (st st' : State) (bs : List ℕ) → fit_row e st row ≡ fits st' bs → AtLevel st → (first : Rank) → Behind st first → RowNext first (standing row) st'
row_next e row = fit_holds e row (λ st st' bs. AtLevel st → (first : Rank) → Behind st first → RowNext first (standing row) st') own_next pass_next
  where
    own_next : (st st' : State) (m : Move) (bs : List ℕ) → In m (moves e st.room) → Placing st row m st' bs → AtLevel st → (first : Rank) → Behind st first → RowNext first (standing row) st'
    own_next st st' m bs i p l first b =
        let r : rank m.kind st.level ≡ standing row = rw (p.kind_is, p.level_is) refl in
        subst (λ (x : Rank). RowNext first x st') r (subst (RowNext first (rank m.kind st.level)) p.to (moved_next st m first (kept e st.room i) l b))

    pass_next : (st st' : State) (m : Move) (bs : List ℕ) → In m (moves e st.room) → is_quiet m.form ≡ true → (AtLevel (go m.next st) → (first : Rank) → Behind (go m.next st) first → RowNext first (standing row) st')
        → AtLevel st → (first : Rank) → Behind st first → RowNext first (standing row) st'
    pass_next st st' m bs i q more l first b = more (move_level e st i l) first (passes st m first q m.next (kept e st.room i).leading)

-- Tables

rows_next : (e : Edition) (rows : List Row) (table : List Rank) (st st' : State) (bs : List ℕ) (first : Rank) → fit_all e rows st ≡ fits st' bs → AtLevel st → Behind st first
    → ((last : Rank) → Neighbours last table) → Neighbours first (map standing rows ++ table)
unfolding fit_all
rows_next e [] table st st' bs first q l b more = more first
rows_next e (row ∷ rows) table st st' bs first q l b more =
    let (st₁, cs, ds, q₁, q₂, q₃) = then_inv (fit_row e st row) (fit_all e rows) st' bs q in
    let r = row_next e row st st₁ cs q₁ l first b in
    next r.follows r.flat (rows_next e rows table st₁ st' ds (standing row) q₂ (row_kept e row st st₁ cs q₁ l).level r.leaves more)

-- an envelope's own row follows none
opening_next : (b : Bool) (first : Rank) (rest : List Rank) → Neighbours (standing (opening_row b)) rest → Neighbours first (standing (opening_row b) ∷ rest)
opening_next true first rest more = next {r = standing (opening_row true)} (record { beside = λ f. bad f; behind = λ f. bad f }) (record { known = omega arith; silent = λ h. tt }) more
opening_next false first rest more = next {r = standing (opening_row false)} (record { beside = λ f. bad f; behind = λ f. bad f }) (record { known = omega arith; silent = λ h. tt }) more

start_free : (b : Bool) (first : Rank) → Behind (start b) first
start_free true first = free refl
start_free false first = free refl

start_level : (b : Bool) → AtLevel (start b)
start_level true = refl
start_level false = refl

pub table_neighbours : (e : Edition) {k : ℕ} {table : List Row} {w : List ℕ} → Writes e k table w → (first : Rank) → Neighbours first (map standing table)
table_neighbours e (the_base rows st bs q z) first =
    opening_next true first (map standing rows)
    (subst (Neighbours (standing (opening_row true))) (append-nil (map standing rows)) (rows_next e rows [] (start true) st bs (standing (opening_row true)) q (start_level true) (start_free true (standing (opening_row true))) (λ last. none)))
table_neighbours e (before rows table st bs w n q z more) first =
    opening_next false first (map standing (rows ++ table))
    (subst (Neighbours (standing (opening_row false))) (sym (map_both rows table)) (rows_next e rows (map standing table) (start false) st bs (standing (opening_row false)) q (start_level false) (start_free false (standing (opening_row false))) (λ last. table_neighbours e more last)))
