-- From every state that rows lead to, some rows lead on to the envelope's end: a room closes, or its first move leads nearer to one that does.
use Rattle.std.specs.Prelude.{ℕ, zero, suc, ◌≤◌, ◌<◌, List, [], ◌∷◌, ◌++◌, Bool, true, false, ◌&&◌, ◌||◌, not, ◌⊎◌, ◌≡◌, refl, T, eqb, ltb}
use Rattle.std.proofs.Common.{inl, inr, ◌∙◌, subst, arith, ltb→lt, le-ltb}
use Rattle.meaning.specs.Basics.{pick, every, In, here}
use Rattle.meaning.specs.Bytes.{text_byte, text_ok, last_day, passes, date_ok}
use Rattle.meaning.specs.Kinds.{agent_name}
use Rattle.meaning.specs.Told.{Edition}
use Rattle.meaning.specs.Editions.{Room, received_begins, head_representation, head_date, parameters, own_text, parameter_representation, behaviour_value, encrypted_texts, received_date, after_date, after_from, after_id, after_via, received_extra, agent_list, one_agent, after_name, address_texts, after_addresses, after_resolvers, agent_extra, closed, State, state, Next, outer, inner, inner_one, stay, deeper, list_ends, agent_ends, list_end, go, Form, text, date, number, block, itself, opens, quiet, is_quiet, Move, closing, moves, shared, own}
use Rattle.meaning.specs.Reading.{Row, Found, none, hit, find, is_closed, too_deep, level_most}
use Rattle.meaning.specs.Headers.{start}
use Rattle.meaning.specs.Writing.{valid, write_value, is_pass, fits, lead, fit_row, close}
use Rattle.laws_steps.specs.Logic.{left_of, right_of, either, is_false, not_both}
use Rattle.laws_steps.specs.Tables.{room_number, every_in, Hits, find_hits, all_rooms, each_room}
use Rattle.laws_steps.specs.Lookups.{row_at, pass_facts}
use Rattle.laws_steps.specs.Fits.{heavy, pass_lightens, fit_holds, close_once}
use Rattle.laws_steps.specs.WrittenRead.{fit_all, then_make}
use Rattle.laws_tables.specs.ReadWritten.{fit_own}

-- Rooms that can close, and where they lead

abbrev closable : Edition → Room → Found → Bool
closable e r none = is_closed r
closable e r (hit m) = true

abbrev can_close : Edition → Room → Bool
can_close e r = closable e r (find (is_pass closing) (moves e r))

abbrev next_closes : Edition → Next → Bool
next_closes e (outer t) = can_close e t
next_closes e (inner t) = false
next_closes e (inner_one t) = false
next_closes e (stay t) = can_close e t
next_closes e (deeper t) = false
next_closes e list_ends = can_close e parameters && can_close e after_resolvers
next_closes e agent_ends = can_close e parameters && can_close e agent_list

abbrev closes_on : Edition → Found → Bool
closes_on e none = true
closes_on e (hit m) = next_closes e m.next

-- the others: their first move has an easy value and leads nearer to a room that can

abbrev easy : Form → ℕ → List ℕ
easy (text rule) c = []
easy (date reach designated) c = 0x31 ∷ 0x11 ∷ 0x16 ∷ 0x19 ∷ 0x15 ∷ 0x37 ∷ 0x62 ∷ 0x59 ∷ 0x20 ∷ []
easy number c = []
easy (block w) c = []
easy itself c = c ∷ []
easy opens c = []
easy quiet c = []

-- how many rows a room must have before it can close
abbrev rank : Room → ℕ
rank received_begins = 2
rank head_representation = 2
rank head_date = 1
rank parameters = 0
rank own_text = 1
rank parameter_representation = 1
rank behaviour_value = 1
rank encrypted_texts = 0
rank received_date = 1
rank after_date = 0
rank after_from = 0
rank after_id = 0
rank after_via = 0
rank received_extra = 1
rank agent_list = 0
rank one_agent = 1
rank after_name = 0
rank address_texts = 0
rank after_addresses = 0
rank after_resolvers = 0
rank agent_extra = 1
rank closed = 0

abbrev nearer : ℕ → Next → Bool
nearer n (outer t) = ltb (rank t) n
nearer n (inner t) = ltb (rank t) n
nearer n (inner_one t) = ltb (rank t) n
nearer n (stay t) = ltb (rank t) n
nearer n (deeper t) = false
nearer n list_ends = false
nearer n agent_ends = false

-- the one room where an agent must come
abbrev is_one_agent : Room → Bool
is_one_agent r = eqb (room_number r) (room_number one_agent)

abbrev first_ok : Room → List Move → Bool
first_ok r [] = false
first_ok r (m ∷ l) =
    not (is_quiet m.form) && ((not (eqb m.kind agent_name) || is_one_agent r) && (valid m.form m.code (easy m.form m.code) && nearer (rank r) m.next))

-- only `from` leads to its one agent, at level 1
abbrev sound_next : Next → Bool
sound_next (outer t) = not (is_one_agent t)
sound_next (inner t) = true
sound_next (inner_one t) = true
sound_next (stay t) = not (is_one_agent t)
sound_next (deeper t) = not (is_one_agent t)
sound_next list_ends = true
sound_next agent_ends = true

abbrev sound_move : Move → Bool
sound_move m = sound_next m.next

abbrev completable : Edition → Room → Bool
completable e r = closes_on e (find (is_pass closing) (moves e r)) && (((eqb (rank r) 0 && can_close e r) || first_ok r (moves e r)) && every sound_move (moves e r))

completable_test : T (all_rooms completable)
unfolding moves shared own find valid text_byte text_ok last_day passes date_ok
completable_test = tt

record Completable (e : Edition) (r : Room) : Type 0 where
  closes : T (closes_on e (find (is_pass closing) (moves e r)))
  nears : T ((eqb (rank r) 0 && can_close e r) || first_ok r (moves e r))
  sound : T (every sound_move (moves e r))

completable_at : (e : Edition) (r : Room) → Completable e r
completable_at e r =
    let a = closes_on e (find (is_pass closing) (moves e r)) in let b = (eqb (rank r) 0 && can_close e r) || first_ok r (moves e r) in let c = every sound_move (moves e r) in
    let t : T (a && (b && c)) = each_room completable completable_test e r in
    record { closes = left_of a (b && c) t; nears = left_of b c (right_of a (b && c) t); sound = right_of b c (right_of a (b && c) t) }

-- Closing, where a room can

abbrev Closing : Edition → State → Type 0
Closing e st = (st' : State) × (bs : List ℕ) × (close e st ≡ fits st' bs)

list_closes : (e : Edition) (n : ℕ) (o : Bool) → T (can_close e parameters) → T (can_close e after_resolvers) → T (can_close e (list_end n o).room)
list_closes e zero o p q = p
list_closes e (suc zero) o p q = p
list_closes e (suc (suc n)) o p q = q

agent_closes : (e : Edition) (st : State) (b : Bool) → T (can_close e parameters) → T (can_close e agent_list) → T (can_close e (pick b (state parameters 0 false) (state agent_list st.level st.single)).room)
agent_closes e st true p q = p
agent_closes e st false p q = q

go_closes : (e : Edition) (st : State) (n : Next) → T (next_closes e n) → T (can_close e (go n st).room)
go_closes e st (outer t) ok = ok
go_closes e st (inner t) ok = absurd ok
go_closes e st (inner_one t) ok = absurd ok
go_closes e st (stay t) ok = ok
go_closes e st (deeper t) ok = absurd ok
go_closes e st list_ends ok = list_closes e st.level st.single (left_of (can_close e parameters) (can_close e after_resolvers) ok) (right_of (can_close e parameters) (can_close e after_resolvers) ok)
go_closes e st agent_ends ok = agent_closes e st (st.single && eqb st.level 1) (left_of (can_close e parameters) (can_close e agent_list) ok) (right_of (can_close e parameters) (can_close e agent_list) ok)

close_found : (n : ℕ) (e : Edition) (st : State) (o : Found) → Hits (is_pass closing) (moves e st.room) o → find (is_pass closing) (moves e st.room) ≡ o → T (closable e st.room o) → T (closes_on e o) → heavy st < suc n
    → ((st₁ : State) → heavy st₁ < n → T (can_close e st₁.room) → Closing e st₁) → (b : Bool) → is_closed st.room ≡ b → Closing e st
close_found n e st o i q t k h ih true c = (st, [], close_once e st ∙ rw c refl)
close_found n e st none i q t k h ih false c = let z : T false = subst T c t in absurd z
close_found n e st (hit m) i q t k h ih false c =
    let f = pass_facts closing m i.1 in
    let l = pass_lightens e st i.0 f.0 in
    let (st', bs, p) = ih (go m.next st) (omega arith) (go_closes e st m.next k) in
    (st', m.code ∷ bs, close_once e st ∙ rw (c, q, p) refl)

closing_within : (n : ℕ) (e : Edition) (st : State) → heavy st < n → T (can_close e st.room) → Closing e st
closing_within zero e st h t = absurd (omega arith)
closing_within (suc n) e st h t =
    close_found n e st (find (is_pass closing) (moves e st.room)) (find_hits (is_pass closing) (moves e st.room)) refl t (completable_at e st.room).closes h (closing_within n e) (is_closed st.room) refl

-- Completing, from a state that rows lead to

abbrev pub Sound : State → Type 0
Sound st = T (is_one_agent st.room) → st.level ≤ level_most

not_one : (r : Room) (n : ℕ) → T (not (is_one_agent r)) → T (is_one_agent r) → n ≤ level_most
not_one r n t u = absurd (not_both (is_one_agent r) u t)

list_sound : (n : ℕ) (o : Bool) → Sound (list_end n o)
list_sound zero o t = absurd t
list_sound (suc zero) o t = absurd t
list_sound (suc (suc n)) o t = absurd t

agent_sound : (st : State) (b : Bool) → Sound (pick b (state parameters 0 false) (state agent_list st.level st.single))
agent_sound st true t = absurd t
agent_sound st false t = absurd t

go_sound : (st : State) (n : Next) → T (sound_next n) → Sound (go n st)
go_sound st (outer t) ok = not_one t 0 ok
go_sound st (inner t) ok = λ u. omega arith
go_sound st (inner_one t) ok = λ u. omega arith
go_sound st (stay t) ok = not_one t st.level ok
go_sound st (deeper t) ok = not_one t (suc st.level) ok
go_sound st list_ends ok = list_sound st.level st.single
go_sound st agent_ends ok = agent_sound st (st.single && eqb st.level 1)

move_sound : (e : Edition) (st : State) {m : Move} → In m (moves e st.room) → Sound (go m.next st)
move_sound e st {m} i = go_sound st m.next (every_in sound_move i (completable_at e st.room).sound)

pub row_sound : (e : Edition) (row : Row) (st st' : State) (bs : List ℕ) → fit_row e st row ≡ fits st' bs → Sound st'
row_sound e row =
    fit_holds e row (λ st st' bs. Sound st') (λ st st' m bs i p. subst Sound p.to (move_sound e st i)) (λ st st' m bs i q h. h)

pub start_sound : (b : Bool) → Sound (start b)
start_sound true t = absurd t
start_sound false t = absurd t

abbrev Completed : Edition → State → Type 0
Completed e st = (rows : List Row) × (st' : State) × (bs : List ℕ) × (fit_all e rows st ≡ fits st' bs)

nearer_go : (st : State) (n : ℕ) (x : Next) → T (nearer n x) → rank (go x st).room < n
nearer_go st n (outer t) ok = ltb→lt (rank t) n ok
nearer_go st n (inner t) ok = ltb→lt (rank t) n ok
nearer_go st n (inner_one t) ok = ltb→lt (rank t) n ok
nearer_go st n (stay t) ok = ltb→lt (rank t) n ok
nearer_go st n (deeper t) ok = absurd ok
nearer_go st n list_ends ok = absurd ok
nearer_go st n agent_ends ok = absurd ok

not_deep : (m : Move) (st : State) → Sound st → T (not (eqb m.kind agent_name)) ⊎ T (is_one_agent st.room) → too_deep m st ≡ false
not_deep m st s (inl t) = rw (is_false (eqb m.kind agent_name) t) refl
not_deep m st s (inr t) = at (eqb m.kind agent_name)
  where
    at : (b : Bool) → b && ltb level_most st.level ≡ false
    at true = le-ltb level_most st.level (s t)
    at false = refl

complete_row : (e : Edition) (st : State) (l : List Move) → Sound st → ((m : Move) → In m l → In m (moves e st.room)) → T (first_ok st.room l) → ((st₁ : State) → Sound st₁ → rank st₁.room < rank st.room → Completed e st₁) → Completed e st
unfolding fit_all
complete_row e st [] s h t ih = absurd t
complete_row e st (m ∷ l) s h t ih =
    let v = easy m.form m.code in let i = h m here in
    let a = not (is_quiet m.form) in let b = not (eqb m.kind agent_name) || is_one_agent st.room in let c = valid m.form m.code v in let d = nearer (rank st.room) m.next in
    let t₁ = right_of a (b && (c && d)) t in let t₂ = right_of b (c && d) t₁ in
    let (rows, st', bs, q) = ih (go m.next st) (move_sound e st i) (nearer_go st (rank st.room) m.next (right_of c d t₂)) in (
      row_at m st.level v ∷ rows,
      st',
      (lead m ++ write_value m.form v) ++ bs,
      then_make (fit_row e st (row_at m st.level v)) (fit_all e rows) (go m.next st) st' (lead m ++ write_value m.form v) bs
          (fit_own e st m v i (is_false (is_quiet m.form) (left_of a (b && (c && d)) t)) (not_deep m st s (either (not (eqb m.kind agent_name)) (is_one_agent st.room) (left_of b (c && d) t₁))) (left_of c d t₂)) q,
    )

complete_either : (e : Edition) (st : State) → Sound st → T (eqb (rank st.room) 0 && can_close e st.room) ⊎ T (first_ok st.room (moves e st.room)) → ((st₁ : State) → Sound st₁ → rank st₁.room < rank st.room → Completed e st₁) → Completed e st
unfolding fit_all
complete_either e st s (inl t) ih =
    let (st', bs, q) = closing_within (suc (heavy st)) e st (omega arith) (right_of (eqb (rank st.room) 0) (can_close e st.room) t) in
    ([], st', bs, q)
complete_either e st s (inr t) ih = complete_row e st (moves e st.room) s (λ m i. i) t ih

complete_within : (n : ℕ) (e : Edition) (st : State) → Sound st → rank st.room < n → Completed e st
complete_within zero e st s h = absurd (omega arith)
complete_within (suc n) e st s h =
    complete_either e st s (either (eqb (rank st.room) 0 && can_close e st.room) (first_ok st.room (moves e st.room)) (completable_at e st.room).nears) (λ st₁ s₁ k. complete_within n e st₁ s₁ (omega arith))

pub completes : (e : Edition) (st : State) → Sound st → Completed e st
completes e st s = complete_within (suc (rank st.room)) e st s (omega arith)
