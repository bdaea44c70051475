-- "12: agent of level 9, its 02": no reading stands deeper than a list of agents of level 9, and an agent's code is 02 in every room of both editions.
use Rattle.std.specs.Prelude.{ℕ, zero, suc, ◌≤◌, List, ◌∷◌, ◌++◌, Bool, true, false, ◌&&◌, ◌||◌, not, ◌⊎◌, ◌≡◌, refl, T, eqb, leb, length}
use Rattle.std.proofs.Common.{inl, inr, ap, sym, ◌∙◌, subst, arith, leb→le, eqb→eq, eq-eqb}
use Rattle.meaning.specs.Basics.{pick, every, In}
use Rattle.meaning.specs.Kinds.{agent_name}
use Rattle.meaning.specs.Told.{Edition}
use Rattle.meaning.specs.Editions.{Room, agent_list, parameters, State, state, Next, outer, inner, inner_one, stay, deeper, list_ends, agent_ends, list_end, go, Form, Move, no_code, moves, shared, own}
use Rattle.meaning.specs.Reading.{hit, look, strange, level_most}
use Rattle.meaning.specs.Headers.{Placed, start}
use Rattle.laws_steps.specs.Logic.{left_of, right_of, either}
use Rattle.laws_steps.specs.Tables.{every_in, all_rooms, each_room, room_number}
use Rattle.laws_steps.specs.Lookups.{Looked, looked, quiet_flat}
use Rattle.laws_demands.specs.GrammarWritten.{shallow}
use Rattle.meaning.specs.Grammar.{Steps, none, row, pass}
use Rattle.meaning.specs.Faults.{BadValue, text_ends, date_ends, number_ends, length_ends, block_ends, text_byte_lem, date_byte, number_byte, length_wide, BadStep, code_needed, strange_code, agent_deep, bad_value, closed_early, BadInside}

abbrev is_list : Room → Bool
is_list r = eqb (room_number r) (room_number agent_list)

-- level 9 has a list, and nothing in it
abbrev deepest : Room → ℕ
deepest r = pick (is_list r) 9 8

Low : State → Type 0
Low st = st.level ≤ deepest st.room

-- what a move must be, that it leads no deeper
abbrev keeps_low : Room → Move → Next → Bool
keeps_low r m (outer t) = true
keeps_low r m (inner t) = true
keeps_low r m (inner_one t) = true
keeps_low r m (stay t) = is_list t || (not (is_list r) || eqb m.kind agent_name)
keeps_low r m (deeper t) = is_list t && not (is_list r)
keeps_low r m list_ends = true
keeps_low r m agent_ends = true

abbrev agent_coded : Move → Bool
agent_coded m = not (eqb m.kind agent_name) || eqb m.code 0x02

low_test : T (all_rooms (λ e r. every (λ m. keeps_low r m m.next) (moves e r)))
unfolding moves shared own
low_test = tt

coded_test : T (all_rooms (λ e r. every agent_coded (moves e r)))
unfolding moves shared own
coded_test = tt

low_any : (r : Room) (n : ℕ) → n ≤ 8 → n ≤ deepest r
low_any r n h = at (is_list r)
  where
    at : (b : Bool) → n ≤ pick b 9 8
    at true = omega arith
    at false = omega arith

list_low : (n : ℕ) (o : Bool) → n ≤ 9 → Low (list_end n o)
unfolding Low
list_low zero o h = omega arith
list_low (suc zero) o h = omega arith
list_low (suc (suc n)) o h = omega arith

most : (r : Room) → deepest r ≤ 9
most r = at (is_list r)
  where
    at : (b : Bool) → pick b 9 8 ≤ 9
    at true = omega arith
    at false = omega arith

agent_low : (st : State) (b : Bool) → st.level ≤ 9 → Low (pick b (state parameters 0 false) (state agent_list st.level st.single))
unfolding Low
agent_low st true h = omega arith
agent_low st false h = h

go_low : (st : State) (m : Move) (n : Next) → T (keeps_low st.room m n) → (m.kind ≡ agent_name → st.level ≤ level_most) → Low st → Low (go n st)
unfolding Low
go_low st m (outer t) ok deep h = low_any t 0 (omega arith)
go_low st m (inner t) ok deep h = low_any t 1 (omega arith)
go_low st m (inner_one t) ok deep h = low_any t 1 (omega arith)
go_low st m (stay t) ok deep h = at (is_list t) (is_list st.room) refl refl (either (is_list t) (not (is_list st.room) || eqb m.kind agent_name) ok)
  where
    at : (x y : Bool) → is_list t ≡ x → is_list st.room ≡ y → T (is_list t) ⊎ T (not (is_list st.room) || eqb m.kind agent_name) → st.level ≤ deepest t
    at true y p q z = let k = most st.room in rw p (omega arith)
    at false false p q z = let k : st.level ≤ 8 = rw q at h in low_any t st.level k
    at false true p q (inl z) = absurd (subst T p z)
    at false true p q (inr z) = low_any t st.level (deep (eqb→eq m.kind agent_name (rw q at z)))
go_low st m (deeper t) ok deep h = at (is_list t) (is_list st.room) refl refl (left_of (is_list t) (not (is_list st.room)) ok) (right_of (is_list t) (not (is_list st.room)) ok)
  where
    at : (x y : Bool) → is_list t ≡ x → is_list st.room ≡ y → T (is_list t) → T (not (is_list st.room)) → suc st.level ≤ deepest t
    at true false p q z w = let k : st.level ≤ 8 = rw q at h in rw p (omega arith)
    at true true p q z w = absurd (rw q at w)
    at false y p q z w = absurd (subst T p z)
go_low st m list_ends ok deep h = let k = most st.room in list_low st.level st.single (omega arith)
go_low st m agent_ends ok deep h = let k = most st.room in agent_low st (st.single && eqb st.level 1) (omega arith)

move_low : (e : Edition) (st : State) (m : Move) → In m (moves e st.room) → (m.kind ≡ agent_name → st.level ≤ level_most) → Low st → Low (go m.next st)
move_low e st m i deep h = go_low st m m.next (every_in (λ x. keeps_low st.room x x.next) i (each_room (λ e r. every (λ x. keeps_low r x x.next) (moves e r)) low_test e st.room)) deep h

steps_low : (e : Edition) {st st' : State} {at : ℕ} {bytes : List ℕ} {rows : List Placed} → Steps e st at bytes rows st' → Low st → Low st'
steps_low e none h = h
steps_low e (row {st = st} m v i q ok deep more) h = steps_low e more (move_low e st m i deep h)
steps_low e (pass {st = st} m i q more) h = steps_low e more (move_low e st m i (shallow m st (quiet_flat e st.room i q st)) h)

start_low : (base : Bool) → Low (start base)
unfolding Low
start_low true = omega arith
start_low false = omega arith

-- Only an agent's code gives 12

value_not_twelve : {code : ℕ} {f : Form} {s : List ℕ} {refusal left : ℕ} → BadValue code f s refusal left → refusal ≡ 12 → ⊥
value_not_twelve (text_ends v t) z = omega arith
value_not_twelve (date_ends cs ds c v q t) z = omega arith
value_not_twelve (number_ends d) z = omega arith
value_not_twelve (length_ends v h) z = omega arith
value_not_twelve (block_ends v h lo hi) z = omega arith
value_not_twelve (text_byte_lem v rest b t n q) z = omega arith
value_not_twelve (date_byte cs ds c v rest b p t q) z = omega arith
value_not_twelve (number_byte rest b d q) z = omega arith
value_not_twelve (length_wide rest h hi) z = omega arith

strange_test : T (all_rooms (λ e r. leb (strange r) 9))
strange_test = tt

-- an agent's move is looked up at 02
at_two : (e : Edition) (st : State) (b : ℕ) (m : Move) → look b (moves e st.room) ≡ hit m → m.kind ≡ agent_name → b ≡ 0x02
at_two e st b m p k = by (subst (Looked b (moves e st.room)) p (looked b (moves e st.room)))
  where
    two : In m (moves e st.room) → m.code ≡ 0x02
    two i =
        let t : T (agent_coded m) = every_in agent_coded i (each_room (λ e r. every agent_coded (moves e r)) coded_test e st.room) in
        eqb→eq m.code 0x02 (rw (eq-eqb m.kind agent_name k) at t)

    by : In m (moves e st.room) × ((m.code ≡ b) ⊎ (m.code ≡ no_code)) → b ≡ 0x02
    by (i, inl c) = sym c ∙ two i
    by (i, inr c) = let z = two i in absurd (omega arith)

-- where the inside of an envelope is refused with 12, the byte there is the 02 of an agent of level 9
pub record AtNine (bytes : List ℕ) (left level : ℕ) : Type 0 where
  pub front : List ℕ
  pub rest : List ℕ
  pub parts : bytes ≡ front ++ (0x02 ∷ rest)
  pub place : left ≡ length (0x02 ∷ rest)
  pub deep : level ≡ 9

step_at_nine : (e : Edition) (st : State) {s : List ℕ} {refusal left : ℕ} → BadStep e st s refusal left → refusal ≡ 12 → Low st → (rest : List ℕ) × (s ≡ 0x02 ∷ rest) × (left ≡ length (0x02 ∷ rest)) × (st.level ≡ 9)
unfolding Low
step_at_nine e st (code_needed q) z l = absurd (omega arith)
step_at_nine e st (strange_code q p) z l = let h = leb→le (strange st.room) 9 (each_room (λ e r. leb (strange r) 9) strange_test e st.room) in absurd (omega arith)
step_at_nine e st (agent_deep {b = b} {s = s} {m = m} p k h) z l = let n = most st.room in (s, ap (λ (x : ℕ). x ∷ s) (at_two e st b m p k), refl, omega arith)
step_at_nine e st (bad_value p k v) z l = absurd (value_not_twelve v z)
step_at_nine e st (closed_early q) z l = absurd (omega arith)

pub twelve_at_nine : (e : Edition) (base : Bool) (at : ℕ) (bytes : List ℕ) (refusal left : ℕ) (h : BadInside e (start base) at bytes refusal left) → refusal ≡ 12 → AtNine bytes left h.reached.level
twelve_at_nine e base at bytes refusal left h z =
    let (rest, p, l, n) = step_at_nine e h.reached h.fault z (steps_low e h.steps (start_low base)) in
    record { front = h.front; rest = rest; parts = h.parts ∙ ap (λ (x : List ℕ). h.front ++ x) p; place = l; deep = n }
