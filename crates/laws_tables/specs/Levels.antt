-- Levels in a table: a row stands deeper than the one before it only where that one opens a list or a received object; agents, and what is read of
-- a received object, never stand at level 0; and dates at level 0 are the base's own. By the moves of each room.
use Rattle.std.specs.Prelude.{ℕ, zero, suc, ◌≤◌, ◌<◌, List, Bool, true, false, ◌&&◌, ◌||◌, not, ◌⊎◌, ◌≡◌, refl, T, eqb, ltb}
use Rattle.std.proofs.Common.{inl, inr, ap, sym, ◌∙◌, subst, arith, lt-ltb, ltb-true}
use Rattle.std.proofs.lemmas.Bool.{eqb-false}
use Rattle.meaning.specs.Basics.{pick, every, In}
use Rattle.meaning.specs.Kinds.{agent_name}
use Rattle.meaning.specs.Told.{Edition}
use Rattle.meaning.specs.Editions.{Room, received_begins, head_representation, head_date, parameters, own_text, parameter_representation, behaviour_value, encrypted_texts, received_date, after_date, after_from, after_id, after_via, received_extra, agent_list, one_agent, after_name, address_texts, after_addresses, after_resolvers, agent_extra, closed, State, state, Next, outer, inner, inner_one, stay, deeper, list_ends, agent_ends, list_end, go, is_quiet, Move, moves, shared, own}
use Rattle.meaning.specs.Reading.{Row}
use Rattle.meaning.specs.Skips.{is_envelope, holds_deeper}
use Rattle.meaning.specs.Codes.{is_date}
use Rattle.meaning.specs.Writing.{fits, fit_row}
use Rattle.laws_steps.specs.Logic.{left_of, right_of, is_true, is_false, either}
use Rattle.laws_steps.specs.Tables.{every_in, all_rooms, each_room}
use Rattle.laws_steps.specs.Fits.{Placing, fit_holds}

-- Rooms

-- rooms inside a received object or a list of agents
abbrev pub is_inner : Room → Bool
is_inner received_begins = false
is_inner head_representation = false
is_inner head_date = false
is_inner parameters = false
is_inner own_text = false
is_inner parameter_representation = false
is_inner behaviour_value = false
is_inner encrypted_texts = false
is_inner received_date = true
is_inner after_date = true
is_inner after_from = true
is_inner after_id = true
is_inner after_via = true
is_inner received_extra = true
is_inner agent_list = true
is_inner one_agent = true
is_inner after_name = true
is_inner address_texts = true
is_inner after_addresses = true
is_inner after_resolvers = true
is_inner agent_extra = true
is_inner closed = false

-- the base's fixed head
abbrev pub is_head : Room → Bool
is_head received_begins = false
is_head head_representation = true
is_head head_date = true
is_head parameters = false
is_head own_text = false
is_head parameter_representation = false
is_head behaviour_value = false
is_head encrypted_texts = false
is_head received_date = false
is_head after_date = false
is_head after_from = false
is_head after_id = false
is_head after_via = false
is_head received_extra = false
is_head agent_list = false
is_head one_agent = false
is_head after_name = false
is_head address_texts = false
is_head after_addresses = false
is_head after_resolvers = false
is_head agent_extra = false
is_head closed = false

-- an inner room stands below level 0, and the others at it
abbrev pub AtLevel : State → Type 0
AtLevel st = is_inner st.room ≡ ltb 0 st.level

abbrev same : Bool → Bool → Bool
same true b = b
same false b = not b

abbrev keeps_level : Room → Next → Bool
keeps_level r (outer t) = not (is_inner t)
keeps_level r (inner t) = is_inner t
keeps_level r (inner_one t) = is_inner t
keeps_level r (stay t) = same (is_inner r) (is_inner t)
keeps_level r (deeper t) = is_inner t
keeps_level r list_ends = is_inner r
keeps_level r agent_ends = is_inner r

abbrev raises : Next → Bool
raises (outer t) = false
raises (inner t) = true
raises (inner_one t) = true
raises (stay t) = false
raises (deeper t) = true
raises list_ends = false
raises agent_ends = false

abbrev to_head : Next → Bool
to_head (outer t) = is_head t
to_head (inner t) = is_head t
to_head (inner_one t) = is_head t
to_head (stay t) = is_head t
to_head (deeper t) = is_head t
to_head list_ends = false
to_head agent_ends = false

-- what every move of a room keeps: levels and rooms fit; only what opens raises; agents and dates stand where they may
abbrev sound : Room → Move → Bool
sound r m =
    keeps_level r m.next && (not (raises m.next) || not (is_quiet m.form) && (holds_deeper m.kind && not (is_envelope m.kind))) &&
    (is_head r || not (to_head m.next)) && (not (eqb m.kind agent_name) || is_inner r) && (not (is_date m.kind) || (is_inner r || is_head r))

abbrev sound_room : Edition → Room → Bool
sound_room e r = every (sound r) (moves e r)

sound_test : T (all_rooms sound_room)
unfolding moves shared own
sound_test = tt

-- What a move keeps

record Kept (r : Room) (m : Move) : Type 0 where
  pub levels : T (keeps_level r m.next)
  pub raised : (raises m.next ≡ false) ⊎ ((is_quiet m.form ≡ false) × (holds_deeper m.kind ≡ true) × (is_envelope m.kind ≡ false))
  pub heads : (is_head r ≡ true) ⊎ (to_head m.next ≡ false)
  pub agents : (eqb m.kind agent_name ≡ false) ⊎ (is_inner r ≡ true)
  pub dates : (is_date m.kind ≡ false) ⊎ (T (is_inner r) ⊎ T (is_head r))

kept : (e : Edition) (r : Room) {m : Move} → In m (moves e r) → Kept r m
kept e r {m} i = at (every_in (sound r) i (each_room sound_room sound_test e r))
  where
    opens : (b : Bool) (q h v : Bool) → T (not b || not q && (h && not v)) → (b ≡ false) ⊎ ((q ≡ false) × (h ≡ true) × (v ≡ false))
    opens false q h v t = inl refl
    opens true q h v t =
        let u = right_of (not q) (h && not v) t in
        inr (is_false q (left_of (not q) (h && not v) t), is_true h (left_of h (not v) u), is_false v (right_of h (not v) u))

    first : {A B : Type 0} (a b : Bool) → (T a → A) → (T b → B) → T (a || b) → A ⊎ B
    first true b f g t = inl (f tt)
    first false b f g t = inr (g t)

    at : T (sound r m) → Kept r m
    at t =
        let a = keeps_level r m.next in
        let b = not (raises m.next) || not (is_quiet m.form) && (holds_deeper m.kind && not (is_envelope m.kind)) in
        let c = is_head r || not (to_head m.next) in
        let d = not (eqb m.kind agent_name) || is_inner r in
        let f = not (is_date m.kind) || (is_inner r || is_head r) in
        let t₄ = left_of (a && b && c && d) f t in
        let t₃ = left_of (a && b && c) d t₄ in
        let t₂ = left_of (a && b) c t₃ in
        record {
          levels = left_of a b t₂;
          raised = opens (raises m.next) (is_quiet m.form) (holds_deeper m.kind) (is_envelope m.kind) (right_of a b t₂);
          heads = first (is_head r) (not (to_head m.next)) (is_true (is_head r)) (is_false (to_head m.next)) (right_of (a && b) c t₃);
          agents = first (not (eqb m.kind agent_name)) (is_inner r) (is_false (eqb m.kind agent_name)) (is_true (is_inner r)) (right_of (a && b && c) d t₄);
          dates = first (not (is_date m.kind)) (is_inner r || is_head r) (is_false (is_date m.kind)) (either (is_inner r) (is_head r)) (right_of (a && b && c && d) f t);
        }

-- levels and rooms go on to fit
go_level : (st : State) (n : Next) → T (keeps_level st.room n) → AtLevel st → AtLevel (go n st)
go_level st (outer t) k l = is_false (is_inner t) k
go_level st (inner t) k l = is_true (is_inner t) k
go_level st (inner_one t) k l = is_true (is_inner t) k
go_level st (stay t) k l = as_same (is_inner st.room) (is_inner t) k ∙ l
  where
    as_same : (a b : Bool) → T (same a b) → b ≡ a
    as_same true b q = is_true b q
    as_same false b q = is_false b q
go_level st (deeper t) k l = is_true (is_inner t) k ∙ sym (lt-ltb 0 (suc st.level) (omega arith))
go_level st list_ends k l = by st.level
  where
    by : (n : ℕ) → AtLevel (list_end n st.single)
    by zero = refl
    by (suc zero) = refl
    by (suc (suc n)) = sym (lt-ltb 0 (suc n) (omega arith))
go_level st agent_ends k l = by (st.single && eqb st.level 1)
  where
    by : (b : Bool) → AtLevel (pick b (state parameters 0 false) (state agent_list st.level st.single))
    by true = refl
    by false = sym (is_true (is_inner st.room) k) ∙ l

-- .. behind every move
pub move_level : (e : Edition) (st : State) {m : Move} → In m (moves e st.room) → AtLevel st → AtLevel (go m.next st)
move_level e st {m} i l = go_level st m.next (kept e st.room i).levels l

-- only what raises leads deeper
go_most : (st : State) (n : Next) → raises n ≡ false → (go n st).level ≤ st.level
go_most st (outer t) q = omega arith
go_most st (inner t) q = let z : ◌≡◌ {A = ℕ} 0 1 = cc in absurd (omega arith)
go_most st (inner_one t) q = let z : ◌≡◌ {A = ℕ} 0 1 = cc in absurd (omega arith)
go_most st (stay t) q = omega arith
go_most st (deeper t) q = let z : ◌≡◌ {A = ℕ} 0 1 = cc in absurd (omega arith)
go_most st list_ends q = by st.level
  where
    by : (n : ℕ) → (list_end n st.single).level ≤ n
    by zero = omega arith
    by (suc zero) = omega arith
    by (suc (suc n)) = omega arith
go_most st agent_ends q = by (st.single && eqb st.level 1)
  where
    by : (b : Bool) → (pick b (state parameters 0 false) (state agent_list st.level st.single)).level ≤ st.level
    by true = omega arith
    by false = omega arith

-- and the base's head is not entered again
go_head : (st : State) (n : Next) → to_head n ≡ false → is_head (go n st).room ≡ false
go_head st (outer t) q = q
go_head st (inner t) q = q
go_head st (inner_one t) q = q
go_head st (stay t) q = q
go_head st (deeper t) q = q
go_head st list_ends q = by st.level
  where
    by : (n : ℕ) → is_head (list_end n st.single).room ≡ false
    by zero = refl
    by (suc zero) = refl
    by (suc (suc n)) = refl
go_head st agent_ends q = by (st.single && eqb st.level 1)
  where
    by : (b : Bool) → is_head (pick b (state parameters 0 false) (state agent_list st.level st.single)).room ≡ false
    by true = refl
    by false = refl

-- What a row's fit keeps

pub record RowKept (st st' : State) (row : Row) : Type 0 where
  pub under : row.level ≤ st.level
  pub level : AtLevel st'
  pub raised : (st'.level ≤ row.level) ⊎ ((holds_deeper row.kind ≡ true) × (is_envelope row.kind ≡ false))
  pub agent : row.kind ≡ agent_name → 0 < row.level
  pub head : is_head st.room ≡ false → is_head st'.room ≡ false
  pub date : is_head st.room ≡ false → is_date row.kind ≡ true → 0 < row.level

pub bad : {A : Type 0} → false ≡ true → A
bad q = let z : ◌≡◌ {A = ℕ} 0 1 = cc q in absurd (omega arith)

pub row_kept : (e : Edition) (row : Row) (st st' : State) (bs : List ℕ) → fit_row e st row ≡ fits st' bs → AtLevel st → RowKept st st' row
row_kept e row = fit_holds e row (λ st st' bs. AtLevel st → RowKept st st' row) own_kept pass_kept
  where
    deep : (st : State) → AtLevel st → is_inner st.room ≡ true → 0 < st.level
    deep st l i = ltb-true 0 st.level (sym l ∙ i)

    own_kept : (st st' : State) (m : Move) (bs : List ℕ) → In m (moves e st.room) → Placing st row m st' bs → AtLevel st → RowKept st st' row
    own_kept st st' m bs i p l =
        let k = kept e st.room i in
        record {
          under = omega (arith, p.level_is);
          level = subst AtLevel p.to (go_level st m.next k.levels l);
          raised = raise k.raised;
          agent = λ q. agents k.agents q;
          head = λ h. heads k.heads h;
          date = λ h q. dates k.dates h (ap is_date p.kind_is ∙ q);
        }
      where
        raise : (raises m.next ≡ false) ⊎ ((is_quiet m.form ≡ false) × (holds_deeper m.kind ≡ true) × (is_envelope m.kind ≡ false))
            → (st'.level ≤ row.level) ⊎ ((holds_deeper row.kind ≡ true) × (is_envelope row.kind ≡ false))
        raise (inl q) = let h = go_most st m.next q in let z : (go m.next st).level ≡ st'.level = ap (λ (x : State). x.level) p.to in inl (omega (arith, p.level_is))
        raise (inr (u, d, v)) = inr (ap holds_deeper (sym p.kind_is) ∙ d, ap is_envelope (sym p.kind_is) ∙ v)

        agents : (eqb m.kind agent_name ≡ false) ⊎ (is_inner st.room ≡ true) → row.kind ≡ agent_name → 0 < row.level
        agents (inl n) q = absurd (eqb-false m.kind agent_name n (p.kind_is ∙ q))
        agents (inr n) q = omega (arith, deep st l n, p.level_is)

        heads : (is_head st.room ≡ true) ⊎ (to_head m.next ≡ false) → is_head st.room ≡ false → is_head st'.room ≡ false
        heads (inl a) h = bad (sym h ∙ a)
        heads (inr a) h = ap (λ (x : State). is_head x.room) (sym p.to) ∙ go_head st m.next a

        dates : (is_date m.kind ≡ false) ⊎ (T (is_inner st.room) ⊎ T (is_head st.room)) → is_head st.room ≡ false → is_date m.kind ≡ true → 0 < row.level
        dates (inl a) h q = bad (sym a ∙ q)
        dates (inr (inl a)) h q = omega (arith, deep st l (is_true (is_inner st.room) a), p.level_is)
        dates (inr (inr a)) h q = bad (sym h ∙ is_true (is_head st.room) a)

    pass_kept : (st st' : State) (m : Move) (bs : List ℕ) → In m (moves e st.room) → is_quiet m.form ≡ true → (AtLevel (go m.next st) → RowKept (go m.next st) st' row) → AtLevel st → RowKept st st' row
    pass_kept st st' m bs i q more l =
        let k = kept e st.room i in
        let r = more (go_level st m.next k.levels l) in
        record {
          under = lower k.raised r.under;
          level = r.level;
          raised = r.raised;
          agent = r.agent;
          head = λ h. r.head (heads k.heads h);
          date = λ h. r.date (heads k.heads h);
        }
      where
        lower : (raises m.next ≡ false) ⊎ ((is_quiet m.form ≡ false) × (holds_deeper m.kind ≡ true) × (is_envelope m.kind ≡ false)) → row.level ≤ (go m.next st).level → row.level ≤ st.level
        lower (inl a) h = let z = go_most st m.next a in omega arith
        lower (inr (a, b, d)) h = bad (sym a ∙ q)

        heads : (is_head st.room ≡ true) ⊎ (to_head m.next ≡ false) → is_head st.room ≡ false → is_head (go m.next st).room ≡ false
        heads (inl a) h = bad (sym h ∙ a)
        heads (inr a) h = go_head st m.next a
