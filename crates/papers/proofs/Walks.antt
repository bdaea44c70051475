-- The papers' rules and the reader's moves, one way: what a rule allows, moves of the reader allow with the same rows. Here the notation, the values and agents.
use Rattle.std.specs.Prelude.{ℕ, zero, suc, ◌+◌, ◌≤◌, Bool, true, false, ◌&&◌, not, ◌≡◌, T, eqb, length}
use mathlib.Core.List.{List, [], ◌∷◌, ◌++◌, append_assoc, append-nil}
use Rattle.std.proofs.Math.Path.{refl}
use Rattle.std.proofs.Common.{ap, sym, ◌∙◌, subst, arith, ne_eqb}
use Rattle.std.proofs.lemmas.Bool.{eqb-false}
use Rattle.meaning.specs.Basics.{In, here, there, is_empty}
use Rattle.meaning.specs.Told.{Edition, B, D, Told}
use Rattle.meaning.specs.Bytes.{Rule, line, note, Width, one_byte, two_bytes, four_bytes, fewest}
use Rattle.meaning.specs.Kinds.{agent_name, addresses_open, address, resolvers_open, extra_key, any_text, any_bytes}
use Rattle.meaning.specs.Editions.{Room, agent_list, after_name, address_texts, after_addresses, after_resolvers, agent_extra, State, state, Next, stay, deeper, list_ends, agent_ends, go, Form, text, block, is_quiet, Move, on◌▸◌▸◌▸◌, pass◌▸◌, no_code, extra_code, shared, own, moves}
use Rattle.meaning.specs.Reading.{level_most}
use Rattle.meaning.specs.Headers.{Placed, placed_row}
use Rattle.meaning.specs.Writing.{valid, write_value}
use Rattle.meaning.specs.Grammar.{standing, start_in}
use Rattle.laws_steps.specs.Values.{allowed}
use Rattle.papers.specs.Notation.{Trees, end, tree, ◌⊕◌, flat, Syntax, Value, ◌⨾◌, ◌then◌, ◌∣◌, first, other, optional, absent, present, many, byte, met, leaf, shows, node, holds, opens, ◌⊳◌, coded}
use Rattle.papers.specs.Values.{NullTerminatedString, string}
use Rattle.papers.specs.Papers.{ByteSequence, Any, UserDefinedParameter, Addresses, AgentIdentifier, Resolvers}
use Rattle.papers.specs.Moves.{Steps, still, row, silent, re_place, re_byte, re_row, re_end, join, from_wider}
use Rattle.papers.proofs.Texts.{string_ok, LenOf, block_out}

pub flat_⊕ : (ts us : Trees) → flat (ts ⊕ us) ≡ flat ts ++ flat us
flat_⊕ end us = refl
flat_⊕ (tree k n s v inside beside) us = ap (λ (x : List Placed). placed_row k n s v ∷ x) (ap (λ (x : List Placed). flat inside ++ x) (flat_⊕ beside us) ∙ sym (append_assoc (flat inside) (flat beside) (flat us)))

pub and_false : (b : Bool) → b && false ≡ false
and_false true = refl
and_false false = refl

pub B≢D : B ≡ D → ⊥
B≢D q = subst is_B q tt
  where
    is_B : Edition → Type 0
    is_B B = Unit {0}
    is_B D = ⊥

pub not_agent : (k n : ℕ) → eqb k agent_name ≡ false → k ≡ agent_name → n ≤ level_most
not_agent k n h q = absurd (eqb-false k agent_name h q)

pub ends_moving : {P : Syntax} {c at : ℕ} {a : List ℕ} {ts : Trees} → (P ⨾ byte c) at a ts → T (not (is_empty a))
ends_moving {c} (◌then◌ {a} x byte.it) = behind a
  where
    behind : (a : List ℕ) → T (not (is_empty (a ++ (c ∷ []))))
    behind [] = tt
    behind (b ∷ a) = tt

pub more_moving : (a b : List ℕ) → T (not (is_empty b)) → T (not (is_empty (a ++ b)))
more_moving [] b h = h
more_moving (c ∷ a) b h = tt

pub optional_moving : {P Q : Syntax} {c : ℕ} (at : ℕ) (a : List ℕ) (ts : Trees) → (P ⨾ (Q ⨾ byte c)) at a ts → T (not (is_empty a))
optional_moving _ _ _ (◌then◌ {a} {b} x y) = more_moving a b (ends_moving y)

module _ (t : Told) where
  -- a syntax leads from one state to another
  abbrev pub Walk : Syntax → State → State → Type 0
  Walk P st st' = (at : ℕ) (a : List ℕ) (ts : Trees) → P at a ts → Steps t st at a (flat ts) st'

  module _ {P Q : Syntax} where
    pub walk_then : {st st₁ st₂ : State} → Walk P st st₁ → Walk Q st₁ st₂ → Walk (P ⨾ Q) st st₂
    walk_then p q _ _ _ (◌then◌ {at} {a} {b} {ts} {us} x y) = re_row (sym (flat_⊕ ts us)) (join (p at a ts x) (q (at + length a) b us y))

    pub walk_either : {st st₁ : State} → Walk P st st₁ → Walk Q st st₁ → Walk (P ∣ Q) st st₁
    walk_either p q at a ts (first x) = p at a ts x
    walk_either p q at a ts (other y) = q at a ts y

  pub walk_many : {P : Syntax} {st : State} → Walk P st st → Walk (many P) st st
  walk_many p _ _ _ (many.none {at}) = still
  walk_many p _ _ _ (many.more {at} {a} {b} {ts} {us} x y) = re_row (sym (flat_⊕ ts us)) (join (p at a ts x) (walk_many p (at + length a) b us y))

  -- a value stands as a move has it
  abbrev pub Stands : Value → Move → Type 0
  Stands X m = (a : List ℕ) (before : ℕ) (view : List ℕ) → X a before view → (a ≡ standing m view) × (before ≡ start_in m) × T (allowed t m.form m.code view)

  module _ {X : Value} {st : State} (m : Move) (x : Stands X m) (i : In m (moves t.edition st.room)) (q : is_quiet m.form ≡ false) (deep : m.kind ≡ agent_name → st.level ≤ level_most) where
    pub walk_node : {P : Syntax} {st' : State} → Walk P (go m.next st) st' → Walk (node m.kind st.level X P) st st'
    walk_node {P} {st'} p _ _ _ (holds {at} {before} {a} {b} {view} {ts} y z) = at_once (x a before view y)
      where
        at_once : (a ≡ standing m view) × (before ≡ start_in m) × T (allowed t m.form m.code view) → Steps t st at (a ++ b) (placed_row m.kind st.level (at + before) view ∷ (flat ts ++ [])) st'
        at_once (same, starts, ok) =
            let s = row m view i q ok deep (re_place (ap (λ (l : List ℕ). at + length l) same) (p (at + length a) b ts z)) in
            re_byte (ap (λ (l : List ℕ). l ++ b) (sym same)) (re_row (ap (λ (n : ℕ). placed_row m.kind st.level (at + n) view ∷ flat ts) (sym starts) ∙ ap (λ (l : List Placed). placed_row m.kind st.level (at + before) view ∷ l) (sym (append-nil (flat ts)))) s)

    pub walk_leaf : Walk (leaf m.kind st.level X) st (go m.next st)
    walk_leaf _ _ _ (shows {at} {before} {a} {view} y) = at_once (x a before view y)
      where
        at_once : (a ≡ standing m view) × (before ≡ start_in m) × T (allowed t m.form m.code view) → Steps t st at a (placed_row m.kind st.level (at + before) view ∷ []) (go m.next st)
        at_once (same, starts, ok) =
            re_byte (append-nil (standing m view) ∙ sym same) (re_row (ap (λ (n : ℕ). placed_row m.kind st.level (at + n) view ∷ []) (sym starts)) (row m view i q ok deep still))

  pub walk_byte : {st : State} (m : Move) → In m (moves t.edition st.room) → is_quiet m.form ≡ true → Walk (byte m.code) st (go m.next st)
  walk_byte m i q _ _ _ (byte.it {at}) = silent m i q still

  -- how the values of agents stand

  pub coded_text : (c k : ℕ) (rule : Rule) (n : Next) → eqb c 256 ≡ false → Stands (c ⊳ NullTerminatedString rule) (on c ▸ k ▸ text rule ▸ n)
  unfolding write_value valid allowed
  coded_text c k rule n h _ _ _ (coded (string {text = v} ok)) = rw h (refl, refl, string_ok v ok)

  pub bare_text : (k : ℕ) (rule : Rule) (n : Next) → Stands (NullTerminatedString rule) (on no_code ▸ k ▸ text rule ▸ n)
  unfolding write_value valid allowed
  bare_text k rule n _ _ _ (string {text = v} ok) = (refl, refl, string_ok v ok)

  pub opening : (c k : ℕ) (n : Next) → eqb c 256 ≡ false → Stands (opens c) (on c ▸ k ▸ Form.opens ▸ n)
  unfolding write_value valid allowed
  opening c k n h _ _ _ opens.it = rw h (refl, refl, tt)

  pub coded_block : (c k : ℕ) (w : Width) (n : Next) → eqb c 256 ≡ false → Stands (c ⊳ ByteSequence t (LenOf w) (fewest w)) (on c ▸ k ▸ block w ▸ n)
  unfolding write_value valid allowed
  coded_block c k w n h _ _ _ (coded {before} {a} {view} x) =
      let y = block_out t w a before view x in
      rw h (ap (λ (l : List ℕ). c ∷ l) y.0, omega (arith, y.1), y.2)

  -- "[P] Q": where P is absent, Q begins in the room before it, which has all its moves
  pub walk_optional : {P Q : Syntax} (r r₁ : Room) (n : ℕ) (o : Bool) {st : State} → ((m : Move) → In m (moves t.edition r₁) → In m (moves t.edition r)) → ((at : ℕ) (a : List ℕ) (ts : Trees) → Q at a ts → T (not (is_empty a)))
      → Walk P (state r n o) (state r₁ n o) → Walk Q (state r₁ n o) st → Walk (optional P ⨾ Q) (state r n o) st
  walk_optional {Q} r r₁ n o wider moving p q _ _ _ (◌then◌ {b} {us} (absent {at}) y) =
      let y' : Q at b us = subst (λ (k : ℕ). Q k b us) (omega arith) y in
      from_wider r wider (moving at b us y') (q at b us y')
  walk_optional r r₁ n o wider moving p q _ _ _ (◌then◌ {b} {us} (present {at} {a} {ts} x) y) = re_row (sym (flat_⊕ ts us)) (join (p at a ts x) (q (at + length a) b us y))

-- (1) Soundness: agents

pub any_walks : (t : Told) (n : ℕ) (o : Bool) → Walk t (Any t n) (state agent_extra n o) (state after_resolvers n o)
unfolding moves shared own
any_walks t n o =
    walk_either t (walk_leaf t (on 0x14 ▸ any_text ▸ text note ▸ stay after_resolvers) (coded_text t 0x14 any_text note (stay after_resolvers) refl) here refl (not_agent any_text n refl))
    (walk_either t (walk_leaf t (on 0x16 ▸ any_bytes ▸ block one_byte ▸ stay after_resolvers) (coded_block t 0x16 any_bytes one_byte (stay after_resolvers) refl) (there here) refl (not_agent any_bytes n refl))
    (walk_either t (walk_leaf t (on 0x17 ▸ any_bytes ▸ block two_bytes ▸ stay after_resolvers) (coded_block t 0x17 any_bytes two_bytes (stay after_resolvers) refl) (there (there here)) refl (not_agent any_bytes n refl))
    (walk_leaf t (on 0x19 ▸ any_bytes ▸ block four_bytes ▸ stay after_resolvers) (coded_block t 0x19 any_bytes four_bytes (stay after_resolvers) refl) (there (there (there here))) refl (not_agent any_bytes n refl))))

-- an extra has its edition's code
pub extra_coded : (t : Told) (n at : ℕ) (a : List ℕ) (ts : Trees) → UserDefinedParameter t n at a ts → node extra_key n (extra_code t.edition ⊳ NullTerminatedString line) (Any t n) at a ts
extra_coded t n at a ts (first (met q x)) = subst (λ (e : Edition). node extra_key n (extra_code e ⊳ NullTerminatedString line) (Any t n) at a ts) (sym q) x
extra_coded t n at a ts (other (met q x)) = subst (λ (e : Edition). node extra_key n (extra_code e ⊳ NullTerminatedString line) (Any t n) at a ts) (sym q) x

pub extra_code_lem : (e : Edition) → eqb (extra_code e) 256 ≡ false
extra_code_lem B = refl
extra_code_lem D = refl

pub extra_walks : (t : Told) (n : ℕ) (o : Bool) → Walk t (UserDefinedParameter t n) (state after_resolvers n o) (state after_resolvers n o)
unfolding moves shared own
extra_walks t n o at a ts x =
    walk_node t (on extra_code t.edition ▸ extra_key ▸ text line ▸ stay agent_extra) (coded_text t (extra_code t.edition) extra_key line (stay agent_extra) (extra_code_lem t.edition)) (there here) refl (not_agent extra_key n refl) (any_walks t n o) at a ts (extra_coded t n at a ts x)

pub addresses_walk : (t : Told) (n : ℕ) (o : Bool) → Walk t (Addresses t n) (state after_name n o) (state after_addresses n o)
unfolding moves shared own
addresses_walk t n o =
    walk_node t (on 0x02 ▸ addresses_open ▸ Form.opens ▸ stay address_texts) (opening t 0x02 addresses_open (stay address_texts) refl) here refl (not_agent addresses_open n refl)
    (walk_then t (walk_many t (walk_leaf t (on no_code ▸ address ▸ text line ▸ stay address_texts) (bare_text t address line (stay address_texts)) (there here) refl (not_agent address n refl)))
    (walk_byte t (pass 0x01 ▸ stay after_addresses) here refl))

abbrev pub agent_move : Move
agent_move = on 0x02 ▸ agent_name ▸ text line ▸ stay after_name

-- where the agent of a list at level n ends
pub back : (n : ℕ) (o : Bool) → go agent_ends (state after_resolvers (suc (suc n)) o) ≡ state agent_list (suc (suc n)) o
back n o = rw (ne_eqb (suc (suc n)) 1 (λ h. absurd (omega arith)), and_false o) refl

pub agent_walks : (t : Told) (left n : ℕ) → left + suc n ≤ 9 → (o : Bool) (r : Room) → In agent_move (moves t.edition r) → Walk t (AgentIdentifier t left (suc n)) (state r (suc n) o) (go agent_ends (state after_resolvers (suc n) o))
unfolding moves shared own
agent_walks t zero n fits o r i = λ at a ts x. absurd x
agent_walks t (suc left) n fits o r i =
    let E = go agent_ends (state after_resolvers (suc n) o) in
    let agent = AgentIdentifier t left (suc (suc n)) in
    let inner : Walk t agent (state agent_list (suc (suc n)) o) (state agent_list (suc (suc n)) o) = λ at a ts x. re_end (back n o) (agent_walks t left (suc n) (omega arith) o agent_list here at a ts x) in
    let resolvers : Walk t (Resolvers t (suc n) agent) (state after_addresses (suc n) o) (state after_resolvers (suc n) o)
    = walk_node t (on 0x03 ▸ resolvers_open ▸ Form.opens ▸ deeper agent_list) (opening t 0x03 resolvers_open (deeper agent_list) refl) here refl (not_agent resolvers_open (suc n) refl)
    (walk_then t (walk_many t inner) (walk_byte t (pass 0x01 ▸ list_ends) (there here) refl)) in
    let rest₁ : Walk t (many (UserDefinedParameter t (suc n)) ⨾ byte 0x01) (state after_resolvers (suc n) o) E = walk_then t (walk_many t (extra_walks t (suc n) o)) (walk_byte t (pass 0x01 ▸ agent_ends) here refl) in
    let rest₂ = walk_optional t after_addresses after_resolvers (suc n) o (λ m j. there j) (λ at a ts x. ends_moving x) resolvers rest₁ in
    let rest₃ = walk_optional t after_name after_addresses (suc n) o (λ m j. there j) (λ at a ts x. optional_moving at a ts x) (addresses_walk t (suc n) o) rest₂ in
    walk_node t agent_move (coded_text t 0x02 agent_name line (stay after_name) refl) i refl (λ _. omega arith) rest₃
