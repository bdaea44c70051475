-- The papers' trees are nested, rule by rule. So order 7's skip numbers, by kinds and levels, are those of the trees, for every header of the papers' grammar.
use Rattle.std.specs.Prelude.{ℕ, zero, suc, List, [], Bool, true, false, ◌||◌, not, ◌⊎◌, ◌≡◌, refl, T, eqb, ltb}
use Rattle.std.proofs.Common.{append-nil, inl, inr, ap, sym, ◌∙◌, subst, arith, eqb→eq, eqb-true, ltb-true}
use Rattle.meaning.specs.Told.{Told}
use Rattle.meaning.specs.Kinds.{extension_opens, base_opens, standard_representation, own_representation, date_absolute, date_forward, date_backward, received_by, received_from, received_id, received_via, to_opens, from_opens, receiver_opens, agent_name, addresses_open, address, resolvers_open, extra_key, any_text, any_bytes, comments, payload_length, payload_encoding, encrypted_opens, encrypted_item, own_key, own_value, behaviour_opens}
use Rattle.meaning.specs.Skips.{Rank, rank, is_envelope, holds_deeper, beside, belongs, skips_from}
use Rattle.laws_steps.specs.Logic.{either}
use Rattle.laws_steps.specs.Nesting.{false_not, value_is, Belongs, deeper_belongs, beside_belongs, belongs_not}
use Rattle.papers.specs.Notation.{Trees, flat, skip_numbers, Syntax, Value, ◌⨾◌, many, leaf, node, itself}
use Rattle.papers.specs.Papers.{EnvLen, EndOfCollection, Any, ACLRepresentation, Date, UserDefinedParameter, Addresses, Resolvers, AgentIdentifier, AgentIdentifierSequence, agent, ReceivedObject, PredefinedParameter, UserDefinedSlot, Parameter, BaseEnvelope, ExtEnvelope, Header}
use Rattle.papers.specs.TreeSkips.{ranks, Nested, skips_are}
use Rattle.papers.proofs.Nesting.{Class, Every, Own, Up, Good, good_then, good_either, good_byte, good_unseen, good_optional, good_many, good_up_to, good_when, good_node, good_leaf, good_envelope}

-- What follows

-- the kinds that do not stand behind their owner at its own level: no address, value, item or own value
abbrev plain : ℕ → Bool
plain j = not (eqb j address || eqb j any_text || eqb j any_bytes || eqb j encrypted_item || eqb j own_value)

abbrev is_agent : ℕ → Bool
is_agent j = eqb j agent_name

abbrev Plain : ℕ → Class
Plain n = Up n plain

abbrev Agents : ℕ → Class
Agents n = Up n is_agent

abbrev Envelopes : Class
Envelopes = Up 0 is_envelope

is_plain : (j k : ℕ) → j ≡ k → T (plain j) → T (plain k)
is_plain j k q t = subst (λ (x : ℕ). T (plain x)) q t

-- none of the rows that follow belongs to a row at their level
follows : (k n : ℕ) (p : ℕ → Bool) → ((j : ℕ) → T (p j) → beside k j ≡ true → ⊥) → (x : Rank) → Up n p x → belongs (rank k n) x ≡ false
follows k n p h x u = belongs_not (rank k n) x (at u)
  where
    at : Up n p x → Belongs (rank k n) x → ⊥
    at (inl l) (inl (d, m)) = omega arith
    at (inl l) (inr (q, b)) = omega arith
    at (inr (l, t)) (inl (d, m)) = omega arith
    at (inr (l, t)) (inr (q, b)) = h x.kind t b

deeper_plain : (n : ℕ) (p : ℕ → Bool) (x : Rank) → Plain n x → Up (suc n) p x
deeper_plain n p x (inl l) = inl (omega arith)
deeper_plain n p x (inr (q, t)) = inl (omega arith)

agents_plain : (n : ℕ) (x : Rank) → Agents n x → Plain n x
agents_plain n x (inl l) = inl l
agents_plain n x (inr (q, t)) = inr (q, is_plain agent_name x.kind (sym (eqb→eq x.kind agent_name t)) tt)

envelope_is : {A : Type 0} (j : ℕ) → T (is_envelope j) → (j ≡ extension_opens → A) → (j ≡ base_opens → A) → A
envelope_is {A} j t f g = at (either (eqb j extension_opens) (eqb j base_opens) t)
  where
    at : T (eqb j extension_opens) ⊎ T (eqb j base_opens) → A
    at (inl u) = f (eqb→eq j extension_opens u)
    at (inr u) = g (eqb→eq j base_opens u)

envelopes_plain : (x : Rank) → Envelopes x → Plain 0 x
envelopes_plain x (inl l) = inl l
envelopes_plain x (inr (q, t)) = inr (q, envelope_is x.kind t (λ e. is_plain extension_opens x.kind (sym e) tt) (λ e. is_plain base_opens x.kind (sym e) tt))

-- .. by the owner's kind: it has values beside it, rows of one kind, or none
value_not : (j : ℕ) → T (plain j) → (eqb j any_text || eqb j any_bytes) ≡ true → ⊥
value_not j t b = value_is j b (λ e. is_plain j any_text e t) (λ e. is_plain j any_bytes e t)

agent_not : (j : ℕ) → T (is_agent j) → ltb agent_name j ≡ true → ⊥
agent_not j t b = let q = eqb→eq j agent_name t in let l = ltb-true agent_name j b in omega arith

envelope_not : (j : ℕ) → T (is_envelope j) → ltb base_opens j ≡ true → ⊥
envelope_not j t b = let l = ltb-true base_opens j b in envelope_is j t (λ e. omega arith) (λ e. omega arith)

-- The rules

module _ (t : Told) where
  good_any : (owner : Rank) (n : ℕ) → belongs owner (rank any_text n) ≡ true → belongs owner (rank any_bytes n) ≡ true → Good (Any t n) (Own owner) Every Every
  good_any owner n b c =
      good_either (good_leaf owner any_text n b tt refl (λ j. refl)) (good_either (good_leaf owner any_bytes n c tt refl (λ j. refl)) (good_either (good_leaf owner any_bytes n c tt refl (λ j. refl)) (good_leaf owner any_bytes n c tt refl (λ j. refl))))

  module _ (owner : Rank) (n : ℕ) where
    good_extra : belongs owner (rank extra_key n) ≡ true → Good (UserDefinedParameter t n) (Own owner) (Plain n) (Plain n)
    good_extra b =
        let inside : Good (Any t n) (Own (rank extra_key n)) Every Every = good_any (rank extra_key n) n (beside_belongs (rank extra_key n) (rank any_text n) refl refl) (beside_belongs (rank extra_key n) (rank any_bytes n) refl refl) in
        let out : (x : Rank) → Plain n x → belongs (rank extra_key n) x ≡ false = follows extra_key n plain value_not in
        good_either (good_when (good_node owner extra_key n Every Every b (inr (refl, tt)) (λ x h. tt) out inside)) (good_when (good_node owner extra_key n Every Every b (inr (refl, tt)) (λ x h. tt) out inside))

    good_addresses : belongs owner (rank addresses_open n) ≡ true → Good (Addresses t n) (Own owner) (Plain n) (Plain n)
    good_addresses b =
        good_node owner addresses_open n Every Every b (inr (refl, tt)) (λ x h. tt) (follows addresses_open n plain (λ j u h. is_plain j address (eqb-true j address h) u))
        (good_then (good_many (good_leaf (rank addresses_open n) address n (beside_belongs (rank addresses_open n) (rank address n) refl refl) tt refl (λ j. refl))) good_byte)

    good_date : ((j : ℕ) → ltb base_opens j ≡ true → belongs owner (rank j n) ≡ true) → Good (Date t n) (Own owner) (Plain n) (Plain n)
    good_date own =
        good_either (good_leaf owner date_absolute n (own date_absolute refl) (inr (refl, tt)) refl (λ j. refl))
        (good_either (good_when (good_leaf owner date_absolute n (own date_absolute refl) (inr (refl, tt)) refl (λ j. refl)))
        (good_either (good_when (good_leaf owner date_forward n (own date_forward refl) (inr (refl, tt)) refl (λ j. refl)))
        (good_either (good_when (good_leaf owner date_backward n (own date_backward refl) (inr (refl, tt)) refl (λ j. refl)))
        (good_either (good_when (good_leaf owner date_absolute n (own date_absolute refl) (inr (refl, tt)) refl (λ j. refl)))
        (good_either (good_when (good_leaf owner date_forward n (own date_forward refl) (inr (refl, tt)) refl (λ j. refl)))
        (good_when (good_leaf owner date_backward n (own date_backward refl) (inr (refl, tt)) refl (λ j. refl))))))))

  good_agent : (owner : Rank) (left n : ℕ) → belongs owner (rank agent_name n) ≡ true → Good (AgentIdentifier t left n) (Own owner) (Agents n) (Agents n)
  good_agent owner zero n b = record { rows = λ at a ts x. absurd x; nests = λ at a ts x. absurd x }
  good_agent owner (suc left) n b =
      let resolvers : Good (Resolvers t n (AgentIdentifier t left (suc n))) (Own (rank agent_name n)) (Plain n) (Plain n)
      = good_node (rank agent_name n) resolvers_open n (Agents (suc n)) (Agents (suc n)) (beside_belongs (rank agent_name n) (rank resolvers_open n) refl refl) (inr (refl, tt)) (deeper_plain n is_agent) (follows resolvers_open n plain (λ j u h. false_not h))
      (good_then (good_many (good_agent (rank resolvers_open n) left (suc n) (deeper_belongs (rank resolvers_open n) (rank agent_name (suc n)) refl (omega arith)))) good_byte) in
      good_node owner agent_name n (Plain n) (Plain n) b (inr (refl, tt)) (agents_plain n) (follows agent_name n is_agent agent_not)
      (good_then (good_optional (good_addresses (rank agent_name n) n (beside_belongs (rank agent_name n) (rank addresses_open n) refl refl)))
      (good_then (good_optional resolvers)
      (good_then (good_many (good_extra (rank agent_name n) n (beside_belongs (rank agent_name n) (rank extra_key n) refl refl))) good_byte)))

  good_agents : (k : ℕ) → holds_deeper k ≡ true → Good (AgentIdentifierSequence t (agent t)) (Own (rank k 0)) (Agents 1) (Agents 1)
  good_agents k h = good_then (good_many (good_agent (rank k 0) 8 1 (deeper_belongs (rank k 0) (rank agent_name 1) h (omega arith)))) good_byte

  -- in an envelope
  module _ (owner : Rank) (own : (j : ℕ) → ltb base_opens j ≡ true → belongs owner (rank j 0) ≡ true) where
    good_representation : Good (ACLRepresentation t) (Own owner) (Plain 0) (Plain 0)
    good_representation =
        let standard : (c : ℕ) → Good (leaf standard_representation 0 (itself c)) (Own owner) (Plain 0) (Plain 0) = λ c. good_leaf owner standard_representation 0 (own standard_representation refl) (inr (refl, tt)) refl (λ j. refl) in
        good_either (good_leaf owner own_representation 0 (own own_representation refl) (inr (refl, tt)) refl (λ j. refl)) (good_either (standard 0x10) (good_either (standard 0x11) (standard 0x12)))

    good_received : Good (ReceivedObject t) (Own owner) (Plain 0) (Plain 0)
    good_received =
        let r = rank received_by 0 in
        let in-r : (j : ℕ) → belongs r (rank j 1) ≡ true = λ j. deeper_belongs r (rank j 1) refl (omega arith) in
        good_node owner received_by 0 (Plain 1) (Plain 1) (own received_by refl) (inr (refl, tt)) (deeper_plain 0 plain) (follows received_by 0 plain (λ j u h. false_not h))
        (good_then (good_date r 1 (λ j h. in-r j))
        (good_then (good_optional (good_leaf r received_from 1 (in-r received_from) (inr (refl, tt)) refl (λ j. refl)))
        (good_then (good_optional (good_leaf r received_id 1 (in-r received_id) (inr (refl, tt)) refl (λ j. refl)))
        (good_then (good_optional (good_leaf r received_via 1 (in-r received_via) (inr (refl, tt)) refl (λ j. refl)))
        (good_then (good_many (good_when (good_extra r 1 (in-r extra_key)))) good_byte)))))

    -- a row directly in an envelope, with its rows
    module _ {X : Value} {P : Syntax} where
      opening : (k : ℕ) (F S : Class) → ltb base_opens k ≡ true → T (plain k) → ((x : Rank) → Plain 0 x → F x) → ((j : ℕ) → T (plain j) → beside k j ≡ true → ⊥) → Good P (Own (rank k 0)) F S → Good (node k 0 X P) (Own owner) (Plain 0) (Plain 0)
      opening k F S h p wider out inside = good_node owner k 0 F S (own k h) (inr (refl, p)) wider (follows k 0 plain out) inside

    single : (k : ℕ) {X : Value} → ltb base_opens k ≡ true → T (plain k) → holds_deeper k ≡ false → ((j : ℕ) → beside k j ≡ false) → Good (leaf k 0 X) (Own owner) (Plain 0) (Plain 0)
    single k h p flat bare = good_leaf owner k 0 (own k h) (inr (refl, p)) flat bare

    good_predefined : Good (PredefinedParameter t) (Own owner) (Plain 0) (Plain 0)
    good_predefined =
        good_either (opening to_opens (Agents 1) (Agents 1) refl tt (deeper_plain 0 is_agent) (λ j u h. false_not h) (good_agents to_opens refl))
        (good_either (opening from_opens (Agents 1) (Agents 1) refl tt (deeper_plain 0 is_agent) (λ j u h. false_not h) (good_agent (rank from_opens 0) 8 1 (deeper_belongs (rank from_opens 0) (rank agent_name 1) refl (omega arith))))
        (good_either (good_then good_byte good_representation)
        (good_either (single comments refl tt refl (λ j. refl))
        (good_either (single payload_length refl tt refl (λ j. refl))
        (good_either (single payload_encoding refl tt refl (λ j. refl))
        (good_either (good_when (opening encrypted_opens Every Every refl tt (λ x h. tt) (λ j u h. is_plain j encrypted_item (eqb-true j encrypted_item h) u) (good_then (good_many (good_leaf (rank encrypted_opens 0) encrypted_item 0 (beside_belongs (rank encrypted_opens 0) (rank encrypted_item 0) refl refl) tt refl (λ j. refl))) good_byte)))
        (good_either (opening receiver_opens (Agents 1) (Agents 1) refl tt (deeper_plain 0 is_agent) (λ j u h. false_not h) (good_agents receiver_opens refl))
        (good_either (good_then good_byte good_received)
        (opening behaviour_opens Every Every refl tt (λ x h. tt) value_not (good_any (rank behaviour_opens 0) 0 (beside_belongs (rank behaviour_opens 0) (rank any_text 0) refl refl) (beside_belongs (rank behaviour_opens 0) (rank any_bytes 0) refl refl)))))))))))

    good_slot : Good (UserDefinedSlot t) (Own owner) (Plain 0) (Plain 0)
    good_slot = opening own_key Every Every refl tt (λ x h. tt) (λ j u h. is_plain j own_value (eqb-true j own_value h) u) (good_leaf (rank own_key 0) own_value 0 (beside_belongs (rank own_key 0) (rank own_value 0) refl refl) tt refl (λ j. refl))

    good_parameters : Good (many (Parameter t) ⨾ EndOfCollection) (Own owner) (Plain 0) (Plain 0)
    good_parameters = good_then (good_many (good_either good_predefined good_slot)) good_byte

  good_length : {n : ℕ} {A F : Class} → Good (EnvLen n) A F F
  good_length = good_either good_unseen (good_when (good_then (good_then good_byte good_byte) good_unseen))

  good_base : Good (BaseEnvelope t) Every Envelopes Envelopes
  good_base =
      let r = rank base_opens 0 in
      let own : (j : ℕ) → ltb base_opens j ≡ true → belongs r (rank j 0) ≡ true = λ j h. beside_belongs r (rank j 0) refl h in
      good_envelope base_opens (Plain 0) (Plain 0) (inr (refl, tt)) envelopes_plain (follows base_opens 0 is_envelope envelope_not)
      (λ n. good_then (good_then good_byte (good_then good_length (good_then (good_representation r own) (good_date r 0 own)))) (good_parameters r own))

  good_extension : Good (ExtEnvelope t) Every Envelopes Envelopes
  good_extension =
      let r = rank extension_opens 0 in
      let own : (j : ℕ) → ltb base_opens j ≡ true → belongs r (rank j 0) ≡ true = λ j h. beside_belongs r (rank j 0) refl h in
      good_envelope extension_opens (Plain 0) (Plain 0) (inr (refl, tt)) envelopes_plain (follows extension_opens 0 is_envelope envelope_not)
      (λ n. good_then (good_then good_byte (good_then good_length (good_received r own))) (good_parameters r own))

  good_header : Good (Header t) Every Envelopes Envelopes
  good_header = good_then (good_up_to good_extension) good_base

  -- whatever a reading is told
  pub header_nested : (at : ℕ) (bytes : List ℕ) (ts : Trees) → Header t at bytes ts → Nested ts []
  header_nested at bytes ts h = (good_header.nests at bytes ts h [] tt).1

  pub header_skips : (at i : ℕ) (bytes : List ℕ) (ts : Trees) → Header t at bytes ts → skips_from i (ranks ts) ≡ skip_numbers i ts
  header_skips at i bytes ts h =
      ap (skips_from i) (sym (append-nil (ranks ts))) ∙ skips_are i ts [] (header_nested at bytes ts h) ∙ append-nil (skip_numbers i ts)
