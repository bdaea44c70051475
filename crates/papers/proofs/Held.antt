-- What stands inside a row, rule by rule: every header's trees hold what they may. Order 7's sentence, clause by clause, follows.
use Rattle.std.specs.Prelude.{ℕ, zero, suc, List, Bool, true, false, ◌&&◌, ◌≡◌, refl, T, eqb}
use Rattle.std.proofs.lemmas.Bool.{false≢true}
use Rattle.std.proofs.Common.{sym, ◌∙◌}
use Rattle.std.proofs.Math.Dec.{eqb_refl}
use Rattle.meaning.specs.Told.{Told}
use Rattle.meaning.specs.Kinds.{extension_opens, base_opens, standard_representation, own_representation, date_absolute, date_forward, date_backward, received_by, received_from, received_id, received_via, to_opens, from_opens, receiver_opens, agent_name, addresses_open, address, resolvers_open, extra_key, any_text, any_bytes, comments, payload_length, payload_encoding, encrypted_opens, encrypted_item, own_key, own_value, behaviour_opens}
use Rattle.meaning.specs.Skips.{Rank, rank, is_envelope}
use Rattle.papers.specs.Notation.{Trees, size, Value, ◌⨾◌, first, other, many, byte, leaf, shows}
use Rattle.papers.specs.Papers.{EnvLen, Any, ACLRepresentation, Date, UserDefinedParameter, Addresses, AgentIdentifierSequence, Resolvers, AgentIdentifier, agent, ReceivedObject, UserDefinedSlot, PredefinedParameter, Parameter, BaseEnvelope, ExtEnvelope, Header}
use Rattle.laws_steps.specs.Logic.{both}
use Rattle.papers.specs.Holding.{in_envelope, may_hold, holds_one, Holding, holding_then, holding_either, holding_byte, holding_unseen, holding_when, holding_optional, holding_many, holding_up_to, holding_leaf, holding_node, holding_envelope}

-- an envelope's row
abbrev pub opens_envelope : Rank → Bool
opens_envelope r = is_envelope r.kind && eqb r.level 0

more_than_one : {A : Type 0} (k : ℕ) → holds_one k ≡ false → holds_one k ≡ true → A
more_than_one k none q = absurd (false≢true (sym none ∙ q))

leaf_one : {k n : ℕ} {X : Value} (at : ℕ) (a : List ℕ) (ts : Trees) → leaf k n X at a ts → size ts ≡ 1
leaf_one _ _ _ (shows x) = refl

module _ (t : Told) where
  any_one : (n at : ℕ) (a : List ℕ) (ts : Trees) → Any t n at a ts → size ts ≡ 1
  any_one n at a ts (first x) = leaf_one at a ts x
  any_one n at a ts (other (first x)) = leaf_one at a ts x
  any_one n at a ts (other (other (first x))) = leaf_one at a ts x
  any_one n at a ts (other (other (other x))) = leaf_one at a ts x

  any_holding : (p : Rank → Bool) (n : ℕ) → T (p (rank any_text n)) → T (p (rank any_bytes n)) → Holding (Any t n) p
  any_holding p n b c = holding_either (holding_leaf any_text n b refl) (holding_either (holding_leaf any_bytes n c refl) (holding_either (holding_leaf any_bytes n c refl) (holding_leaf any_bytes n c refl)))

  extra_holding : (p : Rank → Bool) (n : ℕ) → T (p (rank extra_key n)) → Holding (UserDefinedParameter t n) p
  extra_holding p n b =
      let inside : Holding (Any t n) (may_hold (rank extra_key n)) = any_holding (may_hold (rank extra_key n)) n (eqb_refl n) (eqb_refl n) in
      holding_either (holding_when (holding_node extra_key n b (λ at a ts x q. any_one n at a ts x) inside)) (holding_when (holding_node extra_key n b (λ at a ts x q. any_one n at a ts x) inside))

  addresses_holding : (p : Rank → Bool) (n : ℕ) → T (p (rank addresses_open n)) → Holding (Addresses t n) p
  addresses_holding p n b = holding_node addresses_open n b (λ at a ts x. more_than_one addresses_open refl) (holding_then (holding_many (holding_leaf address n (eqb_refl n) refl)) holding_byte)

  date_holding : (p : Rank → Bool) (n : ℕ) → T (p (rank date_absolute n)) → T (p (rank date_forward n)) → T (p (rank date_backward n)) → Holding (Date t n) p
  date_holding p n b c d =
      holding_either (holding_leaf date_absolute n b refl)
      (holding_either (holding_when (holding_leaf date_absolute n b refl))
      (holding_either (holding_when (holding_leaf date_forward n c refl))
      (holding_either (holding_when (holding_leaf date_backward n d refl))
      (holding_either (holding_when (holding_leaf date_absolute n b refl)) (holding_either (holding_when (holding_leaf date_forward n c refl)) (holding_when (holding_leaf date_backward n d refl)))))))

  agent_holding : (p : Rank → Bool) (left n : ℕ) → T (p (rank agent_name n)) → Holding (AgentIdentifier t left n) p
  agent_holding p zero n b = record { tops = λ at a ts x. absurd x; each = λ at a ts x. absurd x }
  agent_holding p (suc left) n b =
      let r = rank agent_name n in
      let resolvers : Holding (Resolvers t n (AgentIdentifier t left (suc n))) (may_hold r)
      = holding_node resolvers_open n (eqb_refl n) (λ at a ts x. more_than_one resolvers_open refl) (holding_then (holding_many (agent_holding (may_hold (rank resolvers_open n)) left (suc n) (eqb_refl (suc n)))) holding_byte) in
      holding_node agent_name n b (λ at a ts x. more_than_one agent_name refl)
      (holding_then (holding_optional (addresses_holding (may_hold r) n (eqb_refl n))) (holding_then (holding_optional resolvers) (holding_then (holding_many (extra_holding (may_hold r) n (eqb_refl n))) holding_byte)))

  agents_holding : (k : ℕ) → T (may_hold (rank k 0) (rank agent_name 1)) → Holding (AgentIdentifierSequence t (agent t)) (may_hold (rank k 0))
  agents_holding k b = holding_then (holding_many (agent_holding (may_hold (rank k 0)) 8 1 b)) holding_byte

  -- in an envelope
  module _ (p : Rank → Bool) where
    representation_holding : T (p (rank own_representation 0)) → T (p (rank standard_representation 0)) → Holding (ACLRepresentation t) p
    representation_holding b c =
        holding_either (holding_leaf own_representation 0 b refl) (holding_either (holding_leaf standard_representation 0 c refl) (holding_either (holding_leaf standard_representation 0 c refl) (holding_leaf standard_representation 0 c refl)))

    received_holding : T (p (rank received_by 0)) → Holding (ReceivedObject t) p
    received_holding b =
        let q = may_hold (rank received_by 0) in
        holding_node received_by 0 b (λ at a ts x. more_than_one received_by refl)
        (holding_then (date_holding q 1 tt tt tt)
        (holding_then (holding_optional (holding_leaf received_from 1 tt refl))
        (holding_then (holding_optional (holding_leaf received_id 1 tt refl))
        (holding_then (holding_optional (holding_leaf received_via 1 tt refl)) (holding_then (holding_many (holding_when (extra_holding q 1 tt))) holding_byte)))))

  -- .. the base or an extension
  module _ (k : ℕ) (own : (j : ℕ) → T (in_envelope j) → T (may_hold (rank k 0) (rank j 0))) where
    predefined_holding : Holding (PredefinedParameter t) (may_hold (rank k 0))
    predefined_holding =
        let p = may_hold (rank k 0) in
        holding_either (holding_node to_opens 0 (own to_opens tt) (λ at a ts x. more_than_one to_opens refl) (agents_holding to_opens tt))
        (holding_either (holding_node from_opens 0 (own from_opens tt) (λ at a ts x. more_than_one from_opens refl) (agent_holding (may_hold (rank from_opens 0)) 8 1 tt))
        (holding_either (holding_then holding_byte (representation_holding p (own own_representation tt) (own standard_representation tt)))
        (holding_either (holding_leaf comments 0 (own comments tt) refl)
        (holding_either (holding_leaf payload_length 0 (own payload_length tt) refl)
        (holding_either (holding_leaf payload_encoding 0 (own payload_encoding tt) refl)
        (holding_either (holding_when (holding_node encrypted_opens 0 (own encrypted_opens tt) (λ at a ts x. more_than_one encrypted_opens refl) (holding_then (holding_many (holding_leaf encrypted_item 0 tt refl)) holding_byte)))
        (holding_either (holding_node receiver_opens 0 (own receiver_opens tt) (λ at a ts x. more_than_one receiver_opens refl) (agents_holding receiver_opens tt))
        (holding_either (holding_then holding_byte (received_holding p (own received_by tt)))
        (holding_node behaviour_opens 0 (own behaviour_opens tt) (λ at a ts x q. any_one 0 at a ts x) (any_holding (may_hold (rank behaviour_opens 0)) 0 tt tt))))))))))

    slot_holding : Holding (UserDefinedSlot t) (may_hold (rank k 0))
    slot_holding = holding_node own_key 0 (own own_key tt) (λ at a ts x q. leaf_one at a ts x) (holding_leaf own_value 0 tt refl)

    parameters_holding : Holding (many (Parameter t) ⨾ byte 0x01) (may_hold (rank k 0))
    parameters_holding = holding_then (holding_many (holding_either predefined_holding slot_holding)) holding_byte

  length_holding : {n : ℕ} {p : Rank → Bool} → Holding (EnvLen n) p
  length_holding = holding_either holding_unseen (holding_when (holding_then (holding_then holding_byte holding_byte) holding_unseen))

  base_holding : Holding (BaseEnvelope t) opens_envelope
  base_holding =
      let own : (j : ℕ) → T (in_envelope j) → T (may_hold (rank base_opens 0) (rank j 0)) = λ j u. both (in_envelope j) true u tt in
      let p = may_hold (rank base_opens 0) in
      holding_envelope base_opens tt refl
      (λ n. holding_then (holding_then holding_byte (holding_then length_holding (holding_then (representation_holding p (own own_representation tt) (own standard_representation tt)) (date_holding p 0 (own date_absolute tt) (own date_forward tt) (own date_backward tt))))) (parameters_holding base_opens own))

  extension_holding : Holding (ExtEnvelope t) opens_envelope
  extension_holding =
      let own : (j : ℕ) → T (in_envelope j) → T (may_hold (rank extension_opens 0) (rank j 0)) = λ j u. both (in_envelope j) true u tt in
      holding_envelope extension_opens tt refl (λ n. holding_then (holding_then holding_byte (holding_then length_holding (received_holding (may_hold (rank extension_opens 0)) (own received_by tt)))) (parameters_holding extension_opens own))

  pub header_holding : Holding (Header t) opens_envelope
  header_holding = holding_then (holding_up_to extension_holding 15) base_holding
