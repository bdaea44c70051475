-- The papers' rules and the reader's moves, one way: every other rule, from values to the insides of envelopes.
use Prim.Native.Nat.{ℕ, suc, ◌+◌}
use mathlib.Core.List.{List, ◌∷◌}
use Rattle.std.proofs.Math.Bool.{true, false}
use Rattle.std.specs.Prelude.{not, ◌≡◌, T, eqb, length}
use Rattle.std.proofs.Math.Path.{refl, ap}
use Rattle.std.proofs.Common.{sym, ◌∙◌, subst, arith}
use Rattle.meaning.specs.Basics.{is_empty, In, here, there}
use Rattle.meaning.specs.Told.{Edition, B, D, Told}
use Rattle.meaning.specs.Bytes.{Reach, absolute, relative, line, note, one_byte, two_bytes, four_bytes}
use Rattle.meaning.specs.Kinds.{extra_key, any_text, any_bytes, received_by, received_from, received_id, received_via, own_key, own_value, to_opens, from_opens, receiver_opens, comments, payload_length, payload_encoding, encrypted_opens, encrypted_item, behaviour_opens, standard_representation, own_representation, date_absolute, date_forward, date_backward}
use Rattle.meaning.specs.Editions.{Room, received_begins, head_representation, head_date, parameters, own_text, parameter_representation, behaviour_value, encrypted_texts, received_date, after_date, after_from, after_id, after_via, received_extra, closed, agent_list, one_agent, State, state, Next, outer, inner, inner_one, stay, list_ends, go, Form, text, date, block, Move, on◌▸◌▸◌▸◌, pass◌▸◌, no_code, own_dates, shared, own, moves}
use Rattle.meaning.specs.Writing.{valid, write_value}
use Rattle.papers.specs.Notation.{Trees, Syntax, ◌⨾◌, ◌then◌, optional, many, byte, met, only, itself, ◌⊳◌, coded}
use Rattle.std.proofs.Math.Dec.{eqb_refl}
use Rattle.meaning.specs.Editions.{representations, any_values}
use Rattle.laws_steps.specs.Values.{allowed}
use Rattle.papers.specs.Values.{BinDate, designated, BinNumber}
use Rattle.papers.specs.Papers.{Any, UserDefinedParameter, AgentIdentifier, AgentIdentifierSequence, agent, Via, Id, From, ReceivedObject, ACLRepresentation, Date, Parameter, StringSequence, PredefinedParameter, UserDefinedSlot}
use Rattle.papers.proofs.Texts.{number_out}
use Rattle.papers.proofs.Dates.{plain_passes, lettered_passes}
use Rattle.papers.proofs.Walks.{not_agent, ends_moving, more_moving, optional_moving, B≢D, Walk, Stands, walk_then, walk_either, walk_many, walk_node, walk_leaf, walk_byte, walk_optional, coded_text, bare_text, opening, coded_block, agent_walks}

module _ (t : Told) where
  -- what may follow in a received object
  abbrev pub AfterId : Syntax
  AfterId = optional (Via t) ⨾ many (only t D (UserDefinedParameter t 1)) ⨾ byte 0x01

  abbrev pub AfterFrom : Syntax
  AfterFrom = optional (Id t) ⨾ AfterId

  abbrev pub AfterDate : Syntax
  AfterDate = optional (From t) ⨾ AfterFrom

  itself_stands : (c k : ℕ) (n : Next) → eqb c 256 ≡ false → Stands t (itself c) (on c ▸ k ▸ Form.itself ▸ n)
  unfolding write_value valid allowed
  itself_stands c k n h _ _ _ itself.it = rw h (refl, refl, eqb_refl c)

  date_stands : (c k : ℕ) (reach : Reach) (n : Next) → eqb c 256 ≡ false → Stands t (c ⊳ BinDate reach) (on c ▸ k ▸ date reach false ▸ n)
  unfolding write_value valid allowed
  date_stands c k reach n h _ _ _ (coded {before} {a} {view} x) =
      let w = plain_passes reach a before view x in
      rw h (ap (λ (l : List ℕ). c ∷ l) w.0, ap suc w.1, w.2)

  letter_stands : (c k : ℕ) (reach : Reach) (n : Next) → eqb c 256 ≡ false → Stands t (c ⊳ designated (BinDate reach)) (on c ▸ k ▸ date reach true ▸ n)
  unfolding write_value valid allowed
  letter_stands c k reach n h _ _ _ (coded {before} {a} {view} x) =
      let w = lettered_passes reach a before view x in
      rw h (ap (λ (l : List ℕ). c ∷ l) w.0, ap suc w.1, w.2)

  number_stands : (c k : ℕ) (n : Next) → eqb c 256 ≡ false → Stands t (c ⊳ BinNumber) (on c ▸ k ▸ Form.number ▸ n)
  unfolding write_value valid allowed
  number_stands c k n h _ _ _ (coded {before} {a} {view} x) =
      let w = number_out a before view x in
      rw h (ap (λ (l : List ℕ). c ∷ l) w.0, ap suc w.1, w.2)

  walk_only : (x : Edition) {P : Syntax} {st st' : State} → (t.edition ≡ x → Walk t P st st') → Walk t (only t x P) st st'
  walk_only x w at a ts (met q y) = w q at a ts y

  any_from : (st : State) (x : Next) → ((m : Move) → In m (any_values x) → In m (moves t.edition st.room)) → Walk t (Any t st.level) st (go x st)
  any_from st x has =
      walk_either t (walk_leaf t (on 0x14 ▸ any_text ▸ text note ▸ x) (coded_text t 0x14 any_text note x refl) (has _ here) refl (not_agent any_text st.level refl))
      (walk_either t (walk_leaf t (on 0x16 ▸ any_bytes ▸ block one_byte ▸ x) (coded_block t 0x16 any_bytes one_byte x refl) (has _ (there here)) refl (not_agent any_bytes st.level refl))
      (walk_either t (walk_leaf t (on 0x17 ▸ any_bytes ▸ block two_bytes ▸ x) (coded_block t 0x17 any_bytes two_bytes x refl) (has _ (there (there here))) refl (not_agent any_bytes st.level refl))
      (walk_leaf t (on 0x19 ▸ any_bytes ▸ block four_bytes ▸ x) (coded_block t 0x19 any_bytes four_bytes x refl) (has _ (there (there (there here)))) refl (not_agent any_bytes st.level refl))))

  representation_from : (r : Room) (x : Next) → ((m : Move) → In m (representations x) → In m (moves t.edition r)) → Walk t (ACLRepresentation t) (state r 0 false) (go x (state r 0 false))
  representation_from r x has =
      walk_either t (walk_leaf t (on 0x00 ▸ own_representation ▸ text line ▸ x) (coded_text t 0x00 own_representation line x refl) (has _ (there (there (there here)))) refl (not_agent own_representation 0 refl))
      (walk_either t (walk_leaf t (on 0x10 ▸ standard_representation ▸ Form.itself ▸ x) (itself_stands 0x10 standard_representation x refl) (has _ here) refl (not_agent standard_representation 0 refl))
      (walk_either t (walk_leaf t (on 0x11 ▸ standard_representation ▸ Form.itself ▸ x) (itself_stands 0x11 standard_representation x refl) (has _ (there here)) refl (not_agent standard_representation 0 refl))
      (walk_leaf t (on 0x12 ▸ standard_representation ▸ Form.itself ▸ x) (itself_stands 0x12 standard_representation x refl) (has _ (there (there here))) refl (not_agent standard_representation 0 refl))))

  date_from : (st : State) (x : Next) → In (on 0x20 ▸ date_absolute ▸ date absolute false ▸ x) (moves t.edition st.room) → ((m : Move) → In m (own_dates t.edition x) → In m (moves t.edition st.room)) → Walk t (Date t st.level) st (go x st)
  date_from st x i has =
      let k = st.level in
      let own_in : (y : Edition) (m : Move) → t.edition ≡ y → In m (own_dates y x) → In m (moves t.edition st.room) = λ y m q j. has m (subst (λ (z : Edition). In m (own_dates z x)) (sym q) j) in
      walk_either t (walk_leaf t (on 0x20 ▸ date_absolute ▸ date absolute false ▸ x) (date_stands 0x20 date_absolute absolute x refl) i refl (not_agent date_absolute k refl))
      (walk_either t (walk_only B (λ q. walk_leaf t (on 0x21 ▸ date_absolute ▸ date absolute true ▸ x) (letter_stands 0x21 date_absolute absolute x refl) (own_in B _ q here) refl (not_agent date_absolute k refl)))
      (walk_either t (walk_only D (λ q. walk_leaf t (on 0x21 ▸ date_forward ▸ date relative false ▸ x) (date_stands 0x21 date_forward relative x refl) (own_in D _ q here) refl (not_agent date_forward k refl)))
      (walk_either t (walk_only D (λ q. walk_leaf t (on 0x22 ▸ date_backward ▸ date relative false ▸ x) (date_stands 0x22 date_backward relative x refl) (own_in D _ q (there here)) refl (not_agent date_backward k refl)))
      (walk_either t (walk_only D (λ q. walk_leaf t (on 0x24 ▸ date_absolute ▸ date absolute true ▸ x) (letter_stands 0x24 date_absolute absolute x refl) (own_in D _ q (there (there here))) refl (not_agent date_absolute k refl)))
      (walk_either t (walk_only D (λ q. walk_leaf t (on 0x25 ▸ date_forward ▸ date relative true ▸ x) (letter_stands 0x25 date_forward relative x refl) (own_in D _ q (there (there (there here)))) refl (not_agent date_forward k refl)))
      (walk_only D (λ q. walk_leaf t (on 0x26 ▸ date_backward ▸ date relative true ▸ x) (letter_stands 0x26 date_backward relative x refl) (own_in D _ q (there (there (there (there here))))) refl (not_agent date_backward k refl))))))))

  -- a received object, from the back

  abbrev at_parameters : State
  at_parameters = state parameters 0 false

  received_extra_walks : Walk t (only t D (UserDefinedParameter t 1)) (state after_via 1 false) (state after_via 1 false)
  unfolding moves shared own
  received_extra_walks = walk_only D (λ q. walk_either t (walk_only B (λ q'. λ at a ts x. absurd (B≢D (sym q' ∙ q))))
      (walk_only D (λ q'. walk_node t (on 0x05 ▸ extra_key ▸ text line ▸ stay received_extra) (coded_text t 0x05 extra_key line (stay received_extra) refl)
      (subst (λ (z : Edition). In (on 0x05 ▸ extra_key ▸ text line ▸ stay received_extra) (moves z after_via)) (sym q) (there here)) refl (not_agent extra_key 1 refl) (any_from (state received_extra 1 false) (stay after_via) (λ m j. j)))))

  via_walks : Walk t (many (only t D (UserDefinedParameter t 1)) ⨾ byte 0x01) (state after_via 1 false) at_parameters
  unfolding moves shared own
  via_walks = walk_then t (walk_many t received_extra_walks) (walk_byte t (pass 0x01 ▸ outer parameters) here refl)

  id_walks : Walk t AfterId (state after_id 1 false) at_parameters
  unfolding moves shared own
  id_walks = walk_optional t after_id after_via 1 false (λ m j. there j) (λ at a ts x. ends_moving x)
      (walk_leaf t (on 0x04 ▸ received_via ▸ text line ▸ stay after_via) (coded_text t 0x04 received_via line (stay after_via) refl) here refl (not_agent received_via 1 refl)) via_walks

  from_walks : Walk t AfterFrom (state after_from 1 false) at_parameters
  unfolding moves shared own
  from_walks = walk_optional t after_from after_id 1 false (λ m j. there j) (λ at a ts x. optional_moving at a ts x)
      (walk_leaf t (on 0x03 ▸ received_id ▸ text line ▸ stay after_id) (coded_text t 0x03 received_id line (stay after_id) refl) here refl (not_agent received_id 1 refl)) id_walks

  further_moving : {P Q R : Syntax} {c : ℕ} (at : ℕ) (a : List ℕ) (ts : Trees) → (P ⨾ (Q ⨾ (R ⨾ byte c))) at a ts → T (not (is_empty a))
  further_moving _ _ _ (◌then◌ {at} {a} {b} {us} x y) = more_moving a b (optional_moving (at + length a) b us y)

  after_date_walks : Walk t AfterDate (state after_date 1 false) at_parameters
  unfolding moves shared own
  after_date_walks = walk_optional t after_date after_from 1 false (λ m j. there j) (λ at a ts x. further_moving at a ts x)
      (walk_leaf t (on 0x02 ▸ received_from ▸ text line ▸ stay after_from) (coded_text t 0x02 received_from line (stay after_from) refl) here refl (not_agent received_from 1 refl)) from_walks

  received_date_walks : Walk t (Date t 1 ⨾ AfterDate) (state received_date 1 false) at_parameters
  unfolding moves shared own
  received_date_walks = walk_then t (date_from (state received_date 1 false) (stay after_date) here (λ m j. there j)) after_date_walks

  received_walks : Walk t (ReceivedObject t) (state received_begins 0 false) at_parameters
  unfolding moves shared own
  received_walks = walk_node t (on no_code ▸ received_by ▸ text line ▸ inner received_date) (bare_text t received_by line (inner received_date)) here refl (not_agent received_by 0 refl) received_date_walks

  -- parameters

  agents_walk : Walk t (AgentIdentifierSequence t (agent t)) (state agent_list 1 false) at_parameters
  unfolding moves shared own
  agents_walk = walk_then t (walk_many t (agent_walks t 8 0 (omega arith) false agent_list here)) (walk_byte t (pass 0x01 ▸ list_ends) (there here) refl)

  one_walks : Walk t (AgentIdentifier t 8 1) (state one_agent 1 true) at_parameters
  unfolding moves shared own
  one_walks = agent_walks t 8 0 (omega arith) true one_agent here

  strings_walk : Walk t (StringSequence t) (state encrypted_texts 0 false) at_parameters
  unfolding moves shared own
  strings_walk =
      walk_then t (walk_many t (walk_leaf t (on no_code ▸ encrypted_item ▸ text line ▸ outer encrypted_texts) (bare_text t encrypted_item line (outer encrypted_texts)) (there here) refl (not_agent encrypted_item 0 refl)))
      (walk_byte t (pass 0x01 ▸ outer parameters) here refl)

  predefined_walks : Walk t (PredefinedParameter t) at_parameters at_parameters
  unfolding moves shared own
  predefined_walks =
      walk_either t (walk_node t (on 0x02 ▸ to_opens ▸ Form.opens ▸ inner agent_list) (opening t 0x02 to_opens (inner agent_list) refl) (there here) refl (not_agent to_opens 0 refl) agents_walk)
      (walk_either t (walk_node t (on 0x03 ▸ from_opens ▸ Form.opens ▸ inner_one one_agent) (opening t 0x03 from_opens (inner_one one_agent) refl) (there (there here)) refl (not_agent from_opens 0 refl) one_walks)
      (walk_either t (walk_then t (walk_byte t (pass 0x04 ▸ outer parameter_representation) (there (there (there here))) refl) (representation_from parameter_representation (outer parameters) (λ m j. j)))
      (walk_either t (walk_leaf t (on 0x05 ▸ comments ▸ text note ▸ outer parameters) (coded_text t 0x05 comments note (outer parameters) refl) (there (there (there (there here)))) refl (not_agent comments 0 refl))
      (walk_either t (walk_leaf t (on 0x06 ▸ payload_length ▸ Form.number ▸ outer parameters) (number_stands 0x06 payload_length (outer parameters) refl) (there (there (there (there (there here))))) refl (not_agent payload_length 0 refl))
      (walk_either t (walk_leaf t (on 0x07 ▸ payload_encoding ▸ text line ▸ outer parameters) (coded_text t 0x07 payload_encoding line (outer parameters) refl) (there (there (there (there (there (there here)))))) refl (not_agent payload_encoding 0 refl))
      (walk_either t (walk_only B (λ q. walk_node t (on 0x08 ▸ encrypted_opens ▸ Form.opens ▸ outer encrypted_texts) (opening t 0x08 encrypted_opens (outer encrypted_texts) refl)
      (subst (λ (z : Edition). In (on 0x08 ▸ encrypted_opens ▸ Form.opens ▸ outer encrypted_texts) (moves z parameters)) (sym q) (there (there (there (there (there (there (there (there (there (there (there here)))))))))))) refl (not_agent encrypted_opens 0 refl) strings_walk))
      (walk_either t (walk_node t (on 0x09 ▸ receiver_opens ▸ Form.opens ▸ inner agent_list) (opening t 0x09 receiver_opens (inner agent_list) refl) (there (there (there (there (there (there (there here))))))) refl (not_agent receiver_opens 0 refl) agents_walk)
      (walk_either t (walk_then t (walk_byte t (pass 0x0a ▸ outer received_begins) (there (there (there (there (there (there (there (there here)))))))) refl) received_walks)
      (walk_node t (on 0x0b ▸ behaviour_opens ▸ Form.opens ▸ outer behaviour_value) (opening t 0x0b behaviour_opens (outer behaviour_value) refl) (there (there (there (there (there (there (there (there (there here))))))))) refl (not_agent behaviour_opens 0 refl)
      (any_from (state behaviour_value 0 false) (outer parameters) (λ m j. j)))))))))))

  own_walks : Walk t (UserDefinedSlot t) at_parameters at_parameters
  unfolding moves shared own
  own_walks = walk_node t (on 0x00 ▸ own_key ▸ text line ▸ outer own_text) (coded_text t 0x00 own_key line (outer own_text) refl) here refl (not_agent own_key 0 refl)
      (walk_leaf t (on no_code ▸ own_value ▸ text note ▸ outer parameters) (bare_text t own_value note (outer parameters)) here refl (not_agent own_value 0 refl))

  parameters_walk : Walk t (many (Parameter t) ⨾ byte 0x01) at_parameters (state closed 0 false)
  unfolding moves shared own
  parameters_walk =
      walk_then t (walk_many t (walk_either t predefined_walks own_walks)) (walk_byte t (pass 0x01 ▸ outer closed) (there (there (there (there (there (there (there (there (there (there here)))))))))) refl)

  -- the insides of the envelopes
  pub base_walks : Walk t (ACLRepresentation t ⨾ (Date t 0 ⨾ (many (Parameter t) ⨾ byte 0x01))) (state head_representation 0 false) (state closed 0 false)
  unfolding moves shared own
  base_walks = walk_then t (representation_from head_representation (outer head_date) (λ m j. j)) (walk_then t (date_from (state head_date 0 false) (outer parameters) here (λ m j. there j)) parameters_walk)

  pub extension_walks : Walk t (ReceivedObject t ⨾ (many (Parameter t) ⨾ byte 0x01)) (state received_begins 0 false) (state closed 0 false)
  extension_walks = walk_then t received_walks parameters_walk
