-- A move at the front of a chain, in the rooms of agents: what is left behind it makes the rule.
use Rattle.std.specs.Prelude.{ℕ, suc, ◌+◌, ◌-◌, ◌≤◌, List, [], ◌∷◌, ◌++◌, Bool, false, ◌&&◌, ◌≡◌, eqb}
use Rattle.std.proofs.Math.Path.{refl}
use Rattle.std.proofs.Common.{sym, subst, arith}
use Rattle.std.proofs.Math.ListN.{length}
use Rattle.meaning.specs.Basics.{In}
use Rattle.meaning.specs.Told.{Told}
use Rattle.meaning.specs.Bytes.{one_byte, two_bytes, four_bytes}
use Rattle.meaning.specs.Kinds.{agent_name, addresses_open, address, resolvers_open, extra_key}
use Rattle.meaning.specs.Editions.{Room, agent_list, one_agent, after_name, address_texts, after_addresses, after_resolvers, agent_extra, state, stay, deeper, agent_ends, go, Form, Move, on◌▸◌▸◌▸◌, pass◌▸◌, shared, own, moves}
use Rattle.meaning.specs.Reading.{level_most}
use Rattle.meaning.specs.Writing.{valid, write_value}
use Rattle.meaning.specs.Grammar.{standing, start_in}
use Rattle.papers.specs.Notation.{Trees, end, tree, ◌then◌, first, other, many, byte, shows, node, holds, ◌⊳◌, coded}
use Rattle.laws_steps.specs.Values.{allowed}
use Rattle.papers.specs.Papers.{AgentName, AgentIdentifier}
use Rattle.papers.proofs.Texts.{textual, block_in}
use Rattle.papers.proofs.Pieces.{skip, taken, one_again, again, first_of, no_more, agent_extra_lem, extra_move, extra_value, opened_as}
use Rattle.papers.proofs.Chains.{Agent, Extras, FromResolvers, FromAddresses, left, behind, Back, row_alone, row_before, row_around, row_beside, pass_alone, agent_ends_lem, deep_list, list_ends_lem, list, name, texts, addresses, resolvers, extra}

module _ (t : Told) where
  pub moved_extra : (n : ℕ) (o : Bool) (m : Move) → In m (moves t.edition agent_extra) → Back t (state agent_extra (suc n) o) m
  unfolding moves shared own valid write_value allowed
  moved_extra n o =
      let C = Back t (state agent_extra (suc n) o) in
      first_of C _ _ (row_alone t (resolvers n o) refl refl (λ at v ok. first (shows (coded (textual ok)))))
      (first_of C _ _ (row_alone t (resolvers n o) refl refl (λ at v ok. other (first (shows (coded (block_in t one_byte v ok))))))
      (first_of C _ _ (row_alone t (resolvers n o) refl refl (λ at v ok. other (other (first (shows (coded (block_in t two_bytes v ok)))))))
      (first_of C _ _ (row_alone t (resolvers n o) refl refl (λ at v ok. other (other (other (shows (coded (block_in t four_bytes v ok))))))) (no_more C))))

  -- what the rooms behind an agent's name share: what is left there begins with what is left of them
  module _ (r : Room) (n : ℕ) (o : Bool) (same : behind r (suc n) o ≡ go agent_ends (state after_resolvers (suc n) o)) where
    -- an extra: its key, its value, and what is left behind it
    extra_back : ((at : ℕ) (a : List ℕ) (ts : Trees) → Extras t (suc n) at a ts → left t r (suc n) at a ts) → Back t (state r (suc n) o) (extra_move t.edition agent_extra)
    unfolding valid write_value allowed
    extra_back wider =
        let m = extra_move t.edition agent_extra in
        row_beside t (state after_resolvers (suc n) o) (extra n o) refl refl refl refl (sym same)
        (λ at v ok deep b c us vs y z. wider at _ _ (again (standing m v) b c (tree extra_key (suc n) (at + start_in m) v us end) vs (agent_extra_lem t (suc n) at _ _ (holds (extra_value t.edition agent_extra v ok) y)) z))

    closing_back : ((at : ℕ) (a : List ℕ) (ts : Trees) → Extras t (suc n) at a ts → left t r (suc n) at a ts) → Back t (state r (suc n) o) (pass 0x01 ▸ agent_ends)
    closing_back wider = pass_alone t (agent_ends_lem n o) refl same (λ at. wider at _ _ (many.none then byte.it))

    resolvers_back : ((at : ℕ) (a : List ℕ) (ts : Trees) → FromResolvers t (suc n) at a ts → left t r (suc n) at a ts) → Back t (state r (suc n) o) (on 0x03 ▸ resolvers_open ▸ Form.opens ▸ deeper agent_list)
    unfolding valid write_value allowed
    resolvers_back wider =
        row_beside t (state after_resolvers (suc n) o) (list (suc n) o (deep_list n o)) refl refl refl refl (sym same)
        (λ at v ok deep b c us vs y z. wider at _ _ (taken (0x03 ∷ []) b c (tree resolvers_open (suc n) (at + 0) v us end) vs (opened_as v ok y) z))

  pub moved_resolvers : (n : ℕ) (o : Bool) (m : Move) → In m (moves t.edition after_resolvers) → Back t (state after_resolvers (suc n) o) m
  unfolding moves shared own
  moved_resolvers n o =
      let C = Back t (state after_resolvers (suc n) o) in
      first_of C _ _ (closing_back after_resolvers n o refl (λ at a ts x. x)) (first_of C _ _ (extra_back after_resolvers n o refl (λ at a ts x. x)) (no_more C))

  pub moved_addresses : (n : ℕ) (o : Bool) (m : Move) → In m (moves t.edition after_addresses) → Back t (state after_addresses (suc n) o) m
  unfolding moves shared own
  moved_addresses n o =
      let C = Back t (state after_addresses (suc n) o) in
      first_of C _ _ (resolvers_back after_addresses n o refl (λ at a ts x. x))
      (first_of C _ _ (closing_back after_addresses n o refl (λ at a ts x. skip a ts x)) (first_of C _ _ (extra_back after_addresses n o refl (λ at a ts x. skip a ts x)) (no_more C)))

  addresses_back : (n : ℕ) (o : Bool) → Back t (state after_name (suc n) o) (on 0x02 ▸ addresses_open ▸ Form.opens ▸ stay address_texts)
  unfolding valid write_value allowed
  addresses_back n o =
      row_beside t (state after_addresses (suc n) o) (texts n o) refl refl refl refl refl (λ at v ok deep b c us vs y z. taken (0x02 ∷ []) b c (tree addresses_open (suc n) (at + 0) v us end) vs (opened_as v ok y) z)

  pub moved_name : (n : ℕ) (o : Bool) (m : Move) → In m (moves t.edition after_name) → Back t (state after_name (suc n) o) m
  unfolding moves shared own
  moved_name n o =
      let C = Back t (state after_name (suc n) o) in
      first_of C _ _ (addresses_back n o)
      (first_of C _ _ (resolvers_back after_name n o refl (λ at a ts x. skip a ts x))
      (first_of C _ _ (closing_back after_name n o refl (λ at a ts x. skip a ts (skip a ts x))) (first_of C _ _ (extra_back after_name n o refl (λ at a ts x. skip a ts (skip a ts x))) (no_more C))))

  pub moved_texts : (n : ℕ) (o : Bool) (m : Move) → In m (moves t.edition address_texts) → Back t (state address_texts (suc n) o) m
  unfolding moves shared own valid write_value allowed
  moved_texts n o =
      let C = Back t (state address_texts (suc n) o) in
      first_of C _ _ (pass_alone t (addresses n o) refl refl (λ at. many.none then byte.it))
      (first_of C _ _ (row_before t (texts n o) refl refl refl (λ at v ok b us y. one_again (at + length (v ++ (0 ∷ []))) (v ++ (0 ∷ [])) b (tree address (suc n) (at + 0) v end end) us (shows (textual ok)) refl y)) (no_more C))

  -- an agent of a level that there is
  agent_made : (n at : ℕ) (a : List ℕ) (ts : Trees) → n ≤ level_most → node agent_name n (0x02 ⊳ AgentName) (FromAddresses t n) at a ts → Agent t n at a ts
  agent_made n at a ts few x =
      let q : suc (9 - suc n) ≡ 9 - n = omega arith in
      let x' : AgentIdentifier t (suc (9 - suc n)) n at a ts = x in
      subst (λ (l : ℕ). AgentIdentifier t l n at a ts) q x'

  pub moved_list : (n : ℕ) (o : Bool) → o && eqb (suc n) 1 ≡ false → (m : Move) → In m (moves t.edition agent_list) → Back t (state agent_list (suc n) o) m
  unfolding moves shared own valid write_value allowed
  moved_list n o many-agents =
      let st = state agent_list (suc n) o in
      let C = Back t st in
      let leads : go agent_ends (state after_resolvers (suc n) o) ≡ st = rw many-agents refl in
      first_of C _ _ (row_beside t st (name n o) refl refl refl leads refl
      (λ at v ok deep b c us vs y z. again (0x02 ∷ (v ++ (0 ∷ []))) b c (tree agent_name (suc n) (at + 1) v us end) vs (agent_made (suc n) at _ _ (deep refl) (holds (coded (textual ok)) y)) z))
      (first_of C _ _ (pass_alone t (list_ends_lem n o) refl refl (λ at. many.none then byte.it)) (no_more C))

  pub moved_one : (n : ℕ) (o : Bool) (m : Move) → In m (moves t.edition one_agent) → Back t (state one_agent (suc n) o) m
  unfolding moves shared own valid write_value allowed
  moved_one n o =
      let C = Back t (state one_agent (suc n) o) in
      first_of C _ _ (row_around t (name n o) refl refl refl (λ at v ok deep b us y. agent_made (suc n) at _ _ (deep refl) (holds (coded (textual ok)) y))) (no_more C)
