-- A move at the front of a chain, in the rooms of representations, values, texts and received objects.
use Rattle.std.specs.Prelude.{ℕ, ◌+◌, List, [], ◌∷◌, ◌++◌, false, ◌≡◌, T}
use Rattle.std.proofs.Math.Path.{refl}
use Rattle.std.proofs.Math.ListN.{length}
use Rattle.meaning.specs.Basics.{In}
use Rattle.meaning.specs.Told.{D, Told}
use Rattle.meaning.specs.Bytes.{line, text_ok, one_byte, two_bytes, four_bytes}
use Rattle.meaning.specs.Kinds.{extra_key, encrypted_item}
use Rattle.meaning.specs.Editions.{received_begins, head_representation, own_text, parameter_representation, behaviour_value, encrypted_texts, after_date, after_from, after_id, after_via, received_extra, state, Move, shared, own, moves}
use Rattle.meaning.specs.Writing.{valid, write_value}
use Rattle.meaning.specs.Grammar.{standing, start_in}
use Rattle.papers.specs.Notation.{Trees, end, tree, ◌⨾◌, ◌then◌, first, other, present, many, byte, only, met, shows, holds, coded}
use Rattle.laws_steps.specs.Values.{allowed}
use Rattle.papers.specs.Papers.{Any, UserDefinedParameter}
use Rattle.papers.proofs.Texts.{textual, block_in}
use Rattle.papers.proofs.Pieces.{skip, one_again, again, first_of, no_more, agent_extra_lem, extra_move, extra_value, received_extras_lem, itself_as}
use Rattle.papers.proofs.Chains.{Back, row_alone, row_before, row_around, row_beside, pass_alone, dated, parameter, encrypted, received_date_lem, from_over, id_over, via_over, received_extra_lem}

module _ (t : Told) where
  -- a representation, or an any-value: each move is all of it
  pub moved_representation : (m : Move) → In m (moves t.edition head_representation) → Back t (state head_representation 0 false) m
  unfolding moves shared own valid write_value allowed
  moved_representation =
      let C = Back t (state head_representation 0 false) in
      first_of C _ _ (row_alone t dated refl refl (λ at v ok. other (first (itself_as 0x10 v ok))))
      (first_of C _ _ (row_alone t dated refl refl (λ at v ok. other (other (first (itself_as 0x11 v ok)))))
      (first_of C _ _ (row_alone t dated refl refl (λ at v ok. other (other (other (itself_as 0x12 v ok)))))
      (first_of C _ _ (row_alone t dated refl refl (λ at v ok. first (shows (coded (textual ok))))) (no_more C))))

  pub moved_own_representation : (m : Move) → In m (moves t.edition parameter_representation) → Back t (state parameter_representation 0 false) m
  unfolding moves shared own valid write_value allowed
  moved_own_representation =
      let C = Back t (state parameter_representation 0 false) in
      first_of C _ _ (row_alone t parameter refl refl (λ at v ok. other (first (itself_as 0x10 v ok))))
      (first_of C _ _ (row_alone t parameter refl refl (λ at v ok. other (other (first (itself_as 0x11 v ok)))))
      (first_of C _ _ (row_alone t parameter refl refl (λ at v ok. other (other (other (itself_as 0x12 v ok)))))
      (first_of C _ _ (row_alone t parameter refl refl (λ at v ok. first (shows (coded (textual ok))))) (no_more C))))

  pub moved_behaviour : (m : Move) → In m (moves t.edition behaviour_value) → Back t (state behaviour_value 0 false) m
  unfolding moves shared own valid write_value allowed
  moved_behaviour =
      let C = Back t (state behaviour_value 0 false) in
      first_of C _ _ (row_alone t parameter refl refl (λ at v ok. first (shows (coded (textual ok)))))
      (first_of C _ _ (row_alone t parameter refl refl (λ at v ok. other (first (shows (coded (block_in t one_byte v ok))))))
      (first_of C _ _ (row_alone t parameter refl refl (λ at v ok. other (other (first (shows (coded (block_in t two_bytes v ok)))))))
      (first_of C _ _ (row_alone t parameter refl refl (λ at v ok. other (other (other (shows (coded (block_in t four_bytes v ok))))))) (no_more C))))

  pub moved_received_extra : (m : Move) → In m (moves t.edition received_extra) → Back t (state received_extra 1 false) m
  unfolding moves shared own valid write_value allowed
  moved_received_extra =
      let C = Back t (state received_extra 1 false) in
      first_of C _ _ (row_alone t via_over refl refl (λ at v ok. first (shows (coded (textual ok)))))
      (first_of C _ _ (row_alone t via_over refl refl (λ at v ok. other (first (shows (coded (block_in t one_byte v ok))))))
      (first_of C _ _ (row_alone t via_over refl refl (λ at v ok. other (other (first (shows (coded (block_in t two_bytes v ok)))))))
      (first_of C _ _ (row_alone t via_over refl refl (λ at v ok. other (other (other (shows (coded (block_in t four_bytes v ok))))))) (no_more C))))

  -- texts
  pub moved_own_text : (m : Move) → In m (moves t.edition own_text) → Back t (state own_text 0 false) m
  unfolding moves shared own valid write_value allowed
  moved_own_text = let C = Back t (state own_text 0 false) in first_of C _ _ (row_alone t parameter refl refl (λ at v ok. shows (textual ok))) (no_more C)

  pub moved_encrypted : (m : Move) → In m (moves t.edition encrypted_texts) → Back t (state encrypted_texts 0 false) m
  unfolding moves shared own valid write_value allowed
  moved_encrypted =
      let C = Back t (state encrypted_texts 0 false) in
      first_of C _ _ (pass_alone t parameter refl refl (λ at. many.none then byte.it))
      (first_of C _ _ (row_before t encrypted refl refl refl (λ at v ok b us y. one_again (at + length (v ++ (0 ∷ []))) (v ++ (0 ∷ [])) b (tree encrypted_item 0 (at + 0) v end end) us (shows (textual ok)) refl y)) (no_more C))

  -- a received object, from its front
  pub moved_begins : (m : Move) → In m (moves t.edition received_begins) → Back t (state received_begins 0 false) m
  unfolding moves shared own valid write_value allowed
  moved_begins = let C = Back t (state received_begins 0 false) in first_of C _ _ (row_around t received_date_lem refl refl refl (λ at v ok deep b us y. holds (textual ok) y)) (no_more C)

  -- an extra before what is left behind via
  received_again : (e : t.edition ≡ D) (at : ℕ) (v : List ℕ) → T (text_ok line v) → (b c : List ℕ) (us vs : Trees) → Any t 1 (at + length (standing (extra_move t.edition received_extra) v)) b us
      → (many (only t D (UserDefinedParameter t 1)) ⨾ byte 0x01) (at + length (standing (extra_move t.edition received_extra) v) + length b) c vs
      → (many (only t D (UserDefinedParameter t 1)) ⨾ byte 0x01) at (standing (extra_move t.edition received_extra) v ++ (b ++ c)) (tree extra_key 1 (at + start_in (extra_move t.edition received_extra)) v us vs)
  received_again e at v ok b c us vs y z =
      let m = extra_move t.edition received_extra in
      again (standing m v) b c (tree extra_key 1 (at + start_in m) v us end) vs (met e (agent_extra_lem t 1 at _ _ (holds (extra_value t.edition received_extra v ok) y))) z

  pub moved_via_over : (m : Move) → In m (moves t.edition after_via) → Back t (state after_via 1 false) m
  unfolding moves shared own valid write_value allowed
  moved_via_over =
      let C = Back t (state after_via 1 false) in
      first_of C _ _ (pass_alone t parameter refl refl (λ at. many.none then byte.it))
      (received_extras_lem C t.edition (λ e. row_beside t (state after_via 1 false) received_extra_lem refl refl refl refl refl (λ at v ok deep b c us vs y z. received_again e at v ok b c us vs y z)))

  pub moved_id_over : (m : Move) → In m (moves t.edition after_id) → Back t (state after_id 1 false) m
  unfolding moves shared own valid write_value allowed
  moved_id_over =
      let C = Back t (state after_id 1 false) in
      first_of C _ _ (row_before t via_over refl refl refl (λ at v ok b us y. present (shows (coded (textual ok))) then y))
      (first_of C _ _ (pass_alone t parameter refl refl (λ at. skip _ _ (many.none then byte.it)))
      (received_extras_lem C t.edition (λ e. row_beside t (state after_via 1 false) received_extra_lem refl refl refl refl refl (λ at v ok deep b c us vs y z. skip _ _ (received_again e at v ok b c us vs y z)))))

  pub moved_from_over : (m : Move) → In m (moves t.edition after_from) → Back t (state after_from 1 false) m
  unfolding moves shared own valid write_value allowed
  moved_from_over =
      let C = Back t (state after_from 1 false) in
      first_of C _ _ (row_before t id_over refl refl refl (λ at v ok b us y. present (shows (coded (textual ok))) then y))
      (first_of C _ _ (row_before t via_over refl refl refl (λ at v ok b us y. skip _ _ (present (shows (coded (textual ok))) then y)))
      (first_of C _ _ (pass_alone t parameter refl refl (λ at. skip _ _ (skip _ _ (many.none then byte.it))))
      (received_extras_lem C t.edition (λ e. row_beside t (state after_via 1 false) received_extra_lem refl refl refl refl refl (λ at v ok deep b c us vs y z. skip _ _ (skip _ _ (received_again e at v ok b c us vs y z)))))))

  pub moved_date_over : (m : Move) → In m (moves t.edition after_date) → Back t (state after_date 1 false) m
  unfolding moves shared own valid write_value allowed
  moved_date_over =
      let C = Back t (state after_date 1 false) in
      first_of C _ _ (row_before t from_over refl refl refl (λ at v ok b us y. present (shows (coded (textual ok))) then y))
      (first_of C _ _ (row_before t id_over refl refl refl (λ at v ok b us y. skip _ _ (present (shows (coded (textual ok))) then y)))
      (first_of C _ _ (row_before t via_over refl refl refl (λ at v ok b us y. skip _ _ (skip _ _ (present (shows (coded (textual ok))) then y))))
      (first_of C _ _ (pass_alone t parameter refl refl (λ at. skip _ _ (skip _ _ (skip _ _ (many.none then byte.it)))))
      (received_extras_lem C t.edition (λ e. row_beside t (state after_via 1 false) received_extra_lem refl refl refl refl refl (λ at v ok deep b c us vs y z. skip _ _ (skip _ _ (skip _ _ (received_again e at v ok b c us vs y z)))))))))
