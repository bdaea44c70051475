-- A move at the front of a chain, in the rooms of dates and parameters; and so a run to an envelope's end is a chain of the papers' rules.
use Rattle.std.specs.Prelude.{ℕ, ◌+◌, List, [], ◌∷◌, ◌++◌, true, ◌≡◌}
use Rattle.std.proofs.Math.Bool.{false}
use Rattle.std.proofs.Math.Path.{refl}
use Rattle.std.proofs.Math.ListN.{length}
use Rattle.meaning.specs.Basics.{In}
use Rattle.meaning.specs.Told.{Told}
use Rattle.meaning.specs.Bytes.{absolute, relative}
use Rattle.meaning.specs.Kinds.{own_key, to_opens, from_opens, receiver_opens, comments, payload_length, payload_encoding, encrypted_opens, behaviour_opens}
use Rattle.meaning.specs.Editions.{head_date, parameters, received_date, after_date, closed, State, state, outer, stay, Move, shared, own, moves}
use Rattle.meaning.specs.Reading.{is_closed}
use Rattle.meaning.specs.Headers.{Placed}
use Rattle.meaning.specs.Writing.{valid, write_value}
use Rattle.papers.specs.Notation.{end, tree, ◌then◌, first, other, many, byte, met, shows, holds, coded}
use Rattle.laws_steps.specs.Values.{allowed}
use Rattle.papers.proofs.Texts.{textual, number_in}
use Rattle.papers.proofs.Dates.{plain_coded, lettered_coded}
use Rattle.papers.proofs.Pieces.{one_again, again, first_of, no_more, own_parameters_lem, own_dates_lem, opened_as}
use Rattle.papers.proofs.Chains.{Chain, over, Fine, Back, row_alone, row_before, row_beside, pass_alone, pass_before, list, one, name, texts, addresses, resolvers, extra, begins, representation, dated, parameter, own_text_lem, own_representation_lem, behaviour, encrypted, received_date_lem, date_over, from_over, id_over, via_over, received_extra_lem, shut}
use Rattle.papers.proofs.AgentCuts.{moved_extra, moved_resolvers, moved_addresses, moved_name, moved_texts, moved_list, moved_one}
use Rattle.papers.proofs.ObjectCuts.{moved_representation, moved_own_representation, moved_behaviour, moved_received_extra, moved_own_text, moved_encrypted, moved_begins, moved_date_over, moved_from_over, moved_id_over, moved_via_over}
use Rattle.papers.specs.Moves.{Steps, still, row, silent}

module _ (t : Told) where
  -- a date's moves, and what is made of each
  pub moved_dated : (m : Move) → In m (moves t.edition head_date) → Back t (state head_date 0 false) m
  unfolding moves shared own valid write_value allowed
  moved_dated =
      let C = Back t (state head_date 0 false) in
      first_of C _ _ (row_alone t parameter refl refl (λ at v ok. first (shows (coded (plain_coded absolute v ok)))))
      (own_dates_lem C t.edition (outer parameters)
      (λ e. row_alone t parameter refl refl (λ at v ok. other (first (met e (shows (coded (lettered_coded absolute v ok)))))))
      (λ e. row_alone t parameter refl refl (λ at v ok. other (other (first (met e (shows (coded (plain_coded relative v ok))))))))
      (λ e. row_alone t parameter refl refl (λ at v ok. other (other (other (first (met e (shows (coded (plain_coded relative v ok)))))))))
      (λ e. row_alone t parameter refl refl (λ at v ok. other (other (other (other (first (met e (shows (coded (lettered_coded absolute v ok))))))))))
      (λ e. row_alone t parameter refl refl (λ at v ok. other (other (other (other (other (first (met e (shows (coded (lettered_coded relative v ok)))))))))))
      (λ e. row_alone t parameter refl refl (λ at v ok. other (other (other (other (other (other (met e (shows (coded (lettered_coded relative v ok))))))))))))

  pub moved_received_date : (m : Move) → In m (moves t.edition received_date) → Back t (state received_date 1 false) m
  unfolding moves shared own valid write_value allowed
  moved_received_date =
      let C = Back t (state received_date 1 false) in
      first_of C _ _ (row_before t date_over refl refl refl (λ at v ok b us y. first (shows (coded (plain_coded absolute v ok))) then y))
      (own_dates_lem C t.edition (stay after_date)
      (λ e. row_before t date_over refl refl refl (λ at v ok b us y. other (first (met e (shows (coded (lettered_coded absolute v ok))))) then y))
      (λ e. row_before t date_over refl refl refl (λ at v ok b us y. other (other (first (met e (shows (coded (plain_coded relative v ok)))))) then y))
      (λ e. row_before t date_over refl refl refl (λ at v ok b us y. other (other (other (first (met e (shows (coded (plain_coded relative v ok))))))) then y))
      (λ e. row_before t date_over refl refl refl (λ at v ok b us y. other (other (other (other (first (met e (shows (coded (lettered_coded absolute v ok)))))))) then y))
      (λ e. row_before t date_over refl refl refl (λ at v ok b us y. other (other (other (other (other (first (met e (shows (coded (lettered_coded relative v ok))))))))) then y))
      (λ e. row_before t date_over refl refl refl (λ at v ok b us y. other (other (other (other (other (other (met e (shows (coded (lettered_coded relative v ok))))))))) then y)))

  -- parameters, each with those after it
  moved_parameters : (m : Move) → In m (moves t.edition parameters) → Back t (state parameters 0 false) m
  unfolding moves shared own valid write_value allowed
  moved_parameters =
      let st = state parameters 0 false in
      let C = Back t st in
      first_of C _ _ (row_beside t st own_text_lem refl refl refl refl refl (λ at v ok deep b c us vs y z. again (0x00 ∷ (v ++ (0 ∷ []))) b c (tree own_key 0 (at + 1) v us end) vs (other (holds (coded (textual ok)) y)) z))
      (first_of C _ _ (row_beside t st (list 0 false refl) refl refl refl refl refl (λ at v ok deep b c us vs y z. again (0x02 ∷ []) b c (tree to_opens 0 (at + 0) v us end) vs (first (first (opened_as v ok y))) z))
      (first_of C _ _ (row_beside t st (one 0 true) refl refl refl refl refl (λ at v ok deep b c us vs y z. again (0x03 ∷ []) b c (tree from_opens 0 (at + 0) v us end) vs (first (other (first (opened_as v ok y)))) z))
      (first_of C _ _ (pass_before t st own_representation_lem refl refl refl refl refl (λ at b c us vs y z. again (0x04 ∷ []) b c us vs (first (other (other (first (byte.it then y))))) z))
      (first_of C _ _ (row_before t parameter refl refl refl
      (λ at v ok b us y. one_again (at + length (0x05 ∷ (v ++ (0 ∷ [])))) (0x05 ∷ (v ++ (0 ∷ []))) b (tree comments 0 (at + 1) v end end) us (first (other (other (other (first (shows (coded (textual ok)))))))) refl y))
      (first_of C _ _ (row_before t parameter refl refl refl
      (λ at v ok b us y. one_again (at + length (0x06 ∷ v)) (0x06 ∷ v) b (tree payload_length 0 (at + 1) v end end) us (first (other (other (other (other (first (shows (coded (number_in v ok))))))))) refl y))
      (first_of C _ _ (row_before t parameter refl refl refl
      (λ at v ok b us y. one_again (at + length (0x07 ∷ (v ++ (0 ∷ [])))) (0x07 ∷ (v ++ (0 ∷ []))) b (tree payload_encoding 0 (at + 1) v end end) us (first (other (other (other (other (other (first (shows (coded (textual ok)))))))))) refl y))
      (first_of C _ _ (row_beside t st (list 0 false refl) refl refl refl refl refl
      (λ at v ok deep b c us vs y z. again (0x09 ∷ []) b c (tree receiver_opens 0 (at + 0) v us end) vs (first (other (other (other (other (other (other (other (first (opened_as v ok y)))))))))) z))
      (first_of C _ _ (pass_before t st begins refl refl refl refl refl (λ at b c us vs y z. again (0x0a ∷ []) b c us vs (first (other (other (other (other (other (other (other (other (first (byte.it then y))))))))))) z))
      (first_of C _ _ (row_beside t st behaviour refl refl refl refl refl
      (λ at v ok deep b c us vs y z. again (0x0b ∷ []) b c (tree behaviour_opens 0 (at + 0) v us end) vs (first (other (other (other (other (other (other (other (other (other (opened_as v ok y))))))))))) z))
      (first_of C _ _ (pass_alone t shut refl refl (λ at. many.none then byte.it))
      (own_parameters_lem C t.edition (λ e. row_beside t st encrypted refl refl refl refl refl
      (λ at v ok deep b c us vs y z. again (0x08 ∷ []) b c (tree encrypted_opens 0 (at + 0) v us end) vs (first (other (other (other (other (other (other (first (met e (opened_as v ok y)))))))))) z)))))))))))))

  moved : {st : State} → Fine st → (m : Move) → In m (moves t.edition st.room) → Back t st m
  unfolding moves shared
  moved (list n o q) = moved_list t n o q
  moved (one n o) = moved_one t n o
  moved (name n o) = moved_name t n o
  moved (texts n o) = moved_texts t n o
  moved (addresses n o) = moved_addresses t n o
  moved (resolvers n o) = moved_resolvers t n o
  moved (extra n o) = moved_extra t n o
  moved begins = moved_begins t
  moved representation = moved_representation t
  moved dated = moved_dated
  moved parameter = moved_parameters
  moved own_text_lem = moved_own_text t
  moved own_representation_lem = moved_own_representation t
  moved behaviour = moved_behaviour t
  moved encrypted = moved_encrypted t
  moved received_date_lem = moved_received_date
  moved date_over = moved_date_over t
  moved from_over = moved_from_over t
  moved id_over = moved_id_over t
  moved via_over = moved_via_over t
  moved received_extra_lem = moved_received_extra t
  moved shut = no_more (Back t (state closed 0 false))

  -- (2) a run to an envelope's end is a chain of the papers' rules
  pub chained : {st last : State} {at : ℕ} {a : List ℕ} {rows : List Placed} → Fine st → is_closed last.room ≡ true → Steps t st at a rows last → Chain t st at a rows
  chained fine ends still = over ends
  chained fine ends (row {at} {bytes} {rows} m v i q ok deep s) = let b = moved fine m i in b.loud q at v bytes rows ok deep (chained b.fine ends s)
  chained fine ends (silent {at} {bytes} {rows} m i q s) = let b = moved fine m i in b.silent q at bytes rows (chained b.fine ends s)
