-- From every room of each edition a row of every kind: where it stands, by document 01's grammar, and where it is the writer's 15. What ends before it closes.
use Rattle.std.specs.Prelude.{ℕ, ◌+◌, ◌*◌, List, [], ◌∷◌, ◌++◌, map, Bool, true, false, ◌&&◌}
use Rattle.meaning.specs.Basics.{pick, every}
use Rattle.meaning.specs.Told.{Edition, B, D}
use Rattle.meaning.specs.Editions.{Room, received_begins, head_representation, head_date, parameters, own_text, parameter_representation, behaviour_value, encrypted_texts, received_date, after_date, after_from, after_id, after_via, received_extra, agent_list, one_agent, after_name, address_texts, after_addresses, after_resolvers, agent_extra, closed, State, state}
use Rattle.meaning.specs.Writing.{Fit, unfit, fits, fit_row}
use Rattle.meaning.specs.Cases.{up_from, among, a_date}

-- a kind at a level, as one number: 115 is kind 15 at level 1
abbrev at : ℕ → List ℕ → List ℕ
at level kinds = map (λ k. 100 * level + k) kinds

-- a state, and the rows that fit behind it in each edition
record Expected : Type 0 where
  pub from : State
  pub in_b : List ℕ
  pub in_d : List ℕ

abbrev expected : Room → ℕ → Bool → List ℕ → List ℕ → Expected
expected r n single b d = record { from = state r n single; in_b = b; in_d = d }

abbrev in_both : Room → ℕ → Bool → List ℕ → Expected
in_both r n single rows = expected r n single rows rows

-- what opens or holds a parameter; 25 is B's
abbrev parameters_d : List ℕ
parameters_d = 3 ∷ 4 ∷ 8 ∷ 12 ∷ 13 ∷ 14 ∷ 22 ∷ 23 ∷ 24 ∷ 27 ∷ 29 ∷ []

abbrev parameters_b : List ℕ
parameters_b = 25 ∷ parameters_d

-- these rows, or a parameter behind what ends here
abbrev or_parameters : Room → ℕ → Bool → List ℕ → List ℕ → Expected
or_parameters r n single b d = expected r n single (b ++ parameters_b) (d ++ parameters_d)

abbrev or_parameters_both : Room → ℕ → Bool → List ℕ → Expected
or_parameters_both r n single rows = or_parameters r n single rows rows

abbrev rooms : List Expected
rooms =
    in_both head_representation 0 false (3 ∷ 4 ∷ []) ∷
    expected head_date 0 false (5 ∷ []) (5 ∷ 6 ∷ 7 ∷ []) ∷
    or_parameters_both parameters 0 false [] ∷
    in_both own_text 0 false (28 ∷ []) ∷
    in_both parameter_representation 0 false (3 ∷ 4 ∷ []) ∷
    in_both behaviour_value 0 false (20 ∷ 21 ∷ []) ∷
    or_parameters_both encrypted_texts 0 false (26 ∷ []) ∷
    -- received objects: in D extras behind the date and each text
    in_both received_begins 0 false (8 ∷ []) ∷
    expected received_date 1 false (at 1 (5 ∷ [])) (at 1 (5 ∷ 6 ∷ 7 ∷ [])) ∷
    or_parameters after_date 1 false (at 1 (9 ∷ 10 ∷ 11 ∷ [])) (at 1 (9 ∷ 10 ∷ 11 ∷ 19 ∷ [])) ∷
    or_parameters after_from 1 false (at 1 (10 ∷ 11 ∷ [])) (at 1 (10 ∷ 11 ∷ 19 ∷ [])) ∷
    or_parameters after_id 1 false (at 1 (11 ∷ [])) (at 1 (11 ∷ 19 ∷ [])) ∷
    or_parameters after_via 1 false [] (at 1 (19 ∷ [])) ∷
    in_both received_extra 1 false (at 1 (20 ∷ 21 ∷ [])) ∷
    -- agents in a list: behind one comes the next
    or_parameters_both agent_list 1 false (at 1 (15 ∷ [])) ∷
    or_parameters_both after_name 1 false (at 1 (16 ∷ 18 ∷ 19 ∷ 15 ∷ [])) ∷
    or_parameters_both address_texts 1 false (at 1 (17 ∷ 18 ∷ 19 ∷ 15 ∷ [])) ∷
    or_parameters_both after_addresses 1 false (at 1 (18 ∷ 19 ∷ 15 ∷ [])) ∷
    or_parameters_both after_resolvers 1 false (at 1 (19 ∷ 15 ∷ [])) ∷
    in_both agent_extra 1 false (at 1 (20 ∷ 21 ∷ [])) ∷
    -- the one agent of `from`: behind it comes none
    in_both one_agent 1 true (at 1 (15 ∷ [])) ∷
    or_parameters_both after_name 1 true (at 1 (16 ∷ 18 ∷ 19 ∷ [])) ∷
    or_parameters_both address_texts 1 true (at 1 (17 ∷ 18 ∷ 19 ∷ [])) ∷
    or_parameters_both after_addresses 1 true (at 1 (18 ∷ 19 ∷ [])) ∷
    or_parameters_both after_resolvers 1 true (at 1 (19 ∷ [])) ∷
    -- resolvers of level 2: behind their list stand the extras of the agent above, and where it is in a list the next agent
    or_parameters_both agent_list 2 false (at 2 (15 ∷ []) ++ at 1 (19 ∷ 15 ∷ [])) ∷
    or_parameters_both agent_list 2 true (at 2 (15 ∷ []) ++ at 1 (19 ∷ [])) ∷
    or_parameters_both after_name 2 false (at 2 (16 ∷ 18 ∷ 19 ∷ 15 ∷ []) ++ at 1 (19 ∷ 15 ∷ [])) ∷
    or_parameters_both address_texts 2 true (at 2 (17 ∷ 18 ∷ 19 ∷ 15 ∷ []) ++ at 1 (19 ∷ [])) ∷
    -- "Level 9 is 15"; the list may stand there, empty
    or_parameters_both agent_list 9 true (815 ∷ 615 ∷ 515 ∷ 415 ∷ 315 ∷ 215 ∷ 719 ∷ 819 ∷ 619 ∷ 519 ∷ 419 ∷ 319 ∷ 219 ∷ 119 ∷ 715 ∷ []) ∷
    in_both closed 0 false [] ∷ []

-- bytes that a row of the kind may view
abbrev view_of : ℕ → List ℕ
view_of kind =
    pick (among kind (12 ∷ 13 ∷ 14 ∷ 16 ∷ 18 ∷ 25 ∷ 29 ∷ [])) []
    (pick (among kind (5 ∷ 6 ∷ 7 ∷ [])) a_date
    (pick (among kind (3 ∷ [])) (0x10 ∷ [])
    (pick (among kind (23 ∷ [])) (0x80 ∷ []) (0x61 ∷ []))))

abbrev is_fit : Fit → Bool
is_fit unfit = false
is_fit (fits st bs) = true

abbrev same : Bool → Bool → Bool
same true b = b
same false true = false
same false false = true

abbrev fits_in : Edition → State → List ℕ → ℕ → ℕ → Bool
fits_in e st rows level kind = same (is_fit (fit_row e st (record { kind = kind; level = level; view = view_of kind }))) (among (100 * level + kind) rows)

abbrev room_is : Edition → State → List ℕ → Bool
room_is e st rows = every (λ level. every (fits_in e st rows level) (up_from 0 32)) (0 ∷ 1 ∷ 2 ∷ 3 ∷ 8 ∷ 9 ∷ [])

abbrev editions_are : Expected → Bool
editions_are x = room_is B x.from x.in_b && room_is D x.from x.in_d

abbrev pub fitting : Bool
fitting = every editions_are rooms
