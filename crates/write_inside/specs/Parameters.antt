-- What the stages of a parameter promise.
use Rattle.std.specs.Prelude.{ℕ, ◌+◌, ◌≤◌, ◌<◌, List, [], ◌∷◌, Bool, true, false, ◌≡◌, eqb, Option, None, Some, Result, Ok, Err}
use Rattle.meaning.specs.Basics.{pick}
use Rattle.meaning.specs.Kinds.{standard_representation, own_representation, to_opens, from_opens, receiver_opens, encrypted_opens}
use Rattle.meaning.specs.Editions.{outer, encrypted_texts, parameters, agent_list, one_agent, Next, inner, inner_one, opens, Move, moves, closing, on◌▸◌▸◌▸◌}
use Rattle.meaning.specs.Writing.{Cell, cell, broken, way_to}
use Rattle.meaning.specs.Told.{Edition, B, D}
use Rattle.write_rows.specs.Bodies.{halt}
use Rattle.laws_steps.specs.Rows.{cells_at}
use Rattle.write_rows.specs.Rooms.{of_kind, NotAmong}
use Rattle.write_rows.specs.Stages.{body_at, Onward, at_parameters}
use Rattle.write_rows.specs.declared.advance.Onto.{Onto}
use Rattle.write_rows.specs.declared.advance.Misfit.{Misfit}
use Rattle.write_rows.specs.declared.lent.Table.{Table}

abbrev pub after_one : ℕ → Option ℕ → Option Onto
after_one i (Some p) = Some (record { row = i + 1; at = p })
after_one i None = None

abbrev pub after_advance : Result Onto Misfit → Result (Option Onto) Misfit
after_advance (Ok onto) = Ok (Some onto)
after_advance (Err misfit) = Err misfit

-- the only move of its kind among the parameters
abbrev pub InParameters : Edition → Move → Type 0
InParameters edition m = of_kind m.kind (moves edition parameters) ≡ m ∷ []

abbrev pub agents_next : Bool → Next
agents_next true = inner_one one_agent
agents_next false = inner agent_list

-- "02 `to`, agent list; 03 `from`, one agent; .. 09 intended receiver, agent list"
abbrev pub Names : ℕ → Type 0
Names k = (to_opens ≤ k) × (k ≤ receiver_opens)

abbrev pub naming_code : ℕ → ℕ
naming_code k = pick (eqb k to_opens) 0x02 (pick (eqb k from_opens) 0x03 0x09)

abbrev pub naming_move : ℕ → Move
naming_move k = on naming_code k ▸ k ▸ opens ▸ agents_next (eqb k from_opens)

-- "08 encrypted .. (B only)"
abbrev pub encrypted_in : Edition → List Move
encrypted_in B = on 0x08 ▸ encrypted_opens ▸ opens ▸ outer encrypted_texts ∷ []
encrypted_in D = []

-- a parameter is laid; or the row ahead has no move among these; or a row fits nowhere
abbrev pub ParameterIs : Edition → List Move → List ℕ → List ℕ → ℕ → List ℕ → ℕ → Result (Option Onto) Misfit → List ℕ → Type 0
ParameterIs edition l pool rows i before at (Ok (Some onto)) after = Onward edition pool rows i at_parameters onto.row at_parameters before at after onto.at × (i < onto.row)
ParameterIs edition l pool rows i before at (Ok None) after = (after ≡ before) × NotAmong l 0 (cells_at pool rows i)
ParameterIs edition l pool rows i before at (Err misfit) after = body_at edition pool rows i at_parameters ≡ halt misfit.row

-- "Representation: 10, 11 or 12, or 00 and a text"
abbrev pub Represents : ℕ → Type 0
Represents k = (standard_representation ≤ k) × (k ≤ own_representation)

-- a row of this kind is ahead
abbrev pub KindAhead : ℕ → List Cell → Type 0
KindAhead k [] = ⊥
KindAhead k (broken ∷ cs) = ⊥
KindAhead k (cell row ∷ cs) = row.kind ≡ k

-- the row ahead, if there is one, is led on by the closing alone
abbrev pub ClosingAhead : List Cell → Type 0
ClosingAhead [] = Unit {0}
ClosingAhead (broken ∷ cs) = Unit {0}
ClosingAhead (cell row ∷ cs) = way_to row.kind ≡ closing

abbrev pub FoundIs : Edition → List ℕ → List ℕ → ℕ → List ℕ → ℕ → Result (Option Onto) Misfit → List ℕ → Type 0
FoundIs edition pool rows i before at (Ok (Some onto)) after = Onward edition pool rows i at_parameters onto.row at_parameters before at after onto.at × (i < onto.row)
FoundIs edition pool rows i before at (Ok None) after = (after ≡ before) × NotAmong (moves edition parameters) 0 (cells_at pool rows i) × ClosingAhead (cells_at pool rows i)
FoundIs edition pool rows i before at (Err misfit) after = body_at edition pool rows i at_parameters ≡ halt misfit.row

-- The same of a table that is lent

abbrev pub ParameterAt : Edition → List Move → Table → ℕ → List ℕ → ℕ → Result (Option Onto) Misfit → List ℕ → Type 0
ParameterAt edition l table i before at r after = ParameterIs edition l table.pool.now table.rows.now i before at r after

abbrev pub FoundAt : Edition → Table → ℕ → List ℕ → ℕ → Result (Option Onto) Misfit → List ℕ → Type 0
FoundAt edition table i before at r after = FoundIs edition table.pool.now table.rows.now i before at r after
