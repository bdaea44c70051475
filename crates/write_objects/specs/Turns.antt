-- What the stages of agents promise: turns of a list, each an agent or the end of one.
use Rattle.std.specs.Prelude.{ℕ, ◌+◌, ◌*◌, ◌-◌, ◌≤◌, List, [], ◌∷◌, Bool, false, ◌&&◌, ◌≡◌, eqb, Result, Ok, Err}
use Rattle.meaning.specs.Basics.{pick}
use Rattle.meaning.specs.Bytes.{line}
use Rattle.meaning.specs.Kinds.{agent_name}
use Rattle.meaning.specs.Editions.{State, state, parameters, agent_list, one_agent, after_name, stay, text, Move, on◌▸◌▸◌▸◌}
use Rattle.meaning.specs.Told.{Edition}
use Rattle.meaning.specs.Memory.{room_of}
use Rattle.meaning.specs.Reading.{level_most}
use Rattle.write_rows.specs.Laying.{Layable}
use Rattle.write_rows.specs.Bodies.{halt}
use Rattle.write_rows.specs.Stages.{body_at, Onward}
use Rattle.write_objects.specs.declared.agents.ListTurn.{ListTurn}
use Rattle.write_objects.specs.declared.agents.ListTurn.TheVariants.{On, Done}
use Rattle.write_rows.specs.declared.advance.Misfit.{Misfit}
use Rattle.write_rows.specs.declared.lent.Table.{Table}

abbrev pub agent_names : List Move
agent_names = on 0x02 ▸ agent_name ▸ text line ▸ stay after_name ∷ []

-- where an agent begins: the one of `from` stands in no list
abbrev pub agents_at : ℕ → Bool → State
agents_at level single = state (pick (single && eqb level 1) one_agent agent_list) level single

-- a turn takes a row, or goes up a level
abbrev pub rows_and_levels : List ℕ → ℕ → ℕ → ℕ
rows_and_levels rows i level = 2 * (room_of rows - i) + level

pub record ListTurnRequires (rows : List ℕ) (i level : ℕ) (part : List ℕ) (at : ℕ) : Type 0 where
  pub inside : i ≤ room_of rows
  pub least : 1 ≤ level
  pub most : level ≤ level_most + 1
  pub layable : Layable part at

abbrev pub ListTurnIs : Edition → Bool → List ℕ → List ℕ → ℕ → State → ℕ → List ℕ → ℕ → Result ListTurn Misfit → List ℕ → Type 0
ListTurnIs edition single pool rows i st left before at (Ok (On onto level)) after =
    Onward edition pool rows i st onto.row (agents_at level single) before at after onto.at × (1 ≤ level) × (level ≤ level_most + 1) × (rows_and_levels rows onto.row level ≤ left)
ListTurnIs edition single pool rows i st left before at (Ok (Done onto)) after = Onward edition pool rows i st onto.row (state parameters 0 false) before at after onto.at
ListTurnIs edition single pool rows i st left before at (Err misfit) after = body_at edition pool rows i st ≡ halt misfit.row

-- The same of a table that is lent

abbrev pub ListTurnReady : Table → ℕ → ℕ → List ℕ → ℕ → Type 0
ListTurnReady table i level part at = ListTurnRequires table.rows.now i level part at

abbrev pub ListTurnAt : Edition → Bool → Table → ℕ → State → ℕ → List ℕ → ℕ → Result ListTurn Misfit → List ℕ → Type 0
ListTurnAt edition single table i st left before at r after = ListTurnIs edition single table.pool.now table.rows.now i st left before at r after
