-- What a stage asks of the room where it stands: a row's move among those of the room, and how the room is closed.
use Rattle.std.specs.Prelude.{ℕ, List, [], ◌∷◌, Bool, false, ◌&&◌, not, ◌≡◌, refl, eqb}
use Rattle.meaning.specs.Basics.{pick}
use Rattle.meaning.specs.Bytes.{line}
use Rattle.meaning.specs.Kinds.{standard_representation, agent_name, extra_key}
use Rattle.meaning.specs.Told.{Edition, B, D}
use Rattle.meaning.specs.Editions.{State, state, Room, Next, stay, text, is_quiet, no_code, closing, Move, moves, representations, any_values, go, on◌▸◌▸◌▸◌, pass◌▸◌}
use Rattle.meaning.specs.Reading.{is_closed, too_deep, Row, Found, none, hit, find}
use Rattle.meaning.specs.Writing.{at_level, stands_for, is_pass, Cell, cell, broken}
use Rattle.date.specs.Dates.{dates_of}

-- the moves that have a row
abbrev pub rows_of : List Move → List Move
rows_of [] = []
rows_of (m ∷ l) = pick (is_quiet m.form) (rows_of l) (m ∷ rows_of l)

-- and those of a kind
abbrev pub of_kind : ℕ → List Move → List Move
of_kind k [] = []
of_kind k (m ∷ l) = pick (not (is_quiet m.form) && eqb m.kind k) (m ∷ of_kind k l) (of_kind k l)

-- "Representation: 10, 11 or 12"
abbrev pub standards : Next → List Move
standards n = of_kind standard_representation (representations n)

-- a row's own move among these, at a level
abbrev pub own_among : List Move → ℕ → Row → Found
own_among l level row = at_level (eqb row.level level) (find (stands_for row) l)

-- the row ahead, if there is one, has none
abbrev pub NotAmong : List Move → ℕ → List Cell → Type 0
NotAmong l level [] = Unit {0}
NotAmong l level (broken ∷ cs) = Unit {0}
NotAmong l level (cell row ∷ cs) = own_among l level row ≡ none

-- all of these lead on, and to the same
abbrev pub AllLead : List Move → Next → State → Type 0
AllLead [] n st = Unit {0}
AllLead (m ∷ l) n st = (m.next ≡ n) × (too_deep m st ≡ false) × AllLead l n st

-- the passes of a room, and whether it is the end
pub record Passes : Type 0 where
  pub represents : Found
  pub receives : Found
  pub closes : Found
  pub ended : Bool

abbrev pub passes_of : Edition → Room → Passes
passes_of e r = record { represents = find (is_pass 0x04) (moves e r); receives = find (is_pass 0x0a) (moves e r); closes = find (is_pass closing) (moves e r); ended = is_closed r }

-- a room whose only pass, if it has one, is a closing
abbrev pub Closes : Edition → Room → Found → Type 0
Closes e r o = passes_of e r ≡ record { represents = none; receives = none; closes = o; ended = false }

-- a room that must have one of these rows, which all lead the same way
pub record Needs (e : Edition) (st : State) (l : List Move) (n : Next) : Type 0 where
  pub rows : rows_of (moves e st.room) ≡ l
  pub lead : AllLead l n st
  pub lost : Closes e st.room none

-- a list of texts: items, and a closing that leads on
pub record TextsIn (e : Edition) (room : Room) (kind level : ℕ) (single : Bool) (st₁ : State) : Type 0 where
  pub item : Next
  pub rows : rows_of (moves e room) ≡ on no_code ▸ kind ▸ text line ▸ item ∷ []
  pub again : go item (state room level single) ≡ state room level single
  pub next : Next
  pub closes : Closes e room (hit (pass closing ▸ next))
  pub leads : go next (state room level single) ≡ st₁
  pub shallow : eqb kind agent_name ≡ false

-- a text that may be left out: the room behind it has all moves of the room before it but the text's
pub record OptionalIn (e : Edition) (room room₁ : Room) (kind code : ℕ) : Type 0 where
  pub is : moves e room ≡ on code ▸ kind ▸ text line ▸ stay room₁ ∷ moves e room₁
  pub within : is_closed room ≡ false
  pub within₁ : is_closed room₁ ≡ false
  pub shallow : eqb kind agent_name ≡ false

-- extras: a key behind its code, an any-value in a room of its own, and a closing that leads on
pub record ExtrasIn (e : Edition) (room : Room) (level : ℕ) (single : Bool) (code : ℕ) (st₁ : State) : Type 0 where
  pub value : Room
  pub rows : rows_of (moves e room) ≡ on code ▸ extra_key ▸ text line ▸ stay value ∷ []
  pub values : rows_of (moves e value) ≡ any_values (stay room)
  pub lost : Closes e value none
  pub next : Next
  pub closes : Closes e room (hit (pass closing ▸ next))
  pub leads : go next (state room level single) ≡ st₁

-- the dates of an edition, which all lead the same way
pub dates_lead : (edition : Edition) (n : Next) (st : State) → AllLead (dates_of edition n) n st
dates_lead D n st = (refl, refl, (refl, refl, (refl, refl, (refl, refl, (refl, refl, (refl, refl, tt))))))
dates_lead B n st = (refl, refl, (refl, refl, tt))
