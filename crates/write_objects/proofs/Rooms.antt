-- The rooms of received objects and agents in both editions, by computation: what a stage asks of its room, one fact for each.
use Prim.Native.Nat.{ℕ}
use mathlib.Core.List.{[], ◌∷◌}
use mathlib.Core.Bool.{Bool, true, false}
use mathlib.Core.Path.{◌≡◌, refl}
use Rattle.meaning.specs.Basics.{pick}
use Rattle.meaning.specs.Bytes.{line}
use Rattle.meaning.specs.Kinds.{received_by, received_from, received_id, received_via, addresses_open, address, resolvers_open}
use Rattle.meaning.specs.Editions.{state, received_begins, parameters, received_date, after_date, after_from, after_id, after_via, received_extra, agent_list, one_agent, after_name, address_texts, after_addresses, after_resolvers, agent_extra, outer, inner, stay, deeper, list_ends, agent_ends, text, opens, no_code, closing, moves, shared, own, go, on◌▸◌▸◌▸◌, pass◌▸◌, extra_code}
use Rattle.meaning.specs.Reading.{none, hit, find}
use Rattle.meaning.specs.Told.{Edition, B, D}
use Rattle.write_rows.specs.Rooms.{rows_of, Closes, Needs, TextsIn, OptionalIn, ExtrasIn, dates_lead}
use Rattle.write_objects.specs.Turns.{agent_names}
use Rattle.write_rows.specs.Stages.{at_parameters}
use Rattle.date.specs.Dates.{dates_of}

-- "Received object: by (text), date, then optionally .. 02 from, 03 id, 04 via (texts), then in D extras, then 01"

pub received_by_lem : (edition : Edition) → Needs edition (state received_begins 0 false) (on no_code ▸ received_by ▸ text line ▸ inner received_date ∷ []) (inner received_date)
unfolding moves shared own find
received_by_lem D = record { rows = refl; lead = (refl, refl, tt); lost = refl }
received_by_lem B = record { rows = refl; lead = (refl, refl, tt); lost = refl }

pub received_date_lem : (edition : Edition) → Needs edition (state received_date 1 false) (dates_of edition (stay after_date)) (stay after_date)
unfolding moves shared own find
received_date_lem D = record { rows = refl; lead = dates_lead D (stay after_date) (state received_date 1 false); lost = refl }
received_date_lem B = record { rows = refl; lead = dates_lead B (stay after_date) (state received_date 1 false); lost = refl }

pub received_from_lem : (edition : Edition) → OptionalIn edition after_date after_from received_from 2
unfolding moves shared own
received_from_lem D = record { is = refl; within = refl; within₁ = refl; shallow = refl }
received_from_lem B = record { is = refl; within = refl; within₁ = refl; shallow = refl }

pub received_id_lem : (edition : Edition) → OptionalIn edition after_from after_id received_id 3
unfolding moves shared own
received_id_lem D = record { is = refl; within = refl; within₁ = refl; shallow = refl }
received_id_lem B = record { is = refl; within = refl; within₁ = refl; shallow = refl }

pub received_via_lem : (edition : Edition) → OptionalIn edition after_id after_via received_via 4
unfolding moves shared own
received_via_lem D = record { is = refl; within = refl; within₁ = refl; shallow = refl }
received_via_lem B = record { is = refl; within = refl; within₁ = refl; shallow = refl }

pub received_extras_lem : ExtrasIn D after_via 1 false 5 at_parameters
unfolding moves shared own find
received_extras_lem = record { value = received_extra; rows = refl; values = refl; lost = refl; next = outer parameters; closes = refl; leads = refl }

pub received_ends : (rows_of (moves B after_via) ≡ []) × Closes B after_via (hit (pass closing ▸ outer parameters))
unfolding moves shared own find
received_ends = (refl, refl)

-- "Agent: 02, name text, optionally 02 and addresses (texts, then 01), optionally 03 and resolvers (an agent list), extras, 01"

pub agent_names_lem : (edition : Edition) (b : Bool) → rows_of (moves edition (pick b one_agent agent_list)) ≡ agent_names
unfolding moves shared own
agent_names_lem D true = refl
agent_names_lem D false = refl
agent_names_lem B true = refl
agent_names_lem B false = refl

pub list_closes : (edition : Edition) → Closes edition agent_list (hit (pass closing ▸ list_ends))
unfolding moves shared own find
list_closes D = refl
list_closes B = refl

pub one_agent_lem : (edition : Edition) → Closes edition one_agent none
unfolding moves shared own find
one_agent_lem D = refl
one_agent_lem B = refl

pub agent_addresses : (edition : Edition) → moves edition after_name ≡ on 0x02 ▸ addresses_open ▸ opens ▸ stay address_texts ∷ moves edition after_addresses
unfolding moves shared own
agent_addresses D = refl
agent_addresses B = refl

pub agent_resolvers : (edition : Edition) → moves edition after_addresses ≡ on 0x03 ▸ resolvers_open ▸ opens ▸ deeper agent_list ∷ moves edition after_resolvers
unfolding moves shared own
agent_resolvers D = refl
agent_resolvers B = refl

pub address_texts_lem : (edition : Edition) (level : ℕ) (single : Bool) → TextsIn edition address_texts address level single (state after_addresses level single)
unfolding moves shared own find
address_texts_lem D level single = record { item = stay address_texts; rows = refl; again = refl; next = stay after_addresses; closes = refl; leads = refl; shallow = refl }
address_texts_lem B level single = record { item = stay address_texts; rows = refl; again = refl; next = stay after_addresses; closes = refl; leads = refl; shallow = refl }

pub agent_extras_lem : (edition : Edition) (level : ℕ) (single : Bool) → ExtrasIn edition after_resolvers level single (extra_code edition) (go agent_ends (state after_resolvers level single))
unfolding moves shared own find
agent_extras_lem D level single = record { value = agent_extra; rows = refl; values = refl; lost = refl; next = agent_ends; closes = refl; leads = refl }
agent_extras_lem B level single = record { value = agent_extra; rows = refl; values = refl; lost = refl; next = agent_ends; closes = refl; leads = refl }
