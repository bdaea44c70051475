-- The rooms of both editions, by computation: what a stage asks of its room, one fact for each.
use Prim.Native.Nat.{ℕ, ◌≤◌}
use mathlib.Core.List.{[], ◌∷◌}
use mathlib.Core.Bool.{Bool, true, false}
use mathlib.Core.Path.{◌≡◌, refl, ap, sym, subst}
use native.Mathlib.Omega.{arith}
use lib.Dec.{eqb}
use borrow.Author.Tests.{eq-eqb, ne_eqb, eqb-true, eqb-false}
use Rattle.meaning.specs.Basics.{pick}
use Rattle.meaning.specs.Bytes.{line, note}
use Rattle.meaning.specs.Kinds.{agent_name, standard_representation, own_representation, received_by, to_opens, from_opens, receiver_opens, comments, payload_length, payload_encoding, encrypted_opens, encrypted_item, own_key, own_value, behaviour_opens}
use Rattle.meaning.specs.Editions.{state, received_begins, head_representation, head_date, parameters, own_text, parameter_representation, behaviour_value, encrypted_texts, outer, text, number, opens, no_code, closing, moves, shared, own, representations, any_values, go, on◌▸◌▸◌▸◌, pass◌▸◌}
use Rattle.meaning.specs.Reading.{hit, find}
use Rattle.meaning.specs.Writing.{is_pass, way_to}
use Rattle.meaning.specs.Told.{Edition, B, D}
use Rattle.write_rows.specs.Rooms.{of_kind, Needs, TextsIn, dates_lead}
use Rattle.write_objects.specs.Turns.{agents_at}
use Rattle.write_rows.specs.Stages.{at_parameters}
use Rattle.write_inside.specs.Parameters.{Names, naming_code, naming_move, encrypted_in, agents_next, InParameters}
use Rattle.date.specs.Dates.{dates_of}

-- "Base: FE, length, representation, date"

pub front_representation : (edition : Edition) → Needs edition (state head_representation 0 false) (representations (outer head_date)) (outer head_date)
unfolding moves shared own find
front_representation D = record { rows = refl; lead = (refl, refl, (refl, refl, (refl, refl, (refl, refl, tt)))); lost = refl }
front_representation B = record { rows = refl; lead = (refl, refl, (refl, refl, (refl, refl, (refl, refl, tt)))); lost = refl }

pub front_date : (edition : Edition) → Needs edition (state head_date 0 false) (dates_of edition (outer parameters)) (outer parameters)
unfolding moves shared own find
front_date D = record { rows = refl; lead = dates_lead D (outer parameters) (state head_date 0 false); lost = refl }
front_date B = record { rows = refl; lead = dates_lead B (outer parameters) (state head_date 0 false); lost = refl }

-- "Parameters, any order": the first row of each, and what has to follow it

pub own_first : (edition : Edition) → InParameters edition (on 0x00 ▸ own_key ▸ text line ▸ outer own_text)
unfolding moves shared own
own_first D = refl
own_first B = refl

pub own_text_lem : (edition : Edition) → Needs edition (state own_text 0 false) (on no_code ▸ own_value ▸ text note ▸ outer parameters ∷ []) (outer parameters)
unfolding moves shared own find
own_text_lem D = record { rows = refl; lead = (refl, refl, tt); lost = refl }
own_text_lem B = record { rows = refl; lead = (refl, refl, tt); lost = refl }

-- the only move of a kind that opens agents; nothing but the closing leads past its row
pub record AgentsIn (edition : Edition) (kind : ℕ) : Type 0 where
  pub is : InParameters edition (naming_move kind)
  pub coded : naming_code kind ≤ no_code
  pub led : way_to kind ≡ closing

pub names_first : (edition : Edition) {kind : ℕ} → Names kind → AgentsIn edition kind
unfolding moves shared own
names_first edition {kind} n = by (eqb kind to_opens) refl (eqb kind from_opens) refl
  where
    all : (edition : Edition) → AgentsIn edition to_opens × AgentsIn edition from_opens × AgentsIn edition receiver_opens
    all D = (record { is = refl; coded = omega arith; led = refl }, record { is = refl; coded = omega arith; led = refl }, record { is = refl; coded = omega arith; led = refl })
    all B = (record { is = refl; coded = omega arith; led = refl }, record { is = refl; coded = omega arith; led = refl }, record { is = refl; coded = omega arith; led = refl })

    by : (t : Bool) → eqb kind to_opens ≡ t → (f : Bool) → eqb kind from_opens ≡ f → AgentsIn edition kind
    by true q f r = subst (AgentsIn edition) (sym (eqb-true kind to_opens q)) (all edition).0
    by false q true r = subst (AgentsIn edition) (sym (eqb-true kind from_opens r)) (all edition).1
    by false q false r =
        let x = eqb-false kind to_opens q in
        let y = eqb-false kind from_opens r in
        subst (AgentsIn edition) (omega (arith, n.0, n.1)) (all edition).2

-- no agent's name, whose level could be too deep
pub names_shallow : {kind : ℕ} → Names kind → eqb kind agent_name ≡ false
names_shallow {kind} n = ne_eqb kind agent_name (λ z. omega (arith, n.1))

pub names_alone : (kind : ℕ) → of_kind kind (naming_move kind ∷ []) ≡ naming_move kind ∷ []
names_alone kind = ap (λ (b : Bool). pick b (naming_move kind ∷ []) []) (eq-eqb kind kind refl)

pub agents_begin : (one : Bool) → go (agents_next one) at_parameters ≡ agents_at 1 one
agents_begin true = refl
agents_begin false = refl

pub pass_represents : (edition : Edition) → find (is_pass 0x04) (moves edition parameters) ≡ hit (pass 0x04 ▸ outer parameter_representation)
unfolding moves shared own find
pass_represents D = refl
pass_represents B = refl

pub parameter_representation_lem : (edition : Edition) → Needs edition (state parameter_representation 0 false) (representations (outer parameters)) (outer parameters)
unfolding moves shared own find
parameter_representation_lem D = record { rows = refl; lead = (refl, refl, (refl, refl, (refl, refl, (refl, refl, tt)))); lost = refl }
parameter_representation_lem B = record { rows = refl; lead = (refl, refl, (refl, refl, (refl, refl, (refl, refl, tt)))); lost = refl }

pub comments_first : (edition : Edition) → InParameters edition (on 0x05 ▸ comments ▸ text note ▸ outer parameters)
unfolding moves shared own
comments_first D = refl
comments_first B = refl

pub length_first : (edition : Edition) → InParameters edition (on 0x06 ▸ payload_length ▸ number ▸ outer parameters)
unfolding moves shared own
length_first D = refl
length_first B = refl

pub encoding_first : (edition : Edition) → InParameters edition (on 0x07 ▸ payload_encoding ▸ text line ▸ outer parameters)
unfolding moves shared own
encoding_first D = refl
encoding_first B = refl

pub encrypted_first : InParameters B (on 0x08 ▸ encrypted_opens ▸ opens ▸ outer encrypted_texts)
unfolding moves shared own
encrypted_first = refl

pub encrypted_texts_lem : TextsIn B encrypted_texts encrypted_item 0 false at_parameters
unfolding moves shared own find
encrypted_texts_lem = record { item = outer encrypted_texts; rows = refl; again = refl; next = outer parameters; closes = refl; leads = refl; shallow = refl }

pub pass_receives : (edition : Edition) → find (is_pass 0x0a) (moves edition parameters) ≡ hit (pass 0x0a ▸ outer received_begins)
unfolding moves shared own find
pass_receives D = refl
pass_receives B = refl

pub behaviour_first : (edition : Edition) → InParameters edition (on 0x0b ▸ behaviour_opens ▸ opens ▸ outer behaviour_value)
unfolding moves shared own
behaviour_first D = refl
behaviour_first B = refl

pub behaviour_value_lem : (edition : Edition) → Needs edition (state behaviour_value 0 false) (any_values (outer parameters)) (outer parameters)
unfolding moves shared own find
behaviour_value_lem D = record { rows = refl; lead = (refl, refl, (refl, refl, (refl, refl, (refl, refl, tt)))); lost = refl }
behaviour_value_lem B = record { rows = refl; lead = (refl, refl, (refl, refl, (refl, refl, (refl, refl, tt)))); lost = refl }

-- kinds that no parameter begins with

pub none_represents : (edition : Edition) → (of_kind standard_representation (moves edition parameters) ≡ []) × (of_kind own_representation (moves edition parameters) ≡ []) × (of_kind received_by (moves edition parameters) ≡ [])
unfolding moves shared own
none_represents D = (refl, refl, refl)
none_represents B = (refl, refl, refl)

pub encrypted_is : (edition : Edition) → of_kind encrypted_opens (moves edition parameters) ≡ of_kind encrypted_opens (encrypted_in edition)
unfolding moves shared own
encrypted_is D = refl
encrypted_is B = refl
