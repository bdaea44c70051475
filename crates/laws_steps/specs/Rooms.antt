-- The rooms: which move a byte takes, and rooms that differ for other bytes only.
use Rattle.std.specs.Prelude.{ℕ, suc, List, [], ◌∷◌, ◌++◌, Bool, true, false, ◌≡◌, refl, eqb, length}
use Rattle.std.proofs.Common.{ap, sym, ne_eqb}
use Rattle.meaning.specs.Basics.{pick, here, there}
use Rattle.meaning.specs.Bytes.{Taken, took, failed, line, note}
use Rattle.meaning.specs.Kinds.{agent_name, received_by, received_from, received_id, received_via, encrypted_opens, encrypted_item, own_value}
use Rattle.meaning.specs.Told.{Edition, B, D, Told}
use Rattle.meaning.specs.Editions.{Room, received_begins, head_representation, head_date, parameter_representation, received_date, parameters, own_text, behaviour_value, encrypted_texts, after_date, after_from, after_id, after_via, State, state, Next, outer, inner, inner_one, stay, deeper, list_ends, agent_ends, go, text, opens, Move, no_code, any_values, representations, shared_date, own_dates, closing, closed, on◌▸◌▸◌▸◌, pass◌▸◌, shared, own, moves}
use Rattle.meaning.specs.Reading.{seen_by, take_value, Found, none, hit, find, or_else, has_code, look, is_closed, strange, next, step_taken, value_from, step_move, step}
use Rattle.laws_steps.specs.Lookups.{look_uncoded}
use Rattle.laws_steps.specs.Shapes.{Shaped, Texts, Optional, NoCode}

pub flip : {a b : ℕ} → (a ≡ b → ⊥) → b ≡ a → ⊥
flip h q = h (sym q)

-- Rooms that differ for other bytes only

go_alike : (g : Next) (r t : Room) (k : ℕ) (o : Bool) → go g (state r k o) ≡ go g (state t k o)
go_alike (outer x) r t k o = refl
go_alike (inner x) r t k o = refl
go_alike (inner_one x) r t k o = refl
go_alike (stay x) r t k o = refl
go_alike (deeper x) r t k o = refl
go_alike list_ends r t k o = refl
go_alike agent_ends r t k o = refl

taken_alike : (v : Move) (r t : Room) (k : ℕ) (o : Bool) (g : Taken) → step_taken (state r k o) v g ≡ step_taken (state t k o) v g
taken_alike v r t k o (took w rest) = ap (λ (x : State). next x (seen_by v.form v.kind k w rest) rest) (go_alike v.next r t k o)
taken_alike v r t k o (failed refusal left) = refl

move_alike : (told : Told) (r t : Room) (k : ℕ) (o : Bool) (b : ℕ) (s : List ℕ) (f : Found) → is_closed r ≡ is_closed t → strange r ≡ strange t → step_move told (state r k o) b s f ≡ step_move told (state t k o) b s f
unfolding step_move
move_alike told r t k o b s none p q = rw (p, q) refl
move_alike told r t k o b s (hit v) p q = rw (taken_alike v r t k o (take_value told v.form (suc (length s)) v.code (value_from v b s))) refl

pub step_alike : (told : Told) (r t : Room) (k : ℕ) (o : Bool) (b : ℕ) (s : List ℕ) → look b (moves told.edition r) ≡ look b (moves told.edition t) → is_closed r ≡ is_closed t → strange r ≡ strange t
    → step told (state r k o) (b ∷ s) ≡ step told (state t k o) (b ∷ s)
unfolding step
step_alike told r t k o b s h p q = rw h (move_alike told r t k o b s (look b (moves told.edition t)) p q)

pub end_alike : (told : Told) (r t : Room) (k : ℕ) (o : Bool) → is_closed r ≡ is_closed t → step told (state r k o) [] ≡ step told (state t k o) []
unfolding step
end_alike told r t k o h = rw h refl

-- a text with no code, in a room that has nothing else
alone : (v : Move) (b : Bool) → or_else (pick b (hit v) none) (hit v) ≡ hit v
alone v true = refl
alone v false = refl

-- The received object

pub date_room : (told : Told) → Shaped told (state received_date 1 false) (state after_date 1 false) 1 9 (λ n. shared_date n ++ own_dates told.edition n)
unfolding moves shared own
date_room told = record { out = stay after_date; has = refl; leads = refl; deep = refl; ajar = refl; odd = refl }

pub by_look : (e : Edition) (b : ℕ) → look b (moves e received_begins) ≡ hit (on no_code ▸ received_by ▸ text line ▸ inner received_date)
unfolding look find moves shared own
by_look e b = alone (on no_code ▸ received_by ▸ text line ▸ inner received_date) (eqb 256 b)

-- a line that may be left out: its room has its move, and else the next room's
optional_text : (told : Told) (r t : Room) (code kind : ℕ) → look code (moves told.edition r) ≡ hit (on code ▸ kind ▸ text line ▸ stay t) → eqb kind agent_name ≡ false → ((b : ℕ) → (b ≡ code → ⊥) → look b (moves told.edition r) ≡ look b (moves told.edition t))
    → is_closed r ≡ is_closed t → strange r ≡ strange t → Optional told (state r 1 false) (state t 1 false) code kind 1
optional_text told r t code kind has flat else ajar odd = record {
  out = stay t;
  has = has;
  flat = flat;
  leads = refl;
  deep = refl;
  else = λ b h s. step_alike told r t 1 false b s (else b h) ajar odd;
  ends = end_alike told r t 1 false ajar;
}

pub from_optional : (told : Told) → Optional told (state after_date 1 false) (state after_from 1 false) 0x02 received_from 1
unfolding look find moves shared own
from_optional told = optional_text told after_date after_from 0x02 received_from refl refl (λ b h. rw (ne_eqb 2 b (flip h)) refl) refl refl

pub id_optional : (told : Told) → Optional told (state after_from 1 false) (state after_id 1 false) 0x03 received_id 1
unfolding look find moves shared own
id_optional told = optional_text told after_from after_id 0x03 received_id refl refl (λ b h. rw (ne_eqb 3 b (flip h)) refl) refl refl

pub via_optional : (told : Told) → Optional told (state after_id 1 false) (state after_via 1 false) 0x04 received_via 1
unfolding look find moves shared own
via_optional told = optional_text told after_id after_via 0x04 received_via refl refl (λ b h. rw (ne_eqb 4 b (flip h)) refl) refl refl

-- The base's head

pub head_representation_lem : (told : Told) → Shaped told (state head_representation 0 false) (state head_date 0 false) 0 7 representations
unfolding moves shared own
head_representation_lem told = record { out = outer head_date; has = refl; leads = refl; deep = refl; ajar = refl; odd = refl }

pub head_date_lem : (told : Told) → Shaped told (state head_date 0 false) (state parameters 0 false) 0 9 (λ n. shared_date n ++ own_dates told.edition n)
unfolding moves shared own
head_date_lem told = record { out = outer parameters; has = refl; leads = refl; deep = refl; ajar = refl; odd = refl }

-- Parameters

pub parameter_representation_lem : (told : Told) → Shaped told (state parameter_representation 0 false) (state parameters 0 false) 0 7 representations
unfolding moves shared own
parameter_representation_lem told = record { out = outer parameters; has = refl; leads = refl; deep = refl; ajar = refl; odd = refl }

pub value_look : (e : Edition) (b : ℕ) → look b (moves e own_text) ≡ hit (on no_code ▸ own_value ▸ text note ▸ outer parameters)
unfolding look find moves shared own
value_look e b = alone (on no_code ▸ own_value ▸ text note ▸ outer parameters) (eqb 256 b)

pub behaviour_any : (told : Told) → Shaped told (state behaviour_value 0 false) (state parameters 0 false) 0 7 any_values
unfolding moves shared own
behaviour_any told = record { out = outer parameters; has = refl; leads = refl; deep = refl; ajar = refl; odd = refl }

pub encrypted_texts_lem : (told : Told) → Texts told (state encrypted_texts 0 false) (state parameters 0 false) encrypted_item 0
unfolding look find moves shared own
encrypted_texts_lem told = record {
  again = outer encrypted_texts;
  out = outer parameters;
  more = λ b h. look_uncoded told.edition encrypted_texts (there here) refl b h;
  stop = refl;
  flat = refl;
  stays = refl;
  leads = refl;
  deep = refl;
  ajar = refl;
}

pub encrypted_look : look 0x08 (moves B parameters) ≡ hit (on 0x08 ▸ encrypted_opens ▸ opens ▸ outer encrypted_texts)
unfolding look find moves shared own
encrypted_look = refl

shared_none : (b : ℕ) → NoCode b → (l : List Move) → find (has_code b) (shared parameters ++ l) ≡ find (has_code b) l
unfolding find shared
shared_none b u l =
    rw (
      ne_eqb 0 b (flip u.not_own),
      ne_eqb 2 b (flip u.not_to),
      ne_eqb 3 b (flip u.not_from),
      ne_eqb 4 b (flip u.not_representation),
      ne_eqb 5 b (flip u.not_comments),
      ne_eqb 6 b (flip u.not_length),
      ne_eqb 7 b (flip u.not_encoding),
      ne_eqb 9 b (flip u.not_receiver),
      ne_eqb 10 b (flip u.not_received),
      ne_eqb 11 b (flip u.not_behaviour),
      ne_eqb 1 b (flip u.not_closing),
    )
    refl

own_none : (e : Edition) (b : ℕ) → (e ≡ B → b ≡ 0x08 → ⊥) → find (has_code b) (own e parameters) ≡ none
unfolding find own
own_none B b h = rw (ne_eqb 8 b (flip (h refl))) refl
own_none D b h = refl

pub parameters_stop : (e : Edition) → look 1 (moves e parameters) ≡ hit (pass closing ▸ outer closed)
unfolding look find moves shared own
parameters_stop e = refl

uncoded_none : (e : Edition) → find (has_code no_code) (shared parameters ++ own e parameters) ≡ none
unfolding find shared own
uncoded_none B = refl
uncoded_none D = refl

pub parameters_none : (e : Edition) (b : ℕ) → NoCode b → (e ≡ B → b ≡ 0x08 → ⊥) → look b (moves e parameters) ≡ none
unfolding look moves
parameters_none e b u h = rw (shared_none b u (own e parameters), own_none e b h, uncoded_none e) refl
