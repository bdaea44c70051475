-- The rooms of agents and their lists: which move a byte takes, and a level down and back up.
use Rattle.std.specs.Prelude.{ℕ, zero, suc, ◌+◌, ◌≤◌, Bool, true, false, ◌≡◌, refl}
use Rattle.std.proofs.Common.{ap, sym, add-one, arith, ne_eqb}
use Rattle.meaning.specs.Basics.{here, there}
use Rattle.meaning.specs.Bytes.{line}
use Rattle.meaning.specs.Kinds.{agent_name, addresses_open, address, resolvers_open, extra_key}
use Rattle.meaning.specs.Told.{Edition, B, D, Told}
use Rattle.meaning.specs.Editions.{agent_list, one_agent, after_name, address_texts, after_addresses, after_resolvers, agent_extra, state, stay, deeper, list_ends, agent_ends, list_end, go, text, opens, closing, extra_code, any_values, on◌▸◌▸◌▸◌, pass◌▸◌, shared, own, moves}
use Rattle.meaning.specs.Reading.{none, hit, find, look}
use Rattle.laws_steps.specs.Lookups.{look_uncoded}
use Rattle.laws_steps.specs.Shapes.{Shaped, Texts, Extras, InList}
use Rattle.laws_steps.specs.Rooms.{flip}

pub address_texts_lem : (told : Told) (k : ℕ) (o : Bool) → Texts told (state address_texts k o) (state after_addresses k o) address k
unfolding look find moves shared own
address_texts_lem told k o = record {
  again = stay address_texts;
  out = stay after_addresses;
  more = λ b h. look_uncoded told.edition address_texts (there here) refl b h;
  stop = refl;
  flat = refl;
  stays = refl;
  leads = refl;
  deep = refl;
  ajar = refl;
}

pub agent_any : (told : Told) (k : ℕ) (o : Bool) → Shaped told (state agent_extra k o) (state after_resolvers k o) k 7 any_values
unfolding moves shared own
agent_any told k o = record { out = stay after_resolvers; has = refl; leads = refl; deep = refl; ajar = refl; odd = refl }

agent_no_extra : (e : Edition) (b : ℕ) → (b ≡ 1 → ⊥) → (b ≡ extra_code e → ⊥) → look b (moves e after_resolvers) ≡ none
unfolding look find moves shared own
agent_no_extra B b h x = rw (ne_eqb 1 b (flip h), ne_eqb 4 b (flip x)) refl
agent_no_extra D b h x = rw (ne_eqb 1 b (flip h), ne_eqb 5 b (flip x)) refl

agent_extra_lem : (e : Edition) → look (extra_code e) (moves e after_resolvers) ≡ hit (on extra_code e ▸ extra_key ▸ text line ▸ stay agent_extra)
unfolding look find moves shared own
agent_extra_lem B = refl
agent_extra_lem D = refl

pub agent_code : (e : Edition) → extra_code e ≡ 256 → ⊥
agent_code B q = omega arith
agent_code D q = omega arith

extras_of_agent : (told : Told) (k : ℕ) (o : Bool) → Extras told (state after_resolvers k o) (state agent_extra k o) (go agent_ends (state after_resolvers k o)) (extra_code told.edition) k
unfolding look find moves shared own
extras_of_agent told k o = record {
  key = stay agent_extra;
  out = agent_ends;
  more = λ _. agent_extra_lem told.edition;
  stop = refl;
  none_else = agent_no_extra told.edition;
  any_value = agent_any told k o;
  keyed = refl;
  leads = refl;
  deep = refl;
  ajar = refl;
  odd = refl;
}

pub agent_extras_lem : (told : Told) (k : ℕ) (o : Bool) {code : ℕ} → code ≡ extra_code told.edition → Extras told (state after_resolvers k o) (state agent_extra k o) (go agent_ends (state after_resolvers k o)) code k
agent_extras_lem told k o h = rw h (extras_of_agent told k o)

pub name_addresses : (e : Edition) → look 0x02 (moves e after_name) ≡ hit (on 0x02 ▸ addresses_open ▸ opens ▸ stay address_texts)
unfolding look find moves shared own
name_addresses e = refl

pub name_else : (e : Edition) (b : ℕ) → (b ≡ 0x02 → ⊥) → look b (moves e after_name) ≡ look b (moves e after_addresses)
unfolding look find moves shared own
name_else e b h = rw (ne_eqb 2 b (flip h)) refl

pub addresses_resolvers : (e : Edition) → look 0x03 (moves e after_addresses) ≡ hit (on 0x03 ▸ resolvers_open ▸ opens ▸ deeper agent_list)
unfolding look find moves shared own
addresses_resolvers e = refl

pub addresses_else : (e : Edition) (b : ℕ) → (b ≡ 0x03 → ⊥) → look b (moves e after_addresses) ≡ look b (moves e after_resolvers)
unfolding look find moves shared own
addresses_else e b h = rw (ne_eqb 3 b (flip h)) refl

pub list_name : (e : Edition) → look 0x02 (moves e agent_list) ≡ hit (on 0x02 ▸ agent_name ▸ text line ▸ stay after_name)
unfolding look find moves shared own
list_name e = refl

pub list_stop : (e : Edition) → look 1 (moves e agent_list) ≡ hit (pass closing ▸ list_ends)
unfolding look find moves shared own
list_stop e = refl

pub list_none : (e : Edition) (b : ℕ) → (b ≡ 1 → ⊥) → (b ≡ 0x02 → ⊥) → look b (moves e agent_list) ≡ none
unfolding look find moves shared own
list_none e b h x = rw (ne_eqb 1 b (flip h), ne_eqb 2 b (flip x)) refl

pub one_name : (e : Edition) → look 0x02 (moves e one_agent) ≡ hit (on 0x02 ▸ agent_name ▸ text line ▸ stay after_name)
unfolding look find moves shared own
one_name e = refl

pub one_none : (e : Edition) (b : ℕ) → (b ≡ 0x02 → ⊥) → look b (moves e one_agent) ≡ none
unfolding look find moves shared own
one_none e b h = rw (ne_eqb 2 b (flip h)) refl

-- a level down, and back up
pub list_down : (level : ℕ) (o : Bool) → go (deeper agent_list) (state after_addresses level o) ≡ state agent_list (level + 1) o
list_down level o = ap (λ (x : ℕ). state agent_list x o) (sym (add-one level))

pub list_up : (level : ℕ) (o : Bool) → 1 ≤ level → go list_ends (state agent_list (level + 1) o) ≡ state after_resolvers level o
list_up zero o h = absurd (omega arith)
list_up (suc level) o h = ap (λ (x : ℕ). list_end x o) (add-one (suc level))

pub stays_in_list : (k : ℕ) (o : Bool) → InList k o → go agent_ends (state after_resolvers k o) ≡ state agent_list k o
stays_in_list k true h = rw (ne_eqb k 1 (h refl)) refl
stays_in_list k false h = refl

pub not_single : (k : ℕ) → InList k false
not_single k h q = absurd (let z : ◌≡◌ {A = ℕ} 0 1 = cc in omega arith)
