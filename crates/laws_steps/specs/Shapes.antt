-- Rooms of one shape: what a stage that reads texts, an optional text, extras or a coded value asks of the room that it begins in.
use Rattle.std.specs.Prelude.{ℕ, ◌<◌, List, [], ◌∷◌, Bool, true, false, ◌≡◌, eqb}
use Rattle.meaning.specs.Bytes.{line}
use Rattle.meaning.specs.Kinds.{agent_name, extra_key}
use Rattle.meaning.specs.Told.{Told}
use Rattle.meaning.specs.Editions.{State, Next, go, Move, text, no_code, closing, any_values, moves, on◌▸◌▸◌▸◌, pass◌▸◌}
use Rattle.meaning.specs.Reading.{step, look, none, hit, is_closed, strange}

-- a state whose room has the moves `shape`, each to the state d
pub record Shaped (t : Told) (q d : State) (level refusal : ℕ) (shape : Next → List Move) : Type 0 where
  pub out : Next
  pub has : moves t.edition q.room ≡ shape out
  pub leads : go out q ≡ d
  pub deep : q.level ≡ level
  pub ajar : is_closed q.room ≡ false
  pub odd : strange q.room ≡ refusal

-- a state whose room has texts of a kind, all of them lines, up to a 01, and the state after them
pub record Texts (t : Told) (q d : State) (kind level : ℕ) : Type 0 where
  pub again : Next
  pub out : Next
  pub more : (b : ℕ) → (b ≡ 1 → ⊥) → look b (moves t.edition q.room) ≡ hit (on no_code ▸ kind ▸ text line ▸ again)
  pub stop : look 1 (moves t.edition q.room) ≡ hit (pass closing ▸ out)
  pub flat : eqb kind agent_name ≡ false
  pub stays : go again q ≡ q
  pub leads : go out q ≡ d
  pub deep : q.level ≡ level
  pub ajar : is_closed q.room ≡ false

-- a line that may be left out: without its code the state is as the one after it
pub record Optional (t : Told) (q d : State) (code kind level : ℕ) : Type 0 where
  pub out : Next
  pub has : look code (moves t.edition q.room) ≡ hit (on code ▸ kind ▸ text line ▸ out)
  pub flat : eqb kind agent_name ≡ false
  pub leads : go out q ≡ d
  pub deep : q.level ≡ level
  pub else : (b : ℕ) → (b ≡ code → ⊥) → (s : List ℕ) → step t q (b ∷ s) ≡ step t d (b ∷ s)
  pub ends : step t q [] ≡ step t d []

-- extras up to a 01: with this code, a key and an any-value lead back; the 01 leads to d; other bytes are strange
pub record Extras (t : Told) (q any d : State) (code level : ℕ) : Type 0 where
  pub key : Next
  pub out : Next
  pub more : code < 256 → look code (moves t.edition q.room) ≡ hit (on code ▸ extra_key ▸ text line ▸ key)
  pub stop : look 1 (moves t.edition q.room) ≡ hit (pass closing ▸ out)
  pub none_else : (b : ℕ) → (b ≡ 1 → ⊥) → (b ≡ code → ⊥) → look b (moves t.edition q.room) ≡ none
  pub any_value : Shaped t any q level 7 any_values
  pub keyed : go key q ≡ any
  pub leads : go out q ≡ d
  pub deep : q.level ≡ level
  pub ajar : is_closed q.room ≡ false
  pub odd : strange q.room ≡ 7

-- an agent of this level stands in a list: it is not the one of `from`
abbrev pub InList : ℕ → Bool → Type 0
InList level single = single ≡ true → level ≡ 1 → ⊥

-- a byte that is no code of a parameter that both editions have
pub record NoCode (b : ℕ) : Type 0 where
  pub not_own : b ≡ 0x00 → ⊥
  pub not_closing : b ≡ 0x01 → ⊥
  pub not_to : b ≡ 0x02 → ⊥
  pub not_from : b ≡ 0x03 → ⊥
  pub not_representation : b ≡ 0x04 → ⊥
  pub not_comments : b ≡ 0x05 → ⊥
  pub not_length : b ≡ 0x06 → ⊥
  pub not_encoding : b ≡ 0x07 → ⊥
  pub not_receiver : b ≡ 0x09 → ⊥
  pub not_received : b ≡ 0x0a → ⊥
  pub not_behaviour : b ≡ 0x0b → ⊥
