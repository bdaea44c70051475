-- Texts and extras one behind the other: their rooms, step by step.
use Prim.Native.Nat.{ℕ, ◌+◌, ◌≤◌}
use mathlib.Core.List.{List, [], ◌∷◌}
use mathlib.Core.Bool.{Bool, false, ◌&&◌}
use mathlib.Core.Path.{◌≡◌, refl, ap}
use lib.Dec.{eqb, ltb}
use Rattle.meaning.specs.Bytes.{line}
use Rattle.meaning.specs.Kinds.{extra_key}
use Rattle.meaning.specs.Editions.{Room, State, state, stay, text, no_code, any_values, on◌▸◌▸◌▸◌}
use Rattle.meaning.specs.Reading.{level_most}
use Rattle.meaning.specs.Told.{Edition}
use Rattle.meaning.specs.Memory.{room_of}
use Rattle.write_rows.specs.Laying.{Laid}
use Rattle.laws_steps.specs.Rows.{cells_at}
use Rattle.write_rows.specs.Bodies.{halt}
use Rattle.write_rows.specs.Rooms.{NotAmong, TextsIn, ExtrasIn}
use Rattle.write_rows.specs.Stages.{body_at, RowTaken, Onward}
use Rattle.write_rows.specs.Onward.{leading, taken_on, close_on, lost_on}

pub shallow_kind : (kind level : ℕ) → eqb kind 15 ≡ false → (eqb kind 15 && ltb level_most level) ≡ false
shallow_kind kind level q = ap (λ (b : Bool). b && ltb level_most level) q

module _ (edition : Edition) (pool rows : List ℕ) {i : ℕ} {room : Room} {kind level : ℕ} {single : Bool} {st₁ : State} (t : TextsIn edition room kind level single st₁) {before : List ℕ} {at : ℕ} {after : List ℕ} {p : ℕ} where
  pub item_on : RowTaken (on no_code ▸ kind ▸ text line ▸ t.item ∷ []) level pool rows i before at after p → Onward edition pool rows i (state room level single) (i + 1) (state room level single) before at after p
  item_on x =
      leading t.again
      (taken_on edition pool rows (state room level single) x t.item t.rows (refl, shallow_kind kind level t.shallow, tt))

  pub texts_end : NotAmong (on no_code ▸ kind ▸ text line ▸ t.item ∷ []) level (cells_at pool rows i) → i ≤ room_of rows → Laid before at (1 ∷ []) after p → Onward edition pool rows i (state room level single) i st₁ before at after p
  texts_end x h l =
      leading t.leads
      (close_on edition pool rows (state room level single) t.rows x t.closes h l)

module _ (edition : Edition) (pool rows : List ℕ) {i : ℕ} {room : Room} {level : ℕ} {single : Bool} {code : ℕ} {st₁ : State} (t : ExtrasIn edition room level single code st₁) where
  pub key_on : {before : List ℕ} {at : ℕ} {after : List ℕ} {p : ℕ} → RowTaken (on code ▸ extra_key ▸ text line ▸ stay t.value ∷ []) level pool rows i before at after p → Onward edition pool rows i (state room level single) (i + 1) (state t.value level single) before at after p
  key_on x = taken_on edition pool rows (state room level single) x (stay t.value) t.rows (refl, refl, tt)

  pub value_on : {before : List ℕ} {at : ℕ} {after : List ℕ} {p : ℕ} → RowTaken (any_values (stay room)) level pool rows i before at after p → Onward edition pool rows i (state t.value level single) (i + 1) (state room level single) before at after p
  value_on x = taken_on edition pool rows (state t.value level single) x (stay room) t.values (refl, refl, (refl, refl, (refl, refl, (refl, refl, tt))))

  pub value_lost : NotAmong (any_values (stay room)) level (cells_at pool rows i) → body_at edition pool rows i (state t.value level single) ≡ halt i
  value_lost x = lost_on edition pool rows (state t.value level single) t.values x t.lost

  pub extras_end : {before : List ℕ} {at : ℕ} {after : List ℕ} {p : ℕ} → NotAmong (on code ▸ extra_key ▸ text line ▸ stay t.value ∷ []) level (cells_at pool rows i) → i ≤ room_of rows → Laid before at (1 ∷ []) after p → Onward edition pool rows i (state room level single) i st₁ before at after p
  extras_end x h l =
      leading t.leads
      (close_on edition pool rows (state room level single) t.rows x t.closes h l)
