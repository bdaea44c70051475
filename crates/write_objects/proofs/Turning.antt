-- Agents: where an agent and a list end, and the turns of a list one behind the other.
use Prim.Native.Nat.{ℕ, zero, suc, ◌+◌, ◌-◌, ◌≤◌, ◌<◌}
use mathlib.Core.List.{List, [], ◌∷◌}
use mathlib.Core.Bool.{Bool, true, false, ◌&&◌}
use mathlib.Core.Path.{◌≡◌, refl, ap, sym, ◌∙◌, subst}
use native.Mathlib.Omega.{arith}
use native.Mathlib.Numerals.{add-one}
use lib.Dec.{eqb}
use lib.ListN.{length}
use borrow.Author.Tests.{ne_eqb, lt-ltb, le-ltb}
use Rattle.meaning.specs.Basics.{pick}
use Rattle.meaning.specs.Editions.{State, state, parameters, agent_list, one_agent, after_name, after_resolvers, stay, list_ends, agent_ends, closing, Move, go, pass◌▸◌, extra_code}
use Rattle.meaning.specs.Reading.{none, hit, too_deep, level_most}
use Rattle.meaning.specs.Told.{Edition}
use Rattle.meaning.specs.Memory.{room_of}
use Rattle.meaning.specs.Headers.{envelope_most}
use Rattle.write_rows.specs.Laying.{Laid}
use Rattle.write_rows.specs.Bodies.{halt}
use Rattle.laws_steps.specs.Rows.{cells_at}
use Rattle.write_rows.specs.Rooms.{NotAmong, Closes, ExtrasIn}
use Rattle.write_rows.specs.Stages.{body_at, RowTaken, Onward}
use Rattle.write_objects.specs.Turns.{agent_names, agents_at, ListTurnIs}
use Rattle.write_objects.specs.declared.agents.ListTurn.{ListTurn}
use Rattle.write_objects.specs.declared.agents.ListTurn.TheVariants.{On, Done}
use Rattle.write_rows.specs.declared.advance.Misfit.{Misfit}
use Rattle.std.specs.Prelude.{Result, Ok, Err}
use Rattle.write_rows.specs.Among.{sole_move}
use Rattle.write_objects.proofs.Rooms.{agent_extras_lem, agent_names_lem, list_closes, one_agent_lem}
use Rattle.write_rows.specs.Onward.{leading, onward_then, onward_stuck, taken_on, taken_deep, close_on, lost_on}

-- the code is what the edition says
pub extras_coded : (edition : Edition) (level : ℕ) (single : Bool) {code : ℕ} → code ≡ extra_code edition → ExtrasIn edition after_resolvers level single code (go agent_ends (state after_resolvers level single))
extras_coded edition level single q = subst (λ (k : ℕ). ExtrasIn edition after_resolvers level single k (go agent_ends (state after_resolvers level single))) (sym q) (agent_extras_lem edition level single)

-- Where an agent and a list end

ends_single : (level : ℕ) (single : Bool) → (single && eqb level 1) ≡ true → go agent_ends (state after_resolvers level single) ≡ state parameters 0 false
ends_single level single q = ap (λ (b : Bool). pick b (state parameters 0 false) (state agent_list level single)) q

ends_listed : (level : ℕ) (single : Bool) → (single && eqb level 1) ≡ false → go agent_ends (state after_resolvers level single) ≡ agents_at level single
ends_listed level single q = ap (λ (b : Bool). pick b (state parameters 0 false) (state agent_list level single)) q ∙ sym (ap (λ (b : Bool). state (pick b one_agent agent_list) level single) q)

module _ {edition : Edition} {pool rows : List ℕ} {i : ℕ} {st : State} {k : ℕ} (level : ℕ) (single : Bool) {before : List ℕ} {at : ℕ} {after : List ℕ} {p : ℕ} (a : Onward edition pool rows i st k (go agent_ends (state after_resolvers level single)) before at after p) where
  pub agent_done : (single && eqb level 1) ≡ true → Onward edition pool rows i st k (state parameters 0 false) before at after p
  agent_done q = leading (ends_single level single q) a

  pub agent_listed : (single && eqb level 1) ≡ false → Onward edition pool rows i st k (agents_at level single) before at after p
  agent_listed q = leading (ends_listed level single q) a

-- resolvers stand one level deeper, in a list
resolvers_at : (level : ℕ) (single : Bool) → 1 ≤ level → state agent_list (suc level) single ≡ agents_at (level + 1) single
resolvers_at level single h =
    ap (λ (n : ℕ). state agent_list n single) (sym (add-one level))
    ∙ sym (ap (λ (b : Bool). state (pick (single && b) one_agent agent_list) (level + 1) single) (ne_eqb (level + 1) 1 (λ z. omega arith)) ∙ at single)
  where
    at : (b : Bool) → state (pick (b && false) one_agent agent_list) (level + 1) single ≡ state agent_list (level + 1) single
    at true = refl
    at false = refl

pub resolvers_on_lem : {edition : Edition} {pool rows : List ℕ} {i : ℕ} {st : State} {k : ℕ} (level : ℕ) (single : Bool) {before : List ℕ} {at : ℕ} {after : List ℕ} {p : ℕ} → 1 ≤ level → Onward edition pool rows i st k (state agent_list (suc level) single) before at after p → Onward edition pool rows i st k (agents_at (level + 1) single) before at after p
resolvers_on_lem level single h a = leading (resolvers_at level single h) a

upper : (level : ℕ) (single : Bool) → 2 ≤ level → go list_ends (state agent_list level single) ≡ state after_resolvers (level - 1) single
upper zero single h = absurd (omega arith)
upper (suc zero) single h = absurd (omega arith)
upper (suc (suc n)) single h = let q : suc n ≡ suc (suc n) - 1 = omega arith in ap (λ (k : ℕ). state after_resolvers k single) q

first : (level : ℕ) (single : Bool) → level ≡ 1 → go list_ends (state agent_list level single) ≡ state parameters 0 false
first level single q = ap (λ (n : ℕ). go list_ends (state agent_list n single)) q

-- resolvers are never the one agent of `from`
not_one : (level : ℕ) (single : Bool) → 2 ≤ level → (single && eqb level 1) ≡ false
not_one level true h = ne_eqb level 1 (λ z. omega arith)
not_one level false h = refl

-- A name, and where none stands

module _ (edition : Edition) (pool rows : List ℕ) {i : ℕ} (level : ℕ) (single : Bool) where
  pub name_on : {before : List ℕ} {at : ℕ} {after : List ℕ} {p : ℕ} → level ≤ level_most → RowTaken agent_names level pool rows i before at after p → Onward edition pool rows i (agents_at level single) (i + 1) (state after_name level single) before at after p
  name_on h t = taken_on edition pool rows (agents_at level single) t (stay after_name) (agent_names_lem edition (single && eqb level 1)) (refl, le-ltb level_most level h, tt)

  pub name_deep : {before : List ℕ} {at : ℕ} {after : List ℕ} {p : ℕ} → level_most < level → RowTaken agent_names level pool rows i before at after p → body_at edition pool rows i (agents_at level single) ≡ halt i
  name_deep h t =
      taken_deep edition pool rows (agents_at level single) t (agent_names_lem edition (single && eqb level 1))
      (ap (λ (m : Move). too_deep m (agents_at level single)) (sym (sole_move _ level t.row t.stands)) ∙ lt-ltb level_most level h)

  module _ (x : NotAmong agent_names level (cells_at pool rows i)) where
    one_lost : (single && eqb level 1) ≡ true → body_at edition pool rows i (agents_at level single) ≡ halt i
    one_lost q = lost_on edition pool rows (agents_at level single) (agent_names_lem edition (single && eqb level 1)) x (subst (λ (b : Bool). Closes edition (pick b one_agent agent_list) none) (sym q) (one_agent_lem edition))

    pub one_missing : single ≡ true → level ≡ 1 → body_at edition pool rows i (agents_at level single) ≡ halt i
    one_missing s e = one_lost (ap (λ (b : Bool). b && eqb level 1) s ∙ ap (λ (n : ℕ). eqb n 1) e)

    list_on : {before : List ℕ} {at : ℕ} {after : List ℕ} {p : ℕ} → (single && eqb level 1) ≡ false → i ≤ room_of rows → Laid before at (1 ∷ []) after p → Onward edition pool rows i (agents_at level single) i (go list_ends (state agent_list level single)) before at after p
    list_on q h l = close_on edition pool rows (agents_at level single) (agent_names_lem edition (single && eqb level 1)) x (subst (λ (b : Bool). Closes edition (pick b one_agent agent_list) (hit (pass closing ▸ list_ends))) (sym q) (list_closes edition)) h l

    pub list_done : {before : List ℕ} {at : ℕ} {after : List ℕ} {p : ℕ} → single ≡ false → level ≡ 1 → i ≤ room_of rows → Laid before at (1 ∷ []) after p → Onward edition pool rows i (agents_at level single) i (state parameters 0 false) before at after p
    list_done s e h l = leading (first level single e) (list_on (ap (λ (b : Bool). b && eqb level 1) s) h l)

    pub list_up : {before : List ℕ} {at : ℕ} {after : List ℕ} {p : ℕ} → 2 ≤ level → i ≤ room_of rows → Laid before at (1 ∷ []) after p → Onward edition pool rows i (agents_at level single) i (state after_resolvers (level - 1) single) before at after p
    list_up e h l = leading (upper level single e) (list_on (not_one level single e) h l)

-- Turns

pub turn_then : {edition : Edition} (single : Bool) {pool rows : List ℕ} {i : ℕ} {st : State} {k : ℕ} {st₁ : State} {m : List ℕ} {at : ℕ} {m₁ : List ℕ} {p₁ : ℕ} (left left₁ : ℕ) (r : Result ListTurn Misfit) (m₂ : List ℕ) → length m ≤ envelope_most → left ≤ left₁ → Onward edition pool rows i st k st₁ m at m₁ p₁ → ListTurnIs edition single pool rows k st₁ left m₁ p₁ r m₂ → ListTurnIs edition single pool rows i st left₁ m at r m₂
turn_then single left left₁ (Ok (On onto level)) m₂ small h a t = (onward_then small a t.0, t.1, t.2, omega (arith, t.3))
turn_then single left left₁ (Ok (Done onto)) m₂ small h a t = onward_then small a t
turn_then single left left₁ (Err misfit) m₂ small h a t = onward_stuck small a t

pub turn_as : (edition : Edition) (single : Bool) (pool rows : List ℕ) (i : ℕ) (st : State) (left : ℕ) (before : List ℕ) (at : ℕ) (after : List ℕ) {r r₁ : Result ListTurn Misfit} → r ≡ r₁ → ListTurnIs edition single pool rows i st left before at r after → ListTurnIs edition single pool rows i st left before at r₁ after
turn_as edition single pool rows i st left before at after q t = subst (λ (x : Result ListTurn Misfit). ListTurnIs edition single pool rows i st left before at x after) q t

-- memory that a row which stands elsewhere left as it was
pub turn_from : (edition : Edition) (single : Bool) (pool rows : List ℕ) (i : ℕ) (st : State) (left : ℕ) (at : ℕ) (r : Result ListTurn Misfit) (after : List ℕ) {before m : List ℕ} → before ≡ m → ListTurnIs edition single pool rows i st left before at r after → ListTurnIs edition single pool rows i st left m at r after
turn_from edition single pool rows i st left at r after q t = subst (λ (x : List ℕ). ListTurnIs edition single pool rows i st left x at r after) q t
