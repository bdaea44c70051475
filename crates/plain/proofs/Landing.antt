-- A value's step, poured: the next state, the value's row, or the refusal.
use Prim.Native.Nat.{ℕ, ◌+◌, ◌-◌, ◌≤◌, ◌<◌}
use mathlib.Core.List.{List}
use mathlib.Core.Path.{◌≡◌, refl, ap, ◌∙◌}
use native.Mathlib.Omega.{arith}
use lib.ListN.{length}
use Rattle.std.specs.Prelude.{None, Some}
use Rattle.meaning.specs.Told.{Told}
use Rattle.meaning.specs.Editions.{State, go}
use Rattle.laws_steps.specs.From.{from, from_length}
use Rattle.laws_steps.specs.Pouring.{Filling, Source, source}
use Rattle.table.specs.Kinds.{number_of}
use Rattle.values.specs.Stages.{Span}
use Rattle.moves.specs.Words.{next_of}
use Rattle.plain.specs.declared.lists.Lists.{Lists}
use Rattle.plain.specs.declared.feed.Taking.{Taking}
use Rattle.plain.specs.declared.feed.Fed.{Fed}
use Rattle.plain.specs.declared.feed.Fed.TheVariants as fed
use Rattle.plain.specs.declared.standing.Standing.{Standing}
use Rattle.plain.specs.declared.engine.Engine.{Engine}
use Rattle.plain.specs.Lists.{state_of, Leads}
use Rattle.plain.specs.Values.{pending_of, back_of, Valid, fed_span, Follows, Feeds}
use Rattle.plain.specs.Steps.{landed_span, value_at, fed_at, FedLeads, FedValid, taking_at, TakingHolds, Holds, StepsFrom, CodeSteps, Steps}

module _ (t : Told) (s : List ℕ) (at : ℕ) where
  lands_by : (taking : Taking) (x : Fed) → Follows taking at x → (end : ℕ) → at < end → end ≤ length s → (st : State) (n : ℕ) (m : List ℕ)
      → landed_span (source t s end) (back_of taking) (number_of (pending_of taking).kind) st.level (go (next_of (pending_of taking).next) st) (fed_span (source t s end) x at) n m ≡ fed_at (source t s end) st x at n m
  unfolding fed_span Follows fed_at value_at
  lands_by taking (fed.Goes further) f end h l st n m = rw (f.0.kind, f.0.next, f.1) refl
  lands_by taking (fed.Ends of len) f end h l st n m =
      let u : end - (length (from s (at + 1) end) + len + back_of taking) ≡ of.start = omega (arith, from_length s (at + 1) end (omega arith) l, f.1) in
      rw (f.0.kind, f.0.next, u) refl
  lands_by taking (fed.Moves next) f end h l st n m = absurd f
  lands_by taking fed.Over f end h l st n m = absurd f
  lands_by taking (fed.Wrong fault) f end h l st n m = let u : end - (end - fault.at) ≡ fault.at = omega arith in rw u refl

  -- THE LAW OF A VALUE'S STEP
  pub fed_lands : {taking : Taking} {x : Fed} → Feeds t s taking at x → (end : ℕ) → at < end → end ≤ length s → (st : State) (n : ℕ) (m : List ℕ)
      → value_at (source t s end) st taking at n m ≡ fed_at (source t s end) st x at n m
  unfolding value_at
  fed_lands {taking} {x} a end h l st n m =
      ap (λ (y : Span). landed_span (source t s end) (back_of taking) (number_of (pending_of taking).kind) st.level (go (next_of (pending_of taking).next) st) y n m) (a.is end h l)
      ∙ lands_by taking x a.follows end h l st n m

  follows_valid : (taking : Taking) (x : Fed) → Follows taking at x → FedValid at x
  unfolding Follows FedValid
  follows_valid taking (fed.Goes further) f = f.2
  follows_valid taking (fed.Ends of len) f = (omega (arith, f.1), omega (arith, f.1))
  follows_valid taking (fed.Moves next) f = tt
  follows_valid taking fed.Over f = tt
  follows_valid taking (fed.Wrong fault) f = tt

  pub fed_valid : {taking : Taking} {x : Fed} → Feeds t s taking at x → FedValid at x
  fed_valid {taking} {x} a = follows_valid taking x a.follows

  follows_leads : (l : Lists) (taking : Taking) (x : Fed) → Follows taking at x → Leads (pending_of taking).next l → FedLeads l x
  unfolding Follows FedLeads
  follows_leads l taking (fed.Goes further) f a = rw f.0.next a
  follows_leads l taking (fed.Ends of len) f a = rw f.0.next a
  follows_leads l taking (fed.Moves next) f a = absurd f
  follows_leads l taking fed.Over f a = tt
  follows_leads l taking (fed.Wrong fault) f a = tt

  pub fed_leads : (l : Lists) {taking : Taking} {x : Fed} → Feeds t s taking at x → Leads (pending_of taking).next l → FedLeads l x
  fed_leads l {taking} {x} a = follows_leads l taking x a.follows

  -- the step of a value in a state
  pub fed_steps : {taking : Taking} {x : Fed} (r : Standing) → Feeds t s taking at x → Leads (pending_of taking).next r.lists → StepsFrom (λ i n m. value_at i (state_of r) taking at n m) r t s at x
  fed_steps r a g = record { is = λ end h k n m. fed_lands a end h k (state_of r) n m; valid = fed_valid a; leads = fed_leads r.lists a g }

-- what steps from one reading steps from another that comes to the same
pub steps_onward : {begins mid : Source → ℕ → List ℕ → Filling} {r : Standing} {t : Told} {s : List ℕ} {at : ℕ} {x : Fed}
    → ((end : ℕ) → at < end → end ≤ length s → (n : ℕ) (m : List ℕ) → begins (source t s end) n m ≡ mid (source t s end) n m) → StepsFrom mid r t s at x → StepsFrom begins r t s at x
steps_onward q a = record { is = λ end h k n m. q end h k n m ∙ a.is end h k n m; valid = a.valid; leads = a.leads }

-- the engine's step
module _ {t : Told} {s : List ℕ} {at : ℕ} {x : Fed} (e : Engine) where
  pub step_code : e.taking ≡ None → CodeSteps e.standing t s at x → Steps e t s at x
  unfolding taking_at
  step_code q a = steps_onward (λ end h k n m. rw q refl) a

  pub step_value : {taking : Taking} → e.taking ≡ Some taking → Leads (pending_of taking).next e.standing.lists → Feeds t s taking at x → Steps e t s at x
  unfolding taking_at
  step_value q g f = steps_onward (λ end h k n m. rw q refl) (fed_steps t s at e.standing f g)

pub value_holds : (e : Engine) (at : ℕ) {taking : Taking} → e.taking ≡ Some taking → Holds e at → Leads (pending_of taking).next e.standing.lists × Valid taking at
unfolding TakingHolds
value_holds e at q h = rw q at h
