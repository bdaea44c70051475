-- The inside of an envelope is refused exactly where `BadInside` says so, and else it is one of the grammar's. By induction over the reader's steps.
use Rattle.std.specs.Prelude.{ℕ, zero, suc, ◌+◌, ◌-◌, ◌≤◌, ◌<◌, List, [], ◌∷◌, ◌++◌, Bool, true, false, ◌&&◌, ◌⊎◌, ◌≡◌, refl, T, eqb, ltb, length}
use Rattle.std.proofs.Common.{append_assoc, inl, inr, ap, sym, ◌∙◌, subst, arith, eqb-true, eq-eqb, lt-ltb, ltb-true, ltb-false}
use Rattle.std.proofs.lemmas.Bool.{eqb-false}
use Rattle.meaning.specs.Basics.{pick}
use Rattle.meaning.specs.Bytes.{Taken, took, failed}
use Rattle.meaning.specs.Kinds.{agent_name}
use Rattle.meaning.specs.Told.{Edition, told}
use Rattle.meaning.specs.Editions.{State, Form, text, date, number, block, itself, opens, quiet, is_quiet, Move, moves}
use Rattle.meaning.specs.Reading.{Seen, Found, none, hit, look, is_closed, strange, level_most, too_deep, take_value, value_from, Step, fails, over, next, step_taken, step_move, step, Out, dry, fault, done, with_rows, onward, run, inside}
use Rattle.meaning.specs.Headers.{Placed, refused, Onward, ends, start}
use Rattle.meaning.specs.Writing.{valid, write_value}
use Rattle.laws_steps.specs.Logic.{are_bytes, bytes_behind}
use Rattle.laws_steps.specs.Lookups.{Looked, looked, quiet_coded, closed_none}
use Rattle.laws_steps.specs.Steps.{inside_path, inside_fails, inside_over}
use Rattle.laws_tables.specs.Shortest.{shortest}
use Rattle.laws_tables.specs.ReadWritten.{Stepping, Stepped, stepped}
use Rattle.meaning.specs.Grammar.{standing, Steps, row, pass}
use Rattle.laws_demands.specs.Grammatical.{not_deep, steps_read}
use Rattle.laws_demands.specs.GrammarWritten.{shallow}
use Rattle.meaning.specs.Faults.{BadStep, code_needed, strange_code, agent_deep, bad_value, closed_early, BadInside}
use Rattle.laws_demands.specs.FaultyValues.{ValueFault, value_fault, value_fails}

-- From what is said to what is given

-- nothing leads out of a closed room
closed_look : (e : Edition) (st : State) (b : ℕ) → is_closed st.room ≡ true → look b (moves e st.room) ≡ none
closed_look e st b q = at (look b (moves e st.room)) (looked b (moves e st.room))
  where
    at : (o : Found) → Looked b (moves e st.room) o → o ≡ none
    at none i = refl
    at (hit m) i = let z : true ≡ false = sym q ∙ closed_none e st.room i.0 in let y : ◌≡◌ {A = ℕ} 0 1 = cc z in absurd (omega arith)

is_deep_lem : (m : Move) (st : State) → m.kind ≡ agent_name → level_most < st.level → too_deep m st ≡ true
is_deep_lem m st k h = rw (eq-eqb m.kind agent_name k, lt-ltb level_most st.level h) refl

-- a step stops with the refusal, or behind the closing 01 with bytes left
abbrev StepStops : Edition → State → List ℕ → ℕ → ℕ → Type 0
StepStops e st s refusal left = (step (told e) st s ≡ fails refusal left) ⊎ ((b : ℕ) × (t : List ℕ) × (step (told e) st s ≡ over (b ∷ t)) × (refusal ≡ 13) × (left ≡ length (b ∷ t)))

step_stops : (e : Edition) (st : State) {s : List ℕ} {refusal left : ℕ} → BadStep e st s refusal left → StepStops e st s refusal left
unfolding step step_move
step_stops e st (code_needed q) = inl (rw q refl)
step_stops e st (strange_code q p) = inl (rw (p, q) refl)
step_stops e st (agent_deep {m = m} p k h) = inl (rw (p, is_deep_lem m st k h) refl)
step_stops e st (bad_value {b = b} {s = s} {m = m} p k v) = inl (rw (p, not_deep m st k) (ap (step_taken st m) (value_fails e m.code v)))
step_stops e st (closed_early {b = b} {s = s} q) = inr (b, s, rw (closed_look e st b q, q) refl, refl, refl)

pub inside_stops : (e : Edition) (base : Bool) (at : ℕ) (bytes : List ℕ) (refusal left : ℕ) → BadInside e (start base) at bytes refusal left → (end : ℕ) (rest : List ℕ) (more : Onward)
    → ends base end rest more (inside (told e) (start base) bytes) ≡ refused refusal (end - left)
inside_stops e base at bytes refusal left h end rest more = by (step_stops e h.reached h.fault)
  where
    by : StepStops e h.reached h.rest refusal left → ends base end rest more (inside (told e) (start base) bytes) ≡ refused refusal (end - left)
    by (inl q) =
        let r = steps_read e h.steps h.rest in
        ap (ends base end rest more) (ap (inside (told e) (start base)) h.parts ∙ inside_path (told e) r.path ∙ ap (with_rows r.seens) (inside_fails (told e) h.reached h.rest q))
    by (inr (b, t, q, thirteen, some)) =
        let r = steps_read e h.steps h.rest in
        ap (ends base end rest more) (ap (inside (told e) (start base)) h.parts ∙ inside_path (told e) r.path ∙ ap (with_rows r.seens) (inside_over (told e) h.reached h.rest q))
        ∙ ap (λ (x : ℕ). refused 13 (end - x)) (sym some) ∙ ap (λ (x : ℕ). refused x (end - left)) (sym thirteen)

-- From what is given to what is said

abbrev StepFault : Edition → State → List ℕ → Step → Type 0
StepFault e st s (fails refusal left) = BadStep e st s refusal left
StepFault e st s (over t) = Unit {0}
StepFault e st s (next st₁ rs t) = Unit {0}

step_fault : (e : Edition) (st : State) (s : List ℕ) → StepFault e st s (step (told e) st s)
unfolding step step_move
step_fault e st [] = at (is_closed st.room) refl
  where
    at : (b : Bool) → is_closed st.room ≡ b → StepFault e st [] (pick b (over []) (fails 6 0))
    at true q = tt
    at false q = code_needed q
step_fault e st (b ∷ s) = by_found (look b (moves e st.room)) refl
  where
    by_value : (m : Move) → look b (moves e st.room) ≡ hit m → (m.kind ≡ agent_name → st.level ≤ level_most) → (g : Taken) → ValueFault (suc (length s)) m.form (value_from m b s) g → StepFault e st (b ∷ s) (step_taken st m g)
    by_value m p k (took v rest) i = tt
    by_value m p k (failed refusal left) i = bad_value p k i

    by_depth : (m : Move) (x y : Bool) → eqb m.kind agent_name ≡ x → ltb level_most st.level ≡ y → look b (moves e st.room) ≡ hit m
        → StepFault e st (b ∷ s) (pick (x && y) (fails 12 (suc (length s))) (step_taken st m (take_value (told e) m.form (suc (length s)) m.code (value_from m b s))))
    by_depth m true true k d p = agent_deep p (eqb-true m.kind agent_name k) (ltb-true level_most st.level d)
    by_depth m true false k d p = by_value m p (λ z. ltb-false level_most st.level d) (take_value (told e) m.form (suc (length s)) m.code (value_from m b s)) (value_fault e m.form (suc (length s)) m.code (value_from m b s))
    by_depth m false y k d p = by_value m p (λ z. absurd (eqb-false m.kind agent_name k z)) (take_value (told e) m.form (suc (length s)) m.code (value_from m b s)) (value_fault e m.form (suc (length s)) m.code (value_from m b s))

    by_room : (z : Bool) → is_closed st.room ≡ z → look b (moves e st.room) ≡ none → StepFault e st (b ∷ s) (pick z (over (b ∷ s)) (fails (strange st.room) (suc (length s))))
    by_room true q p = tt
    by_room false q p = strange_code q p

    by_found : (o : Found) → look b (moves e st.room) ≡ o → StepFault e st (b ∷ s) (step_move (told e) st b s o)
    by_found none p = by_room (is_closed st.room) refl p
    by_found (hit m) p = by_depth m (eqb m.kind agent_name) (ltb level_most st.level) refl refl p

-- the grammar's moves to the envelope's end
pub record ToItsEnd (e : Edition) (st : State) (at : ℕ) (bytes : List ℕ) : Type 0 where
  pub rows : List Placed
  pub last : State
  pub steps : Steps e st at bytes rows last
  pub closes : is_closed last.room ≡ true

abbrev pub InsideIs : Edition → State → ℕ → List ℕ → Out → Type 0
InsideIs e st at s dry = Unit {0}
InsideIs e st at s (fault refusal left) = BadInside e st at s refusal left
InsideIs e st at s (done rs (b ∷ t)) = BadInside e st at s 13 (length (b ∷ t))
InsideIs e st at s (done rs []) = ToItsEnd e st at s

-- one move more before it
module _ (e : Edition) (st st₁ : State) (at n : ℕ) (front bytes : List ℕ) (extends : (s : List ℕ) (rows : List Placed) (last : State) → Steps e st₁ (at + n) s rows last → (all : List Placed) × Steps e st at (front ++ s) all last) where
  bad_later : {refusal left : ℕ} → BadInside e st₁ (at + n) bytes refusal left → BadInside e st at (front ++ bytes) refusal left
  bad_later h =
      let (all, steps) = extends h.front h.rows h.reached h.steps in
      record { front = front ++ h.front; rest = h.rest; rows = all; reached = h.reached; parts = ap (λ (x : List ℕ). front ++ x) h.parts ∙ sym (append_assoc front h.front h.rest); steps = steps; fault = h.fault }

  is_later : (rs : List Seen) (o : Out) → InsideIs e st₁ (at + n) bytes o → InsideIs e st at (front ++ bytes) (with_rows rs o)
  is_later rs dry i = tt
  is_later rs (fault refusal left) i = bad_later i
  is_later rs (done ts (b ∷ t)) i = bad_later i
  is_later rs (done ts []) i = let (all, steps) = extends bytes i.rows i.last i.steps in record { rows = all; last = i.last; steps = steps; closes = i.closes }

quiet_writes : (f : Form) (v : List ℕ) → is_quiet f ≡ true → write_value f v ≡ []
unfolding write_value
quiet_writes (text rule) v q = cc
quiet_writes (date reach designated) v q = cc
quiet_writes number v q = cc
quiet_writes (block w) v q = cc
quiet_writes itself v q = cc
quiet_writes opens v q = cc
quiet_writes quiet v q = refl

-- behind a step stands the inside of what is left
module _ (e : Edition) (st st₁ : State) (at : ℕ) (s s₁ : List ℕ) (rs : List Seen) (w : Stepping (told e) st s st₁ rs s₁) (o : Out) where
  abbrev m : Move
  m = w.by

  behind_row : is_quiet m.form ≡ false → ((n : ℕ) → InsideIs e st₁ (at + n) s₁ o) → InsideIs e st at s (with_rows rs o)
  behind_row q ih =
      let short = shortest (told e) st.room m w.view w.member q w.ok in
      let ok : T (valid m.form m.code w.view) = subst (λ (x : Move). T (valid x.form x.code w.view)) (short.exact refl) short.ok in
      let front = standing m w.view in
      subst (λ (x : List ℕ). InsideIs e st at x (with_rows rs o)) (sym w.out) (is_later e st st₁ at (length front) front s₁
      (λ t rows last steps. (_, row m w.view w.member q ok (shallow m st w.flat) (subst (λ (x : State). Steps e x (at + length front) t rows last) (sym w.to) steps))) rs o (ih (length front)))

  behind_pass : is_quiet m.form ≡ true → ((n : ℕ) → InsideIs e st₁ (at + n) s₁ o) → InsideIs e st at s (with_rows rs o)
  behind_pass q ih =
      let out : s ≡ m.code ∷ s₁ = rw (quiet_coded e st.room w.member q, quiet_writes m.form w.view q) at w.out in
      subst (λ (x : List ℕ). InsideIs e st at x (with_rows rs o)) (sym out) (is_later e st st₁ at 1 (m.code ∷ []) s₁
      (λ t rows last steps. (rows, pass m w.member q (subst (λ (x : State). Steps e x (at + 1) t rows last) (sym w.to) steps))) rs o (ih 1))

  behind_step : ((n : ℕ) → InsideIs e st₁ (at + n) s₁ o) → InsideIs e st at s (with_rows rs o)
  behind_step ih = by (is_quiet m.form) refl
    where
      by : (b : Bool) → is_quiet m.form ≡ b → InsideIs e st at s (with_rows rs o)
      by true q = behind_pass q ih
      by false q = behind_row q ih

run_is : (n : ℕ) (e : Edition) (st : State) (at : ℕ) (s : List ℕ) → T (are_bytes s) → InsideIs e st at s (run n (told e) st s)
unfolding run
run_is zero e st at s t = tt
run_is (suc n) e st at s t = by (step (told e) st s) (stepped (told e) st s t) (step_fault e st s) (λ st₁ at₁ s₁ u. run_is n e st₁ at₁ s₁ u)
  where
    closed : (t : List ℕ) → is_closed st.room ≡ true → s ≡ t → InsideIs e st at s (done [] t)
    closed [] q p = subst (ToItsEnd e st at) (sym p) (record { rows = []; last = st; steps = Steps.none; closes = q })
    closed (b ∷ t) q p = record { front = []; rest = b ∷ t; rows = []; reached = st; parts = p; steps = Steps.none; fault = closed_early q }

    by : (x : Step) → Stepped (told e) st s x → StepFault e st s x → ((st₁ : State) (at₁ : ℕ) (s₁ : List ℕ) → T (are_bytes s₁) → InsideIs e st₁ at₁ s₁ (run n (told e) st₁ s₁)) → InsideIs e st at s (onward x (run n (told e)))
    by (fails refusal left) w f ih = record { front = []; rest = s; rows = []; reached = st; parts = refl; steps = Steps.none; fault = f }
    by (over t) (q, p) f ih = closed t q p
    by (next st₁ rs s₁) w f ih =
        let u : T (are_bytes s₁) = bytes_behind (standing w.by w.view) s₁ (subst (λ (x : List ℕ). T (are_bytes x)) w.out t) in
        behind_step e st st₁ at s s₁ rs w (run n (told e) st₁ s₁) (λ k. ih st₁ (at + k) s₁ u)

pub inside_is : (e : Edition) (st : State) (at : ℕ) (s : List ℕ) → T (are_bytes s) → InsideIs e st at s (inside (told e) st s)
unfolding inside
inside_is e st at s t = run_is (suc (length s)) e st at s t
