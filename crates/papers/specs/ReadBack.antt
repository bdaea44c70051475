-- What the reader accepts, the moves allow with the same rows, whatever it is told: a step of the reader is a move, an accepted inside a run of moves.
use Prim.Native.Nat.{ℕ, zero, suc, ◌+◌, ◌-◌, ◌≤◌}
use Rattle.std.specs.Prelude.{List, [], ◌∷◌, ◌++◌, map, Bool, true, false, ◌&&◌, refl, T, ltb, length}
use Rattle.std.proofs.Math.Path.{◌≡◌}
use Rattle.std.proofs.Common.{ap, sym, ◌∙◌, subst, arith, length-append, eq-eqb, ltb-false}
use Rattle.meaning.specs.Kinds.{agent_name}
use Rattle.meaning.specs.Told.{Told}
use Rattle.meaning.specs.Editions.{State, go, Form, text, date, number, block, itself, opens, quiet, is_quiet, Move}
use Rattle.meaning.specs.Reading.{Seen, seen, is_closed, level_most, too_deep, Step, fails, over, next, step, onward, run, inside, done, reach_back}
use Rattle.meaning.specs.Headers.{Placed, placed_row, placed, start}
use Rattle.meaning.specs.Writing.{write_value, lead}
use Rattle.meaning.specs.Grammar.{standing, start_in}
use Rattle.laws_steps.specs.Logic.{are_bytes, bytes_behind}
use Rattle.laws_steps.specs.Lookups.{quiet_coded}
use Rattle.laws_steps.specs.Steps.{loud_seen, quiet_seen}
use Rattle.laws_tables.specs.ReadWritten.{Stepping, Stepped, stepped, rows_inv}
use Rattle.papers.specs.Moves.{Steps, still, row, silent}
use Rattle.papers.specs.Envelopes.{Inside}
use Rattle.papers.specs.Reads.{standing_long}

-- how deep an agent stands, as the moves ask it
deep_not : (m : Move) (st : State) → too_deep m st ≡ false → m.kind ≡ agent_name → st.level ≤ level_most
deep_not m st d q = ltb-false level_most st.level (sym (ap (λ (b : Bool). b && ltb level_most st.level) (eq-eqb m.kind agent_name q)) ∙ d)

quiet_writes : (f : Form) (v : List ℕ) → is_quiet f ≡ true → write_value f v ≡ []
unfolding write_value
quiet_writes (text rule) v q = cc
quiet_writes (date reach designated) v q = cc
quiet_writes number v q = cc
quiet_writes (block w) v q = cc
quiet_writes itself v q = cc
quiet_writes opens v q = cc
quiet_writes quiet v q = refl

-- a run of moves over all of s, to a closed room, with these rows
record Went (t : Told) (st : State) (at : ℕ) (s : List ℕ) (rows : List Placed) : Type 0 where
  last : State
  steps : Steps t st at s rows last
  closes : is_closed last.room ≡ true

module _ (t : Told) (st st₁ : State) (at end : ℕ) (s s₁ : List ℕ) (rs ts : List Seen) (ends : at + length s ≡ end) (w : Stepping t st s st₁ rs s₁) where
  abbrev m : Move
  m = w.by

  abbrev v : List ℕ
  v = w.view

  went_loud : is_quiet m.form ≡ false → Went t (go m.next st) (at + length (standing m v)) s₁ (map (placed end) ts) → Went t st at s (map (placed end) (rs ++ ts))
  went_loud q more =
      let left = length s₁ + length v + reach_back m.form in
      let long : length (standing m v) ≡ start_in m + length v + reach_back m.form = standing_long t st.room m v w.member q w.ok in
      let all : length s ≡ length (standing m v) + length s₁ = ap length w.out ∙ length-append (standing m v) s₁ in
      let starts : end - left ≡ at + start_in m = omega (arith, all, long, ends) in
      let seens : rs ≡ seen m.kind st.level left v ∷ [] = sym w.rows ∙ loud_seen m.form m.kind st.level v s₁ q in
      let rows : map (placed end) (rs ++ ts) ≡ placed_row m.kind st.level (at + start_in m) v ∷ map (placed end) ts
      = ap (λ (l : List Seen). map (placed end) (l ++ ts)) seens ∙ ap (λ (x : ℕ). placed_row m.kind st.level x v ∷ map (placed end) ts) starts in
      let run : Steps t st at (standing m v ++ s₁) (placed_row m.kind st.level (at + start_in m) v ∷ map (placed end) ts) more.last = row m v w.member q w.ok (deep_not m st w.flat) more.steps in
      record { last = more.last; steps = subst (λ (l : List Placed). Steps t st at s l more.last) (sym rows) (subst (λ (l : List ℕ). Steps t st at l (placed_row m.kind st.level (at + start_in m) v ∷ map (placed end) ts) more.last) (sym w.out) run); closes = more.closes }

  went_quiet : is_quiet m.form ≡ true → Went t (go m.next st) (at + 1) s₁ (map (placed end) ts) → Went t st at s (map (placed end) (rs ++ ts))
  went_quiet q more =
      let out : s ≡ m.code ∷ s₁ = rw (quiet_coded t.edition st.room w.member q, quiet_writes m.form v q) at w.out in
      let seens : rs ≡ [] = sym w.rows ∙ quiet_seen m.form m.kind st.level v s₁ q in
      let rows : map (placed end) (rs ++ ts) ≡ map (placed end) ts = ap (λ (l : List Seen). map (placed end) (l ++ ts)) seens in
      let run : Steps t st at (m.code ∷ s₁) (map (placed end) ts) more.last = silent m w.member q more.steps in
      record { last = more.last; steps = subst (λ (l : List Placed). Steps t st at s l more.last) (sym rows) (subst (λ (l : List ℕ). Steps t st at l (map (placed end) ts) more.last) (sym out) run); closes = more.closes }

  -- the rest of the run begins behind the move
  went_on : ((at₁ : ℕ) → at₁ + length s₁ ≡ end → Went t (go m.next st) at₁ s₁ (map (placed end) ts)) → (b : Bool) → is_quiet m.form ≡ b → Went t st at s (map (placed end) (rs ++ ts))
  went_on ih false q = went_loud q (ih (at + length (standing m v)) (omega (arith, ends, ap length w.out, length-append (standing m v) s₁)))
  went_on ih true q =
      let out : s ≡ m.code ∷ s₁ = rw (quiet_coded t.edition st.room w.member q, quiet_writes m.form v q) at w.out in
      went_quiet q (ih (at + 1) (omega (arith, ends, ap length out)))

module _ (t : Told) (end : ℕ) where
  went_step : (n : ℕ) (st : State) (at : ℕ) (s : List ℕ) (rows : List Seen) (x : Step) → T (are_bytes s) → at + length s ≡ end → Stepped t st s x
      → ((st₁ : State) (at₁ : ℕ) (s₁ : List ℕ) (ts : List Seen) → T (are_bytes s₁) → at₁ + length s₁ ≡ end → run n t st₁ s₁ ≡ done ts [] → Went t st₁ at₁ s₁ (map (placed end) ts))
      → onward x (run n t) ≡ done rows [] → Went t st at s (map (placed end) rows)
  went_step n st at s rows (fails refusal left) u ends w ih q = let z : ◌≡◌ {A = ℕ} 0 1 = cc in absurd (omega arith)
  went_step n st at s rows (over rest) u ends (h, w) ih q =
      let none : ◌≡◌ {A = List Seen} [] rows = cc in
      let empty : s ≡ [] = w ∙ cc in
      subst (λ (l : List Seen). Went t st at s (map (placed end) l)) none (subst (λ (l : List ℕ). Went t st at l []) (sym empty) (record { last = st; steps = still; closes = h }))
  went_step n st at s rows (next st₁ rs s₁) u ends w ih q =
      let (ts, q₁, q₂) = rows_inv rs (run n t st₁ s₁) rows [] q in
      let bytes : T (are_bytes s₁) = bytes_behind (lead w.by ++ write_value w.by.form w.view) s₁ (subst (λ (x : List ℕ). T (are_bytes x)) w.out u) in
      subst (λ (l : List Seen). Went t st at s (map (placed end) l)) (sym q₂)
      (went_on t st st₁ at end s s₁ rs ts ends w (λ at₁ e. subst (λ (x : State). Went t x at₁ s₁ (map (placed end) ts)) (sym w.to) (ih st₁ at₁ s₁ ts bytes e q₁)) (is_quiet w.by.form) refl)

  went_run : (n : ℕ) (st : State) (at : ℕ) (s : List ℕ) (rows : List Seen) → T (are_bytes s) → at + length s ≡ end → run n t st s ≡ done rows [] → Went t st at s (map (placed end) rows)
  unfolding run
  went_run zero st at s rows u ends q = let z : ◌≡◌ {A = ℕ} 0 1 = cc in absurd (omega arith)
  went_run (suc n) st at s rows u ends q = went_step n st at s rows (step t st s) u ends (stepped t st s u) (went_run n) q

pub inside_went : (t : Told) (base : Bool) (at : ℕ) (s : List ℕ) (rows : List Seen) → T (are_bytes s) → inside t (start base) s ≡ done rows [] → Inside t base at s (map (placed (at + length s)) rows)
unfolding inside
inside_went t base at s rows u q = let w = went_run t (at + length s) (suc (length s)) (start base) at s rows u refl q in record { last = w.last; steps = w.steps; closes = w.closes }
