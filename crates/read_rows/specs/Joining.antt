-- How the stages' answers are put together: a refusal goes up, reading goes on from where a stage went to, an equation stands before or behind it.
use Rattle.std.specs.Prelude.{ℕ, ◌+◌, ◌≤◌, ◌<◌, List, Bool, true, false, Option, None, Some, ◌≡◌, refl, eqb, ltb, not}
use Rattle.std.specs.Option.{option_eq}
use Rattle.std.proofs.Common.{ap, ◌∙◌, arith, eqb-true}
use Rattle.std.proofs.lemmas.Bool.{eqb-false}
use Rattle.meaning.specs.Basics.{pick}
use Rattle.meaning.specs.Told.{Told}
use Rattle.meaning.specs.Editions.{State, Next, go, moves, closing, pass◌▸◌}
use Rattle.meaning.specs.Reading.{look, none, hit, is_closed, strange}
use Rattle.laws_steps.specs.Pouring.{Filling, stopped, Source, source, run_at, Ready, ready_to, Peeked}
use Rattle.laws_steps.specs.ReadAt.{foreign, passed_at}
use Rattle.laws_steps.specs.Shapes.{Extras}
use Rattle.table.specs.Rows.{u32_most}
use Rattle.values.specs.Stages.{Inside}
use Rattle.table.specs.declared.answers.Fault.{Fault}
use Rattle.table.specs.declared.answers.Reached.{Reached}
use Rattle.table.specs.declared.answers.Stage.{Stage}
use Rattle.table.specs.declared.answers.Stage.TheVariants.{Go, Refused}
use Rattle.table.specs.declared.refusals.Refusal.TheVariants.{CodeWrong, EnvelopeEnds}
use Rattle.table.specs.Refusals.{answer_of}
use Rattle.read_rows.specs.Stages.{after, Moved, Ran, found, fault_of}

less_moved : (end least lower : ℕ) (r : Stage) → lower ≤ least → Moved least end r → Moved lower end r
unfolding Moved
less_moved end least lower (Go to) h a = (omega arith, a.1, a.2)
less_moved end least lower (Refused fault) h a = tt

module _ {i : Source} where
  -- a refusal is handed up, whatever the state and the memory
  pub handed : {least lower : ℕ} {o : Filling} {q d : State} {m k : List ℕ} {r : Stage} {fault : Fault} → r ≡ Refused fault → Ran i least o r q m → Ran i lower o r d k
  unfolding after Moved
  handed h a = record { goes = a.goes ∙ rw h; moved = rw h tt }

  -- from where a stage went to, reading goes on
  pub went : {least : ℕ} {o : Filling} {q : State} {m : List ℕ} {r : Stage} {to : Reached} → r ≡ Go to → Ran i least o r q m → o ≡ run_at i q to.at to.rows m
  unfolding after
  went h a = a.goes ∙ rw h

  pub moved_to : {least : ℕ} {o : Filling} {q : State} {m : List ℕ} {r : Stage} {to : Reached} → r ≡ Go to → Ran i least o r q m → (least ≤ to.at) × (to.at ≤ i.end) × (to.rows ≤ to.at)
  unfolding Moved
  moved_to h a = rw h at a.moved

  -- an equation before a stage
  pub begun : {least lower : ℕ} {o b : Filling} {r : Stage} {q : State} {m : List ℕ} → lower ≤ least → o ≡ b → Ran i least b r q m → Ran i lower o r q m
  begun {least} {lower} {r = r} h d a = record { goes = d ∙ a.goes; moved = less_moved i.end least lower r h a.moved }

  -- a stage behind a stage
  pub onward : {least : ℕ} {o : Filling} {r next : Stage} {q d : State} {m k : List ℕ} {to : Reached} → r ≡ Go to → Ran i least o r q m → Ran i to.at (run_at i q to.at to.rows m) next d k → Ran i least o next d k
  onward h a b = begun (moved_to h a).0 (went h a) b

  -- an equation behind a stage
  pub arrives : {least : ℕ} {o : Filling} {r : Stage} {q d : State} {m : List ℕ} → q ≡ d → Ran i least o r q m → Ran i least o r d m
  arrives h a = rw h at a

  -- a stage's own step
  pub going : {least : ℕ} {o : Filling} {q : State} {m : List ℕ} {to : Reached} → o ≡ run_at i q to.at to.rows m → least ≤ to.at → to.at ≤ i.end → to.rows ≤ to.at → Ran i least o (Go to) q m
  unfolding after Moved
  going h a b c = record { goes = h; moved = (a, b, c) }

  pub refusing : {least : ℕ} {o : Filling} {q : State} {m : List ℕ} {fault : Fault} → o ≡ stopped (answer_of fault.refusal) fault.at → Ran i least o (Refused fault) q m
  unfolding after Moved
  refusing h = record { goes = h; moved = tt }

module _ {s : List ℕ} {end at n : ℕ} (h : Ready s end at n) where
  pub ready_inside : Inside s end at
  ready_inside = record { whole = h.whole; before = h.before }

  pub row_fits : (n ≤ u32_most) × (at ≤ u32_most) × (0 ≤ u32_most)
  row_fits = (omega (arith, h.small, h.before, h.few), omega (arith, h.small, h.before), omega arith)

-- where a stage went to, another may begin
pub ready_on : {t : Told} {s : List ℕ} {end at n least : ℕ} {o : Filling} {r : Stage} {q : State} {m : List ℕ} {to : Reached} → Ready s end at n → r ≡ Go to → Ran (source t s end) least o r q m → Ready s end to.at to.rows
ready_on h w a = ready_to h (moved_to w a)

-- the 01 that leads out of a state's room
pub closes : (i : Source) (q : State) (here : Reached) (m : List ℕ) (b : ℕ) → Peeked i.bytes i.end here.at b → b ≡ 1 → {least : ℕ} {o : Filling} {d : State} {out : Next} {to : Reached} → look 1 (moves i.told.edition q.room) ≡ hit (pass closing ▸ out) → go out q ≡ d
    → to.at ≡ here.at + 1 → to.rows ≡ here.rows → o ≡ run_at i q here.at here.rows m → least ≤ here.at → here.rows ≤ here.at → Ran i least o (Go to) d m
closes i q here m b a h {out = out} stop leads x y same low few =
    let k : here.at < i.end = a.inside (omega arith) in
    arrives leads (going (same ∙ passed_at i here.at here.rows m b a 1 h (omega arith) q out stop ∙ rw (x, y) refl) (omega arith) (omega arith) (omega arith))

-- the 01 where an extra could stand
pub no_extras : (i : Source) (here : Reached) (m : List ℕ) (b : ℕ) → Peeked i.bytes i.end here.at b → b ≡ 1 → here.rows ≤ here.at → (q : State) {any d : State} {code level : ℕ} {to : Reached} → Extras i.told q any d code level
    → to.at ≡ here.at + 1 → to.rows ≡ here.rows → Ran i here.at (run_at i q here.at here.rows m) (Go to) d m
no_extras i here m b a h few q e x y = closes i q here m b a h e.stop e.leads x y refl (omega arith) few

-- a byte that the room does not take
pub foreign_byte : (i : Source) (at n : ℕ) (m : List ℕ) (b : ℕ) → Peeked i.bytes i.end at b → {least : ℕ} (q : State) {d : State} {k : List ℕ} {r : Stage} → r ≡ fault_of b at
    → look b (moves i.told.edition q.room) ≡ none → is_closed q.room ≡ false → strange q.room ≡ 7 → Ran i least (run_at i q at n m) r d k
foreign_byte i at n m b a {least} q {d} {k} h y c o = rw h (by (ltb b 256) (foreign i at n m b a q y c ∙ ap (λ (x : ℕ). pick (ltb b 256) (stopped x at) (stopped 6 at)) o))
  where
    by : (z : Bool) → run_at i q at n m ≡ pick z (stopped 7 at) (stopped 6 at) → Ran i least (run_at i q at n m) (pick z (Refused (record { refusal = CodeWrong; at = at })) (Refused (record { refusal = EnvelopeEnds; at = at }))) d k
    by true e = refusing e
    by false e = refusing e

-- what a test of a look says: the byte is this code, or another is there or none
pub found_is : (b : Option ℕ) (code : ℕ) {z : Bool} → z ≡ option_eq eqb b (Some code) → z ≡ true → found b ≡ code
found_is None code h q = absurd (cc)
found_is (Some b) code {z} h q = let k : eqb b code ≡ true = cc in eqb-true b code k

pub not_found : (b : Option ℕ) (code : ℕ) {z : Bool} → code < 256 → z ≡ option_eq eqb b (Some code) → z ≡ false → found b ≡ code → ⊥
not_found None code l h q k = omega arith
not_found (Some b) code l h q k = let n : eqb b code ≡ false = cc in eqb-false b code n k

not_true : (z : Bool) → not z ≡ true → z ≡ false
not_true true h = absurd (cc)
not_true false h = refl

not_false : (z : Bool) → not z ≡ false → z ≡ true
not_false true h = refl
not_false false h = absurd (cc)

-- .. and what a test for another says
pub same_found : (b : Option ℕ) (code : ℕ) {z : Bool} → z ≡ not (option_eq eqb b (Some code)) → z ≡ false → found b ≡ code
same_found b code h q = found_is b code refl (not_false _ (cc))

pub other_found : (b : Option ℕ) (code : ℕ) {z : Bool} → code < 256 → z ≡ not (option_eq eqb b (Some code)) → z ≡ true → found b ≡ code → ⊥
other_found b code l h q = not_found b code l refl (not_true _ (cc))
