-- Rows poured into lent memory: reading from a place on, with each row stored as it is found, and what a step of it comes to.
use Rattle.std.specs.Prelude.{ℕ, suc, ◌+◌, ◌-◌, ◌≤◌, ◌<◌, List, [], ◌∷◌, ◌++◌, true, false, ◌&&◌, ◌≡◌, refl, eqb, ltb, length}
use Rattle.std.proofs.Common.{ap, ◌∙◌, arith, length-append}
use Rattle.meaning.specs.Basics.{pick}
use Rattle.meaning.specs.Bytes.{Taken, took, failed, Rule, take_text, take_number}
use Rattle.meaning.specs.Kinds.{agent_name}
use Rattle.meaning.specs.Told.{Told}
use Rattle.meaning.specs.Editions.{State, go, Move, is_quiet}
use Rattle.meaning.specs.Reading.{Seen, seen, reach_back, level_most, step_taken, step, Out, dry, fault, done, with_rows, onward, inside}
use Rattle.laws_steps.specs.From.{from}
use Rattle.laws_steps.specs.Rows.{put}
use Rattle.laws_steps.specs.Steps.{inside_onward, loud_seen}

-- rows of an envelope that ends at `end`, stored from row n on
abbrev pub store : ℕ → List Seen → ℕ → List ℕ → List ℕ
store end [] n m = m
store end (r ∷ rs) n m = store end rs (n + 1) (put m n r.kind r.level (end - r.left) (length r.view))

-- what a reading comes to: the place, the count of rows and the memory that holds them; or the refusal and its place
pub data Filling : Type 0 where
  filled : ℕ → ℕ → List ℕ → Filling
  stopped : ℕ → ℕ → Filling

abbrev pub pour : ℕ → Out → ℕ → List ℕ → Filling
pour end dry n m = stopped 0 0
pour end (fault refusal left) n m = stopped refusal (end - left)
pour end (done rs rest) n m = filled (end - length rest) (n + length rs) (store end rs n m)

-- Reading from a place on

-- the bytes that an envelope is read from, up to its declared end, and what the reading is told
pub record Source : Type 0 where
  pub told : Told
  pub bytes : List ℕ
  pub end : ℕ

abbrev pub source : Told → List ℕ → ℕ → Source
source t s end = record { told = t; bytes = s; end = end }

-- reading from the place `at` on, in the state q with n rows in the memory m
abbrev pub run_at : Source → State → ℕ → ℕ → List ℕ → Filling
run_at i q at n m = pour i.end (inside i.told q (from i.bytes at i.end)) n m

-- behind a value: its row is stored, and reading goes on in the state q
abbrev pub landed : Source → ℕ → ℕ → ℕ → State → Taken → ℕ → List ℕ → Filling
landed i back kind level q (took v rest) n m =
    pour i.end (inside i.told q rest) (n + 1) (put m n kind level (i.end - (length rest + length v + back)) (length v))
landed i back kind level q (failed refusal left) n m = stopped refusal (i.end - left)

-- reading where a text begins, by its rule, or a payload length, whose row has this kind and level
abbrev pub text_at : Source → ℕ → Rule → ℕ → State → ℕ → ℕ → List ℕ → Filling
text_at i kind rule level q at n m = landed i 1 kind level q (take_text rule (from i.bytes at i.end)) n m

abbrev pub number_at : Source → ℕ → ℕ → State → ℕ → ℕ → List ℕ → Filling
number_at i kind level q at n m = landed i 0 kind level q (take_number 0 true (from i.bytes at i.end)) n m

-- "16 envelopes" of "at most 1,048,576 bytes": no header ends behind it
abbrev pub header_most : ℕ
header_most = 16777216

-- where a stage begins: a place up to the declared end, which is in the input, and no more rows than bytes so far
pub record Ready (s : List ℕ) (end at n : ℕ) : Type 0 where
  pub whole : end ≤ length s
  pub small : end ≤ header_most
  pub before : at ≤ end
  pub few : n ≤ at

-- what a look finds: 256 at the declared end
abbrev pub sight : ℕ → List ℕ → List ℕ
sight b s = pick (ltb b 256) (b ∷ s) []

pub record Peeked (s : List ℕ) (end at b : ℕ) : Type 0 where
  pub is : from s at end ≡ sight b (from s (at + 1) end)
  pub inside : b < 256 → at < end
  pub before : at ≤ end
  pub whole : end ≤ length s
  pub top : b ≤ 256

-- Where a stage begins, at the places that come up

module _ {s : List ℕ} {end at n : ℕ} (h : Ready s end at n) where
  -- where a stage went to
  pub ready_to : {least p k : ℕ} → (least ≤ p) × (p ≤ end) × (k ≤ p) → Ready s end p k
  ready_to u = record { whole = h.whole; small = h.small; before = u.1; few = u.2 }

  -- behind a code, and behind a code that has a row
  pub ready_next : at < end → Ready s end (at + 1) n
  ready_next l = record { whole = h.whole; small = h.small; before = omega arith; few = omega (arith, h.few) }

  pub ready_opened : at < end → Ready s end (at + 1) (n + 1)
  ready_opened l = record { whole = h.whole; small = h.small; before = omega arith; few = omega (arith, h.few) }

-- A step poured

-- a move of another kind than an agent's name is never too deep
pub not_deep : (q : State) (kind : ℕ) → eqb kind agent_name ≡ false → eqb kind agent_name && ltb level_most q.level ≡ false
not_deep q kind h = rw h refl

-- rows before the others are stored before them
store_append : (end : ℕ) (rs ts : List Seen) (n : ℕ) (m : List ℕ) → store end (rs ++ ts) n m ≡ store end ts (n + length rs) (store end rs n m)
store_append end [] ts n m = let q : n ≡ n + 0 = omega arith in ap (λ (x : ℕ). store end ts x m) q
store_append end (r ∷ rs) ts n m =
    let q : n + 1 + length rs ≡ n + suc (length rs) = omega arith in
    store_append end rs ts (n + 1) (put m n r.kind r.level (end - r.left) (length r.view))
    ∙ ap (λ (x : ℕ). store end ts x (store end (r ∷ rs) n m)) q

pour_rows : (end : ℕ) (rs : List Seen) (o : Out) (n : ℕ) (m : List ℕ) → pour end (with_rows rs o) n m ≡ pour end o (n + length rs) (store end rs n m)
pour_rows end rs dry n m = refl
pour_rows end rs (fault refusal left) n m = refl
pour_rows end rs (done ts t) n m =
    let q : n + length (rs ++ ts) ≡ n + length rs + length ts = omega (arith, length-append rs ts) in
    rw (q, store_append end rs ts n m) refl

pub pour_none : (end : ℕ) (o : Out) (n : ℕ) (m : List ℕ) → pour end (with_rows [] o) n m ≡ pour end o n m
pour_none end dry n m = refl
pour_none end (fault refusal left) n m = refl
pour_none end (done ts t) n m = refl

-- reading is a step and then reading
pub run_step : (i : Source) (q : State) (at n : ℕ) (m : List ℕ) → run_at i q at n m ≡ pour i.end (onward (step i.told q (from i.bytes at i.end)) (inside i.told)) n m
run_step i q at n m = ap (λ (o : Out). pour i.end o n m) (inside_onward i.told q (from i.bytes at i.end))

-- behind a value of a move that has a row
pub lands : (i : Source) (st : State) (mv : Move) (n : ℕ) (m : List ℕ) → is_quiet mv.form ≡ false → (g : Taken)
    → pour i.end (onward (step_taken st mv g) (inside i.told)) n m ≡ landed i (reach_back mv.form) mv.kind st.level (go mv.next st) g n m
lands i st mv n m h (failed refusal left) = refl
lands i st mv n m h (took v rest) =
    rw (loud_seen mv.form mv.kind st.level v rest h)
    (pour_rows i.end (seen mv.kind st.level (length rest + length v + reach_back mv.form) v ∷ []) (inside i.told (go mv.next st) rest) n m)
