-- A text at a place in the input, by its next byte, and by a run of bytes that are all text.
use Prim.Native.Nat.{ℕ, zero, suc, ◌+◌, ◌-◌, ◌≤◌, ◌<◌}
use mathlib.Core.List.{List}
use mathlib.Core.Bool.{Bool, true, false, ◌&&◌, ◌||◌, not}
use mathlib.Core.Path.{◌≡◌, refl, ap, sym, ◌∙◌, subst}
use native.Mathlib.Omega.{arith}
use borrow.Author.Tests.{ne_eqb, le-leb, lt-leb}
use lib.Dec.{T, eqb, leb}
use Rattle.std.specs.Prelude.{Some}
use Rattle.std.proofs.Common.{add-one}
use lib.ListN.{length, get_or}
use Rattle.meaning.specs.Bytes.{Taken, took, failed, Rule, line, note, is_break, text_byte, take_text}
use Rattle.laws_steps.specs.From.{from, from_length, from_end, from_cons}
use Rattle.values.specs.Stages.{spans, misses, span, Skipped, Run, LineRun, rule_by, all_text, FirstBelow}
use Rattle.laws_steps.specs.Logic.{both_hold}
use Rattle.laws_steps.specs.Values.{text_byte_above}
use Rattle.values.specs.Answers.{span_prefixed}

pub is_text : (b : ℕ) → 32 ≤ b → text_byte line b ≡ true
unfolding text_byte
is_text b h = le-leb 32 b h

pub no_text : (b : ℕ) → b < 32 → text_byte line b ≡ false
unfolding text_byte
no_text b h = lt-leb 32 b h

-- what a line allows every rule does
pub line_in : (rule : Rule) (b : ℕ) → text_byte line b ≡ true → text_byte rule b ≡ true
unfolding text_byte
line_in line b h = h
line_in note b h = rw h refl

-- a note's byte that is of no line is a break or nothing
pub note_is : (b : ℕ) {z : Bool} → text_byte line b ≡ false → z ≡ is_break b → z ≡ text_byte note b
unfolding text_byte
note_is b h q = q ∙ rw h refl

not_zero : (rule : Rule) (b : ℕ) → text_byte rule b ≡ true → eqb b 0 ≡ false
not_zero rule b h = let k = text_byte_above rule b (subst T (sym h) tt) in ne_eqb b 0 (λ z. omega arith)

-- at the place i of a text that begins at `at`
module _ (rule : Rule) (s : List ℕ) (end : ℕ) (l : end ≤ length s) (at i : ℕ) (g : at ≤ i) where
  pub text_stops : i < end → get_or s i 0 ≡ 0 → span (i - at) (take_text rule (from s i end)) ≡ spans (i - at) (from s (i + 1) end)
  unfolding take_text
  text_stops h z = rw (from_cons s i end h l, z) (ap (λ (x : ℕ). spans x (from s (i + 1) end)) (omega arith))

  pub text_wrong : i < end → (get_or s i 0 ≡ 0 → ⊥) → text_byte rule (get_or s i 0) ≡ false → span (i - at) (take_text rule (from s i end)) ≡ misses 8 (end - i)
  unfolding take_text
  text_wrong h z b =
      rw (from_cons s i end h l, ne_eqb (get_or s i 0) 0 z, b) (ap (misses 8) (omega (arith, from_length s (i + 1) end (omega arith) l)))

  pub text_goes : i < end → text_byte rule (get_or s i 0) ≡ true → span (i - at) (take_text rule (from s i end)) ≡ span (i + 1 - at) (take_text rule (from s (i + 1) end))
  unfolding take_text
  text_goes h b =
      let p : i - at + 1 ≡ i + 1 - at = omega arith in
      let onward = take_text rule (from s (i + 1) end) in
      rw (from_cons s i end h l, not_zero rule (get_or s i 0) b, b) (span_prefixed (i - at) (get_or s i 0) onward ∙ ap (λ (x : ℕ). span x onward) p)

  pub text_ends : i ≡ end → span (i - at) (take_text rule (from s i end)) ≡ misses 6 (end - i)
  unfolding take_text
  text_ends h = rw (from_end s i end (omega arith)) (ap (misses 6) (omega arith))

pub skipped_none : (s : List ℕ) (end at : ℕ) → at ≤ end → (rule : Rule) → Skipped rule s end at at
skipped_none s end at h rule = let q : 0 ≡ at - at = omega arith in record { inside = omega arith; before = h; is = ap (λ (x : ℕ). span x (take_text rule (from s at end))) q }

-- one stretch behind another
span_behind : (n m : ℕ) (t u : Taken) → span 0 t ≡ span n u → span m t ≡ span (m + n) u
span_behind n m (took v rest) (took w left) q =
    let a : 0 + length v ≡ n + length w = cc q in let b : rest ≡ left = cc q in let e : m + length v ≡ m + n + length w = omega arith in
    ap (spans (m + length v)) b ∙ ap (λ (k : ℕ). spans k left) e
span_behind n m (took v rest) (failed r k) q = let z : ◌≡◌ {A = ℕ} 0 1 = cc q in absurd (omega arith)
span_behind n m (failed r k) (took v rest) q = let z : ◌≡◌ {A = ℕ} 0 1 = cc q in absurd (omega arith)
span_behind n m (failed r k) (failed r₁ k₁) q = q

pub skipped_on : {rule : Rule} {s : List ℕ} {end at i k : ℕ} → Skipped rule s end at i → Skipped rule s end i k → Skipped rule s end at k
skipped_on {rule} {s} {end} {at} {i} {k} a b =
    let e : i - at + (k - i) ≡ k - at = omega (arith, a.inside, b.inside) in
    record {
      inside = omega (arith, a.inside, b.inside);
      before = b.before;
      is = a.is ∙ span_behind (k - i) (i - at) (take_text rule (from s i end)) (take_text rule (from s k end)) b.is ∙ ap (λ (x : ℕ). span x (take_text rule (from s k end))) e;
    }

pub run_on : {rule : Rule} {s : List ℕ} {end at i k : ℕ} → Skipped rule s end at i → Run rule s end i k → Run rule s end at k
run_on a b = record { skipped = skipped_on a b.skipped; stops = b.stops }

pub line_run_on : {s : List ℕ} {end at i k : ℕ} → ((rule : Rule) → Skipped rule s end at i) → LineRun s end i k → LineRun s end at k
line_run_on a b = record { skipped = λ rule. skipped_on (a rule) (b.skipped rule); stops = b.stops }

-- one byte that the rule allows
pub byte_skipped : (rule : Rule) (s : List ℕ) (end : ℕ) → end ≤ length s → (i : ℕ) → i < end → text_byte rule (get_or s i 0) ≡ true → Skipped rule s end i (i + 1)
byte_skipped rule s end l i h b =
    let q : 0 ≡ i - i = omega arith in
    record {
      inside = omega arith;
      before = omega arith;
      is = ap (λ (x : ℕ). span x (take_text rule (from s i end))) q ∙ text_goes rule s end l i i (omega arith) h b;
    }

-- bytes that one rule allows, and the text's rule too: the text goes on behind them all
module _ (least rule : Rule) (wider : (b : ℕ) → text_byte least b ≡ true → text_byte rule b ≡ true) (s : List ℕ) (end : ℕ) (l : end ≤ length s) where
  run_skipped : (at n : ℕ) → at + n ≤ end → all_text least s at n ≡ true → Skipped rule s end at (at + n)
  unfolding all_text
  run_skipped at zero h b = let q : at ≡ at + 0 = omega arith in subst (Skipped rule s end at) q (skipped_none s end at (omega arith) rule)
  run_skipped at (suc n) h b =
      let (before, last) = both_hold (all_text least s at n) (text_byte least (get_or s (at + n) 0)) b in
      let q : at + n + 1 ≡ at + suc n = omega arith in
      subst (Skipped rule s end at) q (skipped_on (run_skipped at n (omega arith) before) (byte_skipped rule s end l (at + n) (omega arith) (wider (get_or s (at + n) 0) last)))

pub line_skipped : (s : List ℕ) (end : ℕ) → end ≤ length s → (at n : ℕ) → at + n ≤ end → all_text line s at n ≡ true → (rule : Rule) → Skipped rule s end at (at + n)
line_skipped s end l at n h b rule = run_skipped line rule (line_in rule) s end l at n h b

pub note_skipped : (s : List ℕ) (end : ℕ) → end ≤ length s → (at n : ℕ) → at + n ≤ end → all_text note s at n ≡ true → Skipped note s end at (at + n)
note_skipped s end l at n h b = run_skipped note note (λ b h. h) s end l at n h b

-- one byte more
pub text_more : (rule : Rule) (s : List ℕ) (at n : ℕ) {all here : Bool} → all ≡ all_text rule s at n → here ≡ text_byte rule (get_or s (at + n) 0) → (all && here) ≡ all_text rule s at (n + 1)
unfolding all_text
text_more rule s at n p q = rw (p, q, add-one n) refl

-- bytes that are each of a line
pub all_above : (s : List ℕ) (at n : ℕ) → ((j : ℕ) → j < n → 32 ≤ get_or s (at + j) 0) → all_text line s at n ≡ true
unfolding all_text
all_above s at zero h = refl
all_above s at (suc n) h = rw (all_above s at n (λ j k. h j (omega arith)), is_text (get_or s (at + n) 0) (h n (omega arith))) refl

-- where the first of eight bytes is that is of no line, the line's run stops
pub below_stops : (s : List ℕ) (end : ℕ) → end ≤ length s → (at n : ℕ) → at + 8 ≤ end → FirstBelow s at (Some n) → LineRun s end at (at + n)
below_stops s end l at n h (few, before, here) = record { skipped = λ rule. line_skipped s end l at n (omega arith) before rule; stops = λ k. here }

-- where a line's run stops, the line does
pub line_runs : {s : List ℕ} {end at place : ℕ} → LineRun s end at place → Run line s end at place
line_runs r = record { skipped = r.skipped line; stops = r.stops }

-- a text's end is no byte of it
pub zero_stops : (rule : Rule) (b : ℕ) → b ≡ 0 → text_byte rule b ≡ false
unfolding text_byte
zero_stops line b h = rw h refl
zero_stops note b h = rw h refl

-- the test of a byte by a flag, which says that the text is a note
pub allowed : (isNote b : ℕ) {z : Bool} → z ≡ is_break b → (leb 32 b || (not (eqb isNote 0) && z)) ≡ text_byte (rule_by (not (eqb isNote 0))) b
unfolding text_byte
allowed isNote b h = rw h (by (not (eqb isNote 0)))
  where
    by : (y : Bool) → (leb 32 b || (y && is_break b)) ≡ text_byte (rule_by y) b
    by true = refl
    by false = or_false (leb 32 b)
      where
        or_false : (x : Bool) → (x || false) ≡ x
        or_false true = refl
        or_false false = refl
