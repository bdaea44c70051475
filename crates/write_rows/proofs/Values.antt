-- A value is valid for a form exactly if the reader's stage over the view takes it whole.
use mathlib.Core.Path.{◌≡◌, refl, sym, ap, ◌∙◌, subst}
use mathlib.Core.Bool.{Bool, true, false, ◌&&◌}
use mathlib.Core.List.{List, [], ◌∷◌, ◌++◌, append-nil}
use Prim.Native.Nat.{ℕ, suc, ◌+◌, ◌-◌, ◌≤◌, ◌<◌}
use native.Mathlib.Omega.{arith}
use lib.Dec.{T, eqb, leb}
use lib.ListN.{length, take, get_or}
use lib.Seq.{take-length}
use borrow.Author.Tests.{ne_eqb, eqb-true, leb-false, leb-true}
use Rattle.meaning.specs.Basics.{pick, is_empty}
use Rattle.meaning.specs.Bytes.{Taken, took, failed, prefixed, Rule, text_byte, take_text, text_ok, number_ok, take_number, date_ok, take_date, Check, passes, Reach, absolute, relative, date_checks}
use Rattle.meaning.specs.Writing.{is_only}
use Rattle.laws_steps.specs.Logic.{is_true}
use Rattle.laws_steps.specs.From.{from, from_length, from_end, from_cons}
use Rattle.laws_steps.specs.Values.{Was, text_byte_above, date_in, date_out, number_in, number_out}
use Rattle.table.specs.declared.answers.Fault.{Fault}
use Rattle.values.specs.declared.Value.{Value}
use Rattle.values.specs.declared.Value.TheVariants.{Is, Refused}
use Rattle.values.specs.Stages.{Span, span, spans, misses, Valued, Run}
use Rattle.date.specs.Dates.{date_length}
use Rattle.values.specs.Answers.{valued_at, valued_refused}

-- A value that a stage takes whole, and no other

module _ (stage : List ℕ → Taken) (ok : List ℕ → Bool) (into : (v : List ℕ) → T (ok v) → stage (v ++ []) ≡ took v []) (out : (v : List ℕ) → Was (λ v. v) ok v (stage v)) where
  holds : (v w rest : List ℕ) → stage v ≡ took w rest → rest ≡ [] → ok v ≡ true
  holds v w rest q e =
      let i = subst (Was (λ v. v) ok v) q (out v) in
      let d : v ≡ w = i.0 ∙ ap (λ (x : List ℕ). w ++ x) e ∙ append-nil w in
      is_true (ok v) (subst (λ (x : List ℕ). T (ok x)) (sym d) i.1)

  not_ok : (v : List ℕ) → (stage v ≡ took v [] → ⊥) → ok v ≡ false
  not_ok v h = at (ok v) refl
    where
      at : (b : Bool) → ok v ≡ b → ok v ≡ false
      at true q = absurd (h (ap stage (sym (append-nil v)) ∙ into v (subst T (sym q) tt)))
      at false q = q

  module _ (s : List ℕ) (at end : ℕ) (h : at ≤ end) (k : end ≤ length s) where
    abbrev v : List ℕ
    v = from s at end

    whole_at : (t : Taken) (many after : ℕ) → stage v ≡ t → span 0 t ≡ spans many (from s after end) → end ≤ after → ok v ≡ true
    whole_at (took w rest) many after e q l = let r : rest ≡ from s after end = cc q in holds v w rest e (r ∙ from_end s after end l)
    whole_at (failed refusal left) many after e q l = let z : ◌≡◌ {A = ℕ} 0 1 = cc q in absurd (omega arith)

    part_at : (t : Taken) (many after : ℕ) → stage v ≡ t → span 0 t ≡ spans many (from s after end) → after < end → ok v ≡ false
    part_at (took w rest) many after e q l =
        let r : rest ≡ from s after end = cc q in
        not_ok v (λ p. let z : rest ≡ [] = cc (e, p) in let n : length (from s after end) ≡ 0 = ap length (sym r ∙ z) in omega (arith, from_length s after end (omega arith) k))
    part_at (failed refusal left) many after e q l = let z : ◌≡◌ {A = ℕ} 0 1 = cc q in absurd (omega arith)

    none_at : (t : Taken) (refusal left : ℕ) → stage v ≡ t → span 0 t ≡ misses refusal left → ok v ≡ false
    none_at (took w rest) refusal left e q = let z : ◌≡◌ {A = ℕ} 0 1 = cc q in absurd (omega arith)
    none_at (failed refusal₁ left₁) refusal left e q = not_ok v (λ p. let z : ◌≡◌ {A = ℕ} 0 1 = cc (e, p) in omega arith)

    value_whole : {kind back : ℕ} {r : Value} {kd : ℕ} {start many after : ℕ} → Valued s end at kind back (stage v) r → r ≡ Is kd start many after → leb end after ≡ ok v
    value_whole {many = many} {after = after} a q = by (leb end after) refl (valued_at a q).0
      where
        by : (b : Bool) → leb end after ≡ b → span 0 (stage v) ≡ spans many (from s after end) → leb end after ≡ ok v
        by true e p = e ∙ sym (whole_at (stage v) many after refl p (leb-true end after e))
        by false e p = e ∙ sym (part_at (stage v) many after refl p (leb-false end after e))

    value_refused : {kind back : ℕ} {r : Value} {fault : Fault} → Valued s end at kind back (stage v) r → r ≡ Refused fault → false ≡ ok v
    value_refused a q = sym (none_at (stage v) _ _ refl (valued_refused a q).0)

from_all : (v : List ℕ) → from v 0 (length v) ≡ v
unfolding from
from_all v = let q : length v - 0 ≡ length v = omega arith in ap (λ (n : ℕ). take n v) q ∙ take-length v

-- A text whose end alone is missing

abbrev wants_end : Span → Bool
wants_end (spans n rest) = false
wants_end (misses refusal left) = eqb left 0

wants_more : (b n : ℕ) (t : Taken) → wants_end (span n (prefixed b t)) ≡ wants_end (span n t)
wants_more b n (took v rest) = refl
wants_more b n (failed refusal left) = refl

text_wants : (rule : Rule) (n : ℕ) (v : List ℕ) → wants_end (span n (take_text rule v)) ≡ text_ok rule v
unfolding take_text text_ok
text_wants rule n [] = refl
text_wants rule n (b ∷ v) = at (eqb b 0) refl (text_byte rule b) refl (text_wants rule n v)
  where
    at : (z : Bool) → eqb b 0 ≡ z → (l : Bool) → text_byte rule b ≡ l → wants_end (span n (take_text rule v)) ≡ text_ok rule v → wants_end (span n (pick z (took [] v) (pick l (prefixed b (take_text rule v)) (failed 8 (suc (length v)))))) ≡ (l && text_ok rule v)
    at true q true e i = let h = text_byte_above rule b (subst T (sym e) tt) in let z = eqb-true b 0 q in absurd (omega arith)
    at true q false e i = refl
    at false q true e i = wants_more b n (take_text rule v) ∙ i
    at false q false e i = ne_eqb (suc (length v)) 0 (λ x. omega arith)

-- a text of no byte
pub none_ok : (rule : Rule) (v : List ℕ) → length v ≡ 0 → true ≡ text_ok rule v
unfolding text_ok
none_ok rule [] h = refl
none_ok rule (b ∷ v) h = absurd (omega arith)

pub text_run_lem : (rule : Rule) (v : List ℕ) {place : ℕ} → Run rule v (length v) 0 place → leb (length v) place ≡ text_ok rule v
unfolding text_ok
text_run_lem rule v {place} r =
    at (leb (length v) place) refl ∙ sym (text_wants rule (place - 0) (from v place (length v))) ∙ sym (ap wants_end r.skipped.is) ∙ text_wants rule 0 (from v 0 (length v)) ∙ ap (text_ok rule) (from_all v)
  where
    at : (b : Bool) → leb (length v) place ≡ b → b ≡ text_ok rule (from v place (length v))
    at true q = sym (ap (text_ok rule) (from_end v place (length v) (leb-true (length v) place q)))
    at false q =
        let l = leb-false (length v) place q in
        sym (ap (text_ok rule) (from_cons v place (length v) l (omega arith)) ∙ ap (λ (x : Bool). x && text_ok rule (from v (place + 1) (length v))) (r.stops l))

-- A number, a date

abbrev number_here : List ℕ → Bool
number_here v = number_ok 0 true v

module _ (v : List ℕ) {kind back : ℕ} {r : Value} where
  pub number_whole : {kd : ℕ} {s n after : ℕ} → Valued v (length v) 0 kind back (take_number 0 true (from v 0 (length v))) r → r ≡ Is kd s n after → leb (length v) after ≡ number_ok 0 true v
  number_whole a q = value_whole (take_number 0 true) number_here (λ v t. number_in 0 true v [] t) (number_out 0 true) v 0 (length v) (omega arith) (omega arith) a q ∙ ap number_here (from_all v)

  pub number_refused : {fault : Fault} → Valued v (length v) 0 kind back (take_number 0 true (from v 0 (length v))) r → r ≡ Refused fault → false ≡ number_ok 0 true v
  number_refused a q = value_refused (take_number 0 true) number_here (λ v t. number_in 0 true v [] t) (number_out 0 true) v 0 (length v) (omega arith) (omega arith) a q ∙ ap number_here (from_all v)

  module _ (cs : List Check) where
    pub date_whole : {kd : ℕ} {s n after : ℕ} → Valued v (length v) 0 kind back (take_date cs [] (from v 0 (length v))) r → r ≡ Is kd s n after → leb (length v) after ≡ date_ok cs [] v
    date_whole a q = value_whole (take_date cs []) (date_ok cs []) (λ v t. date_in cs [] v [] t) (date_out cs []) v 0 (length v) (omega arith) (omega arith) a q ∙ ap (date_ok cs []) (from_all v)

    pub date_refused : {fault : Fault} → Valued v (length v) 0 kind back (take_date cs [] (from v 0 (length v))) r → r ≡ Refused fault → false ≡ date_ok cs [] v
    date_refused a q = value_refused (take_date cs []) (date_ok cs []) (λ v t. date_in cs [] v [] t) (date_out cs []) v 0 (length v) (omega arith) (omega arith) a q ∙ ap (date_ok cs []) (from_all v)

-- a date has as many bytes as checks
other_length : (cs : List Check) (earlier v : List ℕ) → (length v ≡ length cs → ⊥) → false ≡ date_ok cs earlier v
unfolding date_ok
other_length [] earlier [] h = absurd (h refl)
other_length [] earlier (b ∷ v) h = refl
other_length (c ∷ cs) earlier [] h = refl
other_length (c ∷ cs) earlier (b ∷ v) h = at (passes c earlier b) (other_length cs (b ∷ earlier) v (λ q. h (ap suc q)))
  where
    at : (p : Bool) → false ≡ date_ok cs (b ∷ earlier) v → false ≡ (p && date_ok cs (b ∷ earlier) v)
    at true q = q
    at false q = refl

pub date_length_lem : (reach : Reach) (designated : Bool) (v : List ℕ) → (length v ≡ date_length designated → ⊥) → false ≡ date_ok (date_checks reach designated) [] v
date_length_lem reach designated v h = other_length (date_checks reach designated) [] v (λ q. h (q ∙ long reach designated))
  where
    long : (reach : Reach) (designated : Bool) → length (date_checks reach designated) ≡ date_length designated
    long absolute true = refl
    long absolute false = refl
    long relative true = refl
    long relative false = refl

-- A single byte that is the code

pub only_other : (c : ℕ) (v : List ℕ) → (length v ≡ 1 → ⊥) → false ≡ is_only c v
only_other c [] h = refl
only_other c (b ∷ []) h = absurd (h refl)
only_other c (b ∷ (d ∷ v)) h = refl

pub only_byte : (c : ℕ) (v : List ℕ) {b : ℕ} → length v ≡ 1 → b ≡ get_or v 0 0 → eqb b c ≡ is_only c v
only_byte c [] k q = absurd (omega arith)
only_byte c (d ∷ []) k q = ap (λ (x : ℕ). eqb x c) q
only_byte c (d ∷ (e ∷ v)) k q = absurd (omega arith)

-- No byte, and blocks

pub empty_is : (v : List ℕ) → is_empty v ≡ eqb (length v) 0
empty_is [] = refl
empty_is (b ∷ v) = sym (ne_eqb (suc (length v)) 0 (λ q. omega arith))
