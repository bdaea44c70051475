-- A value is refused exactly where `BadValue` says so: each fault is given with its number and the bytes left, and nothing else is.
use Rattle.std.specs.Prelude.{ℕ, zero, suc, ◌+◌, ◌*◌, ◌≤◌, ◌<◌, Bool, true, false, ◌≡◌, refl, T, eqb, ltb, length}
use mathlib.Core.List.{List, [], ◌∷◌, ◌++◌}
use Rattle.std.proofs.Common.{ap, sym, subst, arith, ne_eqb, lt-ltb, le-ltb, ltb-true, ltb-false}
use Rattle.std.proofs.lemmas.Bool.{eqb-false}
use Rattle.meaning.specs.Basics.{pick}
use Rattle.meaning.specs.Bytes.{Taken, took, failed, prefixed, Rule, text_byte, take_text, text_ok, Reach, Check, passes, take_date, date_ok, date_checks, Turn, stop, more, wrong, turn, after_turn, take_number, Count, counted, short, high_first, Width, bytes_of, fewest, too_wide, take_bytes, block_of, take_block}
use Rattle.meaning.specs.Told.{Edition, told}
use Rattle.meaning.specs.Editions.{Form, text, date, number, block, itself, opens, quiet}
use Rattle.meaning.specs.Reading.{take_value}
use Rattle.laws_steps.specs.Logic.{left_of, right_of, both, is_true}
use Rattle.laws_steps.specs.Values.{text_byte_above}
use Rattle.laws_tables.specs.Refusals.{Leaves, high_leaves}
use Rattle.meaning.specs.Faults.{Worth, backwards, Digits, none_more, and_more, BadValue, text_ends, date_ends, number_ends, length_ends, block_ends, text_byte_lem, date_byte, number_byte, length_wide}

-- Numbers of so many bytes

count_not : {A : Type 0} {n : ℕ} {s : List ℕ} → short ≡ counted n s → A
count_not q = let z : ◌≡◌ {A = ℕ} 0 1 = cc q in absurd (omega arith)

worth_on : (w n : ℕ) (ls rest : List ℕ) (k : ℕ) → high_first w n ls ≡ counted k [] → high_first w n (ls ++ rest) ≡ counted k rest
unfolding high_first
worth_on zero n [] rest k q = ap (λ (x : ℕ). counted x rest) (cc q)
worth_on zero n (b ∷ ls) rest k q = let z : ◌≡◌ {A = List ℕ} (b ∷ ls) [] = cc q in let y : suc (length ls) ≡ 0 = ap length z in absurd (omega arith)
worth_on (suc w) n [] rest k q = count_not q
worth_on (suc w) n (b ∷ ls) rest k q = worth_on w (256 * n + b) ls rest k q

-- with anything behind it
pub worth_before : {w n : ℕ} {ls : List ℕ} → Worth w ls n → (rest : List ℕ) → high_first w 0 (ls ++ rest) ≡ counted n rest
worth_before {w} {n} {ls} h rest = worth_on w 0 ls rest n h.is

pub worth_length : {w n : ℕ} {ls : List ℕ} → Worth w ls n → length ls ≡ w
worth_length {w} {n} {ls} h = let l = subst (Leaves w ls) h.is (high_leaves w 0 ls) in omega arith

split_at : (w n : ℕ) (s : List ℕ) (k : ℕ) (rest : List ℕ) → high_first w n s ≡ counted k rest → (ls : List ℕ) × (s ≡ ls ++ rest) × (high_first w n ls ≡ counted k [])
unfolding high_first
split_at zero n s k rest q = ([], cc q, ap (λ (x : ℕ). counted x []) (cc q))
split_at (suc w) n [] k rest q = count_not q
split_at (suc w) n (b ∷ s) k rest q = let (ls, p, h) = split_at w (256 * n + b) s k rest q in (b ∷ ls, ap (λ (x : List ℕ). b ∷ x) p, h)

pub worth_of : (w : ℕ) (s : List ℕ) (n : ℕ) (rest : List ℕ) → high_first w 0 s ≡ counted n rest → (ls : List ℕ) × (s ≡ ls ++ rest) × Worth w ls n
worth_of w s n rest q = let (ls, p, h) = split_at w 0 s n rest q in (ls, p, record { is = h })

pub too_short : (w n : ℕ) (s : List ℕ) → length s < w → high_first w n s ≡ short
unfolding high_first
too_short zero n s h = absurd (omega arith)
too_short (suc w) n [] h = refl
too_short (suc w) n (b ∷ s) h = too_short w (256 * n + b) s (omega arith)

pub is_short_lem : (w n : ℕ) (s : List ℕ) → high_first w n s ≡ short → length s < w
unfolding high_first
is_short_lem zero n s q = count_not (sym q)
is_short_lem (suc w) n [] q = omega arith
is_short_lem (suc w) n (b ∷ s) q = let h = is_short_lem w (256 * n + b) s q in omega arith

-- From what is said to what is given

text_ended : (rule : Rule) (v : List ℕ) → T (text_ok rule v) → take_text rule v ≡ failed 6 0
unfolding take_text text_ok
text_ended rule [] t = refl
text_ended rule (b ∷ v) t =
    let ok = left_of (text_byte rule b) (text_ok rule v) t in
    let h = text_byte_above rule b ok in
    rw (ne_eqb b 0 (λ q. omega arith), is_true (text_byte rule b) ok) (ap (prefixed b) (text_ended rule v (right_of (text_byte rule b) (text_ok rule v) t)))

text_wrong : (rule : Rule) (v rest : List ℕ) (b : ℕ) → T (text_ok rule v) → (b ≡ 0 → ⊥) → text_byte rule b ≡ false → take_text rule (v ++ (b ∷ rest)) ≡ failed 8 (length (b ∷ rest))
unfolding take_text text_ok
text_wrong rule [] rest b t n q = rw (ne_eqb b 0 n, q) refl
text_wrong rule (x ∷ v) rest b t n q =
    let ok = left_of (text_byte rule x) (text_ok rule v) t in
    let h = text_byte_above rule x ok in
    rw (ne_eqb x 0 (λ q. omega arith), is_true (text_byte rule x) ok) (ap (prefixed x) (text_wrong rule v rest b (right_of (text_byte rule x) (text_ok rule v) t) n q))

date_ended : (cs ds : List Check) (c : Check) (earlier v : List ℕ) → T (date_ok cs earlier v) → take_date (cs ++ (c ∷ ds)) earlier v ≡ failed 6 0
unfolding take_date date_ok
date_ended [] ds c earlier [] t = refl
date_ended [] ds c earlier (b ∷ v) t = absurd t
date_ended (x ∷ cs) ds c earlier [] t = absurd t
date_ended (x ∷ cs) ds c earlier (b ∷ v) t =
    rw (is_true (passes x earlier b) (left_of (passes x earlier b) (date_ok cs (b ∷ earlier) v) t)) (ap (prefixed b) (date_ended cs ds c (b ∷ earlier) v (right_of (passes x earlier b) (date_ok cs (b ∷ earlier) v) t)))

date_wrong : (cs ds : List Check) (c : Check) (earlier v rest : List ℕ) (b : ℕ) → T (date_ok cs earlier v) → passes c (backwards v earlier) b ≡ false → take_date (cs ++ (c ∷ ds)) earlier (v ++ (b ∷ rest)) ≡ failed 9 (length (b ∷ rest))
unfolding take_date date_ok
date_wrong [] ds c earlier [] rest b t q = rw q refl
date_wrong [] ds c earlier (x ∷ v) rest b t q = absurd t
date_wrong (y ∷ cs) ds c earlier [] rest b t q = absurd t
date_wrong (y ∷ cs) ds c earlier (x ∷ v) rest b t q =
    rw (is_true (passes y earlier x) (left_of (passes y earlier x) (date_ok cs (x ∷ earlier) v) t)) (ap (prefixed x) (date_wrong cs ds c (x ∷ earlier) v rest b (right_of (passes y earlier x) (date_ok cs (x ∷ earlier) v) t) q))

number_ended : {n m : ℕ} {first last : Bool} {v : List ℕ} → Digits n first v m last → take_number n first v ≡ failed 6 0
unfolding take_number
number_ended none_more = refl
number_ended (and_more {b = b} q ds) = rw q (ap (prefixed b) (number_ended ds))

number_wrong : {n m : ℕ} {first last : Bool} {v : List ℕ} → Digits n first v m last → (rest : List ℕ) (b : ℕ) → turn m last b ≡ wrong → take_number n first (v ++ (b ∷ rest)) ≡ failed 10 (length (b ∷ rest))
unfolding take_number
number_wrong none_more rest b q = rw q refl
number_wrong (and_more {b = x} p ds) rest b q = rw p (ap (prefixed x) (number_wrong ds rest b q))

bytes_ended : (n : ℕ) (v : List ℕ) → length v < n → take_bytes n v ≡ failed 6 0
unfolding take_bytes
bytes_ended zero v h = absurd (omega arith)
bytes_ended (suc n) [] h = refl
bytes_ended (suc n) (b ∷ v) h = ap (prefixed b) (bytes_ended n v (omega arith))

is_wide : (e : Edition) (w : Width) (n : ℕ) → n < fewest w → too_wide (told e) w n ≡ true
unfolding too_wide
is_wide e w n h = rw (lt-ltb n (fewest w) h) refl

is_not_wide : (e : Edition) (w : Width) (n : ℕ) → fewest w ≤ n → too_wide (told e) w n ≡ false
unfolding too_wide
is_not_wide e w n h = rw (le-ltb n (fewest w) h) refl

pub value_fails : (e : Edition) {f : Form} {code : ℕ} (c : ℕ) {s : List ℕ} {refusal left : ℕ} → BadValue code f s refusal left → take_value (told e) f code c s ≡ failed refusal left
unfolding take_value take_block block_of
value_fails e z (text_ends {rule = rule} v t) = text_ended rule v t
value_fails e z (date_ends cs ds c v q t) = rw q (date_ended cs ds c [] v t)
value_fails e z (number_ends d) = number_ended d
value_fails e z (length_ends {w = w} v h) = rw (too_short (bytes_of w) 0 v h) refl
value_fails e z (block_ends {w = w} {n = n} v h lo hi) = rw (worth_before h v, is_not_wide e w n lo) (bytes_ended n v hi)
value_fails e z (text_byte_lem {rule = rule} v rest b t n q) = text_wrong rule v rest b t n q
value_fails e z (date_byte cs ds c v rest b p t q) = rw p (date_wrong cs ds c [] v rest b t q)
value_fails e z (number_byte rest b d q) = number_wrong d rest b q
value_fails e z (length_wide {w = w} {n = n} rest h hi) = rw (worth_before h rest, is_wide e w n hi) refl

-- From what is given to what is said

abbrev pub ValueFault : ℕ → Form → List ℕ → Taken → Type 0
ValueFault code f s (took v rest) = Unit {0}
ValueFault code f s (failed refusal left) = BadValue code f s refusal left

text_later : (code : ℕ) (rule : Rule) (b : ℕ) {s : List ℕ} {refusal left : ℕ} → T (text_byte rule b) → BadValue code (text rule) s refusal left → BadValue code (text rule) (b ∷ s) refusal left
unfolding text_ok
text_later code rule b ok (text_ends v t) = text_ends (b ∷ v) (both (text_byte rule b) (text_ok rule v) ok t)
text_later code rule b ok (text_byte_lem v rest x t n q) = text_byte_lem (b ∷ v) rest x (both (text_byte rule b) (text_ok rule v) ok t) n q

text_prefixed : (code : ℕ) (rule : Rule) (b : ℕ) (s : List ℕ) (g : Taken) → T (text_byte rule b) → ValueFault code (text rule) s g → ValueFault code (text rule) (b ∷ s) (prefixed b g)
text_prefixed code rule b s (took v rest) ok i = tt
text_prefixed code rule b s (failed refusal left) ok i = text_later code rule b ok i

text_fault : (code : ℕ) (rule : Rule) (s : List ℕ) → ValueFault code (text rule) s (take_text rule s)
unfolding take_text text_ok
text_fault code rule [] = text_ends [] tt
text_fault code rule (b ∷ s) = at (eqb b 0) (text_byte rule b) refl refl (text_fault code rule s)
  where
    at : (x y : Bool) → eqb b 0 ≡ x → text_byte rule b ≡ y → ValueFault code (text rule) s (take_text rule s) → ValueFault code (text rule) (b ∷ s) (pick x (took [] s) (pick y (prefixed b (take_text rule s)) (failed 8 (suc (length s)))))
    at true y p q ih = tt
    at false true p q ih = text_prefixed code rule b s (take_text rule s) (subst T (sym q) tt) ih
    at false false p q ih = text_byte_lem [] s b tt (eqb-false b 0 p) q

-- a date's fault behind the bytes `earlier`, with these checks to come
data DateFault (all : List Check) (earlier : List ℕ) : List ℕ → ℕ → ℕ → Type 0 where
  ended : (cs ds : List Check) (c : Check) (v : List ℕ) → all ≡ cs ++ (c ∷ ds) → T (date_ok cs earlier v) → DateFault all earlier v 6 0
  fails : (cs ds : List Check) (c : Check) (v rest : List ℕ) (b : ℕ) → all ≡ cs ++ (c ∷ ds) → T (date_ok cs earlier v) → passes c (backwards v earlier) b ≡ false → DateFault all earlier (v ++ (b ∷ rest)) 9 (length (b ∷ rest))

abbrev DateIs : List Check → List ℕ → List ℕ → Taken → Type 0
DateIs all earlier s (took v rest) = Unit {0}
DateIs all earlier s (failed refusal left) = DateFault all earlier s refusal left

module _ (c : Check) (all : List Check) (earlier : List ℕ) (b : ℕ) (ok : T (passes c earlier b)) where
  date_later : {s : List ℕ} {refusal left : ℕ} → DateFault all (b ∷ earlier) s refusal left → DateFault (c ∷ all) earlier (b ∷ s) refusal left
  unfolding date_ok
  date_later (DateFault.ended cs ds d v q t) = DateFault.ended (c ∷ cs) ds d (b ∷ v) (ap (λ (x : List Check). c ∷ x) q) (both (passes c earlier b) (date_ok cs (b ∷ earlier) v) ok t)
  date_later (DateFault.fails cs ds d v rest x q t p) = DateFault.fails (c ∷ cs) ds d (b ∷ v) rest x (ap (λ (x : List Check). c ∷ x) q) (both (passes c earlier b) (date_ok cs (b ∷ earlier) v) ok t) p

  date_prefixed : (s : List ℕ) (g : Taken) → DateIs all (b ∷ earlier) s g → DateIs (c ∷ all) earlier (b ∷ s) (prefixed b g)
  date_prefixed s (took v rest) i = tt
  date_prefixed s (failed refusal left) i = date_later i

date_fault : (all : List Check) (earlier s : List ℕ) → DateIs all earlier s (take_date all earlier s)
unfolding take_date date_ok
date_fault [] earlier s = tt
date_fault (c ∷ all) earlier [] = DateFault.ended [] all c [] refl tt
date_fault (c ∷ all) earlier (b ∷ s) = at (passes c earlier b) refl (date_fault all (b ∷ earlier) s)
  where
    at : (x : Bool) → passes c earlier b ≡ x → DateIs all (b ∷ earlier) s (take_date all (b ∷ earlier) s) → DateIs (c ∷ all) earlier (b ∷ s) (pick x (prefixed b (take_date all (b ∷ earlier) s)) (failed 9 (suc (length s))))
    at true q ih = date_prefixed c all earlier b (subst T (sym q) tt) s (take_date all (b ∷ earlier) s) ih
    at false q ih = DateFault.fails [] all c [] s b refl tt q

date_said : (code : ℕ) (reach : Reach) (designated : Bool) (s : List ℕ) (g : Taken) → DateIs (date_checks reach designated) [] s g → ValueFault code (date reach designated) s g
date_said code reach designated s (took v rest) i = tt
date_said code reach designated s (failed refusal left) i = at i
  where
    at : {s : List ℕ} {refusal left : ℕ} → DateFault (date_checks reach designated) [] s refusal left → BadValue code (date reach designated) s refusal left
    at (DateFault.ended cs ds c v q t) = date_ends cs ds c v q t
    at (DateFault.fails cs ds c v rest b q t p) = date_byte cs ds c v rest b q t p

-- a payload length's fault behind the number n
data NumberFault (n : ℕ) (first : Bool) : List ℕ → ℕ → ℕ → Type 0 where
  ended : {m : ℕ} {last : Bool} {v : List ℕ} → Digits n first v m last → NumberFault n first v 6 0
  fails : {m : ℕ} {last : Bool} {v : List ℕ} (rest : List ℕ) (b : ℕ) → Digits n first v m last → turn m last b ≡ wrong → NumberFault n first (v ++ (b ∷ rest)) 10 (length (b ∷ rest))

abbrev NumberIs : ℕ → Bool → List ℕ → Taken → Type 0
NumberIs n first s (took v rest) = Unit {0}
NumberIs n first s (failed refusal left) = NumberFault n first s refusal left

module _ (n k : ℕ) (first : Bool) (b : ℕ) (q : turn n first b ≡ more k) where
  number_later : {s : List ℕ} {refusal left : ℕ} → NumberFault k false s refusal left → NumberFault n first (b ∷ s) refusal left
  number_later (NumberFault.ended d) = NumberFault.ended (and_more q d)
  number_later (NumberFault.fails rest x d p) = NumberFault.fails rest x (and_more q d) p

  number_prefixed : (s : List ℕ) (g : Taken) → NumberIs k false s g → NumberIs n first (b ∷ s) (prefixed b g)
  number_prefixed s (took v rest) i = tt
  number_prefixed s (failed refusal left) i = number_later i

number_fault : (n : ℕ) (first : Bool) (s : List ℕ) → NumberIs n first s (take_number n first s)
unfolding take_number
number_fault n first [] = NumberFault.ended none_more
number_fault n first (b ∷ s) = at (turn n first b) refl (λ k. number_fault k false s)
  where
    at : (u : Turn) → turn n first b ≡ u → ((k : ℕ) → NumberIs k false s (take_number k false s)) → NumberIs n first (b ∷ s) (after_turn b s (λ k. take_number k false s) u)
    at stop q ih = tt
    at (more k) q ih = number_prefixed n k first b q s (take_number k false s) (ih k)
    at wrong q ih = NumberFault.fails s b none_more q

number_said : (code : ℕ) (s : List ℕ) (g : Taken) → NumberIs 0 true s g → ValueFault code number s g
number_said code s (took v rest) i = tt
number_said code s (failed refusal left) i = at i
  where
    at : {s : List ℕ} {refusal left : ℕ} → NumberFault 0 true s refusal left → BadValue code number s refusal left
    at (NumberFault.ended d) = number_ends d
    at (NumberFault.fails rest b d p) = number_byte rest b d p

-- a block's bytes run out
abbrev BytesIs : ℕ → List ℕ → Taken → Type 0
BytesIs n s (took v rest) = Unit {0}
BytesIs n s (failed refusal left) = (refusal ≡ 6) × (left ≡ 0) × (length s < n)

bytes_fault : (n : ℕ) (s : List ℕ) → BytesIs n s (take_bytes n s)
unfolding take_bytes
bytes_fault zero s = tt
bytes_fault (suc n) [] = (refl, refl, omega arith)
bytes_fault (suc n) (b ∷ s) = later (take_bytes n s) (bytes_fault n s)
  where
    later : (g : Taken) → BytesIs n s g → BytesIs (suc n) (b ∷ s) (prefixed b g)
    later (took v rest) i = tt
    later (failed refusal left) (p, q, h) = (p, q, omega arith)

block_fault : (e : Edition) (w : Width) (code : ℕ) (s : List ℕ) → ValueFault code (block w) s (take_block (told e) w code s)
unfolding take_block block_of
block_fault e w code s = at (high_first (bytes_of w) 0 s) refl
  where
    runs_out : (ls rest : List ℕ) (n : ℕ) (g : Taken) → Worth (bytes_of w) ls n → fewest w ≤ n → BytesIs n rest g → ValueFault code (block w) (ls ++ rest) g
    runs_out ls rest n (took v left) h lo i = tt
    runs_out ls rest n (failed refusal left) h lo (p, q, hi) = subst (λ (x : ℕ). BadValue code (block w) (ls ++ rest) x left) (sym p) (subst (BadValue code (block w) (ls ++ rest) 6) (sym q) (block_ends rest h lo hi))

    by_width : (ls rest : List ℕ) (n : ℕ) (b : Bool) → ltb n (fewest w) ≡ b → Worth (bytes_of w) ls n → ValueFault code (block w) (ls ++ rest) (pick (too_wide (told e) w n) (failed 11 code) (take_bytes n rest))
    by_width ls rest n true q h = let lo = ltb-true n (fewest w) q in rw (is_wide e w n lo) (length_wide rest h lo)
    by_width ls rest n false q h = let lo = ltb-false n (fewest w) q in rw (is_not_wide e w n lo) (runs_out ls rest n (take_bytes n rest) h lo (bytes_fault n rest))

    at : (r : Count) → high_first (bytes_of w) 0 s ≡ r → ValueFault code (block w) s (block_of (told e) w code r)
    at short q = length_ends s (is_short_lem (bytes_of w) 0 s q)
    at (counted n rest) q =
        let (ls, p, h) = worth_of (bytes_of w) s n rest q in
        subst (λ (x : List ℕ). ValueFault code (block w) x (block_of (told e) w code (counted n rest))) (sym p) (by_width ls rest n (ltb n (fewest w)) refl h)

pub value_fault : (e : Edition) (f : Form) (code c : ℕ) (s : List ℕ) → ValueFault code f s (take_value (told e) f code c s)
unfolding take_value
value_fault e (text rule) code c s = text_fault code rule s
value_fault e (date reach designated) code c s = date_said code reach designated s (take_date (date_checks reach designated) [] s) (date_fault (date_checks reach designated) [] s)
value_fault e number code c s = number_said code s (take_number 0 true s) (number_fault 0 true s)
value_fault e (block w) code c s = block_fault e w code s
value_fault e itself code c s = tt
value_fault e opens code c s = tt
value_fault e quiet code c s = tt
