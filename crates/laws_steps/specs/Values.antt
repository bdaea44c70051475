-- A valid value that is written is taken back; and a value that was taken is valid, and was written so. By induction over the bytes.
use Rattle.std.specs.Prelude.{ℕ, zero, suc, ◌+◌, ◌*◌, ◌/◌, ◌%◌, ◌≤◌, ◌<◌, List, [], ◌∷◌, ◌++◌, Bool, true, false, ◌&&◌, not, ◌≡◌, refl, T, eqb, leb, ltb, length}
use Rattle.std.proofs.Common.{append_assoc, ap, sym, subst, arith, leb→le, ltb→lt, lt→ltb, eqb→eq, ne_eqb, le-ltb, eqb-true}
use Rattle.std.proofs.Math.Dec.{eqb_refl}
use Rattle.meaning.specs.Told.{Told}
use Rattle.meaning.specs.Basics.{pick, is_empty}
use Rattle.meaning.specs.Bytes.{Taken, took, failed, prefixed, Rule, line, note, text_byte, take_text, text_ok, Check, passes, take_date, date_ok, date_checks, Turn, stop, more, wrong, turn, after_turn, ok_turn, take_number, number_ok, take_bytes, high_first, counted, Width, one_byte, two_bytes, four_bytes, bytes_of, fewest, past, shortest_only, too_wide, length_bytes, block_of, take_block, block_ok}
use Rattle.meaning.specs.Editions.{Form, text, date, number, block, itself, opens, quiet}
use Rattle.meaning.specs.Reading.{take_value}
use Rattle.meaning.specs.Writing.{is_only, valid, write_value}
use Rattle.laws_steps.specs.Logic.{left_of, right_of, both, is_true, are_bytes, first_byte, other_bytes}

-- which bytes a text allows: neither its end nor a closing 01
pub text_byte_above : (rule : Rule) (b : ℕ) → T (text_byte rule b) → 1 < b
unfolding text_byte
text_byte_above line zero t = absurd t
text_byte_above line (suc zero) t = absurd t
text_byte_above line (suc (suc b)) t = omega arith
text_byte_above note zero t = absurd t
text_byte_above note (suc zero) t = absurd t
text_byte_above note (suc (suc b)) t = omega arith

-- Written, then taken

pub text_in : (rule : Rule) (v rest : List ℕ) → T (text_ok rule v) → take_text rule (v ++ (0 ∷ rest)) ≡ took v rest
unfolding take_text text_ok
text_in rule [] rest t = refl
text_in rule (b ∷ v) rest t =
    let h = text_byte_above rule b (left_of (text_byte rule b) (text_ok rule v) t) in
    rw (ne_eqb b 0 (λ q. omega arith), is_true (text_byte rule b) (left_of (text_byte rule b) (text_ok rule v) t)) (ap (prefixed b) (text_in rule v rest (right_of (text_byte rule b) (text_ok rule v) t)))

pub date_in : (cs : List Check) (earlier v rest : List ℕ) → T (date_ok cs earlier v) → take_date cs earlier (v ++ rest) ≡ took v rest
unfolding take_date date_ok
date_in [] earlier [] rest t = refl
date_in [] earlier (b ∷ v) rest t = absurd t
date_in (c ∷ cs) earlier [] rest t = absurd t
date_in (c ∷ cs) earlier (b ∷ v) rest t =
    let ok = left_of (passes c earlier b) (date_ok cs (b ∷ earlier) v) t in
    rw (is_true (passes c earlier b) ok) (ap (prefixed b) (date_in cs (b ∷ earlier) v rest (right_of (passes c earlier b) (date_ok cs (b ∷ earlier) v) t)))

number_turn : (b : ℕ) (v rest : List ℕ) (u : Turn) → ((n : ℕ) → T (number_ok n false v) → take_number n false (v ++ rest) ≡ took v rest)
    → T (ok_turn v (λ n. number_ok n false v) u) → after_turn b (v ++ rest) (λ n. take_number n false (v ++ rest)) u ≡ took (b ∷ v) rest
number_turn b [] rest stop ih t = refl
number_turn b (a ∷ v) rest stop ih t = absurd t
number_turn b v rest (more n) ih t = ap (prefixed b) (ih n t)
number_turn b v rest wrong ih t = absurd t

pub number_in : (n : ℕ) (first : Bool) (v rest : List ℕ) → T (number_ok n first v) → take_number n first (v ++ rest) ≡ took v rest
unfolding take_number number_ok
number_in n first [] rest t = absurd t
number_in n first (b ∷ v) rest t = number_turn b v rest (turn n first b) (λ k. number_in k false v rest) t

bytes_in_lem : (v rest : List ℕ) → take_bytes (length v) (v ++ rest) ≡ took v rest
unfolding take_bytes
bytes_in_lem [] rest = refl
bytes_in_lem (b ∷ v) rest = ap (prefixed b) (bytes_in_lem v rest)

pub length_in : (w : Width) (n : ℕ) (rest : List ℕ) → n < past w → high_first (bytes_of w) 0 (length_bytes w n ++ rest) ≡ counted n rest
unfolding high_first
length_in one_byte n rest h = ap (λ (k : ℕ). counted k rest) (omega arith)
length_in two_bytes n rest h = ap (λ (k : ℕ). counted k rest) (omega arith)
length_in four_bytes n rest h = ap (λ (k : ℕ). counted k rest) (omega arith)

-- a length within its form is not too wide
fits_width : (told : Told) (w : Width) (n : ℕ) → fewest w ≤ n → too_wide told w n ≡ false
unfolding too_wide
fits_width told w n h = ap (λ (b : Bool). b && shortest_only told.strictness) (le-ltb n (fewest w) h)

abbrev block_write : Width → List ℕ → List ℕ
block_write w v = length_bytes w (length v) ++ v

block_in : (told : Told) (w : Width) (left : ℕ) (v rest : List ℕ) → T (block_ok w v) → take_block told w left (block_write w v ++ rest) ≡ took v rest
unfolding take_block block_of block_ok
block_in told w left v rest t =
    let lo = leb→le (fewest w) (length v) (left_of (leb (fewest w) (length v)) (ltb (length v) (past w)) t) in
    let hi = ltb→lt (length v) (past w) (right_of (leb (fewest w) (length v)) (ltb (length v) (past w)) t) in
    rw (append_assoc (length_bytes w (length v)) v rest, length_in w (length v) (v ++ rest) hi, fits_width told w (length v) lo, bytes_in_lem v rest) refl

itself_in : (c : ℕ) (v rest : List ℕ) → T (is_only c v) → took (c ∷ []) rest ≡ took v rest
itself_in c [] rest t = absurd t
itself_in c (b ∷ []) rest t = ap (λ (k : ℕ). took (k ∷ []) rest) (sym (eqb→eq b c t))
itself_in c (b ∷ (d ∷ v)) rest t = absurd t

empty_in : (v rest : List ℕ) → T (is_empty v) → took [] rest ≡ took v rest
empty_in [] rest t = refl
empty_in (b ∷ v) rest t = absurd t

pub value_in : (told : Told) (f : Form) (left c : ℕ) (v rest : List ℕ) → T (valid f c v) → take_value told f left c (write_value f v ++ rest) ≡ took v rest
unfolding take_value write_value valid
value_in told (text rule) left c v rest t = rw (append_assoc v (0 ∷ []) rest) (text_in rule v rest t)
value_in told (date reach designated) left c v rest t = date_in (date_checks reach designated) [] v rest t
value_in told number left c v rest t = number_in 0 true v rest t
value_in told (block w) left c v rest t = block_in told w left v rest t
value_in told itself left c v rest t = itself_in c v rest t
value_in told opens left c v rest t = empty_in v rest t
value_in told quiet left c v rest t = empty_in v rest t

-- Taken, then written: what is known of a value that was taken from s, by cases on the answer

module _ (written : List ℕ → List ℕ) (ok : List ℕ → Bool) where
  abbrev pub Was : List ℕ → Taken → Type 0
  Was s (took v rest) = (s ≡ written v ++ rest) × T (ok v)
  Was s (failed refusal left) = Unit {0}

abbrev pub ended : List ℕ → List ℕ
ended v = v ++ (0 ∷ [])

text_more : (rule : Rule) (b : ℕ) (s : List ℕ) (g : Taken) → T (text_byte rule b) → Was ended (text_ok rule) s g → Was ended (text_ok rule) (b ∷ s) (prefixed b g)
unfolding text_ok
text_more rule b s (failed refusal left) h i = tt
text_more rule b s (took v rest) h i = (ap (λ (r : List ℕ). b ∷ r) i.0, both (text_byte rule b) (text_ok rule v) h i.1)

text_byte_lem : (rule : Rule) (b : ℕ) (s : List ℕ) (z l : Bool) → eqb b 0 ≡ z → text_byte rule b ≡ l → Was ended (text_ok rule) s (take_text rule s)
    → Was ended (text_ok rule) (b ∷ s) (pick z (took [] s) (pick l (prefixed b (take_text rule s)) (failed 8 (suc (length s)))))
unfolding text_ok
text_byte_lem rule b s true l ez el i = (ap (λ (k : ℕ). k ∷ s) (eqb-true b 0 ez), tt)
text_byte_lem rule b s false true ez el i = text_more rule b s (take_text rule s) (subst T (sym el) tt) i
text_byte_lem rule b s false false ez el i = tt

pub text_out : (rule : Rule) (s : List ℕ) → Was ended (text_ok rule) s (take_text rule s)
unfolding take_text
text_out rule [] = tt
text_out rule (b ∷ s) = text_byte_lem rule b s (eqb b 0) (text_byte rule b) refl refl (text_out rule s)

abbrev plainly : List ℕ → List ℕ
plainly v = v

date_more : (c : Check) (cs : List Check) (earlier : List ℕ) (b : ℕ) (s : List ℕ) (g : Taken) → passes c earlier b ≡ true → Was plainly (date_ok cs (b ∷ earlier)) s g
    → Was plainly (date_ok (c ∷ cs) earlier) (b ∷ s) (prefixed b g)
unfolding date_ok
date_more c cs earlier b s (failed refusal left) h i = tt
date_more c cs earlier b s (took v rest) h i =
    (ap (λ (r : List ℕ). b ∷ r) i.0, both (passes c earlier b) (date_ok cs (b ∷ earlier) v) (subst T (sym h) tt) i.1)

date_byte : (c : Check) (cs : List Check) (earlier : List ℕ) (b : ℕ) (s : List ℕ) (p : Bool) → passes c earlier b ≡ p → Was plainly (date_ok cs (b ∷ earlier)) s (take_date cs (b ∷ earlier) s)
    → Was plainly (date_ok (c ∷ cs) earlier) (b ∷ s) (pick p (prefixed b (take_date cs (b ∷ earlier) s)) (failed 9 (suc (length s))))
date_byte c cs earlier b s true ep i = date_more c cs earlier b s (take_date cs (b ∷ earlier) s) ep i
date_byte c cs earlier b s false ep i = tt

pub date_out : (cs : List Check) (earlier s : List ℕ) → Was plainly (date_ok cs earlier) s (take_date cs earlier s)
unfolding take_date date_ok
date_out [] earlier s = (refl, tt)
date_out (c ∷ cs) earlier [] = tt
date_out (c ∷ cs) earlier (b ∷ s) = date_byte c cs earlier b s (passes c earlier b) refl (date_out cs (b ∷ earlier) s)

number_more : (n k : ℕ) (first : Bool) (b : ℕ) (s : List ℕ) (g : Taken) → turn n first b ≡ more k → Was plainly (number_ok k false) s g → Was plainly (number_ok n first) (b ∷ s) (prefixed b g)
unfolding number_ok
number_more n k first b s (failed refusal left) h i = tt
number_more n k first b s (took v rest) h i = (ap (λ (r : List ℕ). b ∷ r) i.0, rw h i.1)

number_byte : (n : ℕ) (first : Bool) (b : ℕ) (s : List ℕ) (u : Turn) → turn n first b ≡ u → ((k : ℕ) → Was plainly (number_ok k false) s (take_number k false s))
    → Was plainly (number_ok n first) (b ∷ s) (after_turn b s (λ k. take_number k false s) u)
unfolding number_ok
number_byte n first b s stop eu ih = (refl, rw eu tt)
number_byte n first b s (more k) eu ih = number_more n k first b s (take_number k false s) eu (ih k)
number_byte n first b s wrong eu ih = tt

pub number_out : (n : ℕ) (first : Bool) (s : List ℕ) → Was plainly (number_ok n first) s (take_number n first s)
unfolding take_number
number_out n first [] = tt
number_out n first (b ∷ s) = number_byte n first b s (turn n first b) refl (λ k. number_out k false s)

abbrev pub Took : ℕ → List ℕ → Taken → Type 0
Took n s (took v rest) = (s ≡ v ++ rest) × (length v ≡ n)
Took n s (failed refusal left) = Unit {0}

took_more : (n b : ℕ) (s : List ℕ) (g : Taken) → Took n s g → Took (suc n) (b ∷ s) (prefixed b g)
took_more n b s (failed refusal left) i = tt
took_more n b s (took v rest) i = (ap (λ (r : List ℕ). b ∷ r) i.0, ap suc i.1)

pub bytes_out : (n : ℕ) (s : List ℕ) → Took n s (take_bytes n s)
unfolding take_bytes
bytes_out zero s = (refl, refl)
bytes_out (suc n) [] = tt
bytes_out (suc n) (b ∷ s) = took_more n b s (take_bytes n s) (bytes_out n s)

-- the bytes of a block may stand behind a length of this width
abbrev pub may_stand : Told → Width → List ℕ → Bool
may_stand told w v = not (too_wide told w (length v)) && ltb (length v) (past w)

-- the length n stands before the bytes s
block_taken : (told : Told) (w : Width) (n : ℕ) (s : List ℕ) (g : Taken) → too_wide told w n ≡ false → n < past w → Took n s g → Was (block_write w) (may_stand told w) (length_bytes w n ++ s) g
block_taken told w n s (failed refusal left) lo hi i = tt
block_taken told w n s (took v rest) lo hi i = (
  rw (append_assoc (length_bytes w (length v)) v rest, i.1, ← i.0) refl,
  rw (i.1, lo) (lt→ltb n (past w) hi),
)

block_counted : (told : Told) (w : Width) (left n : ℕ) (s : List ℕ) (p : Bool) → too_wide told w n ≡ p → n < past w → Was (block_write w) (may_stand told w) (length_bytes w n ++ s) (pick p (failed 11 left) (take_bytes n s))
block_counted told w left n s true ep hi = tt
block_counted told w left n s false ep hi = block_taken told w n s (take_bytes n s) ep hi (bytes_out n s)

block_at : (told : Told) (w : Width) (left n : ℕ) (s t : List ℕ) → t ≡ length_bytes w n ++ s → n < past w → Was (block_write w) (may_stand told w) t (block_of told w left (counted n s))
unfolding block_of
block_at told w left n s t e hi = rw e (block_counted told w left n s (too_wide told w n) refl hi)

block_out : (told : Told) (w : Width) (left : ℕ) (s : List ℕ) → T (are_bytes s) → Was (block_write w) (may_stand told w) s (take_block told w left s)
unfolding take_block high_first block_of
block_out told one_byte left [] t = tt
block_out told one_byte left (a ∷ s) t =
    let ha = first_byte a s t in
    let n : ℕ = 256 * 0 + a in
    let e : n ≡ a = omega arith in
    block_at told one_byte left n s (a ∷ s) (cc) (omega arith)
block_out told two_bytes left [] t = tt
block_out told two_bytes left (a ∷ []) t = tt
block_out told two_bytes left (a ∷ (b ∷ s)) t =
    let t₁ = other_bytes a (b ∷ s) t in
    let ha = first_byte a (b ∷ s) t in let hb = first_byte b s t₁ in
    let n : ℕ = 256 * (256 * 0 + a) + b in
    let e₀ : n / 256 ≡ a = omega arith in
    let e₁ : n % 256 ≡ b = omega arith in
    block_at told two_bytes left n s (a ∷ (b ∷ s)) (cc) (omega arith)
block_out told four_bytes left [] t = tt
block_out told four_bytes left (a ∷ []) t = tt
block_out told four_bytes left (a ∷ (b ∷ [])) t = tt
block_out told four_bytes left (a ∷ (b ∷ (c ∷ []))) t = tt
block_out told four_bytes left (a ∷ (b ∷ (c ∷ (d ∷ s)))) t =
    let t₁ = other_bytes a (b ∷ (c ∷ (d ∷ s))) t in let t₂ = other_bytes b (c ∷ (d ∷ s)) t₁ in let t₃ = other_bytes c (d ∷ s) t₂ in
    let ha = first_byte a (b ∷ (c ∷ (d ∷ s))) t in let hb = first_byte b (c ∷ (d ∷ s)) t₁ in let hc = first_byte c (d ∷ s) t₂ in let hd = first_byte d s t₃ in
    let n : ℕ = 256 * (256 * (256 * (256 * 0 + a) + b) + c) + d in
    let e₀ : n / 16777216 ≡ a = omega arith in
    let e₁ : n / 65536 % 256 ≡ b = omega arith in
    let e₂ : n / 256 % 256 ≡ c = omega arith in
    let e₃ : n % 256 ≡ d = omega arith in
    block_at told four_bytes left n s (a ∷ (b ∷ (c ∷ (d ∷ s)))) (cc) (omega arith)

-- bytes that a reading takes as a value of this form: the writer's, and for a tolerant reading blocks in a wider form
unfoldable pub allowed : Told → Form → ℕ → List ℕ → Bool
allowed told (text rule) code v = valid (text rule) code v
allowed told (date reach designated) code v = valid (date reach designated) code v
allowed told number code v = valid number code v
allowed told (block w) code v = may_stand told w v
allowed told itself code v = valid itself code v
allowed told opens code v = valid opens code v
allowed told quiet code v = valid quiet code v

pub value_out : (told : Told) (f : Form) (left c : ℕ) (s : List ℕ) → T (are_bytes s) → Was (write_value f) (allowed told f c) s (take_value told f left c s)
unfolding take_value write_value valid allowed
value_out told (text rule) left c s t = text_out rule s
value_out told (date reach designated) left c s t = date_out (date_checks reach designated) [] s
value_out told number left c s t = number_out 0 true s
value_out told (block w) left c s t = block_out told w left s t
value_out told itself left c s t = (refl, eqb_refl c)
value_out told opens left c s t = (refl, tt)
value_out told quiet left c s t = (refl, tt)
