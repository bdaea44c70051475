-- The papers' texts, blocks and numbers, and the reader's tests of them, both ways.
use Rattle.std.specs.Prelude.{ℕ, zero, suc, ◌+◌, ◌*◌, ◌/◌, ◌%◌, ◌≤◌, ◌<◌, List, [], ◌∷◌, ◌++◌, Bool, true, false, ◌&&◌, ◌||◌, not, ◌⊎◌, ◌≡◌, refl, T, eqb, leb, ltb, length}
use Rattle.std.proofs.Common.{inl, inr, ap, sym, ◌∙◌, subst, arith, eqb→eq, leb→le, le→leb, ltb→lt, lt→ltb, le-ltb, lt-ltb, ltb-true, ltb-false}
use Rattle.meaning.specs.Basics.{pick}
use Rattle.meaning.specs.Told.{Strictness, strict, tolerant, Told}
use Rattle.meaning.specs.Bytes.{Rule, line, note, is_break, text_byte, text_ok, Width, one_byte, two_bytes, four_bytes, bytes_of, fewest, past, shortest_only, too_wide, length_bytes, number_ok}
use Rattle.meaning.specs.Plain.{digits_within, digits_of, packed, number_bytes, number_value}
use Rattle.laws_steps.specs.Logic.{left_of, right_of, both, either, or_left}
use Rattle.laws_steps.specs.Values.{may_stand}
use Rattle.laws_demands.specs.CodedNumbers.{coded_value}
use Rattle.laws_demands.specs.PlainNumbers.{value_coded}
use Rattle.papers.specs.Values.{TextByte, plain, tab, new_line, carriage_return, String, empty, character, NullTerminatedString, string, Len8, Len16, Len32, Decimal, digit, another, Digits, even, odd, BinNumber, bin_number}
use Rattle.papers.specs.Papers.{ByteSequence, counted}
use Rattle.papers.specs.Values

-- Texts

byte_in : (rule : Rule) (b : ℕ) → TextByte rule b → T (text_byte rule b)
unfolding text_byte
byte_in line b (plain h) = le→leb 0x20 b h
byte_in note b (plain h) = or_left (leb 0x20 b) (is_break b) (le→leb 0x20 b h)
byte_in _ _ tab = tt
byte_in _ _ new_line = tt
byte_in _ _ carriage_return = tt

byte_out : (rule : Rule) (b : ℕ) → T (text_byte rule b) → TextByte rule b
unfolding text_byte
byte_out line b ok = plain (leb→le 0x20 b ok)
byte_out note b ok = by (either (leb 0x20 b) (is_break b) ok)
  where
    last : T (eqb b 0x09 || eqb b 0x0a) ⊎ T (eqb b 0x0d) → TextByte note b
    last (inr u) = subst (TextByte note) (sym (eqb→eq b 0x0d u)) carriage_return
    last (inl u) = two (either (eqb b 0x09) (eqb b 0x0a) u)
      where
        two : T (eqb b 0x09) ⊎ T (eqb b 0x0a) → TextByte note b
        two (inl w) = subst (TextByte note) (sym (eqb→eq b 0x09 w)) tab
        two (inr w) = subst (TextByte note) (sym (eqb→eq b 0x0a w)) new_line

    by : T (leb 0x20 b) ⊎ T (is_break b) → TextByte note b
    by (inl h) = plain (leb→le 0x20 b h)
    by (inr h) = last (either (eqb b 0x09 || eqb b 0x0a) (eqb b 0x0d) h)

pub string_ok : {rule : Rule} (v : List ℕ) → String rule v → T (text_ok rule v)
unfolding text_ok
string_ok _ empty = tt
string_ok {rule} (b ∷ v) (character h more) = both (text_byte rule b) (text_ok rule v) (byte_in rule b h) (string_ok v more)

pub ok_string : {rule : Rule} (v : List ℕ) → T (text_ok rule v) → String rule v
unfolding text_ok
ok_string [] ok = empty
ok_string {rule} (b ∷ v) ok = character (byte_out rule b (left_of (text_byte rule b) (text_ok rule v) ok)) (ok_string v (right_of (text_byte rule b) (text_ok rule v) ok))

-- a text that passes is a NullTerminatedString
pub textual : {rule : Rule} {v : List ℕ} → T (text_ok rule v) → NullTerminatedString rule (v ++ (0x00 ∷ [])) 0 v
textual {rule} {v} ok = string (ok_string v ok)

-- Blocks: what the three widths ask

abbrev pub LenOf : Width → ℕ → List ℕ → Type 0
LenOf one_byte = Len8
LenOf two_bytes = Len16
LenOf four_bytes = Len32

pub length_out : (w : Width) (n : ℕ) (a : List ℕ) → LenOf w n a → (a ≡ length_bytes w n) × (length a ≡ bytes_of w) × (n < past w)
length_out one_byte n _ (Values.Len8.one h) = (refl, refl, h)
length_out two_bytes n _ (Values.Len16.short h) = (refl, refl, h)
length_out four_bytes n _ (Values.Len32.long h) = (refl, refl, h)

pub length_in : (w : Width) (n : ℕ) → n < past w → LenOf w n (length_bytes w n)
length_in one_byte n h = Values.Len8.one h
length_in two_bytes n h = Values.Len16.short h
length_in four_bytes n h = Values.Len32.long h

length_long : (w : Width) (n : ℕ) → length (length_bytes w n) ≡ bytes_of w
length_long one_byte n = refl
length_long two_bytes n = refl
length_long four_bytes n = refl

-- "The shortest length form is required", and not of a tolerant reading
shortest_in : (t : Told) (w : Width) (n : ℕ) → (t.strictness ≡ strict → fewest w ≤ n) → T (not (too_wide t w n))
unfolding too_wide
shortest_in t w n h = by t.strictness refl
  where
    by : (s : Strictness) → t.strictness ≡ s → T (not (ltb n (fewest w) && shortest_only s))
    by strict q = rw (le-ltb n (fewest w) (h q)) tt
    by tolerant q = neither (ltb n (fewest w))
      where
        neither : (b : Bool) → T (not (b && false))
        neither true = tt
        neither false = tt

shortest_out : (t : Told) (w : Width) (n : ℕ) → T (not (too_wide t w n)) → t.strictness ≡ strict → fewest w ≤ n
unfolding too_wide
shortest_out t w n ok q = at (ltb n (fewest w)) refl (subst (λ (s : Strictness). T (not (ltb n (fewest w) && shortest_only s))) q ok)
  where
    at : (b : Bool) → ltb n (fewest w) ≡ b → T (not (b && true)) → fewest w ≤ n
    at true r u = absurd u
    at false r u = ltb-false n (fewest w) r

pub block_out : (t : Told) (w : Width) (a : List ℕ) (before : ℕ) (v : List ℕ) → ByteSequence t (LenOf w) (fewest w) a before v → (a ≡ length_bytes w (length v) ++ v) × (before ≡ bytes_of w) × T (may_stand t w v)
block_out t w _ _ v (counted {length-bytes} len short) = at (length_out w (length v) length-bytes len)
  where
    at : (length-bytes ≡ length_bytes w (length v)) × (length length-bytes ≡ bytes_of w) × (length v < past w)
        → (length-bytes ++ v ≡ length_bytes w (length v) ++ v) × (length length-bytes ≡ bytes_of w) × T (may_stand t w v)
    at (same, long, less) = (ap (λ (l : List ℕ). l ++ v) same, long, both (not (too_wide t w (length v))) (ltb (length v) (past w)) (shortest_in t w (length v) short) (lt→ltb (length v) (past w) less))

pub block_in : (t : Told) (w : Width) (v : List ℕ) → T (may_stand t w v) → ByteSequence t (LenOf w) (fewest w) (length_bytes w (length v) ++ v) (bytes_of w) v
block_in t w v ok =
    let len : LenOf w (length v) (length_bytes w (length v)) = length_in w (length v) (ltb→lt (length v) (past w) (right_of (not (too_wide t w (length v))) (ltb (length v) (past w)) ok)) in
    subst (λ (n : ℕ). ByteSequence t (LenOf w) (fewest w) (length_bytes w (length v) ++ v) n v) (length_long w (length v))
    (counted len (shortest_out t w (length v) (left_of (not (too_wide t w (length v))) (ltb (length v) (past w)) ok)))

-- Numbers: a number has its digits, and they are packed as the encoder does

decimal_in : (k n : ℕ) → n < k → Decimal n (digits_within k n)
unfolding digits_within
decimal_in zero n h = absurd (omega arith)
decimal_in (suc k) n h = at (ltb n 10) refl (λ l. decimal_in k (n / 10) l)
  where
    at : (b : Bool) → ltb n 10 ≡ b → (n / 10 < k → Decimal (n / 10) (digits_within k (n / 10))) → Decimal n (pick b (n ∷ []) (digits_within k (n / 10) ++ (n % 10 ∷ [])))
    at true q ih = let l : n ≤ 9 = omega (arith, ltb-true n 10 q) in digit l
    at false q ih =
        let l = ltb-false n 10 q in
        let same : 10 * (n / 10) + n % 10 ≡ n = omega arith in
        subst (λ (x : ℕ). Decimal x (digits_within k (n / 10) ++ (n % 10 ∷ []))) same (another (ih (omega arith)) (omega arith) (omega arith))

decimal_out : (n : ℕ) (digits : List ℕ) → Decimal n digits → (k : ℕ) → n < k → digits_within k n ≡ digits
unfolding digits_within
decimal_out n _ (digit h) zero l = absurd (omega arith)
decimal_out n _ (digit h) (suc k) l = rw (lt-ltb n 10 (omega arith)) refl
decimal_out _ _ (another {n} {d} {digits} more some h) zero l = absurd (omega arith)
decimal_out _ _ (another {n} {d} {digits} more some h) (suc k) l =
    let e₁ : (10 * n + d) / 10 ≡ n = omega arith in
    let e₂ : (10 * n + d) % 10 ≡ d = omega arith in
    rw (le-ltb (10 * n + d) 10 (omega arith), e₁, e₂, decimal_out n digits more k (omega arith)) refl

digits_in : (digits : List ℕ) → Digits digits (packed digits)
unfolding packed
digits_in [] = even
digits_in (d ∷ []) = odd
digits_in (d ∷ (c ∷ digits)) = Values.Digits.both (digits_in digits)

digits_out : (digits bytes : List ℕ) → Digits digits bytes → bytes ≡ packed digits
unfolding packed
digits_out _ _ even = refl
digits_out _ _ odd = refl
digits_out _ _ (Values.Digits.both {d} {c} {digits} {bytes} more) = ap (λ (l : List ℕ). (16 * (d + 1) + (c + 1)) ∷ l) (digits_out digits bytes more)

pub number_out : (a : List ℕ) (before : ℕ) (v : List ℕ) → BinNumber a before v → (a ≡ v) × (before ≡ 0) × T (number_ok 0 true v)
unfolding number_bytes digits_of
number_out _ _ _ (bin_number {n} {digits} {bytes} h decimal coded) =
    let same : number_bytes n ≡ bytes = ap packed (decimal_out n digits decimal (suc n) (omega arith)) ∙ sym (digits_out digits bytes coded) in
    (refl, refl, subst (λ (l : List ℕ). T (number_ok 0 true l)) same (coded_value n h).0)

pub number_in : (v : List ℕ) → T (number_ok 0 true v) → BinNumber v 0 v
unfolding number_bytes digits_of
number_in v ok =
    let w = value_coded v ok in
    let n = number_value 0 v in
    subst (λ (l : List ℕ). BinNumber l 0 l) w.0 (bin_number w.1 (decimal_in (suc n) n (omega arith)) (digits_in (digits_of n)))
