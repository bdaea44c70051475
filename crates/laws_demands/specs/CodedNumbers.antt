-- A number that is coded is decoded to itself: its decimal digits, packed two to a byte.
use Rattle.std.specs.Prelude.{ℕ, zero, suc, ◌+◌, ◌-◌, ◌*◌, ◌/◌, ◌%◌, ◌≤◌, ◌<◌, List, [], ◌∷◌, ◌++◌, Bool, true, false, ◌&&◌, ◌⊎◌, ◌≡◌, refl, T, eqb, ltb}
use Rattle.std.proofs.Common.{inl, inr, ◌∙◌, arith, ltb→lt, lt→ltb, eq-eqb, ne_eqb, le-leb, ltb-true, ltb-false}
use Rattle.meaning.specs.Basics.{pick, every}
use Rattle.meaning.specs.Bytes.{number_most, stop, more, turn, number_ok}
use Rattle.meaning.specs.Plain.{number_value, digits_within, digits_of, packed, number_bytes}
use Rattle.laws_steps.specs.Logic.{left_of, right_of, both}

-- a list of digits, and its value behind a number
abbrev pub is_ten : ℕ → Bool
is_ten d = ltb d 10

abbrev pub tens : List ℕ → Bool
tens ds = every is_ten ds

abbrev pub val : ℕ → List ℕ → ℕ
val n [] = n
val n (d ∷ ds) = val (10 * n + d) ds

pub val_grows : (ds : List ℕ) (n : ℕ) → n ≤ val n ds
val_grows [] n = omega arith
val_grows (d ∷ ds) n = let h = val_grows ds (10 * n + d) in omega arith

-- digits that may begin a number: some, and no 0 before another
abbrev pub Begins : Bool → List ℕ → Type 0
Begins false ds = Unit {0}
Begins true [] = ⊥
Begins true (d ∷ []) = Unit {0}
Begins true (d ∷ (c ∷ ds)) = 0 < d

-- Digits, packed

turn_last : (n d : ℕ) (first : Bool) → d < 10 → 10 * n + d ≤ number_most → turn n first (16 * (d + 1)) ≡ stop
unfolding turn
turn_last n d first hd hm =
    let b = 16 * (d + 1) in
    let l : b % 16 ≡ 0 = omega arith in
    rw (ne_eqb b 0 (λ q. omega arith), l, le-leb 1 (b / 16) (omega arith), le-leb (b / 16) 10 (omega arith), le-leb (10 * n + (b / 16 - 1)) number_most (omega arith)) refl

no_leading : (first : Bool) (d h : ℕ) → h ≡ d + 1 → (first ≡ true → 0 < d) → first && eqb h 1 ≡ false
no_leading true d h q k = let p = k refl in ne_eqb h 1 (λ x. omega arith)
no_leading false d h q k = refl

turn_two : (n d c : ℕ) (first : Bool) → d < 10 → c < 10 → (first ≡ true → 0 < d) → 10 * (10 * n + d) + c ≤ number_most → turn n first (16 * (d + 1) + (c + 1)) ≡ more (10 * (10 * n + d) + c)
unfolding turn
turn_two n d c first hd hc k hm =
    let b = 16 * (d + 1) + (c + 1) in
    let h : b / 16 ≡ d + 1 = omega arith in
    let e₁ : b / 16 - 1 ≡ d = omega arith in
    let e₂ : b % 16 - 1 ≡ c = omega arith in
    rw (
      ne_eqb b 0 (λ q. omega arith),
      le-leb 1 (b / 16) (omega arith),
      le-leb (b / 16) 10 (omega arith),
      e₁,
      e₂,
      le-leb (10 * n + d) number_most (omega arith),
      ne_eqb (b % 16) 0 (λ q. omega arith),
      le-leb 1 (b % 16) (omega arith),
      le-leb (b % 16) 10 (omega arith),
      no_leading first d (b / 16) h k,
      le-leb (10 * (10 * n + d) + c) number_most hm,
    ) refl

begins_two : (first : Bool) (d c : ℕ) (ds : List ℕ) → Begins first (d ∷ (c ∷ ds)) → first ≡ true → 0 < d
begins_two true d c ds t q = t
begins_two false d c ds t q = let z : ◌≡◌ {A = ℕ} 0 1 = cc q in absurd (omega arith)

pub packed_two : (d c : ℕ) (ds : List ℕ) → packed (d ∷ (c ∷ ds)) ≡ (16 * (d + 1) + (c + 1)) ∷ packed ds
unfolding packed
packed_two d c ds = refl

ok_more : (n x b : ℕ) (first : Bool) (v : List ℕ) → turn n first b ≡ more x → T (number_ok x false v) → T (number_ok n first (b ∷ v))
unfolding number_ok
ok_more n x b first v q t = rw q t

ok_stop : (n b : ℕ) (first : Bool) → turn n first b ≡ stop → T (number_ok n first (b ∷ []))
unfolding number_ok
ok_stop n b first q = rw q tt

pub value_one : (n d : ℕ) → number_value n (16 * (d + 1) ∷ []) ≡ 10 * n + d
unfolding number_value
value_one n d =
    let b = 16 * (d + 1) in
    rw (ne_eqb b 0 (λ q. omega arith), eq-eqb (b % 16) 0 (omega arith)) (omega arith)

pub value_two : (n d c : ℕ) (v : List ℕ) → c < 10 → number_value n ((16 * (d + 1) + (c + 1)) ∷ v) ≡ number_value (10 * (10 * n + d) + c) v
unfolding number_value
value_two n d c v hc =
    let b = 16 * (d + 1) + (c + 1) in
    let e₁ : b / 16 - 1 ≡ d = omega arith in
    let e₂ : b % 16 - 1 ≡ c = omega arith in
    rw (ne_eqb b 0 (λ q. omega arith), ne_eqb (b % 16) 0 (λ q. omega arith), e₁, e₂) refl

pub value_end : (n : ℕ) → number_value n (0 ∷ []) ≡ n
unfolding number_value
value_end n = refl

end_ok_lem : (n : ℕ) → T (number_ok n false (0 ∷ []))
unfolding number_ok turn
end_ok_lem n = tt

packed_ok : (ds : List ℕ) (n : ℕ) (first : Bool) → T (tens ds) → val n ds ≤ number_most → Begins first ds → T (number_ok n first (packed ds)) × (number_value n (packed ds) ≡ val n ds)
unfolding packed
packed_ok [] n true t h k = absurd k
packed_ok [] n false t h k = (end_ok_lem n, value_end n)
packed_ok (d ∷ []) n first t h k =
    let hd = ltb→lt d 10 (left_of (is_ten d) true t) in
    (ok_stop n (16 * (d + 1)) first (turn_last n d first hd h), value_one n d)
packed_ok (d ∷ (c ∷ ds)) n first t h k =
    let x = 10 * (10 * n + d) + c in
    let t₁ = right_of (is_ten d) (tens (c ∷ ds)) t in
    let hd = ltb→lt d 10 (left_of (is_ten d) (tens (c ∷ ds)) t) in
    let hc = ltb→lt c 10 (left_of (is_ten c) (tens ds) t₁) in
    let g : x ≤ val x ds = val_grows ds x in
    let (i, j) = packed_ok ds x false (right_of (is_ten c) (tens ds) t₁) h tt in
    (ok_more n x (16 * (d + 1) + (c + 1)) first (packed ds) (turn_two n d c first hd hc (begins_two first d c ds k) (omega arith)) i, value_two n d c (packed ds) hc ∙ j)

-- The digits of a number

pub val_append : (xs : List ℕ) (d n : ℕ) → val n (xs ++ (d ∷ [])) ≡ 10 * val n xs + d
val_append [] d n = refl
val_append (x ∷ xs) d n = val_append xs d (10 * n + x)

tens_append : (xs : List ℕ) (d : ℕ) → T (tens xs) → d < 10 → T (tens (xs ++ (d ∷ [])))
tens_append [] d t h = both (is_ten d) true (lt→ltb d 10 h) tt
tens_append (x ∷ xs) d t h = both (is_ten x) (tens (xs ++ (d ∷ []))) (left_of (is_ten x) (tens xs) t) (tens_append xs d (right_of (is_ten x) (tens xs) t) h)

-- the first digit is above 0
abbrev pub Top : List ℕ → Type 0
Top [] = ⊥
Top (d ∷ ds) = 0 < d

top_append : (xs : List ℕ) (d : ℕ) → Top xs → Top (xs ++ (d ∷ []))
top_append [] d t = absurd t
top_append (x ∷ xs) d t = t

top_begins : (ds : List ℕ) → Top ds → Begins true ds
top_begins [] t = t
top_begins (d ∷ []) t = tt
top_begins (d ∷ (c ∷ ds)) t = t

-- digits with the value n; and if n is not 0, the first is above 0
abbrev DigitsOf : ℕ → List ℕ → Type 0
DigitsOf n ds = (val 0 ds ≡ n) × T (tens ds) × (0 < n → Top ds)

digits_pick : (k n : ℕ) (z : Bool) → ltb n 10 ≡ z → DigitsOf (n / 10) (digits_within k (n / 10)) ⊎ (n < 10) → DigitsOf n (pick z (n ∷ []) (digits_within k (n / 10) ++ (n % 10 ∷ [])))
digits_pick k n true q ih = (omega arith, both (is_ten n) true (lt→ltb n 10 (ltb-true n 10 q)) tt, λ h. h)
digits_pick k n false q (inr h) = let g = ltb-false n 10 q in absurd (omega arith)
digits_pick k n false q (inl (v, t, top)) =
    let g = ltb-false n 10 q in let ds = digits_within k (n / 10) in
    (val_append ds (n % 10) 0 ∙ omega arith, tens_append ds (n % 10) t (omega arith), λ h. top_append ds (n % 10) (top (omega arith)))

digits_within_lem : (k n : ℕ) → n < k → DigitsOf n (digits_within k n)
unfolding digits_within
digits_within_lem zero n h = absurd (omega arith)
digits_within_lem (suc k) n h = digits_pick k n (ltb n 10) refl (at (ltb n 10) refl (λ g. digits_within_lem k (n / 10) (omega arith)))
  where
    at : (z : Bool) → ltb n 10 ≡ z → (10 ≤ n → DigitsOf (n / 10) (digits_within k (n / 10))) → DigitsOf (n / 10) (digits_within k (n / 10)) ⊎ (n < 10)
    at true q f = inr (ltb-true n 10 q)
    at false q f = inl (f (ltb-false n 10 q))

digits_begin : (n : ℕ) (ds : List ℕ) → DigitsOf n ds → ds ≡ digits_of n → Begins true ds
unfolding digits_of digits_within
digits_begin zero ds d q = rw q tt
digits_begin (suc n) ds d q = top_begins ds (d.2 (omega arith))

-- coded, then decoded
pub coded_value : (n : ℕ) → n ≤ number_most → T (number_ok 0 true (number_bytes n)) × (number_value 0 (number_bytes n) ≡ n)
unfolding number_bytes digits_of
coded_value n h =
    let ds = digits_within (suc n) n in
    let d : DigitsOf n ds = digits_within_lem (suc n) n (omega arith) in
    let (i, j) = packed_ok ds 0 true d.1 (omega (arith, d.0)) (digits_begin n ds d refl) in
    (i, j ∙ d.0)
