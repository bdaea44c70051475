-- Words as binary digits: `|` joins the codes of two runs of rows, the count of ones is the number of codes, and no other digit is set.
use Rattle.std.specs.Prelude.{ℕ, zero, suc, ◌+◌, ◌*◌, ◌/◌, ◌%◌, ◌≤◌, ◌<◌, max, List, [], ◌∷◌, ◌++◌, Bool, true, false, ◌||◌, ◌≡◌, refl, length}
use Rattle.std.proofs.Common.{ap, sym, ◌∙◌, arith}
use Rattle.std.specs.Int.Bits.{bit_or, or_step}
use Rattle.meaning.specs.Basics.{pick}
use Rattle.meaning.specs.Skips.{Rank}
use Rattle.meaning.specs.Codes.{has_value}
use Rattle.meaning.specs.Words.{occurs, parameter_codes, word_of, codes_among, codes_in, ones_within, ones_of}

-- Digits, the lowest first

abbrev digit : Bool → ℕ
digit b = pick b 1 0

abbrev number : List Bool → ℕ
number [] = 0
number (b ∷ bs) = number bs * 2 + digit b

abbrev joined : List Bool → List Bool → List Bool
joined [] cs = cs
joined (b ∷ bs) [] = b ∷ bs
joined (b ∷ bs) (c ∷ cs) = (b || c) ∷ joined bs cs

half_of : (n : ℕ) (b : Bool) → (n * 2 + digit b) / 2 ≡ n
half_of n true = omega arith
half_of n false = omega arith

odd_of : (n : ℕ) (b : Bool) → (n * 2 + digit b) % 2 ≡ digit b
odd_of n true = omega arith
odd_of n false = omega arith

max_of : (b c : Bool) → max (digit b) (digit c) ≡ digit (b || c)
max_of true true = refl
max_of true false = refl
max_of false true = refl
max_of false false = refl

or_joined : (bs cs : List Bool) → length bs ≡ length cs → bit_or (number bs) (number cs) ≡ number (joined bs cs)
or_joined [] [] l = refl
or_joined [] (c ∷ cs) l = absurd (omega arith)
or_joined (b ∷ bs) [] l = absurd (omega arith)
or_joined (b ∷ bs) (c ∷ cs) l =
    or_step (number bs * 2 + digit b) (number cs * 2 + digit c)
    ∙ rw (half_of (number bs) b, half_of (number cs) c, odd_of (number bs) b, odd_of (number cs) c, max_of b c, or_joined bs cs (omega arith)) refl

-- the digits of a word: one for each code, none for the closing 01
abbrev digits_of : (ℕ → Bool) → List Bool
digits_of f = f 0 ∷ false ∷ f 2 ∷ f 3 ∷ f 4 ∷ f 5 ∷ f 6 ∷ f 7 ∷ f 8 ∷ f 9 ∷ f 10 ∷ f 11 ∷ []

weighs : (b : Bool) (n : ℕ) → pick b n 0 ≡ n * digit b
weighs true n = omega arith
weighs false n = omega arith

word_number : (rows : List Rank) → word_of rows ≡ number (digits_of (λ c. occurs c rows))
unfolding word_of
word_number rows =
    omega (
      arith,
      weighs (occurs 0 rows) 1,
      weighs (occurs 2 rows) 4,
      weighs (occurs 3 rows) 8,
      weighs (occurs 4 rows) 16,
      weighs (occurs 5 rows) 32,
      weighs (occurs 6 rows) 64,
      weighs (occurs 7 rows) 128,
      weighs (occurs 8 rows) 256,
      weighs (occurs 9 rows) 512,
      weighs (occurs 10 rows) 1024,
      weighs (occurs 11 rows) 2048,
    )

-- Runs of rows

or_assoc : (a b c : Bool) → a || (b || c) ≡ (a || b) || c
or_assoc true b c = refl
or_assoc false b c = refl

pub occurs_append : (code : ℕ) (xs ys : List Rank) → occurs code (xs ++ ys) ≡ occurs code xs || occurs code ys
unfolding occurs
occurs_append code [] ys = refl
occurs_append code (x ∷ xs) ys = ap (λ (b : Bool). has_value code x || b) (occurs_append code xs ys) ∙ or_assoc (has_value code x) (occurs code xs) (occurs code ys)

-- rows in which the same codes occur have the same word
pub same_word : (xs ys : List Rank) → ((code : ℕ) → (code ≡ 1 → ⊥) → occurs code xs ≡ occurs code ys) → word_of xs ≡ word_of ys
unfolding word_of
same_word xs ys h = rw (h 0 (λ q. omega arith), h 2 (λ q. omega arith), h 3 (λ q. omega arith), h 4 (λ q. omega arith), h 5 (λ q. omega arith), h 6 (λ q. omega arith), h 7 (λ q. omega arith), h 8 (λ q. omega arith), h 9 (λ q. omega arith), h 10 (λ q. omega arith), h 11 (λ q. omega arith)) refl

-- the word of two runs
pub or_words : (xs ys : List Rank) → bit_or (word_of xs) (word_of ys) ≡ word_of (xs ++ ys)
or_words xs ys =
    let f : ℕ → Bool = λ c. occurs c xs in
    let g : ℕ → Bool = λ c. occurs c ys in
    let all : ℕ → Bool = λ c. occurs c (xs ++ ys) in
    let each : joined (digits_of f) (digits_of g) ≡ digits_of all = rw (occurs_append 0 xs ys, occurs_append 2 xs ys, occurs_append 3 xs ys, occurs_append 4 xs ys, occurs_append 5 xs ys, occurs_append 6 xs ys, occurs_append 7 xs ys, occurs_append 8 xs ys, occurs_append 9 xs ys, occurs_append 10 xs ys, occurs_append 11 xs ys) refl in
    ap (λ (x : ℕ). bit_or x (word_of ys)) (word_number xs) ∙ ap (bit_or (number (digits_of f))) (word_number ys) ∙ or_joined (digits_of f) (digits_of g) refl ∙ ap number each ∙ sym (word_number (xs ++ ys))

-- no rows, no codes
pub no_word : word_of [] ≡ 0
unfolding word_of occurs
no_word = refl

-- The count of ones

abbrev set_in : List Bool → ℕ
set_in [] = 0
set_in (b ∷ bs) = digit b + set_in bs

ones_number : (digits : ℕ) (bs : List Bool) → length bs ≤ digits → ones_within digits (number bs) ≡ set_in bs
unfolding ones_within
ones_number zero [] l = refl
ones_number zero (b ∷ bs) l = absurd (omega arith)
ones_number (suc d) [] l = omega (arith, ones_number d [] (omega arith))
ones_number (suc d) (b ∷ bs) l = rw (odd_of (number bs) b, half_of (number bs) b, ones_number d bs (omega arith)) refl

abbrev occurring : List ℕ → List Rank → ℕ
occurring [] rows = 0
occurring (code ∷ codes) rows = digit (occurs code rows) + occurring codes rows

codes_counted : (codes : List ℕ) (rows : List Rank) → length (codes_among codes rows) ≡ occurring codes rows
codes_counted [] rows = refl
codes_counted (code ∷ codes) rows = at (occurs code rows) (codes_counted codes rows)
  where
    at : (b : Bool) → length (codes_among codes rows) ≡ occurring codes rows → length (pick b (code ∷ codes_among codes rows) (codes_among codes rows)) ≡ digit b + occurring codes rows
    at true ih = ap suc ih ∙ omega arith
    at false ih = ih ∙ omega arith

-- "how many different codes it carries, from the word itself"
pub ones_codes : (rows : List Rank) → ones_of (word_of rows) ≡ length (codes_in rows)
unfolding ones_of
ones_codes rows = ap (ones_within 32) (word_number rows) ∙ ones_number 32 (digits_of (λ c. occurs c rows)) (omega arith) ∙ closing_none ∙ sym (codes_counted parameter_codes rows)
  where
    closing_none : set_in (digits_of (λ c. occurs c rows)) ≡ occurring parameter_codes rows
    closing_none = omega arith

-- "bit n for each parameter code n (00, 02 to 0B; never the closing 01)": no other bit
digit_most : (b : Bool) → digit b ≤ 1
digit_most true = omega arith
digit_most false = omega arith

pub no_other_bit : (rows : List Rank) → (word_of rows < 4096) × (word_of rows / 2 % 2 ≡ 0)
no_other_bit rows =
    let o : (c : ℕ) → digit (occurs c rows) ≤ 1 = λ c. digit_most (occurs c rows) in
    let q = word_number rows in (
      omega (arith, q, o 0, o 2, o 3, o 4, o 5, o 6, o 7, o 8, o 9, o 10, o 11),
      omega (arith, q, o 0),
    )

-- the fixed heads' bits
pub bit_four : (rows : List Rank) → occurs 4 rows ≡ true → word_of rows / 16 % 2 ≡ 1
bit_four rows h = let o : (c : ℕ) → digit (occurs c rows) ≤ 1 = λ c. digit_most (occurs c rows) in omega (arith, word_number rows, ap digit h, o 0, o 2, o 3)

pub bit_ten : (rows : List Rank) → occurs 10 rows ≡ true → word_of rows / 1024 % 2 ≡ 1
bit_ten rows h = let o : (c : ℕ) → digit (occurs c rows) ≤ 1 = λ c. digit_most (occurs c rows) in omega (arith, word_number rows, ap digit h, o 0, o 2, o 3, o 4, o 5, o 6, o 7, o 8, o 9)
