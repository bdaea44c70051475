-- The bytes of a date: the code's tests are the checks, by their number; and what a code says.
use Prim.Native.Nat.{ℕ, ◌+◌, ◌/◌, ◌%◌, ◌≤◌, ◌<◌}
use mathlib.Core.List.{List}
use mathlib.Core.Bool.{Bool, true, false, ◌&&◌}
use mathlib.Core.Path.{◌≡◌, refl, sym, ◌∙◌}
use native.Mathlib.Omega.{arith}
use borrow.Author.Tests.{eq-eqb, ne_eqb, le-leb, leb-true}
use lib.Dec.{leb}
use lib.ListN.{get_or}
use Rattle.meaning.specs.Bytes.{half, letter, is_digit, two_digits, pair_within, passes}
use Rattle.meaning.specs.Plain.{pair_byte}
use Rattle.meaning.specs.Told.{Edition, B, D}
use Rattle.meaning.specs.Editions.{Next, date, on◌▸◌▸◌▸◌}
use Rattle.meaning.specs.Reading.{look, find, hit, none}
use Rattle.std.specs.Prelude.{Option, None, Some}
use Rattle.date.specs.declared.Dated.{Dated}
use Rattle.table.specs.Kinds.{number_of}
use Rattle.values.specs.Stages.{Bears}
use Rattle.date.specs.Dates.{reaching, absolute_check, pair_check, check_at, earlier, dates_of, DateCode}
use Rattle.laws_steps.specs.Logic.{both_hold}

-- the code's tests of a byte are its check: the bytes of two digits are in the order of what they say
alike : (x y : Bool) → (x ≡ true → y ≡ true) → (y ≡ true → x ≡ true) → x ≡ y
alike true y f g = sym (f refl)
alike false true f g = g refl
alike false false f g = refl

module _ (least most b : ℕ) (h : b < 256) (l : least ≤ 99) (m : most ≤ 99) where
  ordered : (is_digit (b % 16) && leb (pair_byte least) b && leb b (pair_byte most)) ≡ true → pair_within least most b ≡ true
  ordered q =
      let (to-first, is_last) = both_hold (is_digit (b % 16) && leb (pair_byte least) b) (leb b (pair_byte most)) q in
      let (is_digit, is_first) = both_hold (is_digit (b % 16)) (leb (pair_byte least) b) to-first in
      let (from_one, to_ten) = both_hold (leb 1 (b % 16)) (leb (b % 16) 10) is_digit in
      let a = leb-true 1 (b % 16) from_one in
      let c = leb-true (b % 16) 10 to_ten in
      let d = leb-true (pair_byte least) b is_first in
      let e = leb-true b (pair_byte most) is_last in
      rw (le-leb 1 (b / 16) (omega arith), le-leb (b / 16) 10 (omega arith), from_one, to_ten, le-leb least (two_digits b) (omega arith), le-leb (two_digits b) most (omega arith)) refl

  said : pair_within least most b ≡ true → (is_digit (b % 16) && leb (pair_byte least) b && leb b (pair_byte most)) ≡ true
  said q =
      let (to-least, is-most) = both_hold (is_digit (b / 16) && is_digit (b % 16) && leb least (two_digits b)) (leb (two_digits b) most) q in
      let (digits, is-least) = both_hold (is_digit (b / 16) && is_digit (b % 16)) (leb least (two_digits b)) to-least in
      let (high, low) = both_hold (is_digit (b / 16)) (is_digit (b % 16)) digits in
      let (high_one, high-ten) = both_hold (leb 1 (b / 16)) (leb (b / 16) 10) high in
      let (low-one, low-ten) = both_hold (leb 1 (b % 16)) (leb (b % 16) 10) low in
      let a = leb-true 1 (b / 16) high_one in
      let c = leb-true (b / 16) 10 high-ten in
      let d = leb-true 1 (b % 16) low-one in
      let e = leb-true (b % 16) 10 low-ten in
      let f = leb-true least (two_digits b) is-least in
      let g = leb-true (two_digits b) most is-most in
      rw (low-one, low-ten, le-leb (pair_byte least) b (omega arith), le-leb b (pair_byte most) (omega arith)) refl

  pub within_is : {x : Bool} {first last : ℕ} → first ≡ pair_byte least → last ≡ pair_byte most → x ≡ is_digit (b % 16) → (x && leb first b && leb b last) ≡ pair_within least most b
  within_is p q r = rw (p, q, r) (alike (is_digit (b % 16) && leb (pair_byte least) b && leb b (pair_byte most)) (pair_within least most b) ordered said)

module _ (s : List ℕ) (at j : ℕ) (isAbsolute : Bool) {b : ℕ} (is : b ≡ get_or s (at + j) 0) {r : Bool} where
  pub check_padded : j ≡ 8 → ((before : List ℕ) → r ≡ passes half before b) → r ≡ passes (check_at isAbsolute j) (earlier s at j) (get_or s (at + j) 0)
  check_padded h a = a (earlier s at j) ∙ rw (is, eq-eqb j 8 h) refl

  module _ (h : j ≡ 8 → ⊥) where
    pub check_letter : j ≡ 9 → ((before : List ℕ) → r ≡ passes letter before b) → r ≡ passes (check_at isAbsolute j) (earlier s at j) (get_or s (at + j) 0)
    check_letter k a = a (earlier s at j) ∙ rw (is, ne_eqb j 8 h, eq-eqb j 9 k) refl

    pub check_pair : (j ≡ 9 → ⊥) → r ≡ passes (pair_check isAbsolute j) (earlier s at j) b → r ≡ passes (check_at isAbsolute j) (earlier s at j) (get_or s (at + j) 0)
    check_pair k a = a ∙ rw (is, ne_eqb j 8 h, ne_eqb j 9 k) refl

pub check_absolute : (j b : ℕ) (before : List ℕ) {isAbsolute r : Bool} → isAbsolute ≡ true → r ≡ passes (absolute_check j) before b → r ≡ passes (pair_check isAbsolute j) before b
check_absolute j b before h a = a ∙ rw h refl

pub check_relative : (j b : ℕ) (before : List ℕ) {isAbsolute r : Bool} → isAbsolute ≡ false → r ≡ pair_within 0 99 b → r ≡ passes (pair_check isAbsolute j) before b
unfolding passes
check_relative j b before h a = a ∙ rw h refl

module _ (e : Edition) (code : ℕ) {r : Option Dated} (a : DateCode e code r) where
  pub dated_at : {d : Dated} → r ≡ Some d
      → Bears code (number_of d.kind) (date (reaching d.form.absolute) d.form.designated) × ((n : Next) → look code (dates_of e n) ≡ hit (on code ▸ number_of d.kind ▸ date (reaching d.form.absolute) d.form.designated ▸ n))
  unfolding DateCode
  dated_at h = rw h at a

  pub undated : r ≡ None → (n : Next) → look code (dates_of e n) ≡ none
  unfolding DateCode
  undated h = rw h at a

-- a code of no date
pub no_date : (e : Edition) (code : ℕ) → (code ≡ 0x20 → ⊥) → (code ≡ 0x21 → ⊥) → (code ≡ 0x22 → ⊥) → (code ≡ 0x24 → ⊥) → (code ≡ 0x25 → ⊥) → (code ≡ 0x26 → ⊥) → (n : Next) → look code (dates_of e n) ≡ none
unfolding look find
no_date B code a b c d f g n = rw (ne_eqb 0x20 code (λ q. a (sym q)), ne_eqb 0x21 code (λ q. b (sym q))) refl
no_date D code a b c d f g n = rw (ne_eqb 0x20 code (λ q. a (sym q)), ne_eqb 0x21 code (λ q. b (sym q)), ne_eqb 0x22 code (λ q. c (sym q)), ne_eqb 0x24 code (λ q. d (sym q)), ne_eqb 0x25 code (λ q. f (sym q)), ne_eqb 0x26 code (λ q. g (sym q))) refl
