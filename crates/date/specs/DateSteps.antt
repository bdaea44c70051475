-- A date at a place in the input, byte by byte: what each byte does to the bytes that are left.
use Rattle.std.specs.Prelude.{ℕ, zero, suc, ◌+◌, ◌-◌, ◌≤◌, ◌<◌, Bool, true, false, ◌≡◌, length}
use mathlib.Core.List.{List, [], ◌∷◌}
use Rattle.std.proofs.Math.Path.{refl, sym}
use Rattle.std.proofs.Common.{ap, ◌∙◌, add-one}
use native.Mathlib.Omega.{arith}
use Rattle.std.proofs.Math.ListN.{get_or}
use Rattle.meaning.specs.Bytes.{Check, passes, date_checks, take_date}
use Rattle.laws_steps.specs.From.{from, from_length, from_end, from_cons}
use Rattle.values.specs.Stages.{Span, span, spans, misses}
use Rattle.date.specs.Dates.{reaching, date_length, check_at, earlier, Passing}
use Rattle.values.specs.Answers.{span_prefixed}

-- the checks of n bytes from byte j on
abbrev checks_from : Bool → ℕ → ℕ → List Check
checks_from isAbsolute j zero = []
checks_from isAbsolute j (suc n) = check_at isAbsolute j ∷ checks_from isAbsolute (j + 1) n

all_checks : (isAbsolute designated : Bool) → date_checks (reaching isAbsolute) designated ≡ checks_from isAbsolute 0 (date_length designated)
all_checks true true = refl
all_checks true false = refl
all_checks false true = refl
all_checks false false = refl

pub nine_at_least : (designated : Bool) → 9 ≤ date_length designated
nine_at_least true = omega arith
nine_at_least false = omega arith

-- a date of `many` bytes at `at`, from its byte j on
module _ (s : List ℕ) (end : ℕ) (at : ℕ) (isAbsolute : Bool) (many : ℕ) where
  unfoldable pub date_from : ℕ → Span
  date_from j = span j (take_date (checks_from isAbsolute j (many - j)) (earlier s at j) (from s (at + j) end))

  pub date_begins : (designated : Bool) → many ≡ date_length designated → span 0 (take_date (date_checks (reaching isAbsolute) designated) [] (from s at end)) ≡ date_from 0
  unfolding date_from earlier
  date_begins designated h =
      let p : at ≡ at + 0 = omega arith in
      let q : date_length designated ≡ many - 0 = omega arith in
      rw (all_checks isAbsolute designated, q) (ap (λ (x : ℕ). span 0 (take_date (checks_from isAbsolute 0 (many - 0)) [] (from s x end))) p)

  pub date_over : (j : ℕ) → many ≤ j → date_from j ≡ spans j (from s (at + j) end)
  unfolding date_from take_date
  date_over j h =
      let q : many - j ≡ 0 = omega arith in
      rw q (ap (λ (x : ℕ). spans x (from s (at + j) end)) (omega arith))

  module _ (j : ℕ) (h : j < many) where
    one_more : many - j ≡ suc (many - (j + 1))
    one_more = omega arith

    pub date_ends : end ≤ at + j → date_from j ≡ misses 6 (end - end)
    unfolding date_from take_date
    date_ends g = rw (one_more, from_end s (at + j) end g) (ap (misses 6) (omega arith))

    -- r: whether byte j passes
    module _ (l : end ≤ length s) (g : at + j < end) {r : Bool} (is : r ≡ passes (check_at isAbsolute j) (earlier s at j) (get_or s (at + j) 0)) where
      pub date_wrong : r ≡ false → date_from j ≡ misses 9 (end - (at + j))
      unfolding date_from take_date
      date_wrong q = rw (one_more, from_cons s (at + j) end g l, sym is ∙ q) (ap (misses 9) (omega (arith, from_length s (at + j + 1) end (omega arith) l)))

      pub date_goes : r ≡ true → date_from j ≡ date_from (j + 1)
      unfolding date_from take_date earlier
      date_goes q =
          let b = get_or s (at + j) 0 in
          let onward = take_date (checks_from isAbsolute (j + 1) (many - (j + 1))) (b ∷ earlier s at j) (from s (at + j + 1) end) in
          let p : at + j + 1 ≡ at + (j + 1) = omega arith in
          let w : earlier s at (j + 1) ≡ b ∷ earlier s at j = rw (add-one j) refl in
          rw (one_more, from_cons s (at + j) end g l, sym is ∙ q) (span_prefixed j b onward ∙ rw (w, p) refl)

  pub passing_goes : end ≤ length s → (n : ℕ) → n ≤ many → at + n ≤ end → Passing s at isAbsolute n → date_from 0 ≡ date_from n
  passing_goes l zero h g p = refl
  passing_goes l (suc n) h g (p, q) = passing_goes l n (omega arith) (omega arith) p ∙ date_goes n (omega arith) l (omega arith) refl q ∙ rw (add-one n) refl
