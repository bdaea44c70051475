-- A bit of an envelope's word: it is set where its code occurs.
use Rattle.std.specs.Prelude.{ℕ, zero, suc, ◌+◌, ◌*◌, ◌/◌, ◌%◌, ◌≤◌, List, Bool, true, false, ◌≡◌, eqb}
use Rattle.std.proofs.Common.{ap, ◌∙◌, arith, ne_eqb}
use Rattle.meaning.specs.Basics.{pick}
use Rattle.meaning.specs.Skips.{Rank}
use Rattle.meaning.specs.Words.{occurs, word_of}
use Rattle.meaning.specs.Lookup.{lacks}

-- the codes from 02 to 0B, one by one
by_code : (P : ℕ → Type 0) → P 2 → P 3 → P 4 → P 5 → P 6 → P 7 → P 8 → P 9 → P 10 → P 11 → (code : ℕ) → 2 ≤ code → code ≤ 11 → P code
by_code P p2 p3 p4 p5 p6 p7 p8 p9 p10 p11 zero l h = absurd (omega arith)
by_code P p2 p3 p4 p5 p6 p7 p8 p9 p10 p11 (suc zero) l h = absurd (omega arith)
by_code P p2 p3 p4 p5 p6 p7 p8 p9 p10 p11 (suc (suc zero)) l h = p2
by_code P p2 p3 p4 p5 p6 p7 p8 p9 p10 p11 (suc (suc (suc zero))) l h = p3
by_code P p2 p3 p4 p5 p6 p7 p8 p9 p10 p11 (suc (suc (suc (suc zero)))) l h = p4
by_code P p2 p3 p4 p5 p6 p7 p8 p9 p10 p11 (suc (suc (suc (suc (suc zero))))) l h = p5
by_code P p2 p3 p4 p5 p6 p7 p8 p9 p10 p11 (suc (suc (suc (suc (suc (suc zero)))))) l h = p6
by_code P p2 p3 p4 p5 p6 p7 p8 p9 p10 p11 (suc (suc (suc (suc (suc (suc (suc zero))))))) l h = p7
by_code P p2 p3 p4 p5 p6 p7 p8 p9 p10 p11 (suc (suc (suc (suc (suc (suc (suc (suc zero)))))))) l h = p8
by_code P p2 p3 p4 p5 p6 p7 p8 p9 p10 p11 (suc (suc (suc (suc (suc (suc (suc (suc (suc zero))))))))) l h = p9
by_code P p2 p3 p4 p5 p6 p7 p8 p9 p10 p11 (suc (suc (suc (suc (suc (suc (suc (suc (suc (suc zero)))))))))) l h = p10
by_code P p2 p3 p4 p5 p6 p7 p8 p9 p10 p11 (suc (suc (suc (suc (suc (suc (suc (suc (suc (suc (suc zero))))))))))) l h = p11
by_code P p2 p3 p4 p5 p6 p7 p8 p9 p10 p11 (suc (suc (suc (suc (suc (suc (suc (suc (suc (suc (suc (suc n)))))))))))) l h = absurd (omega arith)

-- a bit's worth, as so many times its number
abbrev one : Bool → ℕ
one true = 1
one false = 0

worth : (b : Bool) (n : ℕ) → pick b n 0 ≡ n * one b
worth true n = omega arith
worth false n = omega arith

most_one : (b : Bool) → one b ≤ 1
most_one true = omega arith
most_one false = omega arith

-- a bit taken out of the sum of all
module _ (f : ℕ → Bool) where
  abbrev sum : ℕ
  sum = 1 * one (f 0) + (4 * one (f 2) + (8 * one (f 3) + (16 * one (f 4) + (32 * one (f 5) + (64 * one (f 6) + (128 * one (f 7) + (256 * one (f 8) + (512 * one (f 9) + (1024 * one (f 10) + (2048 * one (f 11) + 0))))))))))

  abbrev Takes : ℕ → ℕ → Type 0
  Takes code bit = sum / bit % 2 ≡ one (f code)

  mosts : (one (f 0) ≤ 1) × (one (f 2) ≤ 1) × (one (f 3) ≤ 1) × (one (f 4) ≤ 1) × (one (f 5) ≤ 1) × (one (f 6) ≤ 1) × (one (f 7) ≤ 1) × (one (f 8) ≤ 1) × (one (f 9) ≤ 1) × (one (f 10) ≤ 1) × (one (f 11) ≤ 1)
  mosts = (most_one (f 0), most_one (f 2), most_one (f 3), most_one (f 4), most_one (f 5), most_one (f 6), most_one (f 7), most_one (f 8), most_one (f 9), most_one (f 10), most_one (f 11))

  bit_2 : Takes 2 4
  bit_2 = omega (arith, mosts)

  bit_3 : Takes 3 8
  bit_3 = omega (arith, mosts)

  bit_4 : Takes 4 16
  bit_4 = omega (arith, mosts)

  bit_5 : Takes 5 32
  bit_5 = omega (arith, mosts)

  bit_6 : Takes 6 64
  bit_6 = omega (arith, mosts)

  bit_7 : Takes 7 128
  bit_7 = omega (arith, mosts)

  bit_8 : Takes 8 256
  bit_8 = omega (arith, mosts)

  bit_9 : Takes 9 512
  bit_9 = omega (arith, mosts)

  bit_10 : Takes 10 1024
  bit_10 = omega (arith, mosts)

  bit_11 : Takes 11 2048
  bit_11 = omega (arith, mosts)

module _ (rows : List Rank) where
  abbrev seen : ℕ → Bool
  seen code = occurs code rows

  word_sum : word_of rows ≡ sum seen
  unfolding word_of
  word_sum = omega (arith, worth (occurs 0 rows) 1, worth (occurs 2 rows) 4, worth (occurs 3 rows) 8, worth (occurs 4 rows) 16, worth (occurs 5 rows) 32, worth (occurs 6 rows) 64, worth (occurs 7 rows) 128, worth (occurs 8 rows) 256, worth (occurs 9 rows) 512, worth (occurs 10 rows) 1024, worth (occurs 11 rows) 2048)

  bit_has : (code bit : ℕ) → Takes seen code bit → occurs code rows ≡ true → eqb (word_of rows / bit % 2) 0 ≡ false
  bit_has code bit q o = let z : word_of rows / bit % 2 ≡ 1 = ap (λ (w : ℕ). w / bit % 2) word_sum ∙ q ∙ ap one o in ne_eqb (word_of rows / bit % 2) 0 (λ x. omega (arith, z))

  pub word_has : (code : ℕ) → 2 ≤ code → code ≤ 11 → occurs code rows ≡ true → lacks (word_of rows) code ≡ false
  word_has =
      by_code (λ (code : ℕ). occurs code rows ≡ true → lacks (word_of rows) code ≡ false)
      (bit_has 2 4 (bit_2 seen))
      (bit_has 3 8 (bit_3 seen))
      (bit_has 4 16 (bit_4 seen))
      (bit_has 5 32 (bit_5 seen))
      (bit_has 6 64 (bit_6 seen))
      (bit_has 7 128 (bit_7 seen))
      (bit_has 8 256 (bit_8 seen))
      (bit_has 9 512 (bit_9 seen))
      (bit_has 10 1024 (bit_10 seen))
      (bit_has 11 2048 (bit_11 seen))
