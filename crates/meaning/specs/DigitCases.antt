-- Every byte at every place of a date and of a number, not only those at the ends of a range; and what the writer makes of the same bytes.
use Rattle.std.specs.Prelude.{ℕ, zero, suc, ◌+◌, ◌*◌, ◌/◌, ◌%◌, List, [], ◌∷◌, ◌++◌, Bool, ◌&&◌, eqb, length, take, drop}
use Rattle.meaning.specs.Basics.{pick, every}
use Rattle.meaning.specs.Memory.{row, write_reply, write}
use Rattle.meaning.specs.Plain.{number_decoded, date_decoded}
use Rattle.meaning.specs.Cases.{up_from, among, hex, a_date, base_with, base_rows, reply_is, outcome_is, in_memory, Number, DateRead}
use Rattle.meaning.specs.CodingCases as coding
use Rattle.meaning.specs.FurtherCases as further

-- "digit n is the four bits n+1": a number below 100 as a byte; so many of them from n on
abbrev coded : ℕ → ℕ
coded n = 16 * (n / 10 + 1) + (n % 10 + 1)

abbrev coded_from : ℕ → ℕ → List ℕ
coded_from n zero = []
coded_from n (suc k) = coded n ∷ coded_from (suc n) k

-- one digit and four zero bits
abbrev halves : List ℕ
halves = hex 0x1_10_20_30_40_50_60_70_80_90_a0

abbrev letters : List ℕ
letters = up_from 65 26 ++ up_from 97 26

-- Dates: M's, of May, with a designator. The bytes that each of its ten places takes; else 9 at that place

abbrev two_digits : List ℕ
two_digits = coded_from 0 100

abbrev absolute : List (List ℕ)
absolute = two_digits ∷ two_digits ∷ coded_from 1 12 ∷ coded_from 1 31 ∷ coded_from 0 24 ∷ coded_from 0 60 ∷ coded_from 0 60 ∷ two_digits ∷ halves ∷ letters ∷ []

abbrev relative : List (List ℕ)
relative = two_digits ∷ two_digits ∷ two_digits ∷ two_digits ∷ two_digits ∷ two_digits ∷ two_digits ∷ two_digits ∷ halves ∷ letters ∷ []

abbrev designated : List ℕ
designated = a_date ++ hex 0x1_5a

abbrev place_takes : ℕ → ℕ → List ℕ → ℕ → Bool
place_takes kind at taken b =
    let fits = among b taken in
    outcome_is (pick fits 0 9) (pick fits 10 at) (date_decoded kind (take at designated ++ (b ∷ drop (suc at) designated)))

abbrev places_take : ℕ → ℕ → List (List ℕ) → Bool
places_take kind at [] = eqb at 10
places_take kind at (taken ∷ more) = every (place_takes kind at taken) (up_from 0 256) && places_take kind (suc at) more

-- Numbers: a byte alone; before 00; and behind two digits, where a zero may stand

abbrev alone : ℕ → Bool
alone b = let fits = among b halves in let early = among b (coded_from 10 90) in outcome_is (pick fits 0 10) (pick fits 1 (pick early 1 0)) (number_decoded (b ∷ []))

abbrev before_end : ℕ → Bool
before_end b = let fits = among b (coded_from 10 90) in let over = among b halves in outcome_is (pick fits 0 10) (pick fits 2 (pick over 1 0)) (number_decoded (b ∷ 0x00 ∷ []))

abbrev behind_two : ℕ → Bool
behind_two b = let fits = among b (0x00 ∷ halves) in let early = among b two_digits in outcome_is (pick fits 0 10) (pick fits 2 (pick early 2 1)) (number_decoded (0x23 ∷ b ∷ []))

-- Writing: a row of a payload length, or of a date under D, views the bytes that a decoder takes; else 15 at its row

abbrev a_base : List ℕ
a_base = base_with 0x0f 0x20 (hex 0x1_01)

abbrev writes_number : ℕ → Number → Bool
writes_number e c =
    let n = length c.bytes in
    let fits = eqb c.answer 0 in
    reply_is (pick fits 0 15) (pick fits (16 + n) 3) (pick fits 4 0) (write_reply 4 (write e (in_memory (base_rows 5 9 (row 23 0 15 n ∷ []))) (a_base ++ c.bytes) 99))

abbrev writes_date : DateRead → Bool
writes_date c =
    let n = length c.bytes in
    let fits = eqb c.answer 0 in
    reply_is (pick fits 0 15) (pick fits (6 + n) 2) (pick fits 3 0) (write_reply 3 (write 2 (in_memory (row 2 0 0 0 ∷ row 3 0 3 1 ∷ row c.kind 0 15 n ∷ [])) (a_base ++ c.bytes) 99))

abbrev pub ranges : Bool
ranges =
    places_take 5 0 absolute && places_take 6 0 relative && every alone (up_from 0 256) && every before_end (up_from 0 256) && every behind_two (up_from 0 256) &&
    every (writes_number 1) coding.numbers_read && every (writes_number 2) further.numbers && every writes_date coding.dates_read && every writes_date further.dates
