-- Document 01, "Bytes": how the values stand among the bytes of an envelope.
-- A value is taken from the front of the bytes that are left of its envelope. Where they run out a byte is needed at the declared end: 6.
use Rattle.std.specs.Prelude.{ℕ, zero, suc, ◌+◌, ◌-◌, ◌*◌, ◌/◌, ◌%◌, List, [], ◌∷◌, Bool, true, false, ◌&&◌, ◌||◌, not, eqb, leb, ltb, length}
use Rattle.meaning.specs.Basics.{pick, is_empty}
use Rattle.meaning.specs.Told.{Strictness, strict, tolerant, Told}

-- "either a value with the place after it, or a refusal": the value and the bytes behind it, or the number and how many bytes are left at the fault
pub data Taken : Type 0 where
  took : List ℕ → List ℕ → Taken
  failed : ℕ → ℕ → Taken

abbrev pub prefixed : ℕ → Taken → Taken
prefixed b (took v rest) = took (b ∷ v) rest
prefixed b (failed refusal left) = failed refusal left

-- what a text is for, and so which bytes it allows: a line, or a note, which may have line breaks
pub data Rule : Type 0 where
  line note : Rule

-- order 5: "Bytes 09, 0A and 0D become allowed in kinds 20, 22 and 28 and nowhere else"
abbrev pub is_break : ℕ → Bool
is_break b = eqb b 0x09 || eqb b 0x0a || eqb b 0x0d

-- "Text: bytes 20 to FF": the one name for which bytes a text allows
unfoldable pub text_byte : Rule → ℕ → Bool
text_byte line b = leb 0x20 b
text_byte note b = leb 0x20 b || is_break b

-- ".. possibly none, then 00"; "8: text byte 01 to 1F, that byte"
unfoldable pub take_text : Rule → List ℕ → Taken
take_text rule [] = failed 6 0
take_text rule (b ∷ s) =
    let more : Taken = prefixed b (take_text rule s) in
    pick (eqb b 0) (took [] s) (pick (text_byte rule b) more (failed 8 (suc (length s))))

unfoldable pub text_ok : Rule → List ℕ → Bool
text_ok rule [] = true
text_ok rule (b ∷ v) = text_byte rule b && text_ok rule v

-- "Coded digits: digit n is the four bits n+1; the high four bits are the earlier digit"
abbrev pub is_digit : ℕ → Bool
is_digit bits = leb 1 bits && leb bits 10

abbrev pub digit_of : ℕ → ℕ
digit_of bits = bits - 1

abbrev pub two_digits : ℕ → ℕ
two_digits b = 10 * digit_of (b / 16) + digit_of (b % 16)

-- "Payload length .. has decimal digits only, no leading zero, and at most 4,294,967,295"
abbrev pub number_most : ℕ
number_most = 4294967295

-- what a byte does to the number so far: it ends it, leads on, or is wrong
pub data Turn : Type 0 where
  stop : Turn
  more : ℕ → Turn
  wrong : Turn

-- "An odd digit count ends with four zero bits, an even one with a byte 00"; first: no digit stands before this byte
unfoldable pub turn : ℕ → Bool → ℕ → Turn
turn number first b =
    let one = 10 * number + digit_of (b / 16) in
    let two = 10 * one + digit_of (b % 16) in
    let leadingZero = first && eqb (b / 16) 1 in
    pick (eqb b 0) (pick first wrong stop)
    (pick (is_digit (b / 16) && leb one number_most)
    (pick (eqb (b % 16) 0) stop
    (pick (is_digit (b % 16) && not leadingZero && leb two number_most) (more two) wrong))
    wrong)

abbrev pub after_turn : ℕ → List ℕ → (ℕ → Taken) → Turn → Taken
after_turn b s onward stop = took (b ∷ []) s
after_turn b s onward (more number) = prefixed b (onward number)
after_turn b s onward wrong = failed 10 (suc (length s))

-- "10: payload length wrong, or its value now too large, that byte"
unfoldable pub take_number : ℕ → Bool → List ℕ → Taken
take_number number first [] = failed 6 0
take_number number first (b ∷ s) = after_turn b s (λ next. take_number next false s) (turn number first b)

abbrev pub ok_turn : List ℕ → (ℕ → Bool) → Turn → Bool
ok_turn v onward stop = is_empty v
ok_turn v onward (more number) = onward number
ok_turn v onward wrong = false

unfoldable pub number_ok : ℕ → Bool → List ℕ → Bool
number_ok number first [] = false
number_ok number first (b ∷ v) = ok_turn v (λ next. number_ok next false v) (turn number first b)

-- a date's bytes, each by its test: two digits between two bounds; a day; a digit and four zero bits; the designator
pub data Check : Type 0 where
  pair : ℕ → ℕ → Check
  day : Check
  half : Check
  letter : Check

-- Order 3: "the days of their month by the Gregorian rule". A leap year is one that 4 divides and 100 does not, or 400 does:
-- "year 0000 counted as a leap year"
abbrev pub divides : ℕ → ℕ → Bool
divides n year = eqb (year % n) 0

abbrev pub is_leap : ℕ → Bool
is_leap year = divides 4 year && (not (divides 100 year) || divides 400 year)

-- thirty days have April, June, September and November, February 28 or in a leap year 29, all others 31: the one name for which days exist
unfoldable pub last_day : ℕ → ℕ → ℕ
last_day year month = pick (eqb month 2) (pick (is_leap year) 29 28) (pick (eqb month 4 || eqb month 6 || eqb month 9 || eqb month 11) 30 31)

-- .. by the date's bytes before the day, the last one first: month, and the year's two
abbrev pub last_day_after : List ℕ → ℕ
last_day_after [] = 31
last_day_after (month ∷ []) = 31
last_day_after (month ∷ (low ∷ [])) = 31
last_day_after (month ∷ (low ∷ (high ∷ before))) = last_day (100 * two_digits high + two_digits low) (two_digits month)

abbrev pub pair_within : ℕ → ℕ → ℕ → Bool
pair_within lo hi b = is_digit (b / 16) && is_digit (b % 16) && leb lo (two_digits b) && leb (two_digits b) hi

unfoldable pub passes : Check → List ℕ → ℕ → Bool
passes (pair lo hi) earlier b = pair_within lo hi b
passes day earlier b = pair_within 1 (last_day_after earlier) b
passes half earlier b = is_digit (b / 16) && eqb (b % 16) 0
passes letter earlier b = (leb 0x41 b && leb b 0x5a) || (leb 0x61 b && leb b 0x7a)

pub data Reach : Type 0 where
  absolute relative : Reach

abbrev pub any_pair : Check
any_pair = pair 0 99

-- "year 4 digits, month, day, hour, minute, second 2 each, millisecond 3 digits and four zero bits"; "relative ones have any digits"
abbrev pub checks_of : Reach → List Check → List Check
checks_of absolute end = any_pair ∷ any_pair ∷ pair 1 12 ∷ day ∷ pair 0 23 ∷ pair 0 59 ∷ pair 0 59 ∷ any_pair ∷ half ∷ end
checks_of relative end = any_pair ∷ any_pair ∷ any_pair ∷ any_pair ∷ any_pair ∷ any_pair ∷ any_pair ∷ any_pair ∷ half ∷ end

-- "The designator is one ASCII letter"
abbrev pub designator : Bool → List Check
designator true = letter ∷ []
designator false = []

abbrev pub date_checks : Reach → Bool → List Check
date_checks reach designated = checks_of reach (designator designated)

-- "9: date .. digit, range, padding or designator wrong, that byte"
unfoldable pub take_date : List Check → List ℕ → List ℕ → Taken
take_date [] earlier s = took [] s
take_date (c ∷ cs) earlier [] = failed 6 0
take_date (c ∷ cs) earlier (b ∷ s) =
    let more : Taken = prefixed b (take_date cs (b ∷ earlier) s) in
    pick (passes c earlier b) more (failed 9 (suc (length s)))

unfoldable pub date_ok : List Check → List ℕ → List ℕ → Bool
date_ok [] earlier [] = true
date_ok [] earlier (b ∷ v) = false
date_ok (c ∷ cs) earlier [] = false
date_ok (c ∷ cs) earlier (b ∷ v) = passes c earlier b && date_ok cs (b ∷ earlier) v

-- a number of so many bytes, high first, and the bytes behind it
pub data Count : Type 0 where
  counted : ℕ → List ℕ → Count
  short : Count

unfoldable pub high_first : ℕ → ℕ → List ℕ → Count
high_first zero number s = counted number s
high_first (suc n) number [] = short
high_first (suc n) number (b ∷ s) = high_first n (256 * number + b) s

-- "16, 17, 19 with a length of 1, 2, 4 bytes (high first)"
pub data Width : Type 0 where
  one_byte two_bytes four_bytes : Width

abbrev pub bytes_of : Width → ℕ
bytes_of one_byte = 1
bytes_of two_bytes = 2
bytes_of four_bytes = 4

-- "The shortest length form is required": the lengths of a form, from the fewest up to the one that it cannot hold
abbrev pub fewest : Width → ℕ
fewest one_byte = 0
fewest two_bytes = 256
fewest four_bytes = 65536

abbrev pub past : Width → ℕ
past one_byte = 256
past two_bytes = 65536
past four_bytes = 4294967296

-- order 10: "11 isn't given by the tolerant reading"
abbrev pub shortest_only : Strictness → Bool
shortest_only strict = true
shortest_only tolerant = false

-- the one name for whether a wide length is refused, and the one place that looks at the strictness
unfoldable pub too_wide : Told → Width → ℕ → Bool
too_wide t w n = ltb n (fewest w) && shortest_only t.strictness

abbrev pub length_bytes : Width → ℕ → List ℕ
length_bytes one_byte n = n ∷ []
length_bytes two_bytes n = n / 256 ∷ n % 256 ∷ []
length_bytes four_bytes n = n / 16777216 ∷ n / 65536 % 256 ∷ n / 256 % 256 ∷ n % 256 ∷ []

unfoldable pub take_bytes : ℕ → List ℕ → Taken
take_bytes zero s = took [] s
take_bytes (suc n) [] = failed 6 0
take_bytes (suc n) (b ∷ s) = prefixed b (take_bytes n s)

-- "11: length form too wide, code"; ".. after the length bytes, before the block"; left: the bytes left at the code
unfoldable pub block_of : Told → Width → ℕ → Count → Taken
block_of t w left short = failed 6 0
block_of t w left (counted n s) =
    let all : Taken = take_bytes n s in
    pick (too_wide t w n) (failed 11 left) all

unfoldable pub take_block : Told → Width → ℕ → List ℕ → Taken
take_block t w left s = block_of t w left (high_first (bytes_of w) 0 s)

unfoldable pub block_ok : Width → List ℕ → Bool
block_ok w v = leb (fewest w) (length v) && ltb (length v) (past w)
