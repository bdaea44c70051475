-- The papers' values, section 2.3 and the notes of 2.4: texts, numbers, dates and lengths, under their own rule names. Each rule's line is quoted, and document 01
-- where it is stricter or adds. A value says its bytes, how many stand before what its row views, and the view.
use Rattle.std.specs.Prelude.{ℕ, ◌+◌, ◌*◌, ◌/◌, ◌%◌, ◌≤◌, ◌<◌, List, [], ◌∷◌, ◌++◌}
use Rattle.meaning.specs.Bytes.{Rule, note, Reach, absolute, relative, last_day}
use Rattle.papers.specs.Notation.{Value}

-- "TypeDesignator = /* As in [FIPA00070] */"; document 01: "The designator is one ASCII letter"
pub data TypeDesignator : ℕ → Type 0 where
  capital : {c : ℕ} → 0x41 ≤ c → c ≤ 0x5a → TypeDesignator c
  small : {c : ℕ} → 0x61 ≤ c → c ≤ 0x7a → TypeDesignator c

-- "CodedNumber = /* See comment 4 */": "two ASCII numbers are coded into one byte"; Table 2: digit n is n + 1
abbrev pub CodedNumber : ℕ → ℕ → ℕ
CodedNumber high low = 16 * (high + 1) + (low + 1)

-- .. one digit, and "the last four bits .. set to zero (the Padding token)"
abbrev pub padded : ℕ → ℕ
padded digit = 16 * (digit + 1)

-- document 01: "Text: bytes 20 to FF"; order 5: "Bytes 09, 0A and 0D become allowed in kinds 20, 22 and 28 and nowhere else": a note may have them, a line not
pub data TextByte : Rule → ℕ → Type 0 where
  plain : {rule : Rule} {b : ℕ} → 0x20 ≤ b → TextByte rule b
  tab : TextByte note 0x09
  new_line : TextByte note 0x0a
  carriage_return : TextByte note 0x0d

-- "String = /* As in [FIPA00070] */"; document 01: "possibly none"
pub data String (rule : Rule) : List ℕ → Type 0 where
  empty : String rule []
  character : {b : ℕ} {text : List ℕ} → TextByte rule b → String rule text → String rule (b ∷ text)

-- comment 3: "two bytes for year and milliseconds, one byte for other components", coded as numbers: two digits a byte
abbrev pub two : ℕ → ℕ
two n = CodedNumber (n / 10) (n % 10)

-- "Millisecond = Byte Byte."
abbrev pub Millisecond : ℕ → List ℕ
Millisecond n = two (n / 10) ∷ padded (n % 10) ∷ []

-- "Second = Byte."
abbrev pub Second : ℕ → List ℕ
Second n = two n ∷ []

-- "Minute = Byte."
abbrev pub Minute : ℕ → List ℕ
Minute n = two n ∷ []

-- "Hour = Byte."
abbrev pub Hour : ℕ → List ℕ
Hour n = two n ∷ []

-- "Day = Byte."
abbrev pub Day : ℕ → List ℕ
Day n = two n ∷ []

-- "Month = Byte."
abbrev pub Month : ℕ → List ℕ
Month n = two n ∷ []

-- "Year = Byte Byte."
abbrev pub Year : ℕ → List ℕ
Year n = two (n / 100) ∷ two (n % 100) ∷ []

-- "Len32 = Long."; comment 6: "a long integer (four bytes, network byte order)"
pub data Len32 (n : ℕ) : List ℕ → Type 0 where
  long : n < 4294967296 → Len32 n (n / 16777216 ∷ n / 65536 % 256 ∷ n / 256 % 256 ∷ n % 256 ∷ [])

-- "Len16 = Short."; comment 6: "a short integer (two bytes, network byte order)"
pub data Len16 (n : ℕ) : List ℕ → Type 0 where
  short : n < 65536 → Len16 n (n / 256 ∷ n % 256 ∷ [])

-- "Len8 = Byte."; comment 6: "a one-byte code word"
pub data Len8 (n : ℕ) : List ℕ → Type 0 where
  one : n < 256 → Len8 n (n ∷ [])

-- "BinDate = Year Month Day Hour Minute Second Millisecond."
abbrev pub date_bytes : ℕ → ℕ → ℕ → ℕ → ℕ → ℕ → ℕ → List ℕ
date_bytes year month day hour minute second millisecond = Year year ++ (Month month ++ (Day day ++ (Hour hour ++ (Minute minute ++ (Second second ++ Millisecond millisecond)))))

-- document 01: "Absolute dates have month 1 to 12, .. hour to 23, minute and second to 59; relative ones have any digits"; order 3: "the days of their month"
pub data BinDate : Reach → List ℕ → ℕ → List ℕ → Type 0 where
  in_time : (year month day hour minute second millisecond : ℕ) → year ≤ 9999 → 1 ≤ month → month ≤ 12 → 1 ≤ day → day ≤ last_day year month → hour ≤ 23 → minute ≤ 59 → second ≤ 59 → millisecond ≤ 999
      → BinDate absolute (date_bytes year month day hour minute second millisecond) 0 (date_bytes year month day hour minute second millisecond)
  span : (year month day hour minute second millisecond : ℕ) → year ≤ 9999 → month ≤ 99 → day ≤ 99 → hour ≤ 99 → minute ≤ 99 → second ≤ 99 → millisecond ≤ 999
      → BinDate relative (date_bytes year month day hour minute second millisecond) 0 (date_bytes year month day hour minute second millisecond)

-- "BinDate TypeDesignator"
pub data designated (X : Value) : List ℕ → ℕ → List ℕ → Type 0 where
  by : {a view : List ℕ} {before c : ℕ} → X a before view → TypeDesignator c → designated X (a ++ (c ∷ [])) before (view ++ (c ∷ []))

-- "NullTerminatedString = String 0x00."
pub data NullTerminatedString (rule : Rule) : List ℕ → ℕ → List ℕ → Type 0 where
  string : {text : List ℕ} → String rule text → NullTerminatedString rule (text ++ (0x00 ∷ [])) 0 text

-- a number's decimal digits, the first one first; document 01: "decimal digits only, no leading zero"
pub data Decimal : ℕ → List ℕ → Type 0 where
  digit : {d : ℕ} → d ≤ 9 → Decimal d (d ∷ [])
  another : {n d : ℕ} {digits : List ℕ} → Decimal n digits → 1 ≤ n → d ≤ 9 → Decimal (10 * n + d) (digits ++ (d ∷ []))

-- "Digits = CodedNumber+."; comment 4: an odd number of digits ends with the Padding, "otherwise an additional 0x00 byte is added"
pub data Digits : List ℕ → List ℕ → Type 0 where
  even : Digits [] (0x00 ∷ [])
  odd : {d : ℕ} → Digits (d ∷ []) (padded d ∷ [])
  both : {d c : ℕ} {digits bytes : List ℕ} → Digits digits bytes → Digits (d ∷ (c ∷ digits)) (CodedNumber d c ∷ bytes)

-- "BinNumber = Digits."; document 01: "Payload length has no identifier byte", "at most 4,294,967,295"
pub data BinNumber : List ℕ → ℕ → List ℕ → Type 0 where
  bin_number : {n : ℕ} {digits bytes : List ℕ} → n ≤ 4294967295 → Decimal n digits → Digits digits bytes → BinNumber bytes 0 bytes
