-- Order 3: which days exist, the same in a base's date and a received object's, with a designator and without, in reader, writer and coders.
use Rattle.std.specs.Prelude.{ℕ, ◌+◌, List, [], ◌∷◌, ◌++◌, Bool, true, false, ◌&&◌, length, replicate}
use Rattle.meaning.specs.Basics.{pick, every}
use Rattle.meaning.specs.Memory.{Numbers}
use Rattle.meaning.specs.Plain.{Date, date_bytes}
use Rattle.meaning.specs.Cases.{hex, base_rows, accepts, refuses, reads, writing, unwriting, writes, dates_read, dates_written}
use Rattle.meaning.specs.AcceptedCases.{extension_rows, base_rows_at}

-- a day, and whether its month has it
pub record Case : Type 0 where
  pub year : ℕ
  pub month : ℕ
  pub day : ℕ
  pub exists : Bool

abbrev day : ℕ → ℕ → ℕ → Bool → Case
day y m d e = record { year = y; month = m; day = d; exists = e }

abbrev plain : Case → ℕ → Date
plain c z = record { year = c.year; month = c.month; day = c.day; hour = 23; minute = 59; second = 59; millisecond = 999; designator = z }

-- the base of document 01's M, with this date code, date and what stands behind it
abbrev base : ℕ → List ℕ → List ℕ
base code date = let n = 6 + length date in 0xfe ∷ 0x00 ∷ n ∷ 0x12 ∷ code ∷ (date ++ hex 0x1_01)

-- an extension received on that date, before M
abbrev passed_on : List ℕ → List ℕ
passed_on date = hex 0x1_fd_00_11_62_00_20 ++ (date ++ (hex 0x1_01_01 ++ base 0x20 (hex 0x1_31_11_16_19_15_37_62_59_20)))

abbrev read_as : Bool → ℕ → List ℕ → List Numbers → ℕ → Bool
read_as exists e s rows at = reads (pick exists (accepts e s (length s) rows) (refuses e s 9 at))

-- the day is byte 3 of the date, which begins at 5 in a base, at 6 in an extension
abbrev is_read : Case → Bool
is_read c =
    let date = date_bytes (plain c 0) in
    let designated = date_bytes (plain c 0x5a) in
    read_as c.exists 1 (base 0x20 date) (base_rows 5 9 []) 8 && read_as c.exists 2 (base 0x20 date) (base_rows 5 9 []) 8 &&
    read_as c.exists 1 (base 0x21 designated) (base_rows 5 10 []) 8 && read_as c.exists 2 (base 0x24 designated) (base_rows 5 10 []) 8 &&
    read_as c.exists 1 (passed_on date) (extension_rows 0 ++ base_rows_at 17) 9 && read_as c.exists 2 (passed_on date) (extension_rows 0 ++ base_rows_at 17) 9 &&
    read_as true 2 (base 0x21 date) (base_rows 6 9 []) 8 && read_as true 2 (base 0x26 designated) (base_rows 7 10 []) 8

abbrev written_as : Bool → ℕ → ℕ → List ℕ → Bool
written_as exists e n s = writes (pick exists (writing e (base_rows 5 n []) s (length s) s) (unwriting e (base_rows 5 n []) s (length s) 15 2))

abbrev is_written : Case → Bool
is_written c =
    written_as c.exists 1 9 (base 0x20 (date_bytes (plain c 0))) && written_as c.exists 2 9 (base 0x20 (date_bytes (plain c 0))) &&
    written_as c.exists 1 10 (base 0x21 (date_bytes (plain c 0x5a))) && written_as c.exists 2 10 (base 0x24 (date_bytes (plain c 0x5a)))

abbrev decoded_as : Bool → ℕ → Case → Bool
decoded_as exists kind c =
    dates_read (record {
      kind = kind;
      bytes = date_bytes (plain c 0);
      answer = pick exists 0 9;
      place = pick exists 9 3;
      components = pick exists (c.year ∷ c.month ∷ c.day ∷ 23 ∷ 59 ∷ 59 ∷ 999 ∷ 0 ∷ []) (replicate 8 0);
    })

-- "Encoders: range (9 at 0) before room"
abbrev encoded_as : Bool → ℕ → Case → Bool
encoded_as exists kind c =
    dates_written (record { kind = kind; date = plain c 0; answer = pick exists 0 9; place = pick exists 9 0; room = 9 }) &&
    dates_written (record { kind = kind; date = plain c 0; answer = pick exists 16 9; place = pick exists 9 0; room = 8 })

abbrev is_coded : Case → Bool
is_coded c = decoded_as c.exists 5 c && encoded_as c.exists 5 c && decoded_as true 6 c && encoded_as true 7 c

abbrev holds : Case → Bool
holds c = is_read c && is_written c && is_coded c

-- 28, 29 and 30 February of years by 4, 100 and 400
abbrev februaries : List Case
februaries =
    day 1900 2 28 true ∷ day 1900 2 29 false ∷ day 2000 2 28 true ∷ day 2000 2 29 true ∷ day 2000 2 30 false ∷ day 2023 2 28 true ∷ day 2023 2 29 false ∷
    day 2024 2 28 true ∷ day 2024 2 29 true ∷ day 2024 2 30 false ∷ day 0 2 28 true ∷ day 0 2 29 true ∷ day 0 2 30 false ∷ day 9999 2 28 true ∷ day 9999 2 29 false ∷
    day 100 2 29 false ∷ day 400 2 29 true ∷ day 9600 2 29 true ∷ day 9996 2 29 true ∷ day 2023 2 31 false ∷ []

-- 30 and 31 of each month, and what no month has
abbrev months : List Case
months =
    day 2023 1 30 true ∷ day 2023 1 31 true ∷ day 2023 3 30 true ∷ day 2023 3 31 true ∷ day 2023 4 30 true ∷ day 2023 4 31 false ∷ day 2023 5 30 true ∷ day 2023 5 31 true ∷
    day 2023 6 30 true ∷ day 2023 6 31 false ∷ day 2023 7 30 true ∷ day 2023 7 31 true ∷ day 2023 8 30 true ∷ day 2023 8 31 true ∷ day 2023 9 30 true ∷ day 2023 9 31 false ∷
    day 2023 10 30 true ∷ day 2023 10 31 true ∷ day 2023 11 30 true ∷ day 2023 11 31 false ∷ day 2023 12 30 true ∷ day 2023 12 31 true ∷ day 2023 12 32 false ∷ day 2023 1 0 false ∷ []

-- 29 February of a year, decoded
abbrev leap_is : Bool → ℕ → Bool
leap_is exists year = decoded_as exists 5 (day year 2 29 exists)

-- years by 2, by 4, by 100, by 200 and by 400
abbrev leaps : Bool
leaps =
    every (leap_is true) (0 ∷ 4 ∷ 8 ∷ 96 ∷ 104 ∷ 400 ∷ 800 ∷ 1200 ∷ 1600 ∷ 1996 ∷ 2000 ∷ 2004 ∷ 2020 ∷ 2028 ∷ 2400 ∷ 2800 ∷ 3200 ∷ 4000 ∷ 8000 ∷ []) &&
    every (leap_is false) (1 ∷ 2 ∷ 3 ∷ 6 ∷ 10 ∷ 98 ∷ 100 ∷ 200 ∷ 300 ∷ 500 ∷ 600 ∷ 700 ∷ 900 ∷ 1000 ∷ 1700 ∷ 1800 ∷ 2018 ∷ 2022 ∷ 2100 ∷ 2200 ∷ 3000 ∷ 5000 ∷ 9900 ∷ 9998 ∷ [])

abbrev pub days : Bool
days = leaps && every holds februaries && every holds months
