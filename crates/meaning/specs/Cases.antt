-- How an instance is held against the definitions: what each kind of case says, and the test that it passes.
use Rattle.std.specs.Prelude.{ℕ, zero, suc, ◌-◌, ◌/◌, ◌%◌, List, [], ◌∷◌, ◌++◌, Bool, true, false, ◌&&◌, ◌||◌, eqb, leb, length, take, drop}
use Rattle.meaning.specs.Basics.{pick}
use Rattle.meaning.specs.Headers.{Placed, Answer, refused, accepted, read}
use Rattle.meaning.specs.Memory.{row_width, Numbers, row, rows_from, table_of, Reply, read_reply, write_reply, write}
use Rattle.meaning.specs.Writing.{Written, written, unwritten}
use Rattle.meaning.specs.Plain.{Outcome, Date, number_decoded, number_plain, number_encoded, number_bytes, date_decoded, date_plain, date_encoded}

abbrev pub same : List ℕ → List ℕ → Bool
same [] [] = true
same [] (y ∷ ys) = false
same (x ∷ xs) [] = false
same (x ∷ xs) (y ∷ ys) = eqb x y && same xs ys

module _ {A : Type 0} where
  abbrev pub joined : List (List A) → List A
  joined [] = []
  joined (xs ∷ xss) = xs ++ joined xss

-- so many numbers, from this one on
abbrev pub up_from : ℕ → ℕ → List ℕ
up_from x zero = []
up_from x (suc n) = x ∷ up_from (suc x) n

abbrev pub among : ℕ → List ℕ → Bool
among x [] = false
among x (y ∷ ys) = eqb x y || among x ys

-- bytes as the paper prints them: 0x1_FE_00_0F is FE 00 0F; the 1 only marks the front
abbrev pub hex_within : ℕ → ℕ → List ℕ → List ℕ
hex_within zero n bytes = bytes
hex_within (suc k) n bytes =
    let more : List ℕ = hex_within k (n / 256) (n % 256 ∷ bytes) in
    pick (leb n 1) bytes more

abbrev pub hex : ℕ → List ℕ
hex n = hex_within 128 n []

-- M = FE 00 0F 12 20 31 11 16 19 15 37 62 59 20 01: its date, and M with another length, date code and end
abbrev pub a_date : List ℕ
a_date = hex 0x1_31_11_16_19_15_37_62_59_20

abbrev pub base_with : ℕ → ℕ → List ℕ → List ℕ
base_with n code end = 0xfe ∷ 0x00 ∷ n ∷ 0x12 ∷ code ∷ (a_date ++ end)

abbrev pub reply_is : ℕ → ℕ → ℕ → Reply → Bool
reply_is answer place rows r = eqb r.answer answer && eqb r.place place && eqb r.rows rows

-- every row shows the input's own bytes
abbrev pub views_from : List ℕ → List Placed → Bool
views_from input [] = true
views_from input (r ∷ rs) = same r.view (take (length r.view) (drop r.start input)) && views_from input rs

abbrev pub table_is : List ℕ → List ℕ → Answer → Bool
table_is input table (refused refusal place) = same table []
table_is input table (accepted place rs) = same table (table_of rs) && views_from input rs

-- the rows of an answer
abbrev pub rows_in : Answer → List Placed
rows_in (refused refusal place) = []
rows_in (accepted place rs) = rs

-- an instance's rows, as they stand in memory: with their skip numbers
abbrev pub in_memory : List Numbers → List ℕ
in_memory rs = rows_from 0 rs

-- a reading: edition and input to answer, place and the rows
pub record Reading : Type 0 where
  pub edition : ℕ
  pub input : List ℕ
  pub answer : ℕ
  pub place : ℕ
  pub table : List Numbers

abbrev pub accepts : ℕ → List ℕ → ℕ → List Numbers → Reading
accepts e s p table = record { edition = e; input = s; answer = 0; place = p; table = table }

abbrev pub refuses : ℕ → List ℕ → ℕ → ℕ → Reading
refuses e s k p = record { edition = e; input = s; answer = k; place = p; table = [] }

-- the rows of a base with a date of this kind and length
abbrev pub base_rows : ℕ → ℕ → List Numbers → List Numbers
base_rows kind len more = row 2 0 0 0 ∷ row 3 0 3 1 ∷ row kind 0 5 len ∷ more

abbrev pub reads : Reading → Bool
reads c =
    let a = read c.edition c.input in
    reply_is c.answer c.place (length c.table) (read_reply 64 a) && table_is c.input (in_memory c.table) a

-- a writing: edition, the rows' numbers, pool and room to answer, place and bytes
pub record Writing : Type 0 where
  pub edition : ℕ
  pub table : List ℕ
  pub pool : List ℕ
  pub room : ℕ
  pub answer : ℕ
  pub place : ℕ
  pub bytes : List ℕ

abbrev pub bytes_are : List ℕ → Written → Bool
bytes_are bytes (written w) = same bytes w
bytes_are bytes (unwritten refusal place) = same bytes []

abbrev pub writes : Writing → Bool
writes c =
    let w = write c.edition c.table c.pool c.room in
    reply_is c.answer c.place (pick (eqb c.answer 0) (length c.table / row_width) 0) (write_reply (length c.table / row_width) w) && bytes_are c.bytes w

abbrev pub writing : ℕ → List Numbers → List ℕ → ℕ → List ℕ → Writing
writing e table pool room bytes = record { edition = e; table = in_memory table; pool = pool; room = room; answer = 0; place = length bytes; bytes = bytes }

-- .. of rows, and of numbers left over behind them
abbrev pub unwriting_part : ℕ → List Numbers → List ℕ → List ℕ → ℕ → ℕ → ℕ → Writing
unwriting_part e table over pool room refusal at = record { edition = e; table = in_memory table ++ over; pool = pool; room = room; answer = refusal; place = at; bytes = [] }

abbrev pub unwriting : ℕ → List Numbers → List ℕ → ℕ → ℕ → ℕ → Writing
unwriting e table pool room refusal at = unwriting_part e table [] pool room refusal at

-- an accepted reading: its table, written with the input as pool, gives the header's bytes in just the room that they need
abbrev pub rewrites : Reading → Bool
rewrites c =
    writes (writing c.edition c.table c.input c.place (take c.place c.input)) &&
    writes (unwriting c.edition c.table c.input (c.place - 1) 16 c.place)

abbrev pub outcome_is : ℕ → ℕ → Outcome → Bool
outcome_is answer place o = eqb o.answer answer && eqb o.place place

-- coded bytes, and what decoding them answers
pub record Number : Type 0 where
  pub bytes : List ℕ
  pub answer : ℕ
  pub place : ℕ
  pub value : ℕ

abbrev pub number : List ℕ → ℕ → ℕ → ℕ → Number
number s answer place value = record { bytes = s; answer = answer; place = place; value = value }

abbrev pub decodes : Number → Bool
decodes c = outcome_is c.answer c.place (number_decoded c.bytes) && eqb (number_plain c.bytes) c.value

-- a value that is coded so in exactly the room that it needs, and not in less
abbrev pub encodes : ℕ → List ℕ → Bool
encodes value bytes =
    same (number_bytes value) bytes && outcome_is 0 (length bytes) (number_encoded value (length bytes)) && outcome_is 16 (length bytes) (number_encoded value 0)

abbrev pub components_are : List ℕ → Date → Bool
components_are xs d =
    same xs (d.year ∷ d.month ∷ d.day ∷ d.hour ∷ d.minute ∷ d.second ∷ d.millisecond ∷ d.designator ∷ [])

-- a kind and coded bytes, and what decoding them answers
pub record DateRead : Type 0 where
  pub kind : ℕ
  pub bytes : List ℕ
  pub answer : ℕ
  pub place : ℕ
  pub components : List ℕ

abbrev pub dates_read : DateRead → Bool
dates_read c = outcome_is c.answer c.place (date_decoded c.kind c.bytes) && components_are c.components (date_plain c.kind c.bytes)

-- a kind, the seven components and a designator
pub record DateWritten : Type 0 where
  pub kind : ℕ
  pub date : Date
  pub answer : ℕ
  pub place : ℕ
  pub room : ℕ

abbrev pub dates_written : DateWritten → Bool
dates_written c = outcome_is c.answer c.place (date_encoded c.kind c.date c.room)
