-- Document 01, "Bytes", "Numbers that bound it" and "Answers by number": a whole header, envelope by envelope.
use Rattle.std.specs.Prelude.{ℕ, zero, suc, ◌+◌, ◌-◌, List, [], ◌∷◌, ◌++◌, map, Bool, true, false, eqb, ltb, length, take, drop}
use Rattle.meaning.specs.Basics.{pick}
use Rattle.meaning.specs.Bytes.{Count, counted, short, high_first}
use Rattle.meaning.specs.Kinds.{extension_opens, base_opens}
use Rattle.meaning.specs.Told.{Label, known, unknown, label_of, Strictness, strict, tolerant, Told, told_by}
use Rattle.meaning.specs.Editions.{head_representation, received_begins, State, state}
use Rattle.meaning.specs.Reading.{Row, Seen, Out, dry, fault, done, inside}

-- a row of a whole header, with its start
pub record Placed : Type 0 where
  pub kind : ℕ
  pub level : ℕ
  pub start : ℕ
  pub view : List ℕ

abbrev pub placed_row : ℕ → ℕ → ℕ → List ℕ → Placed
placed_row k n s v = record { kind = k; level = n; start = s; view = v }

-- a place is the declared end less the bytes left
abbrev pub placed : ℕ → Seen → Placed
placed end r = placed_row r.kind r.level (end - r.left) r.view

abbrev pub meant : Placed → Row
meant r = record { kind = r.kind; level = r.level; view = r.view }

pub data Answer : Type 0 where
  refused : ℕ → ℕ → Answer
  accepted : ℕ → List Placed → Answer

abbrev pub behind : List Placed → Answer → Answer
behind rs (refused refusal place) = refused refusal place
behind rs (accepted place ts) = accepted place (rs ++ ts)

-- "Envelope at most 1,048,576 bytes; 16 envelopes, the base counted"
abbrev pub envelope_most : ℕ
envelope_most = 1048576

abbrev pub envelopes_most : ℕ
envelopes_most = 16

-- "Extension: FD, length, received object, parameters, 01. Base: FE, length, representation, date, parameters, 01"
abbrev pub opening : Bool → ℕ
opening base = pick base base_opens extension_opens

abbrev pub start : Bool → State
start true = state head_representation 0 false
start false = state received_begins 0 false

-- what follows an envelope: the next identifier's place and the bytes from there
abbrev pub Onward : Type 0
Onward = ℕ → List ℕ → Answer

-- "13: closing 01 before the declared end, byte after it"; behind the base's end stands the payload, behind an extension's the next envelope
abbrev pub ends : Bool → ℕ → List ℕ → Onward → Out → Answer
ends base end rest more dry = refused 0 0
ends base end rest more (fault refusal left) = refused refusal (end - left)
ends base end rest more (done rs (b ∷ s)) = refused 13 (end - length (b ∷ s))
ends true end rest more (done rs []) = accepted end (map (placed end) rs)
ends false end rest more (done rs []) = behind (map (placed end) rs) (more end rest)

-- an envelope of n declared bytes from `at` on, head of them identifier and length; s: the input behind these
-- "Per envelope: .. 4, limit, 2, then the inside"
unfoldable pub envelope : Told → Bool → ℕ → ℕ → ℕ → ℕ → List ℕ → Onward → Answer
envelope t base least at head n s more =
    let within = take (n - head) s in
    let read : Answer = behind (placed_row (opening base) 0 at [] ∷ []) (ends base (at + n) (drop (n - head) s) more (inside t (start base) within)) in
    pick (ltb n least) (refused 4 (at + 1))
    (pick (ltb envelope_most n) (refused 5 (at + 1))
    (pick (ltb (head + length s) n) (refused 2 (at + head + length s)) read))

-- "4: short length 1 or 2, or long length below 65,540"
abbrev pub short_least : ℕ
short_least = 3

abbrev pub long_least : ℕ
long_least = 65540

-- "If they are zero, four more bytes, high first, hold it"; "2: input ends inside identifier or length", all: the bytes from the identifier on
abbrev pub long_form : Told → Bool → ℕ → ℕ → Onward → Count → Answer
long_form t base at all more short = refused 2 (at + all)
long_form t base at all more (counted n s) = envelope t base long_least at 7 n s more

abbrev pub sized : Told → Bool → ℕ → ℕ → Onward → Count → Answer
sized t base at all more short = refused 2 (at + all)
sized t base at all more (counted n s) =
    let long : Answer = long_form t base at all more (high_first 4 0 s) in
    let brief : Answer = envelope t base short_least at 3 n s more in
    pick (eqb n 0) long brief

pub data Identifier : Type 0 where
  extension base neither : Identifier

abbrev pub identifier_of : ℕ → Identifier
identifier_of b = pick (eqb b 0xfd) extension (pick (eqb b 0xfe) base neither)

-- "3: identifier not FD or FE, that byte"
abbrev pub identified : Told → ℕ → List ℕ → Onward → Identifier → Answer
identified t at s more extension = sized t false at (suc (length s)) more (high_first 2 0 s)
identified t at s more base = sized t true at (suc (length s)) more (high_first 2 0 s)
identified t at s more neither = refused 3 at

-- "5: 17th envelope, identifier"
abbrev pub seventeenth : ℕ → Identifier → Answer
seventeenth at extension = refused 5 at
seventeenth at base = refused 5 at
seventeenth at neither = refused 3 at

-- the envelopes from `at` on, of which n may still come
unfoldable pub header : ℕ → Told → ℕ → List ℕ → Answer
header zero t at [] = refused 2 at
header zero t at (b ∷ s) = seventeenth at (identifier_of b)
header (suc n) t at [] = refused 2 at
header (suc n) t at (b ∷ s) = identified t at s (header n t) (identifier_of b)

-- "1: edition not 1 or 2; before all else, 0"
abbrev pub labelled : Strictness → List ℕ → Label → Answer
labelled strictness input unknown = refused 1 0
labelled strictness input (known e) = header envelopes_most (told_by strictness e) 0 input

unfoldable pub read_by : Strictness → ℕ → List ℕ → Answer
read_by strictness edition input = labelled strictness input (label_of edition)

-- document 01's reading is the strict one
abbrev pub read : ℕ → List ℕ → Answer
read edition input = read_by strict edition input

-- order 10: "a tolerant reading beside the strict one"
abbrev pub read_tolerant : ℕ → List ℕ → Answer
read_tolerant edition input = read_by tolerant edition input
