-- One promise allows one answer: two results of an entry for the same input and the same lent memory are equal, and so is what they leave there.
-- By reading a promise's equation backwards: what it says of a struct are all of the struct's fields.
use Rattle.std.specs.Prelude.{ℕ, suc, ◌<◌, List, ◌≡◌, length, replicate}
use Rattle.std.proofs.Common.{ap, sym, ◌∙◌, arith}
use Rattle.std.proofs.lemmas.List.{length-replicate}
use Rattle.meaning.specs.Told.{Strictness}
use Rattle.meaning.specs.Memory.{Reply}
use Rattle.meaning.specs.Plain.{Outcome, Date as PlainDate}
use Rattle.meaning.specs.Listing.{input_most}
use Rattle.coders.specs.declared.decode.DecodedNumber.{DecodedNumber}
use Rattle.coders.specs.declared.decode.DecodedDate.{DecodedDate}
use Rattle.coders.specs.declared.Date.{Date}
use Rattle.coders.specs.declared.encode.Encoded.{Encoded}
use Rattle.coders.specs.Plain.{NumberDecodes, NumberEncodes, DateDecodes, DateEncodes, plain_of}
use Rattle.table.specs.declared.reply.Reply as declared
use Rattle.reader.specs.declared.Part.{Part}
use Rattle.reader.specs.Promises.{ReadsBy, PartPromise, PayloadPromise}
use Rattle.writer.specs.Promise.{WritePromise}
use Rattle.listing.specs.declared.Piece.{Piece}
use Rattle.listing.specs.Pieces.{NextPiece}
use Rattle.listing.specs.Promised.{one_answer}
use Rattle.lister.specs.Promise.{TablePromise, PrintPromise, LongPromise}

-- both are the one that the promise names
same : {A : Type 0} {x y named : A} → x ≡ named → y ≡ named → x ≡ y
same p q = p ∙ sym q

-- reading a header, strictly or tolerantly: answer, place and count of rows, the lent rows and the lent words
pub one_read : {w : Strictness} {edition : ℕ} {input before words after words₁ later words₂ : List ℕ} {a b : declared.Reply} → ReadsBy w edition input before words a after words₁ → ReadsBy w edition input before words b later words₂ → (a ≡ b) × (after ≡ later) × (words₁ ≡ words₂)
one_read p q = (ap (λ (r : Reply). record { answer = r.answer; place = r.place; rows = r.rows }) (same p.answers q.answers), same p.rows q.rows, same p.carries q.carries)

-- writing a table: answer, place and count of rows, and the lent output
pub one_write : {edition : ℕ} {rows pool before after later : List ℕ} {a b : declared.Reply} → WritePromise edition rows pool before a after → WritePromise edition rows pool before b later → (a ≡ b) × (after ≡ later)
one_write p q = (ap (λ (r : Reply). record { answer = r.answer; place = r.place; rows = r.rows }) (same p.answers q.answers), same p.leaves q.leaves)

-- the payload: the bytes of the part that is handed back
pub one_payload : {edition : ℕ} {input part other : List ℕ} → PayloadPromise edition input part → PayloadPromise edition input other → part ≡ other
one_payload p q = same p.bytes q.bytes

-- .. and as two numbers
pub one_part : {edition : ℕ} {input : List ℕ} {part other : Part} → PartPromise edition input part → PartPromise edition input other → part ≡ other
one_part p q = λ i. record { start = same p.starts q.starts i; end = same p.ends q.ends i }

-- decoding a number: answer, place and value
pub one_number_decoded : {bytes : List ℕ} {r s : DecodedNumber} → NumberDecodes bytes r → NumberDecodes bytes s → r ≡ s
one_number_decoded p q = λ i. record { answer = (same p.is q.is i).answer; place = (same p.is q.is i).place; value = same p.worth q.worth i }

-- a date's struct has the eight components and no more
pub same_date : {d e : Date} → plain_of d ≡ plain_of e → d ≡ e
same_date q = ap (λ (d : PlainDate). record { year = d.year; month = d.month; day = d.day; hour = d.hour; minute = d.minute; second = d.second; millisecond = d.millisecond; designator = d.designator }) q

-- decoding a date: answer, place and the eight components
pub one_date_decoded : {kind : ℕ} {bytes : List ℕ} {r s : DecodedDate} → DateDecodes kind bytes r → DateDecodes kind bytes s → r ≡ s
one_date_decoded p q = λ i. record { answer = (same p.is q.is i).answer; place = (same p.is q.is i).place; date = same_date (same p.worth q.worth) i }

-- an encoder's answer and place
abbrev pub encoded_as : Outcome → Encoded
encoded_as o = record { answer = o.answer; place = o.place }

-- encoding a number: answer and place, and the lent output
pub one_number_encoded : {value : ℕ} {before after later : List ℕ} {r s : Encoded} → NumberEncodes value before after r → NumberEncodes value before later s → (r ≡ s) × (after ≡ later)
one_number_encoded p q = (ap encoded_as (same p.is q.is), same p.lays q.lays)

-- encoding a date: the same
pub one_date_encoded : {kind : ℕ} {date : PlainDate} {before after later : List ℕ} {r s : Encoded} → DateEncodes kind date before after r → DateEncodes kind date before later s → (r ≡ s) × (after ≡ later)
one_date_encoded p q = (ap encoded_as (same p.is q.is), same p.lays q.lays)

-- the next piece of a listing: its length and where the next begins, and the lent memory
pub one_piece : (answer place count : ℕ) (rows bytes : List ℕ) {line byte : ℕ} {before after later : List ℕ} {r s : Piece}
    → NextPiece answer place count rows bytes line byte before after r → NextPiece answer place count rows bytes line byte before later s → (r ≡ s) × (after ≡ later)
one_piece answer place count rows bytes p q = one_answer p q

-- reading a table for the listing: what the reader has
pub one_table : {edition : ℕ} {input before words after words₁ later words₂ : List ℕ} {a b : declared.Reply} → TablePromise edition input before words a after words₁ → TablePromise edition input before words b later words₂
    → (a ≡ b) × (after ≡ later) × (words₁ ≡ words₂)
one_table p q = one_read p.reads q.reads

-- what is printed from: the table that zeros give
pub one_print : {edition : ℕ} {input : List ℕ} {a b : declared.Reply} → PrintPromise edition input a → PrintPromise edition input b → a ≡ b
one_print p q = (one_table p.table q.table).0

-- the line of an input that is too long: there is such an input
pub one_long_line : {line other : List ℕ} → LongPromise line → LongPromise other → line ≡ other
one_long_line {line} {other} p q = at (longer input_most)
  where
    longer : (n : ℕ) → (input : List ℕ) × (n < length input)
    longer n = let zeros : List ℕ = replicate (suc n) 0 in (zeros, omega (arith, length-replicate {A = ℕ} (suc n) 0))

    at : (input : List ℕ) × (input_most < length input) → line ≡ other
    at (input, long) = same (p.lists 1 input long) (q.lists 1 input long)
