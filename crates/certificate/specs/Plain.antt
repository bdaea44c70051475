-- Order 11, of calls of `read_plain` and `read_plain_tolerant` beside `read` and `read_tolerant`: "Its answer, place, rows and words equal the first reader's for every input,
-- edition and lent length, strict and tolerant". Both readers promise the same, and that promise allows one answer.
use Rattle.std.specs.Prelude.{ℕ, List, ◌≡◌, T}
use Rattle.meaning.specs.Told.{Strictness, strict, tolerant}
use Rattle.laws_steps.specs.Logic.{are_bytes}
use Rattle.table.specs.declared.reply.Reply as declared
use Rattle.reader.specs.Promises.{ReadsBy, ReadPromise, TolerantPromise}
use Rattle.certificate.specs.OneAnswer.{one_read}
use Rattle.certificate.specs.Premises.{some_read}

-- a call of the engine and a call of the first reader, with the same edition, input, rows and words lent: answer, place and count, the rows and the words after it
pub plain_as_first : {edition : ℕ} {input before words after words₁ later words₂ : List ℕ} {a b : declared.Reply} → ReadPromise edition input before words a after words₁ → ReadPromise edition input before words b later words₂ → (a ≡ b) × (after ≡ later) × (words₁ ≡ words₂)
plain_as_first first plain = one_read first plain

pub plain_as_first_tolerant : {edition : ℕ} {input before words after words₁ later words₂ : List ℕ} {a b : declared.Reply} → TolerantPromise edition input before words a after words₁ → TolerantPromise edition input before words b later words₂ → (a ≡ b) × (after ≡ later) × (words₁ ≡ words₂)
plain_as_first_tolerant first plain = one_read first plain

-- one answer, and there is one, whatever the strictness
pub one_plain : {w : Strictness} {edition : ℕ} {input before words after words₁ later words₂ : List ℕ} {a b : declared.Reply} → ReadsBy w edition input before words a after words₁ → ReadsBy w edition input before words b later words₂ → (a ≡ b) × (after ≡ later) × (words₁ ≡ words₂)
one_plain p q = one_read p q

pub some_plain : (w : Strictness) (edition : ℕ) (input before words : List ℕ) → T (are_bytes input) → (a : declared.Reply) × (after : List ℕ) × (words' : List ℕ) × ReadsBy w edition input before words a after words'
some_plain w edition input before words t = some_read w edition input before words t
