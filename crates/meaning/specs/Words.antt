-- Document 02, order 6: "a word for each envelope with bit n for each parameter code n (00, 02 to 0B; never the closing 01) that occurs".
use Rattle.std.specs.Prelude.{ℕ, zero, suc, ◌+◌, ◌/◌, ◌%◌, ◌^◌, List, [], ◌∷◌, Bool, false, ◌||◌, take}
use Rattle.meaning.specs.Basics.{pick}
use Rattle.meaning.specs.Skips.{Rank, is_envelope, belonging}
use Rattle.meaning.specs.Codes.{has_value}

-- whether a value with this code occurs among an envelope's rows, its fixed head included
unfoldable pub occurs : ℕ → List Rank → Bool
occurs code [] = false
occurs code (r ∷ rest) = has_value code r || occurs code rest

-- the codes that have a bit
abbrev pub parameter_codes : List ℕ
parameter_codes = 0x00 ∷ 0x02 ∷ 0x03 ∷ 0x04 ∷ 0x05 ∷ 0x06 ∷ 0x07 ∷ 0x08 ∷ 0x09 ∷ 0x0a ∷ 0x0b ∷ []

-- the bits of those of these codes that occur: "bit n for each parameter code n"
abbrev pub bits_of : List ℕ → List Rank → ℕ
bits_of [] rows = 0
bits_of (code ∷ codes) rows = pick (occurs code rows) (2 ^ code) 0 + bits_of codes rows

unfoldable pub word_of : List Rank → ℕ
word_of rows = bits_of parameter_codes rows

-- the words of a table, one for each envelope, from its rows
unfoldable pub words_of : List Rank → List ℕ
words_of [] = []
words_of (r ∷ rest) =
    let more : List ℕ = words_of rest in
    pick (is_envelope r.kind) (word_of (take (belonging r rest) rest) ∷ more) more

-- the codes that occur, each once
abbrev pub codes_among : List ℕ → List Rank → List ℕ
codes_among [] rows = []
codes_among (code ∷ codes) rows =
    let more : List ℕ = codes_among codes rows in
    pick (occurs code rows) (code ∷ more) more

abbrev pub codes_in : List Rank → List ℕ
codes_in rows = codes_among parameter_codes rows

-- "how many different codes it carries, from the word itself": the ones among so many binary digits, the lowest first
unfoldable pub ones_within : ℕ → ℕ → ℕ
ones_within zero n = 0
ones_within (suc digits) n = n % 2 + ones_within digits (n / 2)

-- .. of a u32
unfoldable pub ones_of : ℕ → ℕ
ones_of word = ones_within 32 word
