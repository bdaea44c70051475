-- The codes that a value's kind and length pick.
use Rattle.std.specs.Prelude.{ℕ, ◌+◌, List, ◌∷◌, ◌++◌, Bool, ◌||◌, eqb, ltb, length, Option, None, Some}
use Rattle.meaning.specs.Basics.{pick}
use Rattle.meaning.specs.Bytes.{length_bytes, one_byte, two_bytes, four_bytes}
use Rattle.meaning.specs.Told.{Edition, B, D}

-- "Codes in B: 20 absolute, 21 absolute with designator"
abbrev pub code_in_b : ℕ → Bool → Option ℕ
code_in_b kind designated = pick (eqb kind 5) (Some (pick designated 0x21 0x20)) None

-- "In D: 20, 21, 22 absolute, forward, backward; 24, 25, 26 the same with designator"
abbrev pub code_in_d : ℕ → Bool → Option ℕ
code_in_d kind designated = pick (ltb kind 5 || ltb 7 kind) None (Some (kind + pick designated 0x1f 0x1b))

abbrev pub date_code : Edition → ℕ → Bool → Option ℕ
date_code D kind designated = code_in_d kind designated
date_code B kind designated = code_in_b kind designated

-- "16, 17, 19 with a length of 1, 2, 4 bytes": the shortest
abbrev pub block_bytes : List ℕ → List ℕ
block_bytes v =
    pick (ltb (length v) 256) (0x16 ∷ (length_bytes one_byte (length v) ++ v))
    (pick (ltb (length v) 65536) (0x17 ∷ (length_bytes two_bytes (length v) ++ v)) (0x19 ∷ (length_bytes four_bytes (length v) ++ v)))
