-- Codes that depend on the edition, and a code that may be missing.
use Rattle.std.specs.Prelude.{ℕ, Option, None, Some}
use Rattle.meaning.specs.Told.{Edition, B, D}
use Rattle.meaning.specs.Editions.{extra_code, no_code}

-- a received object's extras; B has none
abbrev pub received_extra_code : Edition → Option ℕ
received_extra_code B = None
received_extra_code D = Some (extra_code D)

-- a move's code, as `meaning` numbers it; where it has none, the value begins where the code would stand
abbrev pub code_number : Option ℕ → ℕ
code_number None = no_code
code_number (Some code) = code
