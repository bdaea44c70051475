-- Document 01: "The payload is handed back as a part of the caller's own input; the view takes edition and input only, so 14 can't arise,
-- and on any other refusal it is the empty part at the front."
use Rattle.std.specs.Prelude.{ℕ, List, [], length, drop}
use Rattle.meaning.specs.Headers.{Answer, refused, accepted, read}

-- the part's first place and the place behind its last byte
abbrev pub part_start : Answer → ℕ
part_start (refused refusal place) = 0
part_start (accepted place rs) = place

abbrev pub part_end : List ℕ → Answer → ℕ
part_end input (refused refusal place) = 0
part_end input (accepted place rs) = length input

unfoldable pub payload_start : ℕ → List ℕ → ℕ
payload_start edition input = part_start (read edition input)

unfoldable pub payload_end : ℕ → List ℕ → ℕ
payload_end edition input = part_end input (read edition input)

-- the bytes of the part
abbrev pub part_bytes : List ℕ → Answer → List ℕ
part_bytes input (refused refusal place) = []
part_bytes input (accepted place rs) = drop place input

unfoldable pub payload_bytes : ℕ → List ℕ → List ℕ
payload_bytes edition input = part_bytes input (read edition input)
