-- Document 02, order 8: a value found by hops, "For any rows and words lent". Kinds and skip numbers are looked at, levels are not.
use Rattle.std.specs.Prelude.{ℕ, zero, suc, ◌*◌, ◌+◌, ◌/◌, ◌%◌, ◌^◌, List, Bool, ◌&&◌, not, eqb, ltb, leb, length, get_or}
use Rattle.meaning.specs.Basics.{pick}
use Rattle.meaning.specs.Kinds.{extension_opens}
use Rattle.meaning.specs.Skips.{is_envelope}
use Rattle.meaning.specs.Codes.{code_of, can_ask, date_code}
use Rattle.meaning.specs.Headers.{envelopes_most}
use Rattle.meaning.specs.Memory.{row_width, room_of, Reply, reply}

-- the kind and the skip number of row i, as they are lent
abbrev pub kind_lent : List ℕ → ℕ → ℕ
kind_lent rows i = get_or rows (i * row_width) 0

abbrev pub skip_lent : List ℕ → ℕ → ℕ
skip_lent rows i = get_or rows (i * row_width + 4) 0

-- bit n of a word is not set
abbrev pub lacks : ℕ → ℕ → Bool
lacks word n = eqb (word / 2 ^ n % 2) 0

-- "leave out envelopes whose presence word lacks the code (for code 20, which has no bit, all but the base)"; "An envelope past the sixteenth has
-- no word and lacks no code". Envelopes are counted from 0
abbrev pub left_out : List ℕ → ℕ → ℕ → ℕ → Bool
left_out words code envelope kind = pick (eqb code date_code) (eqb kind extension_opens) (ltb envelope envelopes_most && lacks (get_or words envelope 0) code)

-- the row that answers, or the row count, and the rows looked at; or the row whose skip number is wrong
pub data Looked : Type 0 where
  answers_at : ℕ → ℕ → Looked
  wrong_skip : ℕ → Looked

-- "whose skip number isn't above its own number or passes the row count"
abbrev pub hops_on : List ℕ → ℕ → Bool
hops_on rows i = ltb i (skip_lent rows i) && leb (skip_lent rows i) (room_of rows)

-- standing on row i, so many rows looked at and so many envelopes met before it. An envelope is entered at the row behind its own, or left out to
-- its skip number; a row that the code asks for answers; from any other row on to its skip number; at the row count, none.
-- Each hop goes forward, so as many hops as there are rows are enough
unfoldable pub look_on : ℕ → List ℕ → List ℕ → ℕ → ℕ → ℕ → ℕ → Looked
look_on zero rows words code looked envelopes i = answers_at i looked
look_on (suc hops) rows words code looked envelopes i =
    let kind = kind_lent rows i in
    let met = is_envelope kind in
    let entered = met && not (left_out words code envelopes kind) in
    let on : Looked = look_on hops rows words code (suc looked) (pick met (suc envelopes) envelopes) (pick entered (suc i) (skip_lent rows i)) in
    pick (leb (room_of rows) i) (answers_at i looked)
    (pick (hops_on rows i) (pick (eqb (code_of kind) code) (answers_at i (suc looked)) on) (wrong_skip i))

unfoldable pub looked_up : List ℕ → List ℕ → ℕ → Looked
looked_up rows words code = look_on (room_of rows) rows words code 0 0 0

abbrev pub looked_reply : Looked → Reply
looked_reply (answers_at i looked) = reply 0 i looked
looked_reply (wrong_skip i) = reply 15 i 0

-- "Refusals, with count 0: 17; then 14 at place 0 for fewer than sixteen words; then 15 for a slice that isn't whole rows, at the count of whole ones;
-- then 15 for the first row looked at whose skip number isn't above its own number or passes the row count"
unfoldable pub lookup : List ℕ → List ℕ → ℕ → Reply
lookup rows words code =
    let found : Reply = looked_reply (looked_up rows words code) in
    pick (can_ask code)
    (pick (leb envelopes_most (length words))
    (pick (eqb (length rows % row_width) 0) found (reply 15 (room_of rows) 0))
    (reply 14 0 0))
    (reply 17 0 0)
