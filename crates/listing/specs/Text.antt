-- Document 01, the listing program: the text of rows lent as numbers over the bytes that they view, from any cursor on.
-- Any numbers have a text: a view is what the bytes hold of it, and a row that is not lent whole has no line.
use Rattle.std.specs.Prelude.{ℕ, zero, suc, ◌-◌, ◌*◌, min, List, [], ◌∷◌, ◌++◌, map, eqb, ltb, get_or, take, drop}
use Rattle.meaning.specs.Basics.{pick}
use Rattle.meaning.specs.Memory.{row_width, room_of, reply}
use Rattle.meaning.specs.Listing.{decimal, hex_of, viewed, line_of, first_line}

-- "A row is five u32 numbers: kind, level, start, length, skip"
unfoldable pub row_of : List ℕ → ℕ → List ℕ
row_of rows i = take row_width (drop (i * row_width) rows)

unfoldable pub view_of : List ℕ → List ℕ → List ℕ
view_of row bytes = take (get_or row 3 0) (drop (get_or row 2 0) bytes)

-- "per row kind, level, start, length", skip, "viewed bytes in lower-case hex, or `-` if none"
unfoldable pub row_text : List ℕ → List ℕ → ℕ → List ℕ
row_text rows bytes i = line_of (map decimal (row_of rows i) ++ (viewed (view_of (row_of rows i) bytes) ∷ []))

-- the lines of n rows from row i on
unfoldable pub lines_from : List ℕ → List ℕ → ℕ → ℕ → List ℕ
lines_from rows bytes i zero = []
lines_from rows bytes i (suc n) = row_text rows bytes i ++ lines_from rows bytes (suc i) n

-- "then, if accepted, per row": how many rows have a line
unfoldable pub lines_of : ℕ → ℕ → List ℕ → ℕ
lines_of answer count rows = pick (eqb answer 0) (min count (room_of rows)) 0

-- the field of a view behind k of its bytes
unfoldable pub view_from : List ℕ → ℕ → List ℕ
view_from view zero = viewed view
view_from view (suc k) = hex_of (drop (suc k) view)

-- a row's line from its beginning, or behind its numbers and k bytes of its view
unfoldable pub row_from : List ℕ → List ℕ → ℕ → ℕ → List ℕ
row_from rows bytes i zero = row_text rows bytes i
row_from rows bytes i (suc k) = view_from (view_of (row_of rows i) bytes) k ++ (0x0a ∷ [])

-- what is still to print from a cursor on: line 0 is the first line, line i + 1 that of row i; byte 0 is a line's beginning,
-- byte 1 + k stands behind its numbers and k bytes of its view
unfoldable pub text_at : ℕ → ℕ → ℕ → List ℕ → List ℕ → ℕ → ℕ → List ℕ
text_at answer place count rows bytes zero byte = first_line (reply answer place count) ++ lines_from rows bytes 0 (lines_of answer count rows)
text_at answer place count rows bytes (suc i) byte =
    pick (ltb i (lines_of answer count rows)) (row_from rows bytes i byte ++ lines_from rows bytes (suc i) (lines_of answer count rows - suc i)) []
