-- The ties between the entries of `meaning`, an edition, and the lent rows over their pool.
use Rattle.std.specs.Prelude.{ℕ, suc, ◌+◌, List, [], ◌∷◌, ◌++◌, map, Bool, true, false, ◌&&◌, ◌||◌, ◌⊎◌, ◌≡◌, refl, T, eqb, leb, length, take}
use Rattle.std.proofs.Common.{append-nil, inl, inr, ap, sym, ◌∙◌, subst, arith, eqb→eq, length-append, le-leb}
use Rattle.std.proofs.Math.Seq.{take-append_seam}
use Rattle.meaning.specs.Basics.{pick, every}
use Rattle.meaning.specs.Told.{Edition, Label, B, D, known, unknown, label_of, Strictness, Told, told_by, told}
use Rattle.meaning.specs.Reading.{Row}
use Rattle.meaning.specs.Headers.{Placed, meant, accepted, header, envelopes_most, labelled, read_by}
use Rattle.meaning.specs.Writing.{Cell, cell, broken, Envelope, header_of, Plan, stuck, plan, Limit, fine, exceeds, limits, written, unwritten, limited, planned, whole_plan, write_rows, written_under}
use Rattle.meaning.specs.Skips.{Skips, right, wrong_at}
use Rattle.meaning.specs.Memory.{numbers_of, rows_from, table_of, cell_of, cells_of, skips_of, skips_held, write}
use Rattle.laws_steps.specs.Logic.{either, are_bytes}
use Rattle.laws_steps.specs.Envelopes.{Writes}
use Rattle.laws_tables.specs.Views.{PlacedIn, AllIn, view_part}
use Rattle.laws_tables.specs.HeaderWritten.{Whole, Again, header_written}
use Rattle.laws_tables.specs.RightSkips.{skips_same}
use Rattle.laws_steps.specs.PlainRows.{is_plain, all_plain}

-- an edition's number
abbrev pub number_of : Edition → ℕ
number_of B = 1
number_of D = 2

-- "Two tables mean the same .. if they have equal row counts, kinds, levels, lengths and viewed bytes": rows over one pool, and rows over another.
-- Order 7: "Two tables mean the same only if it agrees too": the skip number
abbrev pub SameMeaning : List ℕ → List ℕ → List ℕ → List ℕ → Type 0
SameMeaning rows pool rows' pool' = (cells_of pool rows ≡ cells_of pool' rows') × (skips_of rows ≡ skips_of rows')

-- "no encrypted list, no relative date, no date with a designator and no extra"
abbrev pub plain_cell : Cell → Bool
plain_cell (cell row) = is_plain row
plain_cell broken = false

abbrev pub plain_table : List ℕ → List ℕ → Bool
plain_table rows pool = every plain_cell (cells_of pool rows)

pub read_known : (w : Strictness) (e : Edition) (input : List ℕ) → read_by w (number_of e) input ≡ header envelopes_most (told_by w e) 0 input
unfolding read_by
read_known w B input = refl
read_known w D input = refl

pub write_known : (e : Edition) (rows pool : List ℕ) (room : ℕ) → write (number_of e) rows pool room ≡ write_rows e room (cells_of pool rows) (skips_held rows)
unfolding write
write_known B rows pool room = refl
write_known D rows pool room = refl

-- an answer that is accepted is some edition's
pub accepted_known : (w : Strictness) (edition : ℕ) (input : List ℕ) (place : ℕ) (rows : List Placed) → read_by w edition input ≡ accepted place rows
    → (e : Edition) × (label_of edition ≡ known e) × (header envelopes_most (told_by w e) 0 input ≡ accepted place rows)
unfolding read_by
accepted_known w edition input place rows q = at (label_of edition) refl q
  where
    at : (l : Label) → label_of edition ≡ l → labelled w input l ≡ accepted place rows → (e : Edition) × (label_of edition ≡ known e) × (header envelopes_most (told_by w e) 0 input ≡ accepted place rows)
    at unknown k r = let z : ◌≡◌ {A = ℕ} 0 1 = cc r in absurd (omega arith)
    at (known e) k r = (e, k, r)

pub written_known : (edition : ℕ) (rows pool : List ℕ) (room : ℕ) (bytes : List ℕ) → write edition rows pool room ≡ written bytes → (e : Edition) × (label_of edition ≡ known e) × (write_rows e room (cells_of pool rows) (skips_held rows) ≡ written bytes)
unfolding write
written_known edition rows pool room bytes q = at (label_of edition) refl q
  where
    at : (l : Label) → label_of edition ≡ l → written_under room (cells_of pool rows) (skips_held rows) l ≡ written bytes → (e : Edition) × (label_of edition ≡ known e) × (write_rows e room (cells_of pool rows) (skips_held rows) ≡ written bytes)
    at unknown k r = let z : ◌≡◌ {A = ℕ} 0 1 = cc r in absurd (omega arith)
    at (known e) k r = (e, k, r)

pub read_as : (w : Strictness) (edition : ℕ) (e : Edition) (input : List ℕ) → label_of edition ≡ known e → read_by w edition input ≡ header envelopes_most (told_by w e) 0 input
unfolding read_by
read_as w edition e input k = ap (labelled w input) k

pub write_as : (edition : ℕ) (e : Edition) (rows pool : List ℕ) (room : ℕ) → label_of edition ≡ known e → write edition rows pool room ≡ write_rows e room (cells_of pool rows) (skips_held rows)
unfolding write
write_as edition e rows pool room k = ap (written_under room (cells_of pool rows) (skips_held rows)) k

-- rows that view a header's own bytes say what was read
cell_placed : (w payload : List ℕ) (r : Placed) → PlacedIn 0 w r → cell_of (w ++ payload) r.kind r.level r.start (length r.view) ≡ cell (meant r)
cell_placed w payload r p =
    let (v, h) = view_part w payload r p in
    rw (le-leb (r.start + length r.view) (length (w ++ payload)) (omega (arith, length-append w payload)), v) refl

cells_from : (i : ℕ) (w payload : List ℕ) (rows : List Placed) → AllIn 0 w rows → cells_of (w ++ payload) (rows_from i (map numbers_of rows)) ≡ map cell (map meant rows)
unfolding cells_of
cells_from i w payload [] h = refl
cells_from i w payload (r ∷ rows) (h, hs) = rw (cell_placed w payload r h, cells_from (suc i) w payload rows hs) refl

pub cells_placed : (w payload : List ℕ) (rows : List Placed) → AllIn 0 w rows → cells_of (w ++ payload) (table_of rows) ≡ map cell (map meant rows)
cells_placed w payload rows i = cells_from 0 w payload rows i

pub from_zero : (n : ℕ) → 0 + n ≡ n
from_zero n = omega arith

pub whole_of : (told : Told) (input : List ℕ) (place : ℕ) (rows : List Placed) → T (are_bytes input) → header envelopes_most told 0 input ≡ accepted place rows → Whole envelopes_most told 0 input place rows
whole_of told input place rows t q = subst (Again envelopes_most told 0 input) q (header_written envelopes_most told 0 input t)

-- a strict reading took the header that the writer gives
pub whole_written : {k : ℕ} {e : Edition} {at : ℕ} {s : List ℕ} {p : ℕ} {rows : List Placed} (w : Whole k (told e) at s p rows) → Writes e w.count (map meant rows) w.bytes
whole_written {e = e} {rows = rows} w = subst (Writes e w.count (map meant rows)) (w.exact refl) w.written

-- the header's own views, whichever edition reads it
pub same_meaning : (e : Edition) (bytes payload rows pool : List ℕ) (table : List Row) (read-rows : List Placed) → T (are_bytes bytes) → skips_held rows ≡ right → cells_of pool rows ≡ map cell table → map meant read-rows ≡ table
    → header envelopes_most (told e) 0 (bytes ++ []) ≡ accepted (0 + length bytes) read-rows → SameMeaning rows pool (table_of read-rows) (bytes ++ payload)
same_meaning e bytes payload rows pool table read-rows t s c m q =
    let a : header envelopes_most (told e) 0 bytes ≡ accepted (0 + length bytes) read-rows = ap (header envelopes_most (told e) 0) (sym (append-nil bytes)) ∙ q in
    let w = whole_of (told e) bytes (0 + length bytes) read-rows t a in
    let whole : w.bytes ≡ bytes = all_of w.bytes w.payload w.parts (omega (arith, w.place)) in
    let i : AllIn 0 bytes read-rows = subst (λ (x : List ℕ). AllIn 0 x read-rows) whole w.views in
    (c ∙ ap (map cell) (sym m) ∙ sym (cells_placed bytes payload read-rows i), skips_same pool rows read-rows s (c ∙ ap (map cell) (sym m)))
  where
    -- a front as long as the whole is the whole
    all_of : {whole : List ℕ} (xs ys : List ℕ) → whole ≡ xs ++ ys → length xs ≡ length whole → xs ≡ whole
    all_of xs [] p h = sym (p ∙ append-nil xs)
    all_of xs (y ∷ ys) p h = absurd (omega (arith, ap length p, length-append xs (y ∷ ys)))

pub plain_cells : (table : List Row) → every plain_cell (map cell table) ≡ all_plain table
plain_cells [] = refl
plain_cells (row ∷ table) = ap (λ (b : Bool). is_plain row && b) (plain_cells table)

pub seven_or_nine : (k : ℕ) → T (eqb k 7 || eqb k 9) → (k ≡ 7) ⊎ (k ≡ 9)
seven_or_nine k t = at (either (eqb k 7) (eqb k 9) t)
  where
    at : T (eqb k 7) ⊎ T (eqb k 9) → (k ≡ 7) ⊎ (k ≡ 9)
    at (inl p) = inl (eqb→eq k 7 p)
    at (inr p) = inr (eqb→eq k 9 p)

-- the header's bytes are the input up to the payload
pub whole_front : (told : Told) (input : List ℕ) (place : ℕ) (rows : List Placed) (w : Whole envelopes_most told 0 input place rows) → take place input ≡ w.bytes
whole_front told input place rows w =
    ap (λ (x : ℕ). take x input) (w.place ∙ from_zero (length w.bytes)) ∙ ap (take (length w.bytes)) w.parts ∙ take-append_seam w.bytes w.payload

-- 15 is given only where a plan is stuck, or where it is not and a skip number is wrong
pub only_stuck : (room i : ℕ) (skips : Skips) (p : Plan) → planned room skips p ≡ unwritten 15 i → (p ≡ stuck i) ⊎ ((bs : List ℕ) × (vs : List Envelope) × (p ≡ plan bs vs) × (skips ≡ wrong_at i))
only_stuck room i skips (stuck j) r = inl (ap stuck (cc r))
only_stuck room i (wrong_at j) (plan bs vs) r = inr (bs, vs, refl, ap wrong_at (cc r))
only_stuck room i right (plan bs vs) r = absurd (limits_never (limits envelopes_most vs) r)
  where
    room_never : (b : Bool) → pick b (written (header_of vs)) (unwritten 16 (length (header_of vs))) ≡ unwritten 15 i → ⊥
    room_never true q = let z : ◌≡◌ {A = ℕ} 0 1 = cc q in absurd (omega arith)
    room_never false q = let z : ◌≡◌ {A = ℕ} 16 15 = cc q in absurd (omega arith)

    limits_never : (o : Limit) → limited room vs o ≡ unwritten 15 i → ⊥
    limits_never fine q = room_never (leb (length (header_of vs)) room) q
    limits_never (exceeds j) q = let z : ◌≡◌ {A = ℕ} 5 15 = cc q in absurd (omega arith)

-- what is written has right skip numbers
pub written_right : (e : Edition) (room : ℕ) (cs : List Cell) (skips : Skips) (w : List ℕ) → write_rows e room cs skips ≡ written w → skips ≡ right
unfolding write_rows
written_right e room cs skips w = at (whole_plan e cs) skips
  where
    at : (p : Plan) (skips : Skips) → planned room skips p ≡ written w → skips ≡ right
    at p right q = refl
    at (stuck i) (wrong_at j) q = let z : ◌≡◌ {A = ℕ} 0 1 = cc q in absurd (omega arith)
    at (plan bs vs) (wrong_at j) q = let z : ◌≡◌ {A = ℕ} 0 1 = cc q in absurd (omega arith)
