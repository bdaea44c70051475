-- Rows in lent memory: rows put one by one are the table laid over it, and rows taken by their numbers are its cells.
-- How many numbers a row has is known in `meaning`'s Memory, here and in the crate `table`; whoever stands above asks for room and whole rows.
use Rattle.std.specs.Prelude.{ℕ, zero, suc, ◌+◌, ◌-◌, ◌*◌, ◌/◌, ◌%◌, ◌≤◌, ◌<◌, List, [], ◌∷◌, ◌++◌, map, Bool, true, false, ◌≡◌, refl, T, eqb, leb, length, get_or, set, drop}
use Rattle.std.proofs.Common.{append_assoc, ap, sym, ◌∙◌, zero-add, add-one, arith, length-append, le-leb}
use Rattle.meaning.specs.Basics.{pick, every}
use Rattle.meaning.specs.Reading.{Row}
use Rattle.meaning.specs.Headers.{Placed}
use Rattle.meaning.specs.Memory.{row_width, room_of, cell_of, cells_of}
use Rattle.meaning.specs.Writing.{Cell, cell, broken}
use Rattle.laws_steps.specs.Logic.{both}

-- Putting rows

-- row n of the memory m, where m has room for it; its skip number stays, until all rows are put
unfoldable pub put : List ℕ → ℕ → ℕ → ℕ → ℕ → ℕ → List ℕ
put m n kind level start len =
    let i = n * row_width in
    pick (leb (i + row_width) (length m)) (set (set (set (set m i kind) (i + 1) level) (i + 2) start) (i + 3) len) m

-- rows with their starts, put from row n on
abbrev pub put_all : List Placed → ℕ → List ℕ → List ℕ
put_all [] n m = m
put_all (r ∷ rs) n m = put_all rs (n + 1) (put m n r.kind r.level r.start (length r.view))

pub set_over : (p z : List ℕ) (j i v : ℕ) → j ≡ length p + i → set (p ++ z) j v ≡ p ++ set z i v
set_over [] z j i v h = rw (h, zero-add)
set_over (x ∷ p) z zero i v h = absurd (omega arith)
set_over (x ∷ p) z (suc j) i v h = ap {B = List ℕ} (λ l. x ∷ l) (set_over p z j i v (omega arith))

-- four numbers of each row over memory, whose fifth numbers stay
abbrev pub four_of : List Placed → List ℕ → List ℕ
four_of [] m = m
four_of (r ∷ rs) m = r.kind ∷ r.level ∷ r.start ∷ length r.view ∷ get_or m 4 0 ∷ four_of rs (drop row_width m)

put_over : (p : List ℕ) (a b c d e : ℕ) (m : List ℕ) (n kind level start len : ℕ) → length p ≡ n * row_width
    → put (p ++ (a ∷ b ∷ c ∷ d ∷ e ∷ m)) n kind level start len ≡ (p ++ (kind ∷ level ∷ start ∷ len ∷ e ∷ [])) ++ m
unfolding put
put_over p a b c d e m n kind level start len h =
    let room : n * row_width + row_width ≤ length (p ++ (a ∷ b ∷ c ∷ d ∷ e ∷ m)) = simp length-append (omega arith) in
    rw (
      le-leb _ _ room,
      set_over p (a ∷ b ∷ c ∷ d ∷ e ∷ m) (n * row_width) 0 kind (omega arith),
      set_over p (kind ∷ b ∷ c ∷ d ∷ e ∷ m) (n * row_width + 1) 1 level (omega arith),
      set_over p (kind ∷ level ∷ c ∷ d ∷ e ∷ m) (n * row_width + 2) 2 start (omega arith),
      set_over p (kind ∷ level ∷ start ∷ d ∷ e ∷ m) (n * row_width + 3) 3 len (omega arith),
    )
    (sym (append_assoc p (kind ∷ level ∷ start ∷ len ∷ e ∷ []) m))

all_over : (rs : List Placed) (n : ℕ) (p m : List ℕ) → length p ≡ n * row_width → length rs * row_width ≤ length m → put_all rs n (p ++ m) ≡ p ++ four_of rs m
all_over [] n p m h l = refl
all_over (r ∷ rs) n p [] h l = absurd (omega arith)
all_over (r ∷ rs) n p (a ∷ []) h l = absurd (omega arith)
all_over (r ∷ rs) n p (a ∷ b ∷ []) h l = absurd (omega arith)
all_over (r ∷ rs) n p (a ∷ b ∷ c ∷ []) h l = absurd (omega arith)
all_over (r ∷ rs) n p (a ∷ b ∷ c ∷ d ∷ []) h l = absurd (omega arith)
all_over (r ∷ rs) n p (a ∷ b ∷ c ∷ d ∷ e ∷ m) h l =
    let four = r.kind ∷ r.level ∷ r.start ∷ length r.view ∷ e ∷ [] in
    let k : length (p ++ four) ≡ (n + 1) * row_width = simp length-append (omega arith) in
    ap (put_all rs (n + 1)) (put_over p a b c d e m n r.kind r.level r.start (length r.view) h)
    ∙ all_over rs (n + 1) (p ++ four) m k (omega arith)
    ∙ append_assoc p four (four_of rs m)

-- rows that have room are their four numbers over the front of the memory
pub put_all_over : (rs : List Placed) (m : List ℕ) → length rs ≤ room_of m → put_all rs 0 m ≡ four_of rs m
put_all_over rs m h = all_over rs 0 [] m refl (room_is_lem h)
  where
    room_is_lem : length rs ≤ room_of m → length rs * row_width ≤ length m
    room_is_lem k = omega arith

-- Taking rows

-- whether no number is left over behind the whole rows
abbrev pub whole_rows : List ℕ → Bool
whole_rows rows = eqb (length rows % row_width) 0

-- row i; what is left over behind the whole rows is a broken cell
abbrev pub row_cell : List ℕ → List ℕ → ℕ → Cell
row_cell pool rows i = cell_of pool (get_or rows (i * row_width) 0) (get_or rows (i * row_width + 1) 0) (get_or rows (i * row_width + 2) 0) (get_or rows (i * row_width + 3) 0)

unfoldable pub cells_for : List ℕ → List ℕ → ℕ → ℕ → List Cell
cells_for pool rows i zero = pick (whole_rows rows) [] (broken ∷ [])
cells_for pool rows i (suc n) = row_cell pool rows i ∷ cells_for pool rows (suc i) n

-- the cells from row i on
unfoldable pub cells_at : List ℕ → List ℕ → ℕ → List Cell
cells_at pool rows i = cells_for pool rows i (room_of rows - i)

cell_at : (pool all : List ℕ) {k₀ k₁ k₂ k₃ l₀ l₁ l₂ l₃ : ℕ} → k₀ ≡ l₀ → k₁ ≡ l₁ → k₂ ≡ l₂ → k₃ ≡ l₃
    → cell_of pool (get_or all k₀ 0) (get_or all k₁ 0) (get_or all k₂ 0) (get_or all k₃ 0) ≡ cell_of pool (get_or all l₀ 0) (get_or all l₁ 0) (get_or all l₂ 0) (get_or all l₃ 0)
cell_at pool all p q r s = rw (p, q, r, s) refl

cells_shift : (pool : List ℕ) (a b c d e : ℕ) (rows : List ℕ) (i n : ℕ) → cells_for pool (a ∷ b ∷ c ∷ d ∷ e ∷ rows) (suc i) n ≡ cells_for pool rows i n
unfolding cells_for
cells_shift pool a b c d e rows i zero =
    let q : suc (suc (suc (suc (suc (length rows))))) % row_width ≡ length rows % row_width = omega arith in
    ap (λ (k : ℕ). pick (eqb k 0) [] (broken ∷ [])) q
cells_shift pool a b c d e rows i (suc n) =
    let q₀ : suc i * row_width ≡ suc (suc (suc (suc (suc (i * row_width))))) = omega arith in
    let q₁ : suc i * row_width + 1 ≡ suc (suc (suc (suc (suc (i * row_width + 1))))) = omega arith in
    let q₂ : suc i * row_width + 2 ≡ suc (suc (suc (suc (suc (i * row_width + 2))))) = omega arith in
    let q₃ : suc i * row_width + 3 ≡ suc (suc (suc (suc (suc (i * row_width + 3))))) = omega arith in
    ap (λ (x : Cell). x ∷ cells_for pool (a ∷ b ∷ c ∷ d ∷ e ∷ rows) (suc (suc i)) n) (cell_at pool (a ∷ b ∷ c ∷ d ∷ e ∷ rows) q₀ q₁ q₂ q₃)
    ∙ ap (λ (x : List Cell). row_cell pool rows i ∷ x) (cells_shift pool a b c d e rows (suc i) n)

cells_indexed : (pool rows : List ℕ) → cells_of pool rows ≡ cells_for pool rows 0 (room_of rows)
unfolding cells_of cells_for
cells_indexed pool [] = refl
cells_indexed pool (kind ∷ []) = refl
cells_indexed pool (kind ∷ (level ∷ [])) = refl
cells_indexed pool (kind ∷ (level ∷ (start ∷ []))) = refl
cells_indexed pool (kind ∷ (level ∷ (start ∷ (len ∷ [])))) = refl
cells_indexed pool (kind ∷ (level ∷ (start ∷ (len ∷ (skip ∷ rows))))) =
    let q : suc (suc (suc (suc (suc (length rows))))) / row_width ≡ suc (length rows / row_width) = omega arith in
    ap (λ (x : List Cell). cell_of pool kind level start len ∷ x) (cells_indexed pool rows ∙ sym (cells_shift pool kind level start len skip rows 0 (room_of rows)))
    ∙ ap (cells_for pool (kind ∷ level ∷ start ∷ len ∷ skip ∷ rows) 0) (sym q)

-- what holds of a row's cell, whatever its numbers are, and of a broken one, holds of every cell
pub every_cell : (test : Cell → Bool) (pool : List ℕ) → ((kind level start len : ℕ) → T (test (cell_of pool kind level start len))) → T (test broken) → (rows : List ℕ) → T (every test (cells_of pool rows))
unfolding cells_of
every_cell test pool f b [] = tt
every_cell test pool f b (kind ∷ []) = both (test broken) true b tt
every_cell test pool f b (kind ∷ (level ∷ [])) = both (test broken) true b tt
every_cell test pool f b (kind ∷ (level ∷ (start ∷ []))) = both (test broken) true b tt
every_cell test pool f b (kind ∷ (level ∷ (start ∷ (len ∷ [])))) = both (test broken) true b tt
every_cell test pool f b (kind ∷ (level ∷ (start ∷ (len ∷ (skip ∷ rows))))) =
    both (test (cell_of pool kind level start len)) (every test (cells_of pool rows)) (f kind level start len) (every_cell test pool f b rows)

-- a table that is written has whole rows only
pub no_broken : (cells : List Cell) (table : List Row) → broken ∷ cells ≡ map cell table → ⊥
no_broken cells [] q = let z : ◌≡◌ {A = ℕ} 0 1 = cc q in absurd (omega arith)
no_broken cells (row ∷ table) q = let z : ◌≡◌ {A = ℕ} 0 1 = cc q in absurd (omega arith)

pub rows_whole : (pool rows : List ℕ) (table : List Row) → cells_of pool rows ≡ map cell table → length rows ≡ length table * row_width
unfolding cells_of
rows_whole pool [] [] q = refl
rows_whole pool [] (row ∷ table) q = let z : ◌≡◌ {A = ℕ} 0 1 = cc q in absurd (omega arith)
rows_whole pool (kind ∷ []) table q = absurd (no_broken [] table q)
rows_whole pool (kind ∷ (level ∷ [])) table q = absurd (no_broken [] table q)
rows_whole pool (kind ∷ (level ∷ (start ∷ []))) table q = absurd (no_broken [] table q)
rows_whole pool (kind ∷ (level ∷ (start ∷ (many ∷ [])))) table q = absurd (no_broken [] table q)
rows_whole pool (kind ∷ (level ∷ (start ∷ (many ∷ (skip ∷ rows))))) [] q = let z : ◌≡◌ {A = ℕ} 0 1 = cc q in absurd (omega arith)
rows_whole pool (kind ∷ (level ∷ (start ∷ (many ∷ (skip ∷ rows))))) (row ∷ table) q =
    let rest : cells_of pool rows ≡ map cell table = cc q in let h = rows_whole pool rows table rest in
    omega arith

-- the table's cells are those from row 0 on
pub cells_are : (pool rows : List ℕ) → cells_of pool rows ≡ cells_at pool rows 0
unfolding cells_at
cells_are pool rows = let q : room_of rows ≡ room_of rows - 0 = omega arith in cells_indexed pool rows ∙ ap (cells_for pool rows 0) q

pub cells_next : (pool rows : List ℕ) (i : ℕ) → i < room_of rows → cells_at pool rows i ≡ row_cell pool rows i ∷ cells_at pool rows (i + 1)
unfolding cells_at cells_for
cells_next pool rows i h =
    let q : room_of rows - i ≡ suc (room_of rows - (i + 1)) = omega arith in
    ap (cells_for pool rows i) q ∙ ap (λ (k : ℕ). row_cell pool rows i ∷ cells_for pool rows k (room_of rows - (i + 1))) (sym (add-one i))

pub cells_last : (pool rows : List ℕ) (i : ℕ) → room_of rows ≤ i → cells_at pool rows i ≡ pick (whole_rows rows) [] (broken ∷ [])
unfolding cells_at cells_for
cells_last pool rows i h = let q : room_of rows - i ≡ 0 = omega arith in ap (cells_for pool rows i) q

pub cells_none : (pool rows : List ℕ) (i : ℕ) → room_of rows ≤ i → whole_rows rows ≡ true → cells_at pool rows i ≡ []
cells_none pool rows i h q = cells_last pool rows i h ∙ rw q refl

pub cells_part : (pool rows : List ℕ) (i : ℕ) → room_of rows ≤ i → whole_rows rows ≡ false → cells_at pool rows i ≡ broken ∷ []
cells_part pool rows i h q = cells_last pool rows i h ∙ rw q refl
