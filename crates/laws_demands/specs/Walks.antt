-- Order 7: what a walk by skip numbers is sure of, on rows that were read and on rows that are written. Every hop goes forward, and never past the row
-- count; the rows of a row lie inside those of its parent; and hopping from row 0 over the envelopes ends at the row count.
use Prim.Native.Nat.{ℕ, zero, suc, ◌+◌, ◌-◌, ◌*◌, ◌≤◌, ◌<◌}
use mathlib.Core.List.{List, [], ◌∷◌, ◌++◌, append-nil, map}
use Rattle.std.specs.Prelude.{Bool, true, false, ◌≡◌, refl, T, eqb, ltb, get_or, drop}
use Rattle.std.proofs.Math.Path.{ap, sym}
use Rattle.std.proofs.Common.{◌∙◌, subst, eqb-true, ltb-true, ltb-false, lt-ltb}
use native.Mathlib.Omega.{arith}
use Rattle.std.proofs.Math.ListN.{length, length-append}
use Rattle.std.proofs.lemmas.Bool.{eqb-false}
use Rattle.meaning.specs.Told.{Edition, Strictness, told_by}
use Rattle.meaning.specs.Editions.{State}
use Rattle.meaning.specs.Reading.{Row}
use Rattle.meaning.specs.Skips.{Rank, is_envelope, belongs, belonging, right}
use Rattle.meaning.specs.Headers.{Placed, meant, accepted, start, read_by}
use Rattle.meaning.specs.Writing.{fits, cell, written, fit_row}
use Rattle.meaning.specs.Memory.{row_width, table_of, room_of, cells_of, skips_held, write}
use Rattle.laws_steps.specs.Logic.{are_bytes}
use Rattle.laws_steps.specs.Nesting.{deeper_belongs, beside_belongs, belonging_on, belonging_none}
use Rattle.laws_steps.specs.Hopping.{rank_at, ranks_at, ranks_for, ranks_are, ranks_length, ranks_next, ranks_drop, given_at, skip_at, skip_forward, skip_most, HopsTo, hop_begins, hop_on, hop_ends, hop_stops, step_on, AllRight}
use Rattle.laws_tables.specs.RightSkips.{standing, cells_ranks, table_right, right_means}
use Rattle.laws_steps.specs.WrittenRead.{fit_all, then_inv}
use Rattle.laws_steps.specs.Envelopes.{opening_row, Writes, the_base, before}
use Rattle.laws_steps.specs.Plans.{inner_kind, written_writes}
use Rattle.laws_tables.specs.Ties.{written_right, accepted_known, written_known, whole_of, cells_placed}

-- Rows inside rows

module _ (m : List ℕ) (n i : ℕ) (l : i < n) where
  -- a row before the skip number belongs
  inside : (j : ℕ) → HopsTo m n i j → j < skip_at m n i → (j < n) × (belongs (rank_at m i) (rank_at m j) ≡ true)
  inside j h k = at (ltb j n) (belongs (rank_at m i) (rank_at m j)) refl refl
    where
      at : (a b : Bool) → ltb j n ≡ a → belongs (rank_at m i) (rank_at m j) ≡ b → (j < n) × (belongs (rank_at m i) (rank_at m j) ≡ true)
      at false b p q = absurd (omega (arith, hop_ends m n i h (ltb-false j n p)))
      at true false p q = absurd (omega (arith, hop_stops m n i h (ltb-true j n p) q))
      at true true p q = (ltb-true j n p, q)

  walk : (k : ℕ) → i + 1 + k ≤ skip_at m n i → HopsTo m n i (i + 1 + k)
  walk zero h = subst (HopsTo m n i) (omega arith) (hop_begins m n i l)
  walk (suc k) h =
      let before = walk k (omega arith) in
      let (x, y) = inside (i + 1 + k) before (omega arith) in
      subst (HopsTo m n i) (omega arith) (step_on m n i before x y)

  nests : (j : ℕ) → i < j → j < skip_at m n i → skip_at m n j ≤ skip_at m n i
  nests j a b =
      let q : i + 1 + (j - (i + 1)) ≡ j = omega arith in
      let h : HopsTo m n i j = subst (HopsTo m n i) q (walk (j - (i + 1)) (omega arith)) in
      let (x, y) = inside j h b in
      omega (arith, (hop_on m n i h x y).left)

-- Envelopes

-- hops over so many envelopes, from row i to the row count
pub data Envelopes (rows : List ℕ) (n : ℕ) : ℕ → ℕ → Type 0 where
  none_left : {i : ℕ} → i ≡ n → Envelopes rows n i 0
  over_one : {i k : ℕ} → is_envelope (get_or rows (i * row_width) 0) ≡ true → Envelopes rows n (given_at rows i) k → Envelopes rows n i (suc k)

inner_belongs : (b : Bool) (row : Row) → 3 ≤ row.kind → belongs (standing (opening_row b)) (standing row) ≡ true
inner_belongs b row h = at (eqb row.level 0) refl b
  where
    at : (z : Bool) → eqb row.level 0 ≡ z → (b : Bool) → belongs (standing (opening_row b)) (standing row) ≡ true
    at true q true = beside_belongs (standing (opening_row true)) (standing row) (eqb-true row.level 0 q) (lt-ltb 2 row.kind h)
    at true q false = beside_belongs (standing (opening_row false)) (standing row) (eqb-true row.level 0 q) (lt-ltb 2 row.kind h)
    at false q true = let n = eqb-false row.level 0 q in deeper_belongs (standing (opening_row true)) (standing row) refl (omega arith)
    at false q false = let n = eqb-false row.level 0 q in deeper_belongs (standing (opening_row false)) (standing row) refl (omega arith)

-- all rows of an envelope belong to it, up to where a table goes on
all_inner : (e : Edition) (b : Bool) (rows table : List Row) (st st' : State) (bs : List ℕ) → fit_all e rows st ≡ fits st' bs → belonging (standing (opening_row b)) (map standing table) ≡ 0
    → belonging (standing (opening_row b)) (map standing (rows ++ table)) ≡ length rows
unfolding fit_all
all_inner e b [] table st st' bs q z = z
all_inner e b (row ∷ rows) table st st' bs q z =
    let (st₁, cs, ds, q₁, q₂, q₃) = then_inv (fit_row e st row) (fit_all e rows) st' bs q in
    belonging_on (standing (opening_row b)) (standing row) (map standing (rows ++ table)) (inner_belongs b row (inner_kind e row st st₁ cs q₁)) ∙ ap suc (all_inner e b rows table st₁ st' ds q₂ z)

-- the next envelope's own row does not
ends_there : (e : Edition) (b : Bool) {k : ℕ} {table : List Row} {w : List ℕ} → Writes e k table w → belonging (standing (opening_row b)) (map standing table) ≡ 0
unfolding belonging belongs
ends_there e true (the_base rows st bs q z) = refl
ends_there e false (the_base rows st bs q z) = refl
ends_there e true (before rows table st bs w n q z more) = refl
ends_there e false (before rows table st bs w n q z more) = refl

opens : (b : Bool) → is_envelope (standing (opening_row b)).kind ≡ true
opens true = refl
opens false = refl

drop_rows : (rows table : List Row) → drop (length rows) (map standing (rows ++ table)) ≡ map standing table
drop_rows [] table = refl
drop_rows (row ∷ rows) table = drop_rows rows table

standing_length : (table : List Row) → length (map standing table) ≡ length table
standing_length [] = refl
standing_length (row ∷ table) = ap suc (standing_length table)

module _ (m : List ℕ) (n : ℕ) (a : AllRight m n 0) where
  -- one envelope: its rows, and the rows behind them
  one_envelope : (i : ℕ) (b : Bool) (rows table : List Row) → ranks_at m n i ≡ standing (opening_row b) ∷ map standing (rows ++ table) → belonging (standing (opening_row b)) (map standing (rows ++ table)) ≡ length rows
      → (is_envelope (get_or m (i * row_width) 0) ≡ true) × (given_at m i ≡ suc i + length rows) × (suc i + length rows ≤ n) × (ranks_at m n (suc i + length rows) ≡ map standing table)
  unfolding skip_at
  one_envelope i b rows table q run =
      let all = map standing (rows ++ table) in
      let long : n - i ≡ suc (length all) = sym (ranks_length m i (n - i)) ∙ ap length q in
      let parts : rank_at m i ∷ ranks_at m n (suc i) ≡ standing (opening_row b) ∷ all = sym (ranks_next m n i (omega arith)) ∙ q in
      let first : rank_at m i ≡ standing (opening_row b) = cc parts in
      let rest : ranks_at m n (suc i) ≡ all = cc parts in
      let skip : given_at m i ≡ suc i + length rows = a i (omega arith) (omega arith) ∙ ap (λ (r : Rank). suc i + belonging r (ranks_at m n (suc i))) first ∙ ap (λ (x : List Rank). suc i + belonging (standing (opening_row b)) x) rest ∙ ap (λ (x : ℕ). suc i + x) run in
      let few : length rows ≤ n - suc i = omega (arith, standing_length (rows ++ table), length-append rows table) in
      let left : n - suc i - length rows ≡ n - (suc i + length rows) = omega arith in (
        ap (λ (r : Rank). is_envelope r.kind) first ∙ opens b,
        skip,
        omega arith,
        ap (ranks_for m (suc i + length rows)) (sym left) ∙ sym (ranks_drop m (suc i) (n - suc i) (length rows) few) ∙ ap (drop (length rows)) rest ∙ drop_rows rows table,
      )

  none_behind : (i : ℕ) → ranks_at m n i ≡ [] → i ≤ n → i ≡ n
  none_behind i q h = let z : n - i ≡ 0 = sym (ranks_length m i (n - i)) ∙ ap length q in omega arith

  over_all : (e : Edition) {k : ℕ} {table : List Row} {w : List ℕ} → Writes e k table w → (i : ℕ) → i ≤ n → ranks_at m n i ≡ map standing table → Envelopes m n i k
  over_all e (the_base rows st bs f z) i h q =
      let r : ranks_at m n i ≡ standing (opening_row true) ∷ map standing (rows ++ []) = q ∙ ap (λ (x : List Row). standing (opening_row true) ∷ map standing x) (sym (append-nil rows)) in
      let (opened, skip, few, rest) = one_envelope i true rows [] r (all_inner e true rows [] (start true) st bs f (belonging_none (standing (opening_row true)))) in
      over_one opened (none_left (skip ∙ none_behind (suc i + length rows) rest few))
  over_all e (before rows table st bs w k f z more) i h q =
      let (opened, skip, few, rest) = one_envelope i false rows table q (all_inner e false rows table (start false) st bs f (ends_there e false more)) in
      over_one opened (subst (λ (x : ℕ). Envelopes m n x k) (sym skip) (over_all e more (suc i + length rows) few rest))

-- What both give

pub record Walked (rows : List ℕ) (envelopes : ℕ) : Type 0 where
  pub forward : (i : ℕ) → i < room_of rows → (i < given_at rows i) × (given_at rows i ≤ room_of rows)
  pub nested : (i j : ℕ) → i < room_of rows → i < j → j < given_at rows i → given_at rows j ≤ given_at rows i
  pub ends : Envelopes rows (room_of rows) 0 envelopes

walked : (e : Edition) (pool rows : List ℕ) {k : ℕ} {table : List Row} {w : List ℕ} → skips_held rows ≡ right → cells_of pool rows ≡ map cell table → Writes e k table w → Walked rows k
walked e pool rows {table = table} s c w =
    let n = room_of rows in
    let a = right_means rows s in
    record {
      forward = λ i l. (omega (arith, a i (omega arith) l, skip_forward rows n i), omega (arith, a i (omega arith) l, skip_most rows n i l));
      nested = λ i j l p q.
          let own = a i (omega arith) l in
          let most = skip_most rows n i l in
          let k : j < n = omega arith in
          omega (arith, own, a j (omega arith) k, nests rows n i l j p (omega arith));
      ends = over_all rows n a e w 0 (omega arith) (sym (ranks_are rows) ∙ cells_ranks pool rows table c);
    }

-- read strictly or tolerantly
pub read_walks : (strictness : Strictness) (edition : ℕ) (input : List ℕ) (place : ℕ) (rows : List Placed) → T (are_bytes input) → read_by strictness edition input ≡ accepted place rows → (envelopes : ℕ) × Walked (table_of rows) envelopes
read_walks strictness edition input place rows t q =
    let (e, k, a) = accepted_known strictness edition input place rows q in
    let w = whole_of (told_by strictness e) input place rows t a in
    let cells : cells_of input (table_of rows) ≡ map cell (map meant rows) = ap (λ (x : List ℕ). cells_of x (table_of rows)) w.parts ∙ cells_placed w.bytes w.payload rows w.views in
    (w.count, walked e input (table_of rows) (table_right rows) cells w.written)

pub written_walks : (edition : ℕ) (rows pool : List ℕ) (room : ℕ) (bytes : List ℕ) → write edition rows pool room ≡ written bytes → (envelopes : ℕ) × Walked rows envelopes
written_walks edition rows pool room bytes q =
    let (e, k, a) = written_known edition rows pool room bytes q in
    let (table, n, c, w, few, room_is_lem) = written_writes e room (cells_of pool rows) (skips_held rows) bytes a in
    (n, walked e pool rows (written_right e room (cells_of pool rows) (skips_held rows) bytes a) c w)
