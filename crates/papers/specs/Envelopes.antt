-- Envelopes and headers by the reader's moves, for whatever a reading is told; and that for a strict one they are `Grammar`'s.
use Rattle.std.specs.Prelude.{ℕ, zero, suc, ◌+◌, ◌≤◌, List, [], ◌∷◌, ◌++◌, Bool, ◌&&◌, not, ◌≡◌, leb}
use Rattle.std.proofs.Math.Bool.{true, false}
use Rattle.std.proofs.Math.Path.{refl}
use Rattle.std.proofs.Common.{arith, le→leb, le-ltb, ltb-false}
use Rattle.std.proofs.Math.Dec.{T, ltb, leb→le}
use Rattle.std.proofs.Math.ListN.{length}
use Rattle.meaning.specs.Bytes.{Width, fewest, past, too_wide, block_ok}
use Rattle.meaning.specs.Told.{Edition, Told, told}
use Rattle.meaning.specs.Editions.{State, Form, text, date, number, block, itself, opens, quiet}
use Rattle.meaning.specs.Reading.{is_closed}
use Rattle.meaning.specs.Headers.{Placed, placed_row, envelope_most, opening, start}
use Rattle.meaning.specs.Writing.{valid, envelope_size, wrap}
use Rattle.meaning.specs.Grammar.{head_size, Mark, mark, Small, TableOf}
use Rattle.meaning.specs.Grammar
use Rattle.laws_steps.specs.Logic.{left_of, right_of, both}
use Rattle.laws_steps.specs.Values.{allowed}
use Rattle.papers.specs.Moves.{Steps, still, row, silent}

-- the inside of an envelope, to its closing 01
pub record Inside (t : Told) (base : Bool) (at : ℕ) (bytes : List ℕ) (rows : List Placed) : Type 0 where
  pub last : State
  pub steps : Steps t (start base) at bytes rows last
  pub closes : is_closed last.room ≡ true

-- at most n extension envelopes and a base, within the limits, from the place `at` on: their bytes and rows
pub data Envelopes (t : Told) : ℕ → ℕ → List ℕ → List Placed → Type 0 where
  the_base : {n at : ℕ} {bytes : List ℕ} {rows : List Placed} → envelope_size (length bytes) ≤ envelope_most → Inside t true (at + head_size (length bytes)) bytes rows
      → Envelopes t n at (wrap true bytes) (placed_row (opening true) 0 at [] ∷ rows)
  extension : {n at : ℕ} {bytes more : List ℕ} {rows table : List Placed} → envelope_size (length bytes) ≤ envelope_most → Inside t false (at + head_size (length bytes)) bytes rows
      → Envelopes t n (at + envelope_size (length bytes)) more table → Envelopes t (suc n) at (wrap false bytes ++ more) (placed_row (opening false) 0 at [] ∷ (rows ++ table))

-- Strictly, the moves are `Grammar`'s

module _ (e : Edition) where
  strict_block : (w : Width) (v : List ℕ) → T (allowed (told e) (block w) 0 v) → T (block_ok w v)
  unfolding allowed block_ok too_wide
  strict_block w v ok = at (ltb (length v) (fewest w)) refl ok
    where
      at : (b : Bool) → ltb (length v) (fewest w) ≡ b → T (not (b && true) && ltb (length v) (past w)) → T (leb (fewest w) (length v) && ltb (length v) (past w))
      at true q u = absurd u
      at false q u = both (leb (fewest w) (length v)) (ltb (length v) (past w)) (le→leb (fewest w) (length v) (ltb-false (length v) (fewest w) q)) u

  block_strict : (w : Width) (v : List ℕ) → T (block_ok w v) → T (allowed (told e) (block w) 0 v)
  unfolding allowed block_ok too_wide
  block_strict w v ok =
      let fits : fewest w ≤ length v = leb→le (fewest w) (length v) (left_of (leb (fewest w) (length v)) (ltb (length v) (past w)) ok) in
      rw (le-ltb (length v) (fewest w) fits) (right_of (leb (fewest w) (length v)) (ltb (length v) (past w)) ok)

  strict_valid : (f : Form) (c : ℕ) (v : List ℕ) → T (allowed (told e) f c v) → T (valid f c v)
  unfolding allowed valid
  strict_valid (text rule) c v ok = ok
  strict_valid (date reach designated) c v ok = ok
  strict_valid number c v ok = ok
  strict_valid (block w) c v ok = strict_block w v ok
  strict_valid itself c v ok = ok
  strict_valid opens c v ok = ok
  strict_valid quiet c v ok = ok

  valid_strict : (f : Form) (c : ℕ) (v : List ℕ) → T (valid f c v) → T (allowed (told e) f c v)
  unfolding allowed valid
  valid_strict (text rule) c v ok = ok
  valid_strict (date reach designated) c v ok = ok
  valid_strict number c v ok = ok
  valid_strict (block w) c v ok = block_strict w v ok
  valid_strict itself c v ok = ok
  valid_strict opens c v ok = ok
  valid_strict quiet c v ok = ok

  to_grammar : {st st' : State} {at : ℕ} {bytes : List ℕ} {rows : List Placed} → Steps (told e) st at bytes rows st' → Grammar.Steps e st at bytes rows st'
  to_grammar still = Grammar.none
  to_grammar (row m v i q ok deep s) = Grammar.row m v i q (strict_valid m.form m.code v ok) deep (to_grammar s)
  to_grammar (silent m i q s) = Grammar.pass m i q (to_grammar s)

  of_grammar : {st st' : State} {at : ℕ} {bytes : List ℕ} {rows : List Placed} → Grammar.Steps e st at bytes rows st' → Steps (told e) st at bytes rows st'
  of_grammar Grammar.none = still
  of_grammar (Grammar.row m v i q ok deep s) = row m v i q (valid_strict m.form m.code v ok) deep (of_grammar s)
  of_grammar (Grammar.pass m i q s) = silent m i q (of_grammar s)

  -- .. and so are the headers

  pub record Tabled (n i at : ℕ) (bytes : List ℕ) (rows : List Placed) : Type 0 where
    pub marks : List Mark
    pub header : Grammar.Header e i at bytes rows marks
    pub small : Small marks
    pub few : length marks ≤ suc n

  tabled : {n at : ℕ} {bytes : List ℕ} {rows : List Placed} → Envelopes (told e) n at bytes rows → (i : ℕ) → Tabled n i at bytes rows
  tabled (the_base {bytes = bytes} fits h) i =
      record { marks = mark i (envelope_size (length bytes)) ∷ []; header = Grammar.the_base (record { last = h.last; steps = to_grammar h.steps; closes = h.closes }); small = (fits, tt); few = omega arith }
  tabled (extension {bytes = bytes} {rows = rows} fits h more) i =
      let t = tabled more (suc i + length rows) in
      record { marks = mark i (envelope_size (length bytes)) ∷ t.marks; header = Grammar.extension (record { last = h.last; steps = to_grammar h.steps; closes = h.closes }) t.header; small = (fits, t.small); few = omega (arith, t.few) }

  untabled : {i at : ℕ} {bytes : List ℕ} {rows : List Placed} {marks : List Mark} → Grammar.Header e i at bytes rows marks → Small marks → (n : ℕ) → length marks ≤ suc n → Envelopes (told e) n at bytes rows
  untabled (Grammar.the_base h) small n few = the_base small.0 (record { last = h.last; steps = of_grammar h.steps; closes = h.closes })
  untabled (Grammar.extension h more) small zero few = absurd (none_left more few)
    where
      none_left : {i at : ℕ} {bytes : List ℕ} {rows : List Placed} {marks : List Mark} → Grammar.Header e i at bytes rows marks → suc (length marks) ≤ 1 → ⊥
      none_left (Grammar.the_base h) l = omega arith
      none_left (Grammar.extension h more) l = omega arith
  untabled (Grammar.extension h more) small (suc n) few = extension small.0 (record { last = h.last; steps = of_grammar h.steps; closes = h.closes }) (untabled more small.1 n (omega arith))

  pub table_of_lem : {bytes : List ℕ} {rows : List Placed} → Envelopes (told e) 15 0 bytes rows → TableOf e bytes rows
  table_of_lem h = let t = tabled h 0 in record { marks = t.marks; header = t.header; small = t.small; few = t.few }

  pub of_table : {bytes : List ℕ} {rows : List Placed} → TableOf e bytes rows → Envelopes (told e) 15 0 bytes rows
  of_table t = untabled t.header t.small 15 t.few
