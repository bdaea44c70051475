-- Order 8, of tables that the writer accepts and of those that were read: "lent with their true words, the answer equals order 1's and the count is at
-- most sixteen plus the number of level 0 rows".
use Rattle.std.specs.Prelude.{ℕ, suc, ◌+◌, ◌%◌, ◌≤◌, List, [], ◌∷◌, map, true, ◌≡◌, T, length, take}
use Rattle.std.proofs.Common.{ap, sym, ◌∙◌, subst, arith, eq-eqb, le-leb}
use Rattle.meaning.specs.Told.{Edition, Strictness, told_by}
use Rattle.meaning.specs.Reading.{Row}
use Rattle.meaning.specs.Skips.{Rank, right}
use Rattle.meaning.specs.Codes.{can_ask}
use Rattle.meaning.specs.Words.{words_of}
use Rattle.meaning.specs.Headers.{Placed, meant, accepted, read_by, envelopes_most}
use Rattle.meaning.specs.Writing.{cell, written}
use Rattle.meaning.specs.Memory.{row_width, table_of, cells_of, ranks_of, skips_held, reply, write}
use Rattle.meaning.specs.Present.{passed, checked, present}
use Rattle.meaning.specs.Lookup.{looked_reply, lookup}
use Rattle.laws_steps.specs.Logic.{are_bytes}
use Rattle.laws_steps.specs.Rows.{rows_whole}
use Rattle.laws_tables.specs.Firsts.{first_from}
use Rattle.laws_steps.specs.Hopping.{ranks_are}
use Rattle.laws_tables.specs.RightSkips.{cells_ranks, table_right, right_means}
use Rattle.laws_steps.specs.Envelopes.{Writes}
use Rattle.laws_steps.specs.Plans.{written_writes}
use Rattle.laws_tables.specs.Ties.{written_right, accepted_known, written_known, whole_of, cells_placed}
use Rattle.laws_tables.specs.PresentValues.{passed_written, present_first}
use Rattle.laws_tables.specs.Ranked.{Ranked, table_ranked}
use Rattle.laws_demands.specs.PassedOver.{level_zero}
use Rattle.laws_demands.specs.Looking.{TrueFrom, looked_first}

-- sixteen words or more, with those of the rows' envelopes at their front
pub record TrueWords (rows words : List ℕ) : Type 0 where
  pub front : take (length (words_of (ranks_of rows))) words ≡ words_of (ranks_of rows)
  pub enough : envelopes_most ≤ length words

-- accepted, with the first row that opens or holds a value of this code, or the row count; and no more rows looked at than stand at level 0
pub record LooksUp (rows words : List ℕ) (code : ℕ) : Type 0 where
  pub count : ℕ
  pub is : lookup rows words code ≡ reply 0 (first_from code 0 (ranks_of rows)) count
  pub few : count ≤ level_zero (ranks_of rows)

-- words at the front are those from number 0 on
next_words : (x : ℕ) (words : List ℕ) (k : ℕ) (ws : List ℕ) → TrueFrom words k ws → TrueFrom (x ∷ words) (suc k) ws
next_words x words k [] t = tt
next_words x words k (w ∷ ws) (p, t) = (p, next_words x words (suc k) ws t)

front_words : (words ws : List ℕ) → take (length ws) words ≡ ws → TrueFrom words 0 ws
front_words words [] q = tt
front_words [] (w ∷ ws) q = let z : ◌≡◌ {A = ℕ} 0 1 = cc q in absurd (omega arith)
front_words (x ∷ words) (w ∷ ws) q =
    let p : x ≡ w = cc q in
    let r : take (length ws) words ≡ ws = cc q in
    (p, next_words x words 0 ws (front_words words ws r))

looks_up_lem : (e : Edition) (pool rows words : List ℕ) {k : ℕ} {table : List Row} {w : List ℕ} (code : ℕ) → can_ask code ≡ true → TrueWords rows words → skips_held rows ≡ right → cells_of pool rows ≡ map cell table → Writes e k table w → LooksUp rows words code
unfolding lookup
looks_up_lem e pool rows words {table = table} code a t s c w =
    let q = ranks_are rows in
    let ranked : Ranked true 0 (ranks_of rows) = subst (Ranked true 0) (sym (cells_ranks pool rows table c)) (table_ranked e w true 0) in
    let f = looked_first rows words code a (right_means rows s) true (subst (Ranked true 0) q ranked) (subst (λ (x : List Rank). TrueFrom words 0 (words_of x)) q (front_words words (words_of (ranks_of rows)) t.front)) in
    let whole : length rows % row_width ≡ 0 = omega (arith, rows_whole pool rows table c) in
    record {
      count = f.count;
      is = (rw (a, le-leb envelopes_most (length words) t.enough, eq-eqb (length rows % row_width) 0 whole) (ap looked_reply f.is)) ∙ ap (λ (x : List Rank). reply 0 (first_from code 0 x) f.count) (sym q);
      few = omega (arith, f.few, ap level_zero q);
    }

pub written_looks_up : (edition : ℕ) (rows pool : List ℕ) (room : ℕ) (bytes : List ℕ) → write edition rows pool room ≡ written bytes → (words : List ℕ) → TrueWords rows words → (code : ℕ) → can_ask code ≡ true → LooksUp rows words code
written_looks_up edition rows pool room bytes q words t code a =
    let (e, k, r) = written_known edition rows pool room bytes q in
    let (table, n, c, w, few, room_is_lem) = written_writes e room (cells_of pool rows) (skips_held rows) bytes r in
    looks_up_lem e pool rows words code a t (written_right e room (cells_of pool rows) (skips_held rows) bytes r) c w

-- read strictly or tolerantly
pub read_looks_up : (strictness : Strictness) (edition : ℕ) (input : List ℕ) (place : ℕ) (rows : List Placed) → T (are_bytes input) → read_by strictness edition input ≡ accepted place rows
    → (words : List ℕ) → TrueWords (table_of rows) words → (code : ℕ) → can_ask code ≡ true → LooksUp (table_of rows) words code
read_looks_up strictness edition input place rows b q words t code a =
    let (e, k, r) = accepted_known strictness edition input place rows q in
    let w = whole_of (told_by strictness e) input place rows b r in
    let cells : cells_of input (table_of rows) ≡ map cell (map meant rows) = ap (λ (x : List ℕ). cells_of x (table_of rows)) w.parts ∙ cells_placed w.bytes w.payload rows w.views in
    looks_up_lem e input (table_of rows) words code a t (table_right rows) cells w.written

-- "the answer equals order 1's", for every table that its check passes
pub record AsPresent (rows words : List ℕ) (code : ℕ) : Type 0 where
  pub count : ℕ
  pub is : lookup rows words code ≡ reply 0 (present code (ranks_of rows)) count
  pub few : count ≤ envelopes_most + level_zero (ranks_of rows)

pub looks_up_present : (e : Edition) (rows pool words : List ℕ) (code : ℕ) → checked e rows pool ≡ passed → TrueWords rows words → can_ask code ≡ true → AsPresent rows words code
looks_up_present e rows pool words code q t a =
    let (bytes, r) = passed_written e rows pool q in
    let (table, n, c, w, few, room_is_lem) = written_writes e (length bytes) (cells_of pool rows) (skips_held rows) bytes r in
    let l = looks_up_lem e pool rows words code a t (written_right e (length bytes) (cells_of pool rows) (skips_held rows) bytes r) c w in
    record { count = l.count; is = l.is ∙ ap (λ (i : ℕ). reply 0 i l.count) (sym (present_first e rows pool code q a)); few = omega (arith, l.few) }
