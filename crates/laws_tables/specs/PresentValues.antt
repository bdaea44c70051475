-- Order 1, over the definitions: what the present value of a parameter is, on every table that the writer accepts.
use Rattle.std.specs.Prelude.{ℕ, zero, suc, ◌+◌, ◌-◌, ◌≤◌, ◌<◌, List, [], ◌∷◌, map, Bool, true, false, ◌≡◌, refl, eqb, leb, length}
use Rattle.std.proofs.Common.{ap, sym, ◌∙◌, subst, arith, le-leb, eqb-true}
use Rattle.std.proofs.lemmas.Bool.{eqb-false}
use Rattle.meaning.specs.Basics.{pick}
use Rattle.meaning.specs.Told.{Edition}
use Rattle.meaning.specs.Editions.{closing}
use Rattle.meaning.specs.Kinds.{agent_name}
use Rattle.meaning.specs.Skips.{Rank, Skips, right, wrong_at}
use Rattle.meaning.specs.Codes.{code_of, has_value, can_ask}
use Rattle.meaning.specs.Headers.{envelopes_most}
use Rattle.meaning.specs.Writing.{Envelope, Plan, stuck, plan, whole_plan, header_of, Limit, fine, exceeds, limits, written, unwritten, limited, planned, write_rows}
use Rattle.meaning.specs.Memory.{ranks_of, cells_of, skips_held, room_of}
use Rattle.meaning.specs.Present.{present, passed, stopped, check_of, checked}
use Rattle.laws_steps.specs.Logic.{both_hold}
use Rattle.laws_tables.specs.Firsts.{first_from}
use Rattle.laws_tables.specs.Filling.{Standing, one_more, first_stands}
use Rattle.laws_tables.specs.Standing.{Opened, opened, table_stands}
use Rattle.laws_steps.specs.Hopping.{rank_at, ranks_for, ranks_are, AllRight}
use Rattle.laws_tables.specs.Passing.{first_at, FirstIs, first_is}
use Rattle.laws_tables.specs.RightSkips.{standing, cells_ranks, right_means}
use Rattle.laws_steps.specs.Plans.{written_writes}
use Rattle.laws_tables.specs.Ties.{written_right}

pub absurd_check : {A : Type 0} {r p : ℕ} → stopped r p ≡ passed → A
absurd_check q = let z : ◌≡◌ {A = ℕ} 0 1 = cc q in absurd (omega arith)

-- The check is the writer's, whatever output it is lent

pub room_check : (bytes : List ℕ) (b : Bool) → check_of (pick b (written bytes) (unwritten 16 (length bytes))) ≡ passed
room_check bytes true = refl
room_check bytes false = refl

limit_check : (room : ℕ) (vs : List Envelope) (o : Limit) → check_of (limited room vs o) ≡ check_of (limited 0 vs o)
limit_check room vs fine = room_check (header_of vs) (leb (length (header_of vs)) room) ∙ sym (room_check (header_of vs) (leb (length (header_of vs)) 0))
limit_check room vs (exceeds i) = refl

plan_check : (room : ℕ) (skips : Skips) (p : Plan) → check_of (planned room skips p) ≡ check_of (planned 0 skips p)
plan_check room skips (stuck i) = refl
plan_check room (wrong_at i) (plan bs vs) = refl
plan_check room right (plan bs vs) = limit_check room vs (limits envelopes_most vs)

pub check_is_lem : (e : Edition) (rows pool : List ℕ) (room : ℕ) → check_of (write_rows e room (cells_of pool rows) (skips_held rows)) ≡ checked e rows pool
unfolding checked write_rows
check_is_lem e rows pool room = plan_check room (skips_held rows) (whole_plan e (cells_of pool rows))

-- rows that pass it are written, where the output has room
passed_plan : (skips : Skips) (p : Plan) → check_of (planned 0 skips p) ≡ passed → (bytes : List ℕ) × (planned (length bytes) skips p ≡ written bytes)
passed_plan skips (stuck i) q = absurd_check q
passed_plan (wrong_at i) (plan bs vs) q = absurd_check q
passed_plan right (plan bs vs) q = at (limits envelopes_most vs) q
  where
    at : (o : Limit) → check_of (limited 0 vs o) ≡ passed → (bytes : List ℕ) × (limited (length bytes) vs o ≡ written bytes)
    at fine r = (header_of vs, rw (le-leb (length (header_of vs)) (length (header_of vs)) (omega arith)) refl)
    at (exceeds i) r = absurd_check r

pub passed_written : (e : Edition) (rows pool : List ℕ) → checked e rows pool ≡ passed → (bytes : List ℕ) × (write_rows e (length bytes) (cells_of pool rows) (skips_held rows) ≡ written bytes)
unfolding checked write_rows
passed_written e rows pool q = passed_plan (skips_held rows) (whole_plan e (cells_of pool rows)) q

-- What a table that passes is

-- its skip numbers are right, and its rows stand as a table's do
pub record Walkable (rows : List ℕ) : Type 0 where
  pub hops : AllRight rows (room_of rows) 0
  pub stands : Standing (ranks_of rows)
  pub opens : Opened (ranks_of rows)

pub passed_walkable : (e : Edition) (rows pool : List ℕ) → checked e rows pool ≡ passed → Walkable rows
passed_walkable e rows pool q =
    let (bytes, w) = passed_written e rows pool q in
    let (table, n, c, t, few, room_is_lem) = written_writes e (length bytes) (cells_of pool rows) (skips_held rows) bytes w in
    let (s, o) = table_stands e t in
    let r : map standing table ≡ ranks_of rows = sym (cells_ranks pool rows table c) in
    record { hops = right_means rows (written_right e (length bytes) (cells_of pool rows) (skips_held rows) bytes w); stands = subst Standing r s; opens = subst Opened r o }

-- agents stand deeper than the envelope's own rows
agents_from : (m : List ℕ) (i k : ℕ) → Standing (ranks_for m i k) → (j : ℕ) → i ≤ j → j < i + k → (rank_at m j).kind ≡ agent_name → 1 ≤ (rank_at m j).level
agents_from m i zero t j l h q = absurd (omega arith)
agents_from m i (suc k) (one_more w t) j l h q = at (eqb j i) refl (λ u. agents_from m (suc i) k t j u (omega arith) q)
  where
    at : (b : Bool) → eqb j i ≡ b → (suc i ≤ j → 1 ≤ (rank_at m j).level) → 1 ≤ (rank_at m j).level
    at true p more = let e = eqb-true j i p in rw e (w.agent_in (rw e at q))
    at false p more = let n = eqb-false j i p in more (omega arith)

pub agents_deep : (rows : List ℕ) → Walkable rows → (j : ℕ) → j < room_of rows → (rank_at rows j).kind ≡ agent_name → 1 ≤ (rank_at rows j).level
agents_deep rows s j h q = agents_from rows 0 (room_of rows - 0) (subst Standing (ranks_are rows) s.stands) j (omega arith) (omega arith) q

-- Codes that can be asked for

pub can_ask_open : (code : ℕ) → can_ask code ≡ true → code ≡ closing → ⊥
can_ask_open code q e = let z : can_ask closing ≡ true = ap can_ask (sym e) ∙ q in let y : ◌≡◌ {A = ℕ} 0 1 = cc z in omega arith

-- "the first value found stands": the procedure's answer is the first row that has a value
pub present_first : (e : Edition) (rows pool : List ℕ) (code : ℕ) → checked e rows pool ≡ passed → can_ask code ≡ true → present code (ranks_of rows) ≡ first_from code 0 (ranks_of rows)
present_first e rows pool code q a = let s = passed_walkable e rows pool q in at (ranks_of rows) s.stands s.opens
  where
    at : (rs : List Rank) → Standing rs → Opened rs → present code rs ≡ first_from code 0 rs
    at [] t h = elim h [ ]
    at (r ∷ rest) t (opened h) = first_stands code r rest (can_ask_open code a) h t

pub present_at : (e : Edition) (rows pool : List ℕ) (code : ℕ) → checked e rows pool ≡ passed → can_ask code ≡ true → present code (ranks_of rows) ≡ first_at code rows (room_of rows) 0
unfolding first_at
present_at e rows pool code q a = present_first e rows pool code q a ∙ ap (first_from code 0) (ranks_are rows)

-- so the row given is of a kind that the code opens or holds, at envelope level; no row before it has a value, in its envelope or in one before it;
-- and it is the row count only where none has
pub present_is : (e : Edition) (rows pool : List ℕ) (code : ℕ) → checked e rows pool ≡ passed → can_ask code ≡ true → FirstIs code rows (room_of rows) 0 (present code (ranks_of rows))
present_is e rows pool code q a = subst (FirstIs code rows (room_of rows) 0) (sym (present_at e rows pool code q a)) (first_is code rows (room_of rows))

-- a row that has a value is of the code's kind, at envelope level
pub has_kind : (code : ℕ) (r : Rank) → has_value code r ≡ true → (code_of r.kind ≡ code) × (r.level ≡ 0)
has_kind code r h = let (l, k) = both_hold (eqb r.level 0) (eqb (code_of r.kind) code) h in (eqb-true (code_of r.kind) code k, eqb-true r.level 0 l)
