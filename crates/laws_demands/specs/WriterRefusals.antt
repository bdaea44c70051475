-- The writer's refusals: 1 at 0; 15 at a row, or at the row count, a wrong skip number at its row; 5 at an envelope's row; 16 at the bytes needed, with which it is written.
use Rattle.std.specs.Prelude.{ℕ, zero, suc, ◌+◌, ◌≤◌, ◌<◌, List, [], ◌∷◌, Bool, true, ◌≡◌, leb, length}
use Rattle.std.proofs.Math.Bool.{false}
use Rattle.std.proofs.Math.Path.{refl, ap}
use Rattle.std.proofs.Common.{◌∙◌, subst, arith, le-leb, leb-false}
use Rattle.meaning.specs.Basics.{pick}
use Rattle.meaning.specs.Told.{Edition, Label, known, unknown, label_of}
use Rattle.meaning.specs.Editions.{State, state, closed}
use Rattle.meaning.specs.Reading.{Row}
use Rattle.meaning.specs.Headers.{start, envelopes_most}
use Rattle.meaning.specs.Writing.{Fit, unfit, fits, fit_row, close, Cell, cell, broken, Opens, envelope_row, inner_row, opens_of, Envelope, Plan, stuck, plan, on_plan, new_plan, row_plan, turn_plan, end_plan, next_row, plan_of, whole_plan, within_limit, header_of, Limit, fine, exceeds, limits, Written, written, unwritten, roomed, limited, planned, write_rows, written_under}
use Rattle.meaning.specs.Skips.{Skips, right, wrong_at}
use Rattle.meaning.specs.Memory.{cells_of, skips_held, write}
use Rattle.laws_demands.specs.Fifteen.{stuck_between}
use Rattle.laws_tables.specs.RightSkips.{wrong_among}

-- every envelope of a plan has its row below n
abbrev RowsBelow : ℕ → List Envelope → Type 0
RowsBelow n [] = Unit {0}
RowsBelow n (v ∷ vs) = (v.at < n) × RowsBelow n vs

abbrev PlanBelow : ℕ → Plan → Type 0
PlanBelow n (stuck i) = Unit {0}
PlanBelow n (plan bs vs) = RowsBelow n vs

below_on : (n : ℕ) (bs : List ℕ) (p : Plan) → PlanBelow n p → PlanBelow n (on_plan bs p)
below_on n bs (stuck i) h = tt
below_on n bs (plan cs vs) h = h

below_new : (n i : ℕ) (b : Bool) (bs : List ℕ) (p : Plan) → i < n → PlanBelow n p → PlanBelow n (new_plan i b bs p)
below_new n i b bs (stuck j) k h = tt
below_new n i b bs (plan cs vs) k h = (k, h)

below_row : (n i : ℕ) (f : State → Plan) (o : Fit) → ((st : State) → PlanBelow n (f st)) → PlanBelow n (row_plan i f o)
below_row n i f unfit h = tt
below_row n i f (fits st bs) h = below_on n bs (f st) (h st)

below_turn : (n i : ℕ) (b : Bool) (f : State → Plan) (o : Fit) → i < n → ((st : State) → PlanBelow n (f st)) → PlanBelow n (turn_plan i b f o)
below_turn n i b f unfit k h = tt
below_turn n i b f (fits st bs) k h = below_new n i b bs (f (start b)) k (h (start b))

below_next : (n : ℕ) (e : Edition) (b : Bool) (st : State) (i : ℕ) (row : Row) (f : Bool → State → Plan) (o : Opens) → i < n → ((b : Bool) (st : State) → PlanBelow n (f b st)) → PlanBelow n (next_row e b st i row f o)
below_next n e b st i row f inner_row k h = below_row n i (f b) (fit_row e st row) (h b)
below_next n e true st i row f (envelope_row c) k h = tt
below_next n e false st i row f (envelope_row c) k h = below_turn n i c (f c) (close e st) k (h c)

below_end : (n i : ℕ) (o : Fit) → PlanBelow n (end_plan i o)
below_end n i unfit = tt
below_end n i (fits st bs) = tt

plan_below : (e : Edition) (cs : List Cell) (i : ℕ) (b : Bool) (st : State) (n : ℕ) → i + length cs ≤ n → PlanBelow n (plan_of e cs i b st)
unfolding plan_of
plan_below e [] i true st n h = below_end n i (close e st)
plan_below e [] i false st n h = tt
plan_below e (broken ∷ cs) i b st n h = tt
plan_below e (cell row ∷ cs) i b st n h = below_next n e b st i row (plan_of e cs (suc i)) (opens_of row) (omega arith) (λ c st₁. plan_below e cs (suc i) c st₁ n (omega arith))

limit_below : (n k : ℕ) (vs : List Envelope) (j : ℕ) → RowsBelow n vs → limits k vs ≡ exceeds j → j < n
limit_below n k [] j h q = let z : ◌≡◌ {A = ℕ} 0 1 = cc q in absurd (omega arith)
limit_below n zero (v ∷ vs) j (h, hs) q = let x : v.at ≡ j = cc q in omega arith
limit_below n (suc k) (v ∷ vs) j (h, hs) q = at (limit_below n k vs j hs) (within_limit (length v.body)) q
  where
    at : (limits k vs ≡ exceeds j → j < n) → (b : Bool) → pick b (limits k vs) (exceeds v.at) ≡ exceeds j → j < n
    at ih true r = ih r
    at ih false r = let x : v.at ≡ j = cc r in omega arith

-- what each refusal of the writer says
pub data WriterRefusal (edition : ℕ) (rows pool : List ℕ) (room : ℕ) : ℕ → ℕ → Type 0 where
  no_edition : label_of edition ≡ unknown → WriterRefusal edition rows pool room 1 0
  no_table : {i : ℕ} → i ≤ length (cells_of pool rows) → WriterRefusal edition rows pool room 15 i
  past_limit : {i : ℕ} → i < length (cells_of pool rows) → WriterRefusal edition rows pool room 5 i
  no_room : {needed : ℕ} (bytes : List ℕ) → room < needed → length bytes ≡ needed → write edition rows pool needed ≡ written bytes → WriterRefusal edition rows pool room 16 needed

abbrev Refuses : ℕ → List ℕ → List ℕ → ℕ → Written → Type 0
Refuses edition rows pool room (written bytes) = Unit {0}
Refuses edition rows pool room (unwritten refusal place) = WriterRefusal edition rows pool room refusal place

module _ (edition : ℕ) (rows pool : List ℕ) (room : ℕ) where
  room_refuses : (bytes : List ℕ) (b : Bool) → leb (length bytes) room ≡ b → write edition rows pool (length bytes) ≡ written bytes → Refuses edition rows pool room (pick b (written bytes) (unwritten 16 (length bytes)))
  room_refuses bytes true q w = tt
  room_refuses bytes false q w = no_room bytes (leb-false (length bytes) room q) refl w

  limited_refuses : (vs : List Envelope) (o : Limit) → limits envelopes_most vs ≡ o → RowsBelow (length (cells_of pool rows)) vs → ((r : ℕ) → limits envelopes_most vs ≡ fine → write edition rows pool r ≡ roomed r (header_of vs))
      → Refuses edition rows pool room (limited room vs o)
  limited_refuses vs fine q h w =
      let bytes = header_of vs in
      room_refuses bytes (leb (length bytes) room) refl (w (length bytes) q ∙ rw (le-leb (length bytes) (length bytes) (omega arith)) refl)
  limited_refuses vs (exceeds i) q h w = past_limit (limit_below (length (cells_of pool rows)) envelopes_most vs i h q)

  planned_refuses : (e : Edition) (skips : Skips) (p : Plan) → label_of edition ≡ known e → skips_held rows ≡ skips → whole_plan e (cells_of pool rows) ≡ p → PlanBelow (length (cells_of pool rows)) p
      → Refuses edition rows pool room (planned room skips p)
  unfolding write write_rows
  planned_refuses e skips (stuck i) k s q h = let l = stuck_between e (cells_of pool rows) 0 false (state closed 0 false) i q in no_table {i = i} (omega arith)
  planned_refuses e (wrong_at i) (plan bs vs) k s q h = let l = wrong_among pool rows i s in no_table {i = i} (omega arith)
  planned_refuses e right (plan bs vs) k s q h =
      limited_refuses vs (limits envelopes_most vs) refl h (λ r l. rw (k, s) (ap (planned r right) q ∙ ap (limited r vs) l))

  label_refuses : (l : Label) → label_of edition ≡ l → Refuses edition rows pool room (written_under room (cells_of pool rows) (skips_held rows) l)
  unfolding write_rows
  label_refuses unknown k = no_edition k
  label_refuses (known e) k =
      let cs = cells_of pool rows in
      planned_refuses e (skips_held rows) (whole_plan e cs) k refl refl (plan_below e cs 0 false (state closed 0 false) (length cs) (omega arith))

pub writer_refusal : (edition : ℕ) (rows pool : List ℕ) (room refusal place : ℕ) → write edition rows pool room ≡ unwritten refusal place → WriterRefusal edition rows pool room refusal place
unfolding write
writer_refusal edition rows pool room refusal place q = subst (Refuses edition rows pool room) q (label_refuses edition rows pool room (label_of edition) refl)
