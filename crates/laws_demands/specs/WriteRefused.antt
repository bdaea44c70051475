-- What the writer's answers say (`WriterFault`, `WritesAs`), both ways: each is given exactly where it is said.
use Rattle.std.specs.Prelude.{ℕ, ◌+◌, ◌≤◌, ◌<◌, List, [], ◌∷◌, ◌++◌, map, Bool, true, false, ◌↔◌, ◌≡◌, leb, ltb, length, take, drop}
use Rattle.std.proofs.Common.{append_assoc, append-nil, sym, ◌∙◌, subst, arith, length-take, take-append-drop, le-leb, leb-true, leb-false, ltb-true, ltb-false}
use Rattle.std.proofs.Math.Path.{refl, ap}
use Rattle.std.proofs.lemmas.Bool.{lt-leb}
use Rattle.meaning.specs.Basics.{pick}
use Rattle.meaning.specs.Told.{Edition, Label, known, unknown, label_of}
use Rattle.meaning.specs.Editions.{closed, state}
use Rattle.meaning.specs.Headers.{envelopes_most}
use Rattle.meaning.specs.Writing.{Cell, cell, Envelope, Plan, stuck, plan, whole_plan, header_of, Limit, fine, exceeds, limits, Written, written, unwritten, limited, planned, write_rows, written_under}
use Rattle.meaning.specs.Skips.{Skips, right, wrong_at}
use Rattle.meaning.specs.Memory.{cells_of, skips_held, write}
use Rattle.laws_tables.specs.Ties.{write_as}
use Rattle.laws_demands.specs.Completing.{Sound}
use Rattle.laws_demands.specs.Fifteen.{stuck_between}
use Rattle.laws_demands.specs.Stopping.{begins_plan, with_none}
use Rattle.meaning.specs.Grammar.{Mark, Small, PastLimit}
use Rattle.meaning.specs.WriterFaults.{AreTable, BeginTable, NoneWithNext, StopsAt, GoodRows, WriterFault, no_edition, no_table, wrong_skip_lem, past_limit, no_room, WritesAs}
use Rattle.laws_demands.specs.Planning.{mark_of, planned_table, table_planned}
use Rattle.laws_demands.specs.PastLimits.{LimitIs, limit_is, limit_fine, limit_past}

-- Where rows stop being a table

plan_is_table : (e : Edition) (cs : List Cell) (bs : List ℕ) (vs : List Envelope) → whole_plan e cs ≡ plan bs vs → AreTable e cs
plan_is_table e cs bs vs q = record { bytes = header_of vs; marks = map mark_of vs; are = planned_table e cs bs vs q }

-- before the first envelope it is as behind one that is closed
closed_sound : Sound (state closed 0 false)
closed_sound t = absurd t

plan_not_stuck : {i : ℕ} {bs : List ℕ} {vs : List Envelope} → plan bs vs ≡ stuck i → ⊥
plan_not_stuck q = let z : ◌≡◌ {A = ℕ} 0 1 = cc q in omega arith

none_with : (e : Edition) (front rest : List Cell) → whole_plan e (front ++ rest) ≡ stuck (0 + length front) → NoneWithNext e front rest
none_with e front [] q = λ (t : AreTable e front).
    let (vs, p, _, _) = table_planned e front t.bytes t.marks t.are in
    plan_not_stuck (sym p ∙ ap (whole_plan e) (sym (append-nil front)) ∙ q)
none_with e front (c ∷ rest) q = λ (t : BeginTable e (front ++ (c ∷ []))).
    let table = t.table in
    let (vs, p, _, _) = table_planned e ((front ++ (c ∷ [])) ++ t.more) table.bytes table.marks table.are in
    plan_not_stuck (sym p ∙ ap (whole_plan e) (append_assoc front (c ∷ []) t.more) ∙ with_none e 0 false (state closed 0 false) closed_sound front c rest t.more q)

stuck_stops : (e : Edition) (cs : List Cell) (i : ℕ) → whole_plan e cs ≡ stuck i → StopsAt e cs i
stuck_stops e cs i q =
    let within = stuck_between e cs 0 false (state closed 0 false) i q in
    let front = take i cs in
    let rest = drop i cs in
    let parts : cs ≡ front ++ rest = sym (take-append-drop i cs) in
    let count : length front ≡ i = omega (arith, length-take i cs, within.1) in
    let here : whole_plan e (front ++ rest) ≡ stuck (0 + length front) = ap (whole_plan e) (sym parts) ∙ q ∙ ap stuck (omega (arith, count)) in
    let (more, bs, vs, p) = begins_plan e 0 false (state closed 0 false) closed_sound front rest here in
    record { front = front; rest = rest; parts = parts; count = count; begins = record { more = map cell more; table = plan_is_table e (front ++ map cell more) bs vs p }; none = none_with e front rest here }

-- of two fronts of one list the longer begins with the other and one more
record Longer (xs zs ys : List Cell) : Type 0 where
  next : Cell
  rest : List Cell
  more : List Cell
  behind : zs ≡ next ∷ rest
  begins : ys ≡ (xs ++ (next ∷ [])) ++ more

longer : (xs zs ys ws : List Cell) → xs ++ zs ≡ ys ++ ws → length xs < length ys → Longer xs zs ys
longer [] zs [] ws q h = absurd (omega arith)
longer [] zs (y ∷ ys) ws q h = record { next = y; rest = ys ++ ws; more = ys; behind = q; begins = refl }
longer (x ∷ xs) zs [] ws q h = absurd (omega arith)
longer (x ∷ xs) zs (y ∷ ys) ws q h =
    let l = longer xs zs ys ws (cc q) (omega arith) in
    let same : y ≡ x = sym (cc q) in
    record { next = l.next; rest = l.rest; more = l.more; behind = l.behind; begins = ap (λ (z : Cell). z ∷ ys) same ∙ ap (λ (z : List Cell). x ∷ z) l.begins }

-- rows that begin a table do not stop before their end
not_before : (e : Edition) (cs : List Cell) (i j : ℕ) → StopsAt e cs i → StopsAt e cs j → i < j → ⊥
not_before e cs i j s t h =
    let l = longer s.front s.rest t.front t.rest (sym s.parts ∙ t.parts) (omega (arith, s.count, t.count)) in
    let none : NoneWithNext e s.front (l.next ∷ l.rest) = subst (NoneWithNext e s.front) l.behind s.none in
    let whole : t.front ++ t.begins.more ≡ (s.front ++ (l.next ∷ [])) ++ (l.more ++ t.begins.more) = ap (λ (x : List Cell). x ++ t.begins.more) l.begins ∙ append_assoc (s.front ++ (l.next ∷ [])) l.more t.begins.more in
    none (record { more = l.more ++ t.begins.more; table = subst (AreTable e) whole t.begins.table })

-- a table does not stop
table_goes_on : (e : Edition) (cs : List Cell) (i : ℕ) → StopsAt e cs i → AreTable e cs → ⊥
table_goes_on e cs i s t = at s.rest s.parts s.none
  where
    at : (rest : List Cell) → cs ≡ s.front ++ rest → NoneWithNext e s.front rest → ⊥
    at [] p n = n (subst (AreTable e) (p ∙ append-nil s.front) t)
    at (c ∷ rest) p n = n (record { more = rest; table = subst (AreTable e) (p ∙ sym (append_assoc s.front (c ∷ []) rest)) t })

stops_stuck : (e : Edition) (cs : List Cell) (i : ℕ) → StopsAt e cs i → whole_plan e cs ≡ stuck i
stops_stuck e cs i s = at (whole_plan e cs) refl
  where
    same : (j : ℕ) → StopsAt e cs j → (x y : Bool) → ltb i j ≡ x → ltb j i ≡ y → j ≡ i
    same j t true y p q = absurd (not_before e cs i j s t (ltb-true i j p))
    same j t false true p q = absurd (not_before e cs j i t s (ltb-true j i q))
    same j t false false p q = let a = ltb-false i j p in let b = ltb-false j i q in omega arith

    at : (p : Plan) → whole_plan e cs ≡ p → whole_plan e cs ≡ stuck i
    at (stuck j) q = q ∙ ap stuck (same j (stuck_stops e cs j q) (ltb i j) (ltb j i) refl refl)
    at (plan bs vs) q = absurd (table_goes_on e cs i s (plan_is_table e cs bs vs q))

-- From what is given to what is said

module _ (edition : ℕ) (rows pool : List ℕ) (room : ℕ) where
  abbrev WrittenSays : Written → Type 0
  WrittenSays (written bytes) = WritesAs edition rows pool room bytes
  WrittenSays (unwritten refusal place) = WriterFault edition rows pool room refusal place

  room_says : (e : Edition) → label_of edition ≡ known e → (bytes : List ℕ) (marks : List Mark) → GoodRows e rows pool bytes marks → Small marks → length marks ≤ envelopes_most → (b : Bool) → leb (length bytes) room ≡ b → WrittenSays (pick b (written bytes) (unwritten 16 (length bytes)))
  room_says e k bytes marks g s few true q = record { e = e; marks = marks; label = k; good = g; small = s; few = few; fits = leb-true (length bytes) room q }
  room_says e k bytes marks g s few false q = no_room k g s few (leb-false (length bytes) room q)

  limit_says : (e : Edition) → label_of edition ≡ known e → (vs : List Envelope) → GoodRows e rows pool (header_of vs) (map mark_of vs) → (o : Limit) → LimitIs envelopes_most (map mark_of vs) o → WrittenSays (limited room vs o)
  limit_says e k vs g fine (s, few) = room_says e k (header_of vs) (map mark_of vs) g s few (leb (length (header_of vs)) room) refl
  limit_says e k vs g (exceeds i) p = past_limit k g p

  plan_says : (e : Edition) → label_of edition ≡ known e → (skips : Skips) → skips_held rows ≡ skips → (p : Plan) → whole_plan e (cells_of pool rows) ≡ p → WrittenSays (planned room skips p)
  plan_says e k skips h (stuck i) q = no_table k (stuck_stops e (cells_of pool rows) i q)
  plan_says e k (wrong_at i) h (plan bs vs) q = wrong_skip_lem k (plan_is_table e (cells_of pool rows) bs vs q) h
  plan_says e k right h (plan bs vs) q = limit_says e k vs (record { are = planned_table e (cells_of pool rows) bs vs q; skips = h }) (limits envelopes_most vs) (limit_is envelopes_most vs)

  label_says : (l : Label) → label_of edition ≡ l → WrittenSays (written_under room (cells_of pool rows) (skips_held rows) l)
  unfolding write_rows
  label_says unknown k = no_edition k
  label_says (known e) k = plan_says e k (skips_held rows) refl (whole_plan e (cells_of pool rows)) refl

  write_says : WrittenSays (write edition rows pool room)
  unfolding write
  write_says = label_says (label_of edition) refl

-- From what is said to what is given

unknown_given : (edition : ℕ) (rows pool : List ℕ) (room : ℕ) → label_of edition ≡ unknown → write edition rows pool room ≡ unwritten 1 0
unfolding write
unknown_given edition rows pool room k = ap (written_under room (cells_of pool rows) (skips_held rows)) k

module _ (edition : ℕ) (rows pool : List ℕ) (room : ℕ) (e : Edition) (k : label_of edition ≡ known e) where
  planned_given : (p : Plan) → whole_plan e (cells_of pool rows) ≡ p → write edition rows pool room ≡ planned room (skips_held rows) p
  unfolding write_rows
  planned_given p q = write_as edition e rows pool room k ∙ ap (planned room (skips_held rows)) q

  -- a table with right skip numbers is held against the limits, and then against the room
  good_given : (bytes : List ℕ) (marks : List Mark) → GoodRows e rows pool bytes marks → (vs : List Envelope) × (write edition rows pool room ≡ limited room vs (limits envelopes_most vs)) × (header_of vs ≡ bytes) × (map mark_of vs ≡ marks)
  good_given bytes marks g =
      let (vs, p, a, b) = table_planned e (cells_of pool rows) bytes marks g.are in
      (vs, planned_given (plan [] vs) p ∙ ap (λ (s : Skips). planned room s (plan [] vs)) g.skips, a, b)

  within_given : (bytes : List ℕ) (marks : List Mark) → GoodRows e rows pool bytes marks → Small marks → length marks ≤ envelopes_most → write edition rows pool room ≡ pick (leb (length bytes) room) (written bytes) (unwritten 16 (length bytes))
  within_given bytes marks g s few =
      let (vs, w, a, b) = good_given bytes marks g in
      let fine-are : limits envelopes_most vs ≡ fine = limit_fine envelopes_most vs (subst Small (sym b) s) (subst (λ (m : List Mark). length m ≤ envelopes_most) (sym b) few) in
      w ∙ ap (limited room vs) fine-are ∙ ap (λ (x : List ℕ). pick (leb (length x) room) (written x) (unwritten 16 (length x))) a

fault_given : (edition : ℕ) (rows pool : List ℕ) (room : ℕ) {refusal place : ℕ} → WriterFault edition rows pool room refusal place → write edition rows pool room ≡ unwritten refusal place
fault_given edition rows pool room (no_edition k) = unknown_given edition rows pool room k
fault_given edition rows pool room (no_table {e} {i} k s) = planned_given edition rows pool room e k (stuck i) (stops_stuck e (cells_of pool rows) i s)
fault_given edition rows pool room (wrong_skip_lem {e} {i} k t w) =
    let (vs, p, _, _) = table_planned e (cells_of pool rows) t.bytes t.marks t.are in
    planned_given edition rows pool room e k (plan [] vs) p ∙ ap (λ (s : Skips). planned room s (plan [] vs)) w
fault_given edition rows pool room (past_limit {e} {i} {bytes} {marks} k g p) =
    let (vs, w, a, b) = good_given edition rows pool room e k bytes marks g in
    w ∙ ap (limited room vs) (limit_past envelopes_most vs i (subst (λ (m : List Mark). PastLimit envelopes_most m i) (sym b) p))
fault_given edition rows pool room (no_room {e} {bytes} {marks} k g s few h) = within_given edition rows pool room e k bytes marks g s few ∙ rw (lt-leb (length bytes) room h) refl

written_given : (edition : ℕ) (rows pool : List ℕ) (room : ℕ) (bytes : List ℕ) → WritesAs edition rows pool room bytes → write edition rows pool room ≡ written bytes
written_given edition rows pool room bytes w = within_given edition rows pool room w.e w.label bytes w.marks w.good w.small w.few ∙ rw (le-leb (length bytes) room w.fits) refl

-- Both ways

pub unwritten_as_said : (edition : ℕ) (rows pool : List ℕ) (room refusal place : ℕ) → (write edition rows pool room ≡ unwritten refusal place) ↔ WriterFault edition rows pool room refusal place
unwritten_as_said edition rows pool room refusal place = ((λ q. subst (WrittenSays edition rows pool room) q (write_says edition rows pool room)), λ f. fault_given edition rows pool room f)

pub written_as_said : (edition : ℕ) (rows pool : List ℕ) (room : ℕ) (bytes : List ℕ) → (write edition rows pool room ≡ written bytes) ↔ WritesAs edition rows pool room bytes
written_as_said edition rows pool room bytes = ((λ q. subst (WrittenSays edition rows pool room) q (write_says edition rows pool room)), written_given edition rows pool room bytes)
