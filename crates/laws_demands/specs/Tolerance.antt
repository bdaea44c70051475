-- Order 10: the strict reading beside the tolerant one. Both take the same steps up to a length that is too wide, where the strict one
-- refuses with 11; from there on the tolerant one refuses only behind that place. By induction over the steps, and over the envelopes.
use Prim.Native.Nat.{ℕ, zero, suc, ◌+◌, ◌-◌, ◌≤◌, ◌<◌}
use mathlib.Core.List.{List, [], ◌∷◌, map}
use Rattle.std.specs.Prelude.{Bool, ◌&&◌, ◌⊎◌, ◌≡◌, eqb, ltb, take, drop}
use Rattle.std.proofs.Math.Bool.{true, false}
use Rattle.std.proofs.Math.Logic.{inl, inr}
use Rattle.std.proofs.Math.Path.{refl}
use Rattle.std.proofs.Common.{ap, subst, arith, length-append, length-take}
use Rattle.std.proofs.Math.ListN.{length}
use Rattle.meaning.specs.Basics.{pick}
use Rattle.meaning.specs.Bytes.{Taken, took, failed, Count, counted, short, high_first, Width, one_byte, two_bytes, four_bytes, bytes_of, fewest, too_wide, take_bytes, block_of, take_block}
use Rattle.meaning.specs.Told.{Edition, tolerant, Told, told_by, told}
use Rattle.meaning.specs.Editions.{State, Form, text, date, number, block, itself, opens, quiet, Move, no_code, moves}
use Rattle.meaning.specs.Reading.{Seen, take_value, Found, none, hit, has_code, look, too_deep, Step, fails, over, next, step_taken, value_from, step_move, step, Out, dry, fault, done, with_rows, onward, run, inside}
use Rattle.meaning.specs.Headers.{Placed, placed_row, placed, Answer, refused, accepted, behind, envelope_most, opening, start, ends, envelope, short_least, long_least, long_form, sized, Identifier, extension, base, neither, identifier_of, identified, header}
use Rattle.laws_steps.specs.Values.{Took, bytes_out}
use Rattle.laws_steps.specs.Steps.{Shrinks, step_shrinks, Wet, never_dry}
use Rattle.laws_tables.specs.Refusals.{Numbered, bytes_numbered, from_few, OutNumbered, run_numbered, Leaves, high_leaves, Refusing, header_refusing}

-- The value of a move: the same for both, or 11 at its code, where so many bytes are left

-- a value, or a fault, with fewer bytes left than n
abbrev Onwards : ℕ → Taken → Type 0
Onwards n (took v rest) = length rest < n
Onwards n (failed refusal left) = left < n

abbrev TakenBeside : ℕ → Taken → Taken → Type 0
TakenBeside n g h = (g ≡ h) ⊎ ((g ≡ failed 11 n) × Onwards n h)

one_least : (w : Width) → 1 ≤ bytes_of w
one_least one_byte = omega arith
one_least two_bytes = omega arith
one_least four_bytes = omega arith

-- a step, or a fault, with fewer bytes left than n
abbrev Deeper : ℕ → Step → Type 0
Deeper n (fails refusal left) = left < n
Deeper n (over s) = ⊥
Deeper n (next st rs rest) = length rest < n

abbrev StepBeside : ℕ → Step → Step → Type 0
StepBeside n x y = (x ≡ y) ⊎ ((x ≡ fails 11 n) × Deeper n y)

deep_beside : (n : ℕ) (z : Bool) (x y : Step) → StepBeside n x y → StepBeside n (pick z (fails 12 n) x) (pick z (fails 12 n) y)
deep_beside n true x y h = inl refl
deep_beside n false x y h = h

-- what the inside comes to: the same, or 11 where at most n bytes are left, and for the tolerant reading nothing before that
abbrev Later : ℕ → Out → Type 0
Later n dry = Unit {0}
Later n (fault refusal left) = left < n
Later n (done rs s) = length s < n

abbrev OutBeside : ℕ → Out → Out → Type 0
OutBeside n o p = (o ≡ p) ⊎ ((left : ℕ) × (o ≡ fault 11 left) × (left ≤ n) × Later left p)

rows_later : (rs : List Seen) (n : ℕ) (o : Out) → Later n o → Later n (with_rows rs o)
rows_later rs n dry l = tt
rows_later rs n (fault refusal left) l = l
rows_later rs n (done ts s) l = l

rows_beside : (n k : ℕ) (rs : List Seen) (o p : Out) → n ≤ k → OutBeside n o p → OutBeside k (with_rows rs o) (with_rows rs p)
rows_beside n k rs o p h (inl q) = inl (ap (with_rows rs) q)
rows_beside n k rs o p h (inr (left, q, l, d)) = inr (left, ap (with_rows rs) q, omega arith, rows_later rs left p d)

-- What both come to for a whole header: the same, or 11 at some place, and for the tolerant reading no refusal up to there

abbrev pub After : ℕ → Answer → Type 0
After p (refused refusal place) = p < place
After p (accepted place rows) = Unit {0}

abbrev pub Beside : ℕ → Answer → Answer → Type 0
Beside at a b = (a ≡ b) ⊎ ((p : ℕ) × (a ≡ refused 11 p) × (at ≤ p) × After p b)

after_behind : (p : ℕ) (rs : List Placed) (a : Answer) → After p a → After p (behind rs a)
after_behind p rs (refused refusal place) h = h
after_behind p rs (accepted place ts) h = tt

behind_beside : (at at' : ℕ) (rs : List Placed) (a b : Answer) → at ≤ at' → Beside at' a b → Beside at (behind rs a) (behind rs b)
behind_beside at at' rs a b h (inl q) = inl (ap (behind rs) q)
behind_beside at at' rs a b h (inr (p, q, l, d)) = inr (p, ap (behind rs) q, omega arith, after_behind p rs b d)

-- a refusal that both give
pick_beside : (at : ℕ) (z : Bool) (r a b : Answer) → Beside at a b → Beside at (pick z r a) (pick z r b)
pick_beside at true r a b h = inl refl
pick_beside at false r a b h = h

module _ (e : Edition) where
  abbrev strictly : Told
  strictly = told e

  abbrev tolerantly : Told
  tolerantly = told_by tolerant e

  -- no length is too wide for the tolerant reading
  never_wide : (w : Width) (n : ℕ) → too_wide tolerantly w n ≡ false
  unfolding too_wide
  never_wide w n = at (ltb n (fewest w))
    where
      at : (z : Bool) → (z && false) ≡ false
      at true = refl
      at false = refl

  bytes_onward : (n k : ℕ) (s : List ℕ) → length s < n → Onwards n (take_bytes k s)
  bytes_onward n k s h = at (take_bytes k s) (bytes_out k s) (bytes_numbered tolerantly k s)
    where
      at : (g : Taken) → Took k s g → Numbered tolerantly (length s) g → Onwards n g
      at (took v rest) (q, l) i = omega (arith, ap length q, length-append v rest)
      at (failed refusal left) t (i, l) = omega arith

  block_beside : (w : Width) (left : ℕ) (s : List ℕ) (r : Count) → length s ≤ left → Leaves (bytes_of w) s r → TakenBeside left (block_of strictly w left r) (block_of tolerantly w left r)
  unfolding block_of
  block_beside w left s short h l = inl refl
  block_beside w left s (counted n rest) h l = rw (never_wide w n) (at (too_wide strictly w n))
    where
      at : (z : Bool) → TakenBeside left (pick z (failed 11 left) (take_bytes n rest)) (take_bytes n rest)
      at true = inr (refl, bytes_onward left n rest (omega (arith, one_least w)))
      at false = inl refl

  value_beside : (f : Form) (left c : ℕ) (s : List ℕ) → length s ≤ left → TakenBeside left (take_value strictly f left c s) (take_value tolerantly f left c s)
  unfolding take_value take_block
  value_beside (text rule) left c s h = inl refl
  value_beside (date reach designated) left c s h = inl refl
  value_beside number left c s h = inl refl
  value_beside (block w) left c s h = block_beside w left s (high_first (bytes_of w) 0 s) h (high_leaves (bytes_of w) 0 s)
  value_beside itself left c s h = inl refl
  value_beside opens left c s h = inl refl
  value_beside quiet left c s h = inl refl

  -- A step

  taken_beside : (n : ℕ) (st : State) (m : Move) (g h : Taken) → TakenBeside n g h → StepBeside n (step_taken st m g) (step_taken st m h)
  taken_beside n st m g h (inl q) = inl (ap (step_taken st m) q)
  taken_beside n st m g (took v rest) (inr (q, d)) = inr (ap (step_taken st m) q, d)
  taken_beside n st m g (failed refusal left) (inr (q, d)) = inr (ap (step_taken st m) q, d)

  move_beside : (st : State) (b : ℕ) (s : List ℕ) (o : Found) → StepBeside (suc (length s)) (step_move strictly st b s o) (step_move tolerantly st b s o)
  unfolding step_move
  move_beside st b s none = inl refl
  move_beside st b s (hit m) =
      deep_beside (suc (length s)) (too_deep m st) (step_taken st m (take_value strictly m.form (suc (length s)) m.code (value_from m b s))) (step_taken st m (take_value tolerantly m.form (suc (length s)) m.code (value_from m b s)))
      (taken_beside (suc (length s)) st m (take_value strictly m.form (suc (length s)) m.code (value_from m b s)) (take_value tolerantly m.form (suc (length s)) m.code (value_from m b s))
      (value_beside m.form (suc (length s)) m.code (value_from m b s) (from_few b s (has_code no_code m))))

  step_beside : (st : State) (s : List ℕ) → StepBeside (length s) (step strictly st s) (step tolerantly st s)
  unfolding step
  step_beside st [] = inl refl
  step_beside st (b ∷ s) = move_beside st b s (look b (moves e st.room))

  -- The inside of an envelope

  out_later : (n k : ℕ) (o : Out) → n < k → OutNumbered tolerantly n o → Later k o
  out_later n k dry h i = tt
  out_later n k (fault refusal left) h (i, l) = omega arith
  out_later n k (done rs s) h i = omega arith

  module _ (n : ℕ) (f g : State → List ℕ → Out) (ih : (st : State) (s : List ℕ) → OutBeside (length s) (f st s) (g st s)) (within : (st : State) (s : List ℕ) → OutNumbered tolerantly (length s) (g st s)) where
    onward_alike : (x : Step) → Shrinks n x → OutBeside n (onward x f) (onward x g)
    onward_alike (fails refusal left) h = inl refl
    onward_alike (over s) h = inl refl
    onward_alike (next st rs rest) h = rows_beside (length rest) n rs (f st rest) (g st rest) (omega arith) (ih st rest)

    onward_beside : (x y : Step) → Shrinks n x → StepBeside n x y → OutBeside n (onward x f) (onward y g)
    onward_beside x y h (inl q) = subst (λ (z : Step). OutBeside n (onward x f) (onward z g)) q (onward_alike x h)
    onward_beside x (fails refusal left) h (inr (q, d)) = inr (n, ap (λ (z : Step). onward z f) q, omega arith, d)
    onward_beside x (over s) h (inr (q, d)) = absurd d
    onward_beside x (next st rs rest) h (inr (q, d)) = inr (n, ap (λ (z : Step). onward z f) q, omega arith, rows_later rs n (g st rest) (out_later (length rest) n (g st rest) d (within st rest)))

  run_beside : (n : ℕ) (st : State) (s : List ℕ) → OutBeside (length s) (run n strictly st s) (run n tolerantly st s)
  unfolding run
  run_beside zero st s = inl refl
  run_beside (suc n) st s =
      onward_beside (length s) (run n strictly) (run n tolerantly) (run_beside n) (run_numbered n tolerantly) (step strictly st s) (step tolerantly st s) (step_shrinks strictly st s) (step_beside st s)

  inside_beside : (st : State) (s : List ℕ) → OutBeside (length s) (inside strictly st s) (inside tolerantly st s)
  unfolding inside
  inside_beside st s = run_beside (suc (length s)) st s

  -- The envelopes

  abbrev Ih : ℕ → Type 0
  Ih k = (at : ℕ) (s : List ℕ) → Beside at (header k strictly at s) (header k tolerantly at s)

  behind_end : (k : ℕ) (p end : ℕ) (rest : List ℕ) → p < end → After p (header k tolerantly end rest)
  behind_end k p end rest h = at (header k tolerantly end rest) (header_refusing k tolerantly end rest)
    where
      at : (a : Answer) → Refusing tolerantly end (length rest) a → After p a
      at (refused refusal place) (i, l, u) = omega arith
      at (accepted place rows) i = tt

  module _ (k : ℕ) (ih : Ih k) (at m end : ℕ) (rest : List ℕ) (h : at + m ≤ end) where
    ends_alike : (b : Bool) (o : Out) → Beside at (ends b end rest (header k strictly) o) (ends b end rest (header k tolerantly) o)
    ends_alike b dry = inl refl
    ends_alike b (fault refusal left) = inl refl
    ends_alike b (done rs (c ∷ s)) = inl refl
    ends_alike true (done rs []) = inl refl
    ends_alike false (done rs []) = behind_beside at end (map (placed end) rs) (header k strictly end rest) (header k tolerantly end rest) (omega arith) (ih end rest)

    ends_later : (b : Bool) (left : ℕ) (p : Out) → left ≤ m → Wet p → Later left p → After (end - left) (ends b end rest (header k tolerantly) p)
    ends_later b left dry l w d = absurd w
    ends_later b left (fault refusal n) l w d = omega arith
    ends_later b left (done rs (c ∷ s)) l w d = omega arith
    ends_later true left (done rs []) l w d = tt
    ends_later false left (done rs []) l w d = after_behind (end - left) (map (placed end) rs) (header k tolerantly end rest) (behind_end k (end - left) end rest (omega arith))

    ends_beside : (b : Bool) (o p : Out) → Wet p → OutBeside m o p → Beside at (ends b end rest (header k strictly) o) (ends b end rest (header k tolerantly) p)
    ends_beside b o p w (inl q) = subst (λ (x : Out). Beside at (ends b end rest (header k strictly) o) (ends b end rest (header k tolerantly) x)) q (ends_alike b o)
    ends_beside b o p w (inr (left, q, l, d)) = inr (end - left, ap (ends b end rest (header k strictly)) q, omega arith, ends_later b left p l w d)

  module _ (k : ℕ) (ih : Ih k) (b : Bool) (at least head n : ℕ) (s : List ℕ) where
    abbrev within : List ℕ
    within = take (n - head) s

    abbrev ended : Told → Answer
    ended told = ends b (at + n) (drop (n - head) s) (header k told) (inside told (start b) within)

    ended_beside : Beside at (ended strictly) (ended tolerantly)
    ended_beside =
        ends_beside k ih at (length within) (at + n) (drop (n - head) s) (omega (arith, length-take (n - head) s)) b (inside strictly (start b) within) (inside tolerantly (start b) within) (never_dry tolerantly (start b) within) (inside_beside (start b) within)

    envelope_beside : Beside at (envelope strictly b least at head n s (header k strictly)) (envelope tolerantly b least at head n s (header k tolerantly))
    unfolding envelope
    envelope_beside =
        pick_beside at (ltb n least) _ _ _ (pick_beside at (ltb envelope_most n) _ _ _ (pick_beside at (ltb (head + length s) n) _ _ _ (behind_beside at at (placed_row (opening b) 0 at [] ∷ []) (ended strictly) (ended tolerantly) (omega arith) ended_beside)))

  module _ (k : ℕ) (ih : Ih k) (b : Bool) (at : ℕ) where
    long_beside : (all : ℕ) (r : Count) → Beside at (long_form strictly b at all (header k strictly) r) (long_form tolerantly b at all (header k tolerantly) r)
    long_beside all short = inl refl
    long_beside all (counted n s) = envelope_beside k ih b at long_least 7 n s

    sized_beside : (all : ℕ) (r : Count) → Beside at (sized strictly b at all (header k strictly) r) (sized tolerantly b at all (header k tolerantly) r)
    sized_beside all short = inl refl
    sized_beside all (counted n s) = by (eqb n 0)
      where
        by : (z : Bool) → Beside at (pick z (long_form strictly b at all (header k strictly) (high_first 4 0 s)) (envelope strictly b short_least at 3 n s (header k strictly)))
            (pick z (long_form tolerantly b at all (header k tolerantly) (high_first 4 0 s)) (envelope tolerantly b short_least at 3 n s (header k tolerantly)))
        by true = long_beside all (high_first 4 0 s)
        by false = envelope_beside k ih b at short_least 3 n s

  identified_beside : (k : ℕ) (ih : Ih k) (at : ℕ) (s : List ℕ) (i : Identifier) → Beside at (identified strictly at s (header k strictly) i) (identified tolerantly at s (header k tolerantly) i)
  identified_beside k ih at s extension = sized_beside k ih false at (suc (length s)) (high_first 2 0 s)
  identified_beside k ih at s base = sized_beside k ih true at (suc (length s)) (high_first 2 0 s)
  identified_beside k ih at s neither = inl refl

  pub header_beside : (k at : ℕ) (s : List ℕ) → Beside at (header k strictly at s) (header k tolerantly at s)
  unfolding header
  header_beside zero at [] = inl refl
  header_beside zero at (b ∷ s) = inl refl
  header_beside (suc k) at [] = inl refl
  header_beside (suc k) at (b ∷ s) = identified_beside k (header_beside k) at s (identifier_of b)
