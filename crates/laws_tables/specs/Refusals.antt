-- A reading's refusal is a number from 2 to 13, in a tolerant reading never 11, and lies at a place of the input, not before the envelope.
use Rattle.std.specs.Prelude.{ℕ, zero, suc, ◌+◌, ◌-◌, ◌*◌, ◌≤◌, List, [], ◌∷◌, map, Bool, true, false, ◌&&◌, ◌||◌, not, ◌≡◌, T, eqb, leb, ltb, take, drop}
use Rattle.std.proofs.Math.Path.{refl}
use Rattle.std.proofs.Common.{sym, subst, arith, leb→le, length-take, length-drop, ltb-false}
use Rattle.std.proofs.Math.ListN.{length}
use Rattle.meaning.specs.Basics.{pick}
use Rattle.meaning.specs.Bytes.{Taken, took, failed, prefixed, Rule, text_byte, take_text, Check, passes, take_date, date_checks, Turn, stop, more, wrong, turn, after_turn, take_number, Count, counted, short, high_first, Width, bytes_of, fewest, shortest_only, too_wide, take_bytes, block_of, take_block}
use Rattle.meaning.specs.Told.{Told}
use Rattle.meaning.specs.Editions.{State, Form, text, date, number, block, itself, opens, quiet, Move, no_code, moves}
use Rattle.meaning.specs.Reading.{Seen, take_value, Found, none, hit, has_code, look, is_closed, strange, too_deep, Step, fails, over, next, step_taken, value_from, step_move, step, Out, dry, fault, done, with_rows, onward, run, inside}
use Rattle.meaning.specs.Headers.{Placed, placed_row, placed, Answer, refused, accepted, behind, envelope_most, opening, start, ends, envelope, short_least, long_least, long_form, sized, Identifier, extension, base, neither, identifier_of, identified, seventeenth, header}
use Rattle.laws_steps.specs.Logic.{left_of, right_of, both, or_left, both_hold}
use Rattle.laws_steps.specs.Tables.{all_rooms, each_room}
use Rattle.laws_steps.specs.Steps.{Counts, counts_up, high_counts, Shrinks, step_shrinks, Wet, never_dry}

-- the numbers that a reading gives: 2 to 13, and 11 only where it is strict
abbrev pub may_refuse : Told → ℕ → Bool
may_refuse told k = leb 2 k && leb k 13 && (not (eqb k 11) || shortest_only told.strictness)

-- Inside an envelope: the number, and that no more bytes are left at the fault than there were

abbrev Faulty : Told → ℕ → ℕ → ℕ → Type 0
Faulty told n refusal left = T (may_refuse told refusal) × (left ≤ n)

abbrev pub Numbered : Told → ℕ → Taken → Type 0
Numbered told n (took v rest) = Unit {0}
Numbered told n (failed refusal left) = Faulty told n refusal left

numbered_in : (told : Told) (n k : ℕ) (g : Taken) → n ≤ k → Numbered told n g → Numbered told k g
numbered_in told n k (took v rest) h i = tt
numbered_in told n k (failed refusal left) h (i, l) = (i, omega arith)

numbered_prefixed : (told : Told) (n b : ℕ) (g : Taken) → Numbered told n g → Numbered told (suc n) (prefixed b g)
numbered_prefixed told n b (took v rest) i = tt
numbered_prefixed told n b (failed refusal left) (i, l) = (i, omega arith)

numbered_pick : (told : Told) (n : ℕ) (b : Bool) (g h : Taken) → Numbered told n g → Numbered told n h → Numbered told n (pick b g h)
numbered_pick told n true g h i j = i
numbered_pick told n false g h i j = j

text_numbered : (told : Told) (rule : Rule) (s : List ℕ) → Numbered told (length s) (take_text rule s)
unfolding take_text
text_numbered told rule [] = (tt, omega arith)
text_numbered told rule (b ∷ s) =
    numbered_pick told (suc (length s)) (eqb b 0) (took [] s) (pick (text_byte rule b) (prefixed b (take_text rule s)) (failed 8 (suc (length s)))) tt
    (numbered_pick told (suc (length s)) (text_byte rule b) (prefixed b (take_text rule s)) (failed 8 (suc (length s))) (numbered_prefixed told (length s) b (take_text rule s) (text_numbered told rule s)) (tt, omega arith))

date_numbered : (told : Told) (cs : List Check) (earlier s : List ℕ) → Numbered told (length s) (take_date cs earlier s)
unfolding take_date
date_numbered told [] earlier s = tt
date_numbered told (c ∷ cs) earlier [] = (tt, omega arith)
date_numbered told (c ∷ cs) earlier (b ∷ s) =
    numbered_pick told (suc (length s)) (passes c earlier b) (prefixed b (take_date cs (b ∷ earlier) s)) (failed 9 (suc (length s)))
    (numbered_prefixed told (length s) b (take_date cs (b ∷ earlier) s) (date_numbered told cs (b ∷ earlier) s)) (tt, omega arith)

turn_numbered : (told : Told) (b : ℕ) (s : List ℕ) (f : ℕ → Taken) (u : Turn) → ((n : ℕ) → Numbered told (length s) (f n)) → Numbered told (suc (length s)) (after_turn b s f u)
turn_numbered told b s f stop h = tt
turn_numbered told b s f (more n) h = numbered_prefixed told (length s) b (f n) (h n)
turn_numbered told b s f wrong h = (tt, omega arith)

number_numbered : (told : Told) (n : ℕ) (first : Bool) (s : List ℕ) → Numbered told (length s) (take_number n first s)
unfolding take_number
number_numbered told n first [] = (tt, omega arith)
number_numbered told n first (b ∷ s) = turn_numbered told b s (λ k. take_number k false s) (turn n first b) (λ k. number_numbered told k false s)

pub bytes_numbered : (told : Told) (n : ℕ) (s : List ℕ) → Numbered told (length s) (take_bytes n s)
unfolding take_bytes
bytes_numbered told zero s = tt
bytes_numbered told (suc n) [] = (tt, omega arith)
bytes_numbered told (suc n) (b ∷ s) = numbered_prefixed told (length s) b (take_bytes n s) (bytes_numbered told n s)

-- 11 is the strict reading's
wide_strict : (told : Told) (w : Width) (n : ℕ) → too_wide told w n ≡ true → T (shortest_only told.strictness)
unfolding too_wide
wide_strict told w n q = subst T (sym (both_hold (ltb n (fewest w)) (shortest_only told.strictness) q).1) tt

block_numbered : (told : Told) (w : Width) (left : ℕ) (r : Count) → Counts left r → Numbered told left (block_of told w left r)
unfolding block_of
block_numbered told w left short c = (tt, omega arith)
block_numbered told w left (counted n s) c = at (too_wide told w n) refl
  where
    at : (z : Bool) → too_wide told w n ≡ z → Numbered told left (pick z (failed 11 left) (take_bytes n s))
    at true q = (wide_strict told w n q, omega arith)
    at false q = numbered_in told (length s) left (take_bytes n s) c (bytes_numbered told n s)

value_numbered : (told : Told) (f : Form) (left c : ℕ) (s : List ℕ) → length s ≤ left → Numbered told left (take_value told f left c s)
unfolding take_value take_block
value_numbered told (text rule) left c s h = numbered_in told (length s) left (take_text rule s) h (text_numbered told rule s)
value_numbered told (date reach designated) left c s h = numbered_in told (length s) left (take_date (date_checks reach designated) [] s) h (date_numbered told (date_checks reach designated) [] s)
value_numbered told number left c s h = numbered_in told (length s) left (take_number 0 true s) h (number_numbered told 0 true s)
value_numbered told (block w) left c s h = block_numbered told w left (high_first (bytes_of w) 0 s) (counts_up (length s) left (high_first (bytes_of w) 0 s) h (high_counts (bytes_of w) 0 s))
value_numbered told itself left c s h = tt
value_numbered told opens left c s h = tt
value_numbered told quiet left c s h = tt

abbrev StepNumbered : Told → ℕ → Step → Type 0
StepNumbered told n (fails refusal left) = Faulty told n refusal left
StepNumbered told n (over s) = length s ≤ n
StepNumbered told n (next st rs rest) = Unit {0}

taken_numbered : (told : Told) (n : ℕ) (st : State) (m : Move) (g : Taken) → Numbered told n g → StepNumbered told n (step_taken st m g)
taken_numbered told n st m (took v rest) i = tt
taken_numbered told n st m (failed refusal left) i = i

step_pick : (told : Told) (n : ℕ) (b : Bool) (x y : Step) → StepNumbered told n x → StepNumbered told n y → StepNumbered told n (pick b x y)
step_pick told n true x y i j = i
step_pick told n false x y i j = j

abbrev plain_number : ℕ → Bool
plain_number k = leb 2 k && leb k 13 && not (eqb k 11)

strange_test : T (all_rooms (λ e r. plain_number (strange r)))
strange_test = tt

strange_given : (told : Told) (st : State) → T (may_refuse told (strange st.room))
strange_given told st =
    let k = strange st.room in
    let t = each_room (λ e r. plain_number (strange r)) strange_test told.edition st.room in
    both (leb 2 k && leb k 13) (not (eqb k 11) || shortest_only told.strictness) (left_of (leb 2 k && leb k 13) (not (eqb k 11)) t)
    (or_left (not (eqb k 11)) (shortest_only told.strictness) (right_of (leb 2 k && leb k 13) (not (eqb k 11)) t))

pub from_few : (b : ℕ) (s : List ℕ) (z : Bool) → length (pick z (b ∷ s) s) ≤ suc (length s)
from_few b s true = omega arith
from_few b s false = omega arith

move_numbered : (told : Told) (st : State) (b : ℕ) (s : List ℕ) (o : Found) → StepNumbered told (suc (length s)) (step_move told st b s o)
unfolding step_move
move_numbered told st b s none =
    step_pick told (suc (length s)) (is_closed st.room) (over (b ∷ s)) (fails (strange st.room) (suc (length s))) (omega arith) (strange_given told st, omega arith)
move_numbered told st b s (hit m) =
    let g = take_value told m.form (suc (length s)) m.code (value_from m b s) in
    step_pick told (suc (length s)) (too_deep m st) (fails 12 (suc (length s))) (step_taken st m g) (tt, omega arith)
    (taken_numbered told (suc (length s)) st m g (value_numbered told m.form (suc (length s)) m.code (value_from m b s) (from_few b s (has_code no_code m))))

step_numbered : (told : Told) (st : State) (s : List ℕ) → StepNumbered told (length s) (step told st s)
unfolding step
step_numbered told st [] = step_pick told 0 (is_closed st.room) (over []) (fails 6 0) (omega arith) (tt, omega arith)
step_numbered told st (b ∷ s) = move_numbered told st b s (look b (moves told.edition st.room))

abbrev pub OutNumbered : Told → ℕ → Out → Type 0
OutNumbered told n dry = Unit {0}
OutNumbered told n (fault refusal left) = Faulty told n refusal left
OutNumbered told n (done rs s) = length s ≤ n

rows_numbered : (told : Told) (n k : ℕ) (rs : List Seen) (o : Out) → n ≤ k → OutNumbered told n o → OutNumbered told k (with_rows rs o)
rows_numbered told n k rs dry h i = tt
rows_numbered told n k rs (fault refusal left) h (i, l) = (i, omega arith)
rows_numbered told n k rs (done ts s) h i = omega arith

onward_numbered : (told : Told) (n : ℕ) (x : Step) (f : State → List ℕ → Out) → StepNumbered told n x → Shrinks n x → ((st : State) (s : List ℕ) → OutNumbered told (length s) (f st s)) → OutNumbered told n (onward x f)
onward_numbered told n (fails refusal left) f i w h = i
onward_numbered told n (over s) f i w h = i
onward_numbered told n (next st rs rest) f i w h = rows_numbered told (length rest) n rs (f st rest) (omega arith) (h st rest)

pub run_numbered : (n : ℕ) (told : Told) (st : State) (s : List ℕ) → OutNumbered told (length s) (run n told st s)
unfolding run
run_numbered zero told st s = tt
run_numbered (suc n) told st s = onward_numbered told (length s) (step told st s) (run n told) (step_numbered told st s) (step_shrinks told st s) (run_numbered n told)

inside_numbered : (told : Told) (st : State) (s : List ℕ) → OutNumbered told (length s) (inside told st s)
unfolding inside
inside_numbered told st s = run_numbered (suc (length s)) told st s

-- A reading's refusal: one of its numbers, at a place of the input, which has n bytes from `at` on

abbrev pub Refusing : Told → ℕ → ℕ → Answer → Type 0
Refusing told at n (refused refusal place) = T (may_refuse told refusal) × (at ≤ place) × (place ≤ at + n)
Refusing told at n (accepted place rows) = Unit {0}

refusing_behind : (told : Told) (at n : ℕ) (rs : List Placed) (a : Answer) → Refusing told at n a → Refusing told at n (behind rs a)
refusing_behind told at n rs (refused refusal place) i = i
refusing_behind told at n rs (accepted place ts) i = tt

refusing_within : (told : Told) (at n at' n' : ℕ) (a : Answer) → at ≤ at' → at' + n' ≤ at + n → Refusing told at' n' a → Refusing told at n a
refusing_within told at n at' n' (refused refusal place) l h (i, j, k) = (i, omega arith, omega arith)
refusing_within told at n at' n' (accepted place rows) l h i = tt

abbrev Ih : ℕ → Told → Type 0
Ih k told = (at : ℕ) (s : List ℕ) → Refusing told at (length s) (header k told at s)

-- an inside of at most m bytes, up to `end`
ends_refusing : (k : ℕ) (told : Told) (b : Bool) (at n m end : ℕ) (rest : List ℕ) (o : Out) → Ih k told → Wet o → OutNumbered told m o → at + m ≤ end → end ≤ at + n → end + length rest ≤ at + n → Refusing told at n (ends b end rest (header k told) o)
ends_refusing k told b at n m end rest dry ih w i f h l = absurd w
ends_refusing k told b at n m end rest (fault refusal left) ih w (i, d) f h l = (i, omega arith, omega arith)
ends_refusing k told b at n m end rest (done rs (c ∷ s)) ih w i f h l = (tt, omega arith, omega arith)
ends_refusing k told true at n m end rest (done rs []) ih w i f h l = tt
ends_refusing k told false at n m end rest (done rs []) ih w i f h l =
    refusing_behind told at n (map (placed end) rs) (header k told end rest) (refusing_within told at n end (length rest) (header k told end rest) (omega arith) l (ih end rest))

module _ (k : ℕ) (told : Told) (b : Bool) (at least head n : ℕ) (s : List ℕ) (ih : Ih k told) (one : 1 ≤ head) where
  abbrev within : List ℕ
  within = take (n - head) s

  abbrev read_of : Answer
  read_of = behind (placed_row (opening b) 0 at [] ∷ []) (ends b (at + n) (drop (n - head) s) (header k told) (inside told (start b) within))

  envelope_picks : (x y z : Bool) → ltb (head + length s) n ≡ z → ltb n least ≡ x → 3 ≤ least → head ≤ least
      → Refusing told at (head + length s) (pick x (refused 4 (at + 1)) (pick y (refused 5 (at + 1)) (pick z (refused 2 (at + head + length s)) read_of)))
  envelope_picks true y z q p l h = (tt, omega arith, omega arith)
  envelope_picks false true z q p l h = (tt, omega arith, omega arith)
  envelope_picks false false true q p l h = (tt, omega arith, omega arith)
  envelope_picks false false false q p l h =
      let f = ltb-false (head + length s) n q in
      let g = ltb-false n least p in
      refusing_behind told at (head + length s) (placed_row (opening b) 0 at [] ∷ []) (ends b (at + n) (drop (n - head) s) (header k told) (inside told (start b) within))
      (ends_refusing k told b at (head + length s) (length within) (at + n) (drop (n - head) s) (inside told (start b) within) ih (never_dry told (start b) within) (inside_numbered told (start b) within)
      (omega (arith, length-take (n - head) s)) (omega arith) (omega (arith, length-drop (n - head) s)))

  envelope_refusing : 3 ≤ least → head ≤ least → Refusing told at (head + length s) (envelope told b least at head n s (header k told))
  unfolding envelope
  envelope_refusing l h = envelope_picks (ltb n least) (ltb envelope_most n) (ltb (head + length s) n) refl refl l h

-- how many bytes a length takes
abbrev pub Leaves : ℕ → List ℕ → Count → Type 0
Leaves w s (counted n rest) = length s ≡ w + length rest
Leaves w s short = Unit {0}

leaves_more : (w b : ℕ) (s : List ℕ) (r : Count) → Leaves w s r → Leaves (suc w) (b ∷ s) r
leaves_more w b s (counted n rest) q = omega arith
leaves_more w b s short q = tt

pub high_leaves : (w n : ℕ) (s : List ℕ) → Leaves w s (high_first w n s)
unfolding high_first
high_leaves zero n s = omega arith
high_leaves (suc w) n [] = tt
high_leaves (suc w) n (b ∷ s) = leaves_more w b s (high_first w (256 * n + b) s) (high_leaves w (256 * n + b) s)

long_refusing : (k : ℕ) (told : Told) (b : Bool) (at all : ℕ) (s : List ℕ) (r : Count) → Ih k told → all ≡ 3 + length s → Leaves 4 s r → Refusing told at all (long_form told b at all (header k told) r)
long_refusing k told b at all s short ih q l = (tt, omega arith, omega arith)
long_refusing k told b at all s (counted n rest) ih q l =
    refusing_within told at all at (7 + length rest) (envelope told b long_least at 7 n rest (header k told)) (omega arith) (omega arith) (envelope_refusing k told b at long_least 7 n rest ih (omega arith) (omega arith) (omega arith))

sized_refusing : (k : ℕ) (told : Told) (b : Bool) (at : ℕ) (s : List ℕ) (r : Count) → Ih k told → Leaves 2 s r → Refusing told at (suc (length s)) (sized told b at (suc (length s)) (header k told) r)
sized_refusing k told b at s short ih l = (tt, omega arith, omega arith)
sized_refusing k told b at s (counted n rest) ih l = at_form (eqb n 0)
  where
    at_form : (z : Bool) → Refusing told at (suc (length s)) (pick z (long_form told b at (suc (length s)) (header k told) (high_first 4 0 rest)) (envelope told b short_least at 3 n rest (header k told)))
    at_form true = long_refusing k told b at (suc (length s)) rest (high_first 4 0 rest) ih (omega arith) (high_leaves 4 0 rest)
    at_form false = refusing_within told at (suc (length s)) at (3 + length rest) (envelope told b short_least at 3 n rest (header k told)) (omega arith) (omega arith) (envelope_refusing k told b at short_least 3 n rest ih (omega arith) (omega arith) (omega arith))

identified_refusing : (k : ℕ) (told : Told) (at : ℕ) (s : List ℕ) (i : Identifier) → Ih k told → Refusing told at (suc (length s)) (identified told at s (header k told) i)
identified_refusing k told at s extension ih = sized_refusing k told false at s (high_first 2 0 s) ih (high_leaves 2 0 s)
identified_refusing k told at s base ih = sized_refusing k told true at s (high_first 2 0 s) ih (high_leaves 2 0 s)
identified_refusing k told at s neither ih = (tt, omega arith, omega arith)

seventeenth_refusing : (told : Told) (at n : ℕ) (i : Identifier) → Refusing told at n (seventeenth at i)
seventeenth_refusing told at n extension = (tt, omega arith, omega arith)
seventeenth_refusing told at n base = (tt, omega arith, omega arith)
seventeenth_refusing told at n neither = (tt, omega arith, omega arith)

pub header_refusing : (k : ℕ) (told : Told) (at : ℕ) (s : List ℕ) → Refusing told at (length s) (header k told at s)
unfolding header
header_refusing zero told at [] = (tt, omega arith, omega arith)
header_refusing zero told at (b ∷ s) = seventeenth_refusing told at (suc (length s)) (identifier_of b)
header_refusing (suc k) told at [] = (tt, omega arith, omega arith)
header_refusing (suc k) told at (b ∷ s) = identified_refusing k told at s (identifier_of b) (header_refusing k told)

pub not_zero : (told : Told) (refusal : ℕ) → T (may_refuse told refusal) → 1 ≤ refusal
not_zero told k t =
    let h = leb→le 2 k (left_of (leb 2 k) (leb k 13) (left_of (leb 2 k && leb k 13) (not (eqb k 11) || shortest_only told.strictness) t)) in
    omega arith

pub refused_shape : (k : ℕ) (told : Told) (s : List ℕ) (refusal place : ℕ) → header k told 0 s ≡ refused refusal place → T (may_refuse told refusal) × (place ≤ length s)
refused_shape k told s refusal place q = let (i, j, l) = subst (Refusing told 0 (length s)) q (header_refusing k told 0 s) in (i, omega arith)
