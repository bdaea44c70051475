-- Each step takes a byte at least, so the reading goes on by an equation: a step, then the reading of what is left. Fuel is not seen again.
use Rattle.std.specs.Prelude.{ℕ, zero, suc, ◌+◌, ◌*◌, ◌≤◌, ◌<◌, List, [], ◌∷◌, ◌++◌, Bool, true, false, ◌≡◌, refl, T, length}
use Rattle.std.proofs.Common.{append_assoc, ap, sym, ◌∙◌, arith, length-append, eqb-true}
use Rattle.meaning.specs.Basics.{pick, In}
use Rattle.meaning.specs.Bytes.{Taken, took, failed, Rule, take_text, text_ok, take_date, date_ok, date_checks, take_number, number_ok, Count, counted, short, high_first, Width, bytes_of, too_wide, take_bytes, block_of, take_block}
use Rattle.meaning.specs.Told.{Told}
use Rattle.meaning.specs.Editions.{Room, State, go, Form, text, date, number, block, itself, opens, quiet, is_quiet, Move, no_code, moves}
use Rattle.meaning.specs.Reading.{Seen, seen, take_value, reach_back, seen_by, Found, none, hit, has_code, look, is_closed, strange, too_deep, Step, fails, over, next, step_taken, value_from, step_move, step, Out, dry, fault, done, with_rows, onward, run, inside}
use Rattle.laws_steps.specs.Values.{Was, ended, text_out, date_out, number_out, Took, bytes_out}
use Rattle.laws_steps.specs.Lookups.{is_text_form, uncoded_text, Looked, looked}

-- a value leaves at most n bytes
abbrev Leaves : ℕ → Taken → Type 0
Leaves n (took v rest) = length rest ≤ n
Leaves n (failed refusal left) = Unit {0}

was_leaves : (written : List ℕ → List ℕ) (ok : List ℕ → Bool) (s : List ℕ) (g : Taken) → Was written ok s g → Leaves (length s) g
was_leaves written ok s (failed refusal left) w = tt
was_leaves written ok s (took v rest) w = let q : length s ≡ length (written v) + length rest = ap length w.0 ∙ length-append (written v) rest in omega arith

text_leaves : (rule : Rule) (b : ℕ) (s : List ℕ) (g : Taken) → Was ended (text_ok rule) (b ∷ s) g → Leaves (length s) g
text_leaves rule b s (failed refusal left) w = tt
text_leaves rule b s (took v rest) w =
    let q : suc (length s) ≡ length (ended v) + length rest = ap length w.0 ∙ length-append (ended v) rest in
    omega (arith, length-append v (0 ∷ []))

abbrev pub Counts : ℕ → Count → Type 0
Counts n (counted k s) = length s ≤ n
Counts n short = Unit {0}

pub counts_up : (n k : ℕ) (r : Count) → n ≤ k → Counts n r → Counts k r
counts_up n k (counted m s) h i = omega arith
counts_up n k short h i = tt

pub high_counts : (w n : ℕ) (s : List ℕ) → Counts (length s) (high_first w n s)
unfolding high_first
high_counts zero n s = omega arith
high_counts (suc w) n [] = tt
high_counts (suc w) n (b ∷ s) = counts_up (length s) (suc (length s)) (high_first w (256 * n + b) s) (omega arith) (high_counts w (256 * n + b) s)

took_leaves : (n k : ℕ) (s : List ℕ) (g : Taken) → length s ≤ n → Took k s g → Leaves n g
took_leaves n k s (failed refusal left) h w = tt
took_leaves n k s (took v rest) h w = let q : length s ≡ length v + length rest = ap length w.0 ∙ length-append v rest in omega arith

block_leaves : (n left k : ℕ) (s : List ℕ) (b : Bool) → length s ≤ n → Leaves n (pick b (failed 11 left) (take_bytes k s))
block_leaves n left k s true h = tt
block_leaves n left k s false h = took_leaves n k s (take_bytes k s) h (bytes_out k s)

count_leaves : (told : Told) (w : Width) (n left : ℕ) (r : Count) → Counts n r → Leaves n (block_of told w left r)
unfolding block_of
count_leaves told w n left (counted k s) i = block_leaves n left k s (too_wide told w k) i
count_leaves told w n left short i = tt

value_leaves : (told : Told) (f : Form) (left c : ℕ) (s : List ℕ) → Leaves (length s) (take_value told f left c s)
unfolding take_value take_block
value_leaves told (text rule) left c s = was_leaves ended (text_ok rule) s (take_text rule s) (text_out rule s)
value_leaves told (date reach designated) left c s = was_leaves (λ v. v) (date_ok (date_checks reach designated) []) s (take_date (date_checks reach designated) [] s) (date_out (date_checks reach designated) [] s)
value_leaves told number left c s = was_leaves (λ v. v) (number_ok 0 true) s (take_number 0 true s) (number_out 0 true s)
value_leaves told (block w) left c s = count_leaves told w (length s) left (high_first (bytes_of w) 0 s) (high_counts (bytes_of w) 0 s)
value_leaves told itself left c s = omega arith
value_leaves told opens left c s = omega arith
value_leaves told quiet left c s = omega arith

text_form_leaves : (told : Told) (f : Form) (left c b : ℕ) (s : List ℕ) → T (is_text_form f) → Leaves (length s) (take_value told f left c (b ∷ s))
unfolding take_value
text_form_leaves told (text rule) left c b s t = text_leaves rule b s (take_text rule (b ∷ s)) (text_out rule (b ∷ s))
text_form_leaves told (date reach designated) left c b s t = absurd t
text_form_leaves told number left c b s t = absurd t
text_form_leaves told (block w) left c b s t = absurd t
text_form_leaves told itself left c b s t = absurd t
text_form_leaves told opens left c b s t = absurd t
text_form_leaves told quiet left c b s t = absurd t

-- a step leaves fewer than n bytes
abbrev pub Shrinks : ℕ → Step → Type 0
Shrinks n (fails refusal left) = Unit {0}
Shrinks n (over s) = Unit {0}
Shrinks n (next st rs rest) = length rest < n

taken_shrinks : (st : State) (m : Move) (n : ℕ) (g : Taken) → Leaves n g → Shrinks (suc n) (step_taken st m g)
taken_shrinks st m n (took v rest) i = omega arith
taken_shrinks st m n (failed refusal left) i = tt

from_leaves : (told : Told) (r : Room) (m : Move) (b : ℕ) (s : List ℕ) (z : Bool) → has_code no_code m ≡ z → In m (moves told.edition r) → Leaves (length s) (take_value told m.form (suc (length s)) m.code (pick z (b ∷ s) s))
from_leaves told r m b s true q i = text_form_leaves told m.form (suc (length s)) m.code b s (uncoded_text told.edition r i (eqb-true m.code no_code q))
from_leaves told r m b s false q i = value_leaves told m.form (suc (length s)) m.code s

deep_shrinks : (n refusal left : ℕ) (x : Step) (b : Bool) → Shrinks n x → Shrinks n (pick b (fails refusal left) x)
deep_shrinks n refusal left x true i = tt
deep_shrinks n refusal left x false i = i

closed_shrinks : (n refusal left : ℕ) (s : List ℕ) (b : Bool) → Shrinks n (pick b (over s) (fails refusal left))
closed_shrinks n refusal left s true = tt
closed_shrinks n refusal left s false = tt

move_shrinks : (told : Told) (st : State) (b : ℕ) (s : List ℕ) (o : Found) → Looked b (moves told.edition st.room) o → Shrinks (suc (length s)) (step_move told st b s o)
unfolding step_move
move_shrinks told st b s none w = closed_shrinks (suc (length s)) (strange st.room) (suc (length s)) (b ∷ s) (is_closed st.room)
move_shrinks told st b s (hit m) w =
    deep_shrinks (suc (length s)) 12 (suc (length s)) (step_taken st m (take_value told m.form (suc (length s)) m.code (value_from m b s))) (too_deep m st)
    (taken_shrinks st m (length s) (take_value told m.form (suc (length s)) m.code (value_from m b s)) (from_leaves told st.room m b s (has_code no_code m) refl w.0))

pub step_shrinks : (told : Told) (st : State) (s : List ℕ) → Shrinks (length s) (step told st s)
unfolding step
step_shrinks told st [] = closed_shrinks 0 6 0 [] (is_closed st.room)
step_shrinks told st (b ∷ s) = move_shrinks told st b s (look b (moves told.edition st.room)) (looked b (moves told.edition st.room))

-- Enough fuel is as good as any

onward_same : (k : ℕ) (f g : State → List ℕ → Out) (x : Step) → Shrinks k x → ((st : State) (s : List ℕ) → length s < k → f st s ≡ g st s) → onward x f ≡ onward x g
onward_same k f g (fails refusal left) i h = refl
onward_same k f g (over s) i h = refl
onward_same k f g (next st rs rest) i h = ap (with_rows rs) (h st rest i)

run_same : (n k : ℕ) (told : Told) (st : State) (s : List ℕ) → length s < n → length s < k → run n told st s ≡ run k told st s
unfolding run
run_same zero k told st s h j = absurd (omega arith)
run_same (suc n) zero told st s h j = absurd (omega arith)
run_same (suc n) (suc k) told st s h j =
    onward_same (length s) (run n told) (run k told) (step told st s) (step_shrinks told st s) (λ st₁ s₁ i. run_same n k told st₁ s₁ (omega arith) (omega arith))

-- THE equation of the reading
pub inside_onward : (told : Told) (st : State) (s : List ℕ) → inside told st s ≡ onward (step told st s) (inside told)
unfolding inside run
inside_onward told st s =
    onward_same (length s) (run (length s) told) (inside told) (step told st s) (step_shrinks told st s) (λ st₁ s₁ i. run_same (length s) (suc (length s₁)) told st₁ s₁ i (omega arith))

pub inside_next : (told : Told) (st : State) (s : List ℕ) {st₁ : State} {rs : List Seen} {s₁ : List ℕ} → step told st s ≡ next st₁ rs s₁ → inside told st s ≡ with_rows rs (inside told st₁ s₁)
inside_next told st s q = inside_onward told st s ∙ ap (λ (x : Step). onward x (inside told)) q

pub inside_fails : (told : Told) (st : State) (s : List ℕ) {refusal left : ℕ} → step told st s ≡ fails refusal left → inside told st s ≡ fault refusal left
inside_fails told st s q = inside_onward told st s ∙ ap (λ (x : Step). onward x (inside told)) q

pub inside_over : (told : Told) (st : State) (s : List ℕ) {t : List ℕ} → step told st s ≡ over t → inside told st s ≡ done [] t
inside_over told st s q = inside_onward told st s ∙ ap (λ (x : Step). onward x (inside told)) q

-- the fuel is never used up
abbrev pub Wet : Out → Type 0
Wet dry = ⊥
Wet (fault refusal left) = Unit {0}
Wet (done rs s) = Unit {0}

wet_rows : (rs : List Seen) (o : Out) → Wet o → Wet (with_rows rs o)
wet_rows rs dry w = w
wet_rows rs (fault refusal left) w = tt
wet_rows rs (done ts s) w = tt

wet_onward : (k : ℕ) (f : State → List ℕ → Out) (x : Step) → Shrinks k x → ((st : State) (s : List ℕ) → length s < k → Wet (f st s)) → Wet (onward x f)
wet_onward k f (fails refusal left) i h = tt
wet_onward k f (over s) i h = tt
wet_onward k f (next st rs rest) i h = wet_rows rs (f st rest) (h st rest i)

wet_run : (n : ℕ) (told : Told) (st : State) (s : List ℕ) → length s < n → Wet (run n told st s)
unfolding run
wet_run zero told st s h = absurd (omega arith)
wet_run (suc n) told st s h = wet_onward (length s) (run n told) (step told st s) (step_shrinks told st s) (λ st₁ s₁ i. wet_run n told st₁ s₁ (omega arith))

pub never_dry : (told : Told) (st : State) (s : List ℕ) → Wet (inside told st s)
unfolding inside
never_dry told st s = wet_run (suc (length s)) told st s (omega arith)

-- Paths of steps

pub data Path (told : Told) : State → List ℕ → List Seen → State → List ℕ → Type 0 where
  rests : {st : State} {s : List ℕ} → Path told st s [] st s
  moves_on : {st st₁ st₂ : State} {s s₁ s₂ : List ℕ} {rs ts : List Seen} → step told st s ≡ next st₁ rs s₁ → Path told st₁ s₁ ts st₂ s₂ → Path told st s (rs ++ ts) st₂ s₂

rows_append : (rs ts : List Seen) (o : Out) → with_rows (rs ++ ts) o ≡ with_rows rs (with_rows ts o)
rows_append rs ts dry = refl
rows_append rs ts (fault refusal left) = refl
rows_append rs ts (done us s) = ap (λ (x : List Seen). done x s) (append_assoc rs ts us)

rows_none : (o : Out) → o ≡ with_rows [] o
rows_none dry = refl
rows_none (fault refusal left) = refl
rows_none (done us s) = refl

pub inside_path : (told : Told) {st st' : State} {s rest : List ℕ} {rs : List Seen} → Path told st s rs st' rest → inside told st s ≡ with_rows rs (inside told st' rest)
inside_path told {st} {s = s} rests = rows_none (inside told st s)
inside_path told {st} {s = s} (moves_on {st₁ = st₁} {st₂ = st₂} {s₁ = s₁} {s₂ = s₂} {rs = rs} {ts = ts} q p) =
    inside_next told st s q ∙ ap (with_rows rs) (inside_path told p) ∙ sym (rows_append rs ts (inside told st₂ s₂))

-- one step, where the move is known
pub step_is : (told : Told) (st : State) (m : Move) (b : ℕ) (s v rest : List ℕ) → look b (moves told.edition st.room) ≡ hit m → too_deep m st ≡ false
    → take_value told m.form (suc (length s)) m.code (value_from m b s) ≡ took v rest
    → step told st (b ∷ s) ≡ next (go m.next st) (seen_by m.form m.kind st.level v rest) rest
unfolding step step_move
step_is told st m b s v rest el ed es = rw (el, ed, es) refl

pub step_over : (told : Told) (st : State) → is_closed st.room ≡ true → step told st [] ≡ over []
unfolding step
step_over told st h = rw h refl

pub loud_seen : (f : Form) (k n : ℕ) (v rest : List ℕ) → is_quiet f ≡ false → seen_by f k n v rest ≡ seen k n (length rest + length v + reach_back f) v ∷ []
loud_seen f k n v rest q = rw q refl

pub quiet_seen : (f : Form) (k n : ℕ) (v rest : List ℕ) → is_quiet f ≡ true → seen_by f k n v rest ≡ []
quiet_seen f k n v rest q = rw q refl
