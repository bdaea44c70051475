-- What the writer gives for the rows of an envelope, the reader reads as those rows: a step for each row, and one for each pass before it.
use Rattle.std.specs.Prelude.{ℕ, suc, ◌+◌, List, [], ◌∷◌, ◌++◌, map, Bool, true, false, ◌||◌, ◌≡◌, refl, T, eqb, length}
use Rattle.std.proofs.Common.{ap, sym, ◌∙◌, arith, eqb→eq, eqb-true}
use Rattle.meaning.specs.Basics.{pick, every, In}
use Rattle.meaning.specs.Bytes.{took, text_byte, text_ok}
use Rattle.meaning.specs.Kinds.{standard_representation, date_absolute, date_forward, date_backward, any_bytes, payload_length}
use Rattle.meaning.specs.Told.{Edition, Told}
use Rattle.meaning.specs.Editions.{Room, State, go, Form, text, date, number, block, itself, opens, quiet, is_quiet, Move, no_code, closing, moves, shared, own}
use Rattle.meaning.specs.Reading.{Row, Seen, seen, row_of, take_value, reach_back, seen_by, has_code, is_closed, too_deep, next, step, done, with_rows, inside}
use Rattle.meaning.specs.Writing.{valid, write_value, Fit, unfit, fits, led, fit_row, close}
use Rattle.laws_steps.specs.Logic.{left_of}
use Rattle.laws_steps.specs.Values.{text_byte_above, value_in}
use Rattle.laws_steps.specs.Tables.{every_in, all_rooms, each_room}
use Rattle.laws_steps.specs.Lookups.{is_text_form, look_coded, look_uncoded, uncoded_text, quiet_coded, quiet_flat}
use Rattle.laws_steps.specs.Steps.{Path, rests, moves_on, inside_path, inside_over, step_is, step_over, loud_seen, quiet_seen}
use Rattle.laws_steps.specs.Fits.{unfit_fits, led_inv, Placing, fit_holds, close_holds}

-- how far a row of a kind starts before the end of its view: in both editions a kind's values have one form
abbrev reach_of : ℕ → ℕ
reach_of kind =
    pick (eqb kind standard_representation || eqb kind date_absolute || eqb kind date_forward || eqb kind date_backward || eqb kind any_bytes || eqb kind payload_length) 0 1

abbrev reach_ok : Move → Bool
reach_ok m = is_quiet m.form || eqb (reach_back m.form) (reach_of m.kind)

reach_test : T (all_rooms (λ e r. every reach_ok (moves e r)))
unfolding moves shared own
reach_test = tt

reach_is : (e : Edition) (r : Room) {m : Move} → In m (moves e r) → is_quiet m.form ≡ false → reach_back m.form ≡ reach_of m.kind
reach_is e r {m} i q =
    let t : T (reach_ok m) = every_in reach_ok i (each_room (λ e r. every reach_ok (moves e r)) reach_test e r) in
    eqb→eq (reach_back m.form) (reach_of m.kind) (rw q at t)

-- a row as it is seen, with these bytes behind its value: its start is the same for every edition
abbrev pub seen_before : Row → List ℕ → Seen
seen_before row rest = seen row.kind row.level (length rest + length row.view + reach_of row.kind) row.view

-- the reader goes over one row
abbrev pub Reads : Told → State → List ℕ → Row → State → List ℕ → Type 0
Reads told st s row st' rest = Path told st s (seen_before row rest ∷ []) st' rest

-- a written text does not begin with 01
pub text_first : (f : Form) (c : ℕ) (v rest : List ℕ) → T (is_text_form f) → T (valid f c v) → (b : ℕ) × (s : List ℕ) × (write_value f v ++ rest ≡ b ∷ s) × (b ≡ closing → ⊥)
unfolding valid write_value text_ok
text_first (text rule) c [] rest t ok = (0, rest, refl, λ q. omega arith)
text_first (text rule) c (b ∷ v) rest t ok =
    let h = text_byte_above rule b (left_of (text_byte rule b) (text_ok rule v) ok) in
    (b, (v ++ (0 ∷ [])) ++ rest, refl, λ q. omega arith)
text_first (date reach designated) c v rest t ok = absurd t
text_first number c v rest t ok = absurd t
text_first (block w) c v rest t ok = absurd t
text_first itself c v rest t ok = absurd t
text_first opens c v rest t ok = absurd t
text_first quiet c v rest t ok = absurd t

-- the step over a row's own move, with its code or without
pub step_written : (told : Told) (st : State) (m : Move) (v rest : List ℕ) (b : Bool) → has_code no_code m ≡ b → In m (moves told.edition st.room) → too_deep m st ≡ false → T (valid m.form m.code v)
    → step told st ((pick b [] (m.code ∷ []) ++ write_value m.form v) ++ rest) ≡ next (go m.next st) (seen_by m.form m.kind st.level v rest) rest
step_written told st m v rest true q i d ok =
    let c : m.code ≡ no_code = eqb-true m.code no_code q in
    let (b, s, w, h) = text_first m.form m.code v rest (uncoded_text told.edition st.room i c) ok in
    let taken : take_value told m.form (suc (length s)) m.code (b ∷ s) ≡ took v rest = ap (take_value told m.form (suc (length s)) m.code) (sym w) ∙ value_in told m.form (suc (length s)) m.code v rest ok in
    ap (step told st) w ∙ step_is told st m b s v rest (look_uncoded told.edition st.room i c b h) d (rw q taken)
step_written told st m v rest false q i d ok =
    let s = write_value m.form v ++ rest in
    step_is told st m m.code s v rest (look_coded told.edition st.room i) d (rw q (value_in told m.form (suc (length s)) m.code v rest ok))

-- a row in its own place
pub reads_own : (told : Told) (row : Row) (st st' : State) (m : Move) (bs : List ℕ) → In m (moves told.edition st.room) → Placing st row m st' bs → (rest : List ℕ) → Reads told st (bs ++ rest) row st' rest
reads_own told row st st' m bs i p rest =
    let back : reach_back m.form ≡ reach_of m.kind = reach_is told.edition st.room i p.loud in
    let a : seen_by m.form m.kind st.level row.view rest ≡ seen_before row rest ∷ []
    = loud_seen m.form m.kind st.level row.view rest p.loud ∙ rw (back, p.kind_is, p.level_is) refl in
    let s : step told st (bs ++ rest) ≡ next st' (seen_before row rest ∷ []) rest
    = ap (λ (x : List ℕ). step told st (x ++ rest)) (sym p.out) ∙ step_written told st m row.view rest (has_code no_code m) refl i p.flat p.ok
    ∙ ap (λ (x : State). next x (seen_by m.form m.kind st.level row.view rest) rest) p.to ∙ ap (λ (x : List Seen). next st' x rest) a in
    moves_on s rests

pub quiet_takes : (told : Told) (f : Form) (left c : ℕ) (s : List ℕ) → is_quiet f ≡ true → take_value told f left c s ≡ took [] s
unfolding take_value
quiet_takes told (text rule) left c s q = cc
quiet_takes told (date reach designated) left c s q = cc
quiet_takes told number left c s q = cc
quiet_takes told (block w) left c s q = cc
quiet_takes told itself left c s q = cc
quiet_takes told opens left c s q = cc
quiet_takes told quiet left c s q = refl

-- the step over a pass
pub step_quiet : (told : Told) (st : State) (m : Move) (s : List ℕ) → In m (moves told.edition st.room) → is_quiet m.form ≡ true → step told st (m.code ∷ s) ≡ next (go m.next st) [] s
step_quiet told st m s i q =
    step_is told st m m.code s [] s (look_coded told.edition st.room i) (quiet_flat told.edition st.room i q st)
    (rw (quiet_coded told.edition st.room i q) (quiet_takes told m.form (suc (length s)) m.code s q))
    ∙ ap (λ (rs : List Seen). next (go m.next st) rs s) (quiet_seen m.form m.kind st.level [] s q)

pub row_written_read : (told : Told) (row : Row) (st st' : State) (bs : List ℕ) → fit_row told.edition st row ≡ fits st' bs → (rest : List ℕ) → Reads told st (bs ++ rest) row st' rest
row_written_read told row =
    fit_holds told.edition row (λ st st' bs. (rest : List ℕ) → Reads told st (bs ++ rest) row st' rest) (reads_own told row)
    (λ st st' m bs i q p rest. moves_on (step_quiet told st m (bs ++ rest) i q) (p rest))

-- the closings to the envelope's end
abbrev pub Closes : Told → State → List ℕ → State → Type 0
Closes told st bs st' = (is_closed st'.room ≡ true) × Path told st bs [] st' []

pub closing_read : (told : Told) (st st' : State) (bs : List ℕ) → close told.edition st ≡ fits st' bs → Closes told st bs st'
closing_read told =
    close_holds told.edition (λ st st' bs. Closes told st bs st') (λ st h. (h, rests)) (λ st st' m bs i q c. (c.0, moves_on (step_quiet told st m bs i q) c.1))

-- The inside of an envelope, from its rows

abbrev pub and_then : Fit → (State → Fit) → Fit
and_then unfit f = unfit
and_then (fits st bs) f = led bs (f st)

unfoldable pub fit_all : Edition → List Row → State → Fit
fit_all e [] st = close e st
fit_all e (row ∷ rows) st = and_then (fit_row e st row) (fit_all e rows)

abbrev pub Split : Fit → (State → Fit) → State → List ℕ → Type 0
Split x f st' bs = (st₁ : State) × (cs : List ℕ) × (ds : List ℕ) × (x ≡ fits st₁ cs) × (f st₁ ≡ fits st' ds) × (bs ≡ cs ++ ds)

pub then_inv : (x : Fit) (f : State → Fit) (st' : State) (bs : List ℕ) → and_then x f ≡ fits st' bs → Split x f st' bs
then_inv unfit f st' bs q = unfit_fits q
then_inv (fits st₁ cs) f st' bs q = let (ds, a, b) = led_inv cs (f st₁) q in (st₁, cs, ds, refl, a, b)

pub then_make : (x : Fit) (f : State → Fit) (st₁ st' : State) (cs ds : List ℕ) → x ≡ fits st₁ cs → f st₁ ≡ fits st' ds → and_then x f ≡ fits st' (cs ++ ds)
then_make x f st₁ st' cs ds p q = rw (p, q) refl

abbrev pub ReadsAll : Told → State → List ℕ → List Row → Type 0
ReadsAll told st bs rows = (seens : List Seen) × (inside told st bs ≡ done seens []) × (map row_of seens ≡ rows)

pub reads_end : (told : Told) (st st' : State) (bs : List ℕ) → Closes told st bs st' → ReadsAll told st bs []
reads_end told st st' bs (h, p) = ([], inside_path told p ∙ ap (with_rows []) (inside_over told st' [] (step_over told st' h)), refl)

pub reads_row : (told : Told) (row : Row) (rows : List Row) (st st₁ : State) (s rest : List ℕ) → Reads told st s row st₁ rest → ReadsAll told st₁ rest rows → ReadsAll told st s (row ∷ rows)
reads_row told row rows st st₁ s rest p (seens, a, b) = (
  seen_before row rest ∷ seens,
  inside_path told p ∙ ap (with_rows (seen_before row rest ∷ [])) a,
  ap (λ (x : List Row). row ∷ x) b,
)

pub all_written_read : (told : Told) (rows : List Row) (st st' : State) (bs : List ℕ) → fit_all told.edition rows st ≡ fits st' bs → ReadsAll told st bs rows
unfolding fit_all
all_written_read told [] st st' bs q = reads_end told st st' bs (closing_read told st st' bs q)
all_written_read told (row ∷ rows) st st' bs q =
    let (st₁, cs, ds, q₁, q₂, q₃) = then_inv (fit_row told.edition st row) (fit_all told.edition rows) st' bs q in
    rw q₃ (reads_row told row rows st st₁ (cs ++ ds) ds (row_written_read told row st st₁ cs q₁ ds) (all_written_read told rows st₁ st' ds q₂))
