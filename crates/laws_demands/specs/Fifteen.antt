-- What 15 means: the rows before the one that it names begin a table (some rows behind them complete it), and with that row none do:
-- a row that fits nowhere fits nowhere, whatever follows.
use Rattle.std.specs.Prelude.{ℕ, zero, suc, ◌+◌, ◌≤◌, List, [], ◌∷◌, ◌++◌, map, Bool, true, false, ◌≡◌, refl, length}
use Rattle.std.proofs.Common.{append_assoc, append-nil, ap, sym, ◌∙◌, subst, arith}
use Rattle.meaning.specs.Told.{Edition}
use Rattle.meaning.specs.Editions.{closed, State, state}
use Rattle.meaning.specs.Reading.{Row}
use Rattle.meaning.specs.Headers.{start}
use Rattle.meaning.specs.Writing.{Fit, unfit, fits, fit_row, close, Cell, cell, broken, Opens, envelope_row, inner_row, opens_of, Envelope, Plan, stuck, plan, on_plan, new_plan, row_plan, turn_plan, end_plan, next_row, last_row, plan_of, whole_plan}
use Rattle.laws_steps.specs.Envelopes.{opening_row}
use Rattle.laws_steps.specs.Plans.{OpensIs, opens_is, fits_inner, Planned, plan_rows, plan_end, plan_turn}
use Rattle.laws_demands.specs.Completing.{Sound, completes, row_sound, start_sound}

-- Rows that begin a table

abbrev Any : List Envelope → Type 0
Any vs = Unit {0}

-- some rows behind these make a plan
abbrev Ends : Edition → List Cell → ℕ → Bool → State → Type 0
Ends e cs i b st = (more : List Row) × (bs : List ℕ) × Planned e Any (cs ++ map cell more) i b st bs

ends_here : (e : Edition) (i : ℕ) (b : Bool) (st : State) → Sound st → Ends e [] i b st
ends_here e i true st s =
    let (rows, st', bs, q) = completes e st s in
    (rows, bs, subst (λ (x : List Row). Planned e Any (map cell x) i true st bs) (append-nil rows) (plan_rows e Any rows [] true (plan_end e Any tt) i st st' bs q))
ends_here e i false st s =
    let (rows, st', bs, q) = completes e st s in
    let (last, st₂, ds, q₂) = completes e (start true) (start_sound true) in
    let base : (j : ℕ) (st₃ st₄ : State) (cs : List ℕ) → close e st₃ ≡ fits st₄ cs → Planned e Any (map cell (opening_row true ∷ last)) j false st₃ cs
    = λ j st₃ st₄ cs r. plan_turn e Any Any true (map cell last) j st₃ st₄ cs ds r (λ vs x. tt)
    (subst (λ (x : List Row). Planned e Any (map cell x) (suc j) true (start true) ds) (append-nil last) (plan_rows e Any last [] true (plan_end e Any tt) (suc j) (start true) st₂ ds q₂)) in
    (rows ++ (opening_row true ∷ last), bs, plan_rows e Any rows (opening_row true ∷ last) false base i st st' bs q)

stuck_plan : {A : Type 0} {i : ℕ} {bs : List ℕ} {vs : List Envelope} → plan bs vs ≡ stuck i → A
stuck_plan q = let z : ◌≡◌ {A = ℕ} 0 1 = cc q in absurd (omega arith)

on_inv : (bs : List ℕ) (p : Plan) (j : ℕ) → on_plan bs p ≡ stuck j → p ≡ stuck j
on_inv bs (stuck i) j q = q
on_inv bs (plan cs vs) j q = stuck_plan q

new_inv : (i : ℕ) (b : Bool) (bs : List ℕ) (p : Plan) (j : ℕ) → new_plan i b bs p ≡ stuck j → p ≡ stuck j
new_inv i b bs (stuck k) j q = q
new_inv i b bs (plan cs vs) j q = stuck_plan q

same_index : (i n : ℕ) → stuck i ≡ stuck (i + suc n) → ⊥
same_index i n q = let e : i ≡ i + suc n = cc q in omega arith

ends_row : (e : Edition) (row : Row) (xs : List Cell) (i : ℕ) (b : Bool) (st : State) (f : State → Plan) (n : ℕ) (o : Fit) → fit_row e st row ≡ o → row_plan i f o ≡ stuck (i + suc n)
    → ((st₁ : State) → Sound st₁ → f st₁ ≡ stuck (i + suc n) → Ends e xs (suc i) b st₁) → Ends e (cell row ∷ xs) i b st
unfolding plan_of
ends_row e row xs i b st f n unfit r q ih = absurd (same_index i n q)
ends_row e row xs i b st f n (fits st₁ cs) r q ih =
    let (more, bs, (vs, p, _)) = ih st₁ (row_sound e row st st₁ cs r) (on_inv cs (f st₁) (i + suc n) q) in
    (more, cs ++ bs, (vs, rw (fits_inner e row st st₁ cs r, r) (ap (on_plan cs) p), tt))

ends_turn : (e : Edition) (c : Bool) (xs : List Cell) (i : ℕ) (st : State) (f : State → Plan) (n : ℕ) (o : Fit) → close e st ≡ o → turn_plan i c f o ≡ stuck (i + suc n)
    → (f (start c) ≡ stuck (i + suc n) → Ends e xs (suc i) c (start c)) → Ends e (cell (opening_row c) ∷ xs) i false st
ends_turn e c xs i st f n unfit r q ih = absurd (same_index i n q)
ends_turn e c xs i st f n (fits st₁ cs) r q ih =
    let (more, bs, p) = ih (new_inv i c cs (f (start c)) (i + suc n) q) in
    (more, cs, plan_turn e Any Any c (xs ++ map cell more) i st st₁ cs bs r (λ vs x. tt) p)

ends_next : (e : Edition) (row : Row) (xs : List Cell) (i : ℕ) (b : Bool) (st : State) (f : Bool → State → Plan) (n : ℕ) (o : Opens) → OpensIs row o → next_row e b st i row f o ≡ stuck (i + suc n)
    → ((c : Bool) (st₁ : State) → Sound st₁ → f c st₁ ≡ stuck (i + suc n) → Ends e xs (suc i) c st₁) → Ends e (cell row ∷ xs) i b st
ends_next e row xs i b st f n inner_row r q ih = ends_row e row xs i b st (f b) n (fit_row e st row) refl q (ih b)
ends_next e row xs i true st f n (envelope_row c) r q ih = absurd (same_index i n q)
ends_next e row xs i false st f n (envelope_row c) r q ih =
    subst (λ (x : Row). Ends e (cell x ∷ xs) i false st) (sym r) (ends_turn e c xs i st (f c) n (close e st) refl q (ih c (start c) (start_sound c)))

-- rows before the one that fits nowhere begin a table
begins : (e : Edition) (xs zs : List Cell) (i : ℕ) (b : Bool) (st : State) → Sound st → plan_of e (xs ++ zs) i b st ≡ stuck (i + length xs) → Ends e xs i b st
unfolding plan_of
begins e [] zs i b st s q = ends_here e i b st s
begins e (broken ∷ xs) zs i b st s q = absurd (same_index i (length xs) q)
begins e (cell row ∷ xs) zs i b st s q =
    ends_next e row xs i b st (plan_of e (xs ++ zs) (suc i)) (length xs) (opens_of row) (opens_is row) q
    (λ c st₁ s₁ p. begins e xs zs (suc i) c st₁ s₁ (p ∙ ap stuck (omega arith)))

-- A row that fits nowhere

-- where a plan is stuck: here, or behind
module _ {A : Type 0} (i j : ℕ) (here-stuck : i ≡ j → A) where
  row_stuck : (f : State → Plan) (o : Fit) → ((st : State) → f st ≡ stuck j → A) → row_plan i f o ≡ stuck j → A
  row_stuck f unfit h p = here-stuck (cc p)
  row_stuck f (fits st bs) h p = h st (on_inv bs (f st) j p)

  turn_stuck : (b : Bool) (f : State → Plan) (o : Fit) → ((st : State) → f st ≡ stuck j → A) → turn_plan i b f o ≡ stuck j → A
  turn_stuck b f unfit h p = here-stuck (cc p)
  turn_stuck b f (fits st bs) h p = h (start b) (new_inv i b bs (f (start b)) j p)

  next_stuck : (e : Edition) (b : Bool) (st : State) (row : Row) (f : Bool → State → Plan) (o : Opens) → ((c : Bool) (st : State) → f c st ≡ stuck j → A) → next_row e b st i row f o ≡ stuck j → A
  next_stuck e b st row f inner_row h p = row_stuck (f b) (fit_row e st row) (h b) p
  next_stuck e true st row f (envelope_row c) h p = here-stuck (cc p)
  next_stuck e false st row f (envelope_row c) h p = turn_stuck c (f c) (close e st) (h c) p

  end_stuck : (o : Fit) → end_plan i o ≡ stuck j → A
  end_stuck unfit p = here-stuck (cc p)
  end_stuck (fits st bs) p = stuck_plan p

  last_stuck : (e : Edition) (b : Bool) (st : State) → last_row e b st i ≡ stuck j → A
  last_stuck e true st p = end_stuck (close e st) p
  last_stuck e false st p = here-stuck (cc p)

-- a row from i on is named, or the row count
pub stuck_between : (e : Edition) (cs : List Cell) (i : ℕ) (b : Bool) (st : State) (j : ℕ) → plan_of e cs i b st ≡ stuck j → (i ≤ j) × (j ≤ i + length cs)
unfolding plan_of
stuck_between e [] i b st j q = last_stuck i j (λ x. (omega arith, omega arith)) e b st q
stuck_between e (broken ∷ cs) i b st j q = let x : i ≡ j = cc q in (omega arith, omega arith)
stuck_between e (cell row ∷ cs) i b st j q =
    next_stuck i j (λ x. (omega arith, omega arith)) e b st row (plan_of e cs (suc i)) (opens_of row) (λ c st₁ p. let h = stuck_between e cs (suc i) c st₁ j p in (omega arith, omega arith)) q

-- stuck at j with one continuation, stuck at j with the other
abbrev Same : ℕ → Plan → Plan → Type 0
Same j p q = p ≡ stuck j → q ≡ stuck j

same_on : (j : ℕ) (bs : List ℕ) (p q : Plan) → Same j p q → Same j (on_plan bs p) (on_plan bs q)
same_on j bs p q h r = rw (h (on_inv bs p j r)) refl

same_new : (j i : ℕ) (b : Bool) (bs : List ℕ) (p q : Plan) → Same j p q → Same j (new_plan i b bs p) (new_plan i b bs q)
same_new j i b bs p q h r = rw (h (new_inv i b bs p j r)) refl

same_row : (j i : ℕ) (f g : State → Plan) (o : Fit) → ((st : State) → Same j (f st) (g st)) → Same j (row_plan i f o) (row_plan i g o)
same_row j i f g unfit h r = r
same_row j i f g (fits st bs) h r = same_on j bs (f st) (g st) (h st) r

same_turn : (j i : ℕ) (b : Bool) (f g : State → Plan) (o : Fit) → ((st : State) → Same j (f st) (g st)) → Same j (turn_plan i b f o) (turn_plan i b g o)
same_turn j i b f g unfit h r = r
same_turn j i b f g (fits st bs) h r = same_new j i b bs (f (start b)) (g (start b)) (h (start b)) r

same_next : (j : ℕ) (e : Edition) (b : Bool) (st : State) (i : ℕ) (row : Row) (f g : Bool → State → Plan) (o : Opens) → ((b : Bool) (st : State) → Same j (f b st) (g b st)) → Same j (next_row e b st i row f o) (next_row e b st i row g o)
same_next j e b st i row f g inner_row h r = same_row j i (f b) (g b) (fit_row e st row) (h b) r
same_next j e true st i row f g (envelope_row c) h r = r
same_next j e false st i row f g (envelope_row c) h r = same_turn j i c (f c) (g c) (close e st) (h c) r

stuck_stays : (e : Edition) (xs : List Cell) (c : Cell) (zs ys : List Cell) (i : ℕ) (b : Bool) (st : State) → plan_of e (xs ++ (c ∷ zs)) i b st ≡ stuck (i + length xs) → plan_of e (xs ++ (c ∷ ys)) i b st ≡ stuck (i + length xs)
unfolding plan_of
stuck_stays e [] broken zs ys i b st q = q
stuck_stays e [] (cell row) zs ys i b st q =
    same_next (i + 0) e b st i row (plan_of e zs (suc i)) (plan_of e ys (suc i)) (opens_of row) (λ c st₁ p. let h = stuck_between e zs (suc i) c st₁ (i + 0) p in absurd (omega arith)) q
stuck_stays e (broken ∷ xs) c zs ys i b st q = q
stuck_stays e (cell row ∷ xs) c zs ys i b st q =
    same_next (i + suc (length xs)) e b st i row (plan_of e (xs ++ (c ∷ zs)) (suc i)) (plan_of e (xs ++ (c ∷ ys)) (suc i)) (opens_of row)
    (λ d st₁ p. stuck_stays e xs c zs ys (suc i) d st₁ (p ∙ ap stuck (omega arith)) ∙ ap stuck (omega arith)) q

-- a place in a list
split_at : (cs : List Cell) (j : ℕ) → j ≤ length cs → (xs : List Cell) × (zs : List Cell) × (cs ≡ xs ++ zs) × (length xs ≡ j)
split_at cs zero h = ([], cs, refl, refl)
split_at [] (suc j) h = absurd (omega arith)
split_at (c ∷ cs) (suc j) h = let (xs, zs, p, q) = split_at cs j (omega arith) in (c ∷ xs, zs, ap (λ (x : List Cell). c ∷ x) p, ap suc q)

-- Rows begin a table of the edition if some rows behind them make one, its limits aside
pub IsTable : Edition → List Cell → Type 0
IsTable e cs = (bs : List ℕ) × (vs : List Envelope) × (whole_plan e cs ≡ plan bs vs)

pub plan_table : (e : Edition) (cs : List Cell) (bs : List ℕ) (vs : List Envelope) → whole_plan e cs ≡ plan bs vs → IsTable e cs
unfolding IsTable
plan_table e cs bs vs q = (bs, vs, q)

pub BeginsTable : Edition → List Cell → Type 0
BeginsTable e cs = (more : List Cell) × IsTable e (cs ++ more)

-- rows that end before the row that is named begin a table; with that row, none do; if there is none, they are no table
abbrev pub NoneWith : Edition → List Cell → List Cell → Type 0
NoneWith e xs [] = IsTable e xs → ⊥
NoneWith e xs (c ∷ zs) = BeginsTable e (xs ++ (c ∷ [])) → ⊥

closed_sound : Sound (state closed 0 false)
closed_sound t = absurd t

pub stuck_means : (e : Edition) (cs : List Cell) (j : ℕ) → whole_plan e cs ≡ stuck j → (xs : List Cell) × (zs : List Cell) × (cs ≡ xs ++ zs) × (length xs ≡ j) × BeginsTable e xs × NoneWith e xs zs
unfolding BeginsTable IsTable
stuck_means e cs j q =
    let h = stuck_between e cs 0 false (state closed 0 false) j q in
    let (xs, zs, p, l) = split_at cs j (omega arith) in
    let r : plan_of e (xs ++ zs) 0 false (state closed 0 false) ≡ stuck (0 + length xs) = ap (λ (x : List Cell). whole_plan e x) (sym p) ∙ q ∙ ap stuck (omega arith) in
    let (more, bs, (vs, b, _)) = begins e xs zs 0 false (state closed 0 false) closed_sound r in
    (xs, zs, p, l, (map cell more, (bs, vs, b)), none_with xs zs r)
  where
    none_with : (xs zs : List Cell) → plan_of e (xs ++ zs) 0 false (state closed 0 false) ≡ stuck (0 + length xs) → NoneWith e xs zs
    none_with xs [] r = λ (bs, vs, h). stuck_plan (sym h ∙ ap (whole_plan e) (sym (append-nil xs)) ∙ r)
    none_with xs (c ∷ zs) r = λ (more, (bs, vs, h)).
        stuck_plan (sym h ∙ ap (whole_plan e) (append_assoc xs (c ∷ []) more) ∙ stuck_stays e xs c zs more 0 false (state closed 0 false) r)
