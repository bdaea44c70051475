-- Where a plan stops: rows lead somewhere or stop at one of them, whatever follows (`Led`). So the rows before the one where a plan is stuck begin one that
-- is not, and with that row none does.
use Rattle.std.specs.Prelude.{ℕ, suc, ◌+◌, ◌<◌, List, [], ◌∷◌, ◌++◌, map, Bool, true, false, ◌≡◌, refl, length}
use Rattle.std.proofs.Common.{append-nil, ap, sym, ◌∙◌, subst, arith}
use Rattle.meaning.specs.Told.{Edition}
use Rattle.meaning.specs.Editions.{State}
use Rattle.meaning.specs.Reading.{Row}
use Rattle.meaning.specs.Headers.{start}
use Rattle.meaning.specs.Writing.{Fit, unfit, fits, fit_row, close, Cell, cell, broken, Opens, envelope_row, inner_row, opens_of, Envelope, Plan, stuck, plan, on_plan, new_plan, plan_of}
use Rattle.laws_steps.specs.Envelopes.{opening_row}
use Rattle.laws_steps.specs.Plans.{Planned, plan_rows, plan_end, plan_turn}
use Rattle.laws_demands.specs.Completing.{Sound, completes, row_sound, start_sound}
use Rattle.laws_demands.specs.Fifteen.{stuck_between}

-- the rows xs from row i on stop at row j; or lead to a state, and what follows decides
data Led (e : Edition) (xs : List Cell) (i : ℕ) (b : Bool) (st : State) : Type 0 where
  stops : (j : ℕ) → j < i + length xs → ((ys : List Cell) → plan_of e (xs ++ ys) i b st ≡ stuck j) → Led e xs i b st
  leads : (c : Bool) (st' : State) → Sound st' → ((ys : List Cell) (j : ℕ) → plan_of e ys (i + length xs) c st' ≡ stuck j → plan_of e (xs ++ ys) i b st ≡ stuck j)
      → ((ys : List Cell) (bs : List ℕ) (vs : List Envelope) → plan_of e ys (i + length xs) c st' ≡ plan bs vs → (cs : List ℕ) × (ws : List Envelope) × (plan_of e (xs ++ ys) i b st ≡ plan cs ws)) → Led e xs i b st

-- one row more before them: the plan goes through `through`, which keeps where it is stuck and that it is a plan
led_row : (e : Edition) (r : Cell) (xs : List Cell) (i : ℕ) (b c : Bool) (st st₁ : State) (through : Plan → Plan) → ((j : ℕ) → through (stuck j) ≡ stuck j) → ((bs : List ℕ) (vs : List Envelope) → (cs : List ℕ) × (ws : List Envelope) × (through (plan bs vs) ≡ plan cs ws))
    → ((ys : List Cell) → plan_of e ((r ∷ xs) ++ ys) i b st ≡ through (plan_of e (xs ++ ys) (suc i) c st₁)) → Led e xs (suc i) c st₁ → Led e (r ∷ xs) i b st
led_row e r xs i b c st st₁ through keeps makes is (stops j h f) = stops j (omega arith) (λ ys. is ys ∙ ap through (f ys) ∙ keeps j)
led_row e r xs i b c st st₁ through keeps makes is (leads d st' s f g) = leads d st' s
    (λ ys j q. is ys ∙ ap through (f ys j (ap (λ (n : ℕ). plan_of e ys n d st') (omega arith) ∙ q)) ∙ keeps j)
    (λ ys bs vs q.
    let (cs, ws, p) = g ys bs vs (ap (λ (n : ℕ). plan_of e ys n d st') (omega arith) ∙ q) in
    let (cs₁, ws₁, m) = makes cs ws in
    (cs₁, ws₁, is ys ∙ ap through p ∙ m))

led : (e : Edition) (xs : List Cell) (i : ℕ) (b : Bool) (st : State) → Sound st → Led e xs i b st
unfolding plan_of
led e [] i b st s = leads b st s (λ ys j q. ap (λ (n : ℕ). plan_of e ys n b st) (omega arith) ∙ q) (λ ys bs vs q. (bs, vs, ap (λ (n : ℕ). plan_of e ys n b st) (omega arith) ∙ q))
led e (broken ∷ xs) i b st s = stops i (omega arith) (λ ys. refl)
led e (cell r ∷ xs) i b st s = by (opens_of r) refl b refl (λ c st₁. led e xs (suc i) c st₁)
  where
    inside : (o : Fit) → fit_row e st r ≡ o → opens_of r ≡ inner_row → ((c : Bool) (st₁ : State) → Sound st₁ → Led e xs (suc i) c st₁) → Led e (cell r ∷ xs) i b st
    inside unfit q p ih = stops i (omega arith) (λ ys. rw (p, q) refl)
    inside (fits st₁ cs) q p ih = led_row e (cell r) xs i b b st st₁ (on_plan cs) (λ j. refl) (λ bs vs. (_, vs, refl)) (λ ys. rw (p, q) refl) (ih b st₁ (row_sound e r st st₁ cs q))

    turns : (c : Bool) (o : Fit) → close e st ≡ o → opens_of r ≡ envelope_row c → b ≡ false → ((c : Bool) (st₁ : State) → Sound st₁ → Led e xs (suc i) c st₁) → Led e (cell r ∷ xs) i b st
    turns c unfit q p z ih = stops i (omega arith) (λ ys. rw (p, z, q) refl)
    turns c (fits st₁ cs) q p z ih = led_row e (cell r) xs i b c st (start c) (new_plan i c cs) (λ j. refl) (λ bs vs. (cs, _, refl)) (λ ys. rw (p, z, q) refl) (ih c (start c) (start_sound c))

    by : (o : Opens) → opens_of r ≡ o → (x : Bool) → b ≡ x → ((c : Bool) (st₁ : State) → Sound st₁ → Led e xs (suc i) c st₁) → Led e (cell r ∷ xs) i b st
    by inner_row p x z ih = inside (fit_row e st r) refl p ih
    by (envelope_row c) p true z ih = stops i (omega arith) (λ ys. rw (p, z) refl)
    by (envelope_row c) p false z ih = turns c (close e st) refl p z ih

stuck_same : {i j : ℕ} → stuck i ≡ stuck j → i ≡ j
stuck_same q = cc q

stuck_plan : {A : Type 0} {i : ℕ} {bs : List ℕ} {vs : List Envelope} → plan bs vs ≡ stuck i → A
stuck_plan q = let z : ◌≡◌ {A = ℕ} 0 1 = cc q in absurd (omega arith)

-- from every state some rows lead to the table's end
abbrev Any : List Envelope → Type 0
Any vs = Unit {0}

completed : (e : Edition) (i : ℕ) (b : Bool) (st : State) → Sound st → (more : List Row) × (bs : List ℕ) × Planned e Any (map cell more) i b st bs
completed e i true st s =
    let (rows, st', bs, q) = completes e st s in
    (rows, bs, subst (λ (x : List Row). Planned e Any (map cell x) i true st bs) (append-nil rows) (plan_rows e Any rows [] true (plan_end e Any tt) i st st' bs q))
completed e i false st s =
    let (rows, st', bs, q) = completes e st s in
    let (last, ds, inner) = completed_base in
    (rows ++ (opening_row true ∷ last), bs, plan_rows e Any rows (opening_row true ∷ last) false (λ j st₁ st₂ cs r. plan_turn e Any Any true (map cell last) j st₁ st₂ cs ds r (λ vs x. tt) (inner (suc j))) i st st' bs q)
  where
    completed_base : (last : List Row) × (ds : List ℕ) × ((j : ℕ) → Planned e Any (map cell last) j true (start true) ds)
    completed_base =
        let (last, st₂, ds, q) = completes e (start true) (start_sound true) in
        (last, ds, λ j. subst (λ (x : List Row). Planned e Any (map cell x) j true (start true) ds) (append-nil last) (plan_rows e Any last [] true (plan_end e Any tt) j (start true) st₂ ds q))

module _ (e : Edition) (i : ℕ) (b : Bool) (st : State) (sound : Sound st) where
  -- the rows before begin a plan
  pub begins_plan : (xs zs : List Cell) → plan_of e (xs ++ zs) i b st ≡ stuck (i + length xs) → (more : List Row) × (bs : List ℕ) × (vs : List Envelope) × (plan_of e (xs ++ map cell more) i b st ≡ plan bs vs)
  begins_plan xs zs q = by (led e xs i b st sound)
    where
      by : Led e xs i b st → (more : List Row) × (bs : List ℕ) × (vs : List Envelope) × (plan_of e (xs ++ map cell more) i b st ≡ plan bs vs)
      by (stops j h f) = let same = stuck_same (sym (f zs) ∙ q) in absurd (omega arith)
      by (leads c st' s f g) =
          let (more, bs, (vs, p, _)) = completed e (i + length xs) c st' s in
          let (cs, ws, r) = g (map cell more) bs vs p in
          (more, cs, ws, r)

  -- with that row none do: one row decides, whatever follows
  pub with_none : (xs : List Cell) (c : Cell) (zs ys : List Cell) → plan_of e (xs ++ (c ∷ zs)) i b st ≡ stuck (i + length xs) → plan_of e (xs ++ (c ∷ ys)) i b st ≡ stuck (i + length xs)
  with_none xs c zs ys q = by (led e xs i b st sound)
    where
      one : (d : Bool) (st' : State) → ((zs : List Cell) (j : ℕ) → plan_of e zs (i + length xs) d st' ≡ stuck j → plan_of e (xs ++ zs) i b st ≡ stuck j) → plan_of e (c ∷ zs) (i + length xs) d st' ≡ stuck (i + length xs) → Led e (c ∷ []) (i + length xs) d st' → plan_of e (xs ++ (c ∷ ys)) i b st ≡ stuck (i + length xs)
      one d st' f p (stops j h k) = f (c ∷ ys) (i + length xs) (k ys ∙ sym (k zs) ∙ p)
      one d st' f p (leads x st'' s k m) = absurd (on (plan_of e zs (i + length xs + 1) x st'') refl)
        where
          on : (o : Plan) → plan_of e zs (i + length xs + 1) x st'' ≡ o → ⊥
          on (stuck j) z = let same = stuck_same (sym (k zs j z) ∙ p) in let l = stuck_between e zs (i + length xs + 1) x st'' j z in omega arith
          on (plan bs vs) z = let (cs, ws, r) = m zs bs vs z in stuck_plan (sym r ∙ p)

      by : Led e xs i b st → plan_of e (xs ++ (c ∷ ys)) i b st ≡ stuck (i + length xs)
      by (stops j h f) = let same = stuck_same (sym (f (c ∷ zs)) ∙ q) in absurd (omega arith)
      by (leads d st' s f g) = one d st' f (here (plan_of e (c ∷ zs) (i + length xs) d st') refl) (led e (c ∷ []) (i + length xs) d st' s)
        where
          here : (o : Plan) → plan_of e (c ∷ zs) (i + length xs) d st' ≡ o → plan_of e (c ∷ zs) (i + length xs) d st' ≡ stuck (i + length xs)
          here (stuck j) z = z ∙ ap stuck (stuck_same (sym (f (c ∷ zs) j z) ∙ q))
          here (plan bs vs) z = let (cs, ws, r) = g (c ∷ zs) bs vs z in stuck_plan (sym r ∙ q)
