-- Every row shows bytes of the header itself: where a row starts, its view stands. By induction over the steps of a reading.
use Rattle.std.specs.Prelude.{ℕ, zero, suc, ◌+◌, ◌≤◌, Bool, take, drop}
use mathlib.Core.List.{List, [], ◌∷◌, ◌++◌, append_assoc, map}
use Rattle.std.proofs.Math.Bool.{true, false}
use Rattle.std.proofs.Math.Path.{◌≡◌, refl, ap}
use Rattle.std.proofs.Common.{sym, ◌∙◌, subst, arith, eqb→eq, length-append, eqb-true}
use Rattle.std.proofs.Math.Dec.{T}
use Rattle.std.proofs.Math.ListN.{length}
use Rattle.std.proofs.Math.Seq.{take-append_seam, drop-append_seam}
use Rattle.meaning.specs.Basics.{pick}
use Rattle.meaning.specs.Bytes.{length_bytes}
use Rattle.meaning.specs.Told.{Told}
use Rattle.meaning.specs.Editions.{State, Form, text, date, number, block, itself, opens, quiet, is_quiet, no_code}
use Rattle.meaning.specs.Reading.{Seen, seen, reach_back, has_code, Step, fails, over, next, step, done, onward, run, inside}
use Rattle.meaning.specs.Headers.{Placed, placed}
use Rattle.meaning.specs.Writing.{is_only, valid, write_value, lead}
use Rattle.laws_steps.specs.Logic.{are_bytes, bytes_behind}
use Rattle.laws_steps.specs.Values.{allowed}
use Rattle.laws_steps.specs.Lookups.{is_text_form, uncoded_text}
use Rattle.laws_steps.specs.Steps.{quiet_seen, loud_seen}
use Rattle.laws_tables.specs.ReadWritten.{Stepping, Stepped, stepped, rows_inv}

-- the row's view stands where so many bytes of s are left
abbrev pub SeenIn : List ℕ → Seen → Type 0
SeenIn s r = (front : List ℕ) × (tail : List ℕ) × (s ≡ front ++ (r.view ++ tail)) × (r.left ≡ length r.view + length tail)

abbrev pub AllSeen : List ℕ → List Seen → Type 0
AllSeen s [] = Unit {0}
AllSeen s (r ∷ rs) = SeenIn s r × AllSeen s rs

all_seen_behind : (xs s : List ℕ) (rs : List Seen) → AllSeen s rs → AllSeen (xs ++ s) rs
all_seen_behind xs s [] i = tt
all_seen_behind xs s (r ∷ rs) ((front, tail, q, l), i) =
    ((xs ++ front, tail, ap (λ (x : List ℕ). xs ++ x) q ∙ sym (append_assoc xs front (r.view ++ tail)), l), all_seen_behind xs s rs i)

all_seen_append : (s : List ℕ) (rs ts : List Seen) → AllSeen s rs → AllSeen s ts → AllSeen s (rs ++ ts)
all_seen_append s [] ts i j = j
all_seen_append s (r ∷ rs) ts (h, i) j = (h, all_seen_append s rs ts i j)

only_is : (c : ℕ) (v : List ℕ) → T (is_only c v) → v ≡ c ∷ []
only_is c [] t = absurd t
only_is c (b ∷ []) t = ap (λ (x : ℕ). x ∷ []) (eqb→eq b c t)
only_is c (b ∷ (d ∷ v)) t = absurd t

-- the bytes of a move with a value, and the row that it gives
module _ (k n c : ℕ) (v rest : List ℕ) where
  abbrev Shown : Form → Bool → Type 0
  Shown f b = SeenIn ((pick b [] (c ∷ []) ++ write_value f v) ++ rest) (seen k n (length rest + length v + reach_back f) v)

  plainly_shown : (front : List ℕ) → SeenIn ((front ++ v) ++ rest) (seen k n (length rest + length v + 0) v)
  plainly_shown front = (front, rest, append_assoc front v rest, omega arith)

  shown_as : (told : Told) (f : Form) (b : Bool) → (b ≡ true → T (is_text_form f)) → T (allowed told f c v) → is_quiet f ≡ false → Shown f b
  unfolding write_value valid allowed
  shown_as told (text rule) b h ok q =
      let front = pick b [] (c ∷ []) in
      (front, 0 ∷ rest, append_assoc front (v ++ (0 ∷ [])) rest ∙ ap (λ (x : List ℕ). front ++ x) (append_assoc v (0 ∷ []) rest), omega arith)
  shown_as told (date reach designated) b h ok q = plainly_shown (pick b [] (c ∷ []))
  shown_as told number b h ok q = plainly_shown (pick b [] (c ∷ []))
  shown_as told (block w) b h ok q =
      let front = pick b [] (c ∷ []) in let lb = length_bytes w (length v) in
      (front ++ lb, rest, ap (λ (x : List ℕ). x ++ rest) (sym (append_assoc front lb v)) ∙ append_assoc (front ++ lb) v rest, omega arith)
  shown_as told itself true h ok q = absurd (h refl)
  shown_as told itself false h ok q = let o = only_is c v ok in ([], rest, rw o refl, omega arith)
  shown_as told opens true h ok q = absurd (h refl)
  shown_as told opens false h ok q = nothing v ok
    where
      nothing : (v : List ℕ) → T (Rattle.meaning.specs.Basics.is_empty v) → SeenIn (c ∷ rest) (seen k n (length rest + length v + 1) v)
      nothing [] ok = ([], c ∷ rest, refl, omega arith)
      nothing (x ∷ v) ok = absurd ok
  shown_as told quiet b h ok q = let z : ◌≡◌ {A = ℕ} 0 1 = cc q in absurd (omega arith)

step_seen : (told : Told) (st st₁ : State) (s s₁ : List ℕ) (rs : List Seen) (w : Stepping told st s st₁ rs s₁) (b : Bool) → is_quiet w.by.form ≡ b → AllSeen s rs
step_seen told st st₁ s s₁ rs w true q = subst (AllSeen s) (sym (quiet_seen w.by.form w.by.kind st.level w.view s₁ q) ∙ w.rows) tt
step_seen told st st₁ s s₁ rs w false q =
    let m = w.by in
    subst (AllSeen s) (sym (loud_seen m.form m.kind st.level w.view s₁ q) ∙ w.rows) (
      subst (λ (x : List ℕ). SeenIn x (seen m.kind st.level (length s₁ + length w.view + reach_back m.form) w.view)) (sym w.out)
          (shown_as m.kind st.level m.code w.view s₁ told m.form (has_code no_code m) (λ h. uncoded_text told.edition st.room w.member (eqb-true m.code no_code h)) w.ok q),
      tt,
    )

seen_step : (n : ℕ) (told : Told) (st : State) (s : List ℕ) (rows : List Seen) (rest : List ℕ) (x : Step) → T (are_bytes s) → Stepped told st s x
    → ((st₁ : State) (s₁ : List ℕ) (ts : List Seen) → T (are_bytes s₁) → run n told st₁ s₁ ≡ done ts rest → AllSeen s₁ ts) → onward x (run n told) ≡ done rows rest → AllSeen s rows
seen_step n told st s rows rest (fails refusal left) t w ih q = let z : ◌≡◌ {A = ℕ} 0 1 = cc in absurd (omega arith)
seen_step n told st s rows rest (over u) t w ih q = let a : ◌≡◌ {A = List Seen} [] rows = cc q in subst (AllSeen s) a tt
seen_step n told st s rows rest (next st₁ rs s₁) t w ih q =
    let (ts, q₁, q₂) = rows_inv rs (run n told st₁ s₁) rows rest q in
    let front = lead w.by ++ write_value w.by.form w.view in
    let u : T (are_bytes s₁) = bytes_behind front s₁ (subst (λ (x : List ℕ). T (are_bytes x)) w.out t) in
    let later : AllSeen s ts = subst (λ (x : List ℕ). AllSeen x ts) (sym w.out) (all_seen_behind front s₁ ts (ih st₁ s₁ ts u q₁)) in
    subst (AllSeen s) (sym q₂) (all_seen_append s rs ts (step_seen told st st₁ s s₁ rs w (is_quiet w.by.form) refl) later)

seen_run : (n : ℕ) (told : Told) (rest : List ℕ) (st : State) (s : List ℕ) (rows : List Seen) → T (are_bytes s) → run n told st s ≡ done rows rest → AllSeen s rows
unfolding run
seen_run zero told rest st s rows t q = let z : ◌≡◌ {A = ℕ} 0 1 = cc in absurd (omega arith)
seen_run (suc n) told rest st s rows t q = seen_step n told st s rows rest (step told st s) t (stepped told st s t) (seen_run n told rest) q

pub inside_seen : (told : Told) (st : State) (s rest : List ℕ) (rows : List Seen) → T (are_bytes s) → inside told st s ≡ done rows rest → AllSeen s rows
unfolding inside
inside_seen told st s rest rows t q = seen_run (suc (length s)) told rest st s rows t q

-- In a whole header: bytes w from the place `at` on

abbrev pub PlacedIn : ℕ → List ℕ → Placed → Type 0
PlacedIn at w r = (front : List ℕ) × (tail : List ℕ) × (w ≡ front ++ (r.view ++ tail)) × (r.start ≡ at + length front)

abbrev pub AllIn : ℕ → List ℕ → List Placed → Type 0
AllIn at w [] = Unit {0}
AllIn at w (r ∷ rs) = PlacedIn at w r × AllIn at w rs

pub all_in_append : (at : ℕ) (w : List ℕ) (rs ts : List Placed) → AllIn at w rs → AllIn at w ts → AllIn at w (rs ++ ts)
all_in_append at w [] ts i j = j
all_in_append at w (r ∷ rs) ts (h, i) j = (h, all_in_append at w rs ts i j)

pub all_in_behind : (at n : ℕ) (xs w : List ℕ) (rs : List Placed) → length xs ≡ n → AllIn (at + n) w rs → AllIn at (xs ++ w) rs
all_in_behind at n xs w [] h i = tt
all_in_behind at n xs w (r ∷ rs) h ((front, tail, q, s), i) = (
  (xs ++ front, tail, ap (λ (x : List ℕ). xs ++ x) q ∙ sym (append_assoc xs front (r.view ++ tail)), omega (arith, length-append xs front)),
  all_in_behind at n xs w rs h i,
)

pub all_placed : (at end : ℕ) (head bs rest : List ℕ) (rs : List Seen) → end ≡ at + length head + length bs → AllSeen bs rs → AllIn at ((head ++ bs) ++ rest) (map (placed end) rs)
all_placed at end head bs rest [] h i = tt
all_placed at end head bs rest (r ∷ rs) h ((front, tail, q, l), i) = (
  (
    head ++ front,
    tail ++ rest,
    ap (λ (x : List ℕ). (head ++ x) ++ rest) q ∙ simp append_assoc,
    omega (arith, length-append head front, ap length q, length-append front (r.view ++ tail), length-append r.view tail),
  ),
  all_placed at end head bs rest rs h i,
)

-- what a placed row views in the input, and where
pub view_part : (w payload : List ℕ) (r : Placed) → PlacedIn 0 w r → (take (length r.view) (drop r.start (w ++ payload)) ≡ r.view) × (r.start + length r.view ≤ length w)
view_part w payload r (front, tail, q, s) =
    let e : r.start ≡ length front = omega arith in
    let p : w ++ payload ≡ front ++ (r.view ++ (tail ++ payload)) = ap (λ (x : List ℕ). x ++ payload) q ∙ simp append_assoc in
    let d : drop r.start (w ++ payload) ≡ r.view ++ (tail ++ payload) = rw (e, p) (drop-append_seam front (r.view ++ (tail ++ payload))) in
    (ap (take (length r.view)) d ∙ take-append_seam r.view (tail ++ payload), omega (arith, ap length q, length-append front (r.view ++ tail), length-append r.view tail))
