-- What the reader reads inside an envelope, the writer writes again, byte for byte: each step is undone by the writer's way.
use Rattle.std.specs.Prelude.{ℕ, zero, suc, ◌≤◌, Bool, true, false, ◌⊎◌, ◌≡◌, refl, T, eqb, length}
use mathlib.Core.List.{List, [], ◌∷◌, ◌++◌, append_assoc, map}
use Rattle.std.proofs.Common.{inl, inr, ◌∙◌, subst, arith}
use Rattle.std.proofs.Math.Path.{ap, sym}
use Rattle.std.proofs.Math.Dec.{eqb_refl}
use Rattle.std.proofs.Math.ListN.{length-append}
use Rattle.std.proofs.lemmas.Bool.{eqb-false}
use Rattle.meaning.specs.Basics.{pick, In}
use Rattle.meaning.specs.Bytes.{Taken, took, failed}
use Rattle.meaning.specs.Told.{Edition, strict, Told}
use Rattle.meaning.specs.Editions.{State, go, Form, text, date, number, block, itself, opens, quiet, is_quiet, Move, no_code, moves}
use Rattle.meaning.specs.Reading.{Seen, row_of, take_value, seen_by, Found, none, hit, has_code, look, is_closed, strange, too_deep, Step, fails, over, next, step_taken, value_from, step_move, step, Out, dry, fault, done, with_rows, onward, run, inside}
use Rattle.meaning.specs.Writing.{valid, write_value, way_of, fits, lead, fit_row, close}
use Rattle.laws_steps.specs.Logic.{is_true, are_bytes, other_bytes, bytes_behind}
use Rattle.laws_steps.specs.Values.{Was, allowed, value_out}
use Rattle.laws_steps.specs.Lookups.{Looked, looked, quiet_coded, row_at, own_found}
use Rattle.laws_steps.specs.Steps.{loud_seen, quiet_seen}
use Rattle.laws_steps.specs.Fits.{fit_once, close_once}
use Rattle.laws_steps.specs.WrittenRead.{fit_all, then_make}
use Rattle.laws_tables.specs.Shortest.{Shortest, shortest, deep_by_kind}
use Rattle.laws_tables.specs.Ahead.{all_behind, reach}

-- A row's own move is the writer's way to it

pub fit_own : (e : Edition) (st : State) (m : Move) (v : List ℕ) → In m (moves e st.room) → is_quiet m.form ≡ false → too_deep m st ≡ false → T (valid m.form m.code v)
    → fit_row e st (row_at m st.level v) ≡ fits (go m.next st) (lead m ++ write_value m.form v)
unfolding way_of
fit_own e st m v i q d ok =
    fit_once e st (row_at m st.level v) ∙ rw (is_true (eqb st.level st.level) (eqb_refl st.level), own_found e st.room st.level v i q ok, d) refl

-- What a step tells

pub record Stepping (told : Told) (st : State) (s : List ℕ) (st₁ : State) (rs : List Seen) (s₁ : List ℕ) : Type 0 where
  pub by : Move
  pub view : List ℕ
  pub member : In by (moves told.edition st.room)
  pub flat : too_deep by st ≡ false
  pub ok : T (allowed told by.form by.code view)
  pub to : go by.next st ≡ st₁
  pub rows : seen_by by.form by.kind st.level view s₁ ≡ rs
  pub out : s ≡ (lead by ++ write_value by.form view) ++ s₁

abbrev pub Stepped : Told → State → List ℕ → Step → Type 0
Stepped told st s (fails refusal left) = Unit {0}
Stepped told st s (over t) = (is_closed st.room ≡ true) × (s ≡ t)
Stepped told st s (next st₁ rs s₁) = Stepping told st s st₁ rs s₁

stepped_end : (told : Told) (st : State) (s : List ℕ) (refusal left : ℕ) (b : Bool) → is_closed st.room ≡ b → Stepped told st s (pick b (over s) (fails refusal left))
stepped_end told st s refusal left true q = (q, refl)
stepped_end told st s refusal left false q = tt

code_is : (m : Move) (b : ℕ) → has_code no_code m ≡ false → (m.code ≡ b) ⊎ (m.code ≡ no_code) → m.code ≡ b
code_is m b q (inl e) = e
code_is m b q (inr e) = absurd (eqb-false m.code no_code q e)

led_by : (m : Move) (b : ℕ) (s w rest : List ℕ) (z : Bool) → has_code no_code m ≡ z → (m.code ≡ b) ⊎ (m.code ≡ no_code) → pick z (b ∷ s) s ≡ w ++ rest → b ∷ s ≡ (pick z [] (m.code ∷ []) ++ w) ++ rest
led_by m b s w rest true q c e = e
led_by m b s w rest false q c e = rw (code_is m b q c, e) refl

stepped_taken : (told : Told) (st : State) (m : Move) (b : ℕ) (s : List ℕ) (g : Taken) → In m (moves told.edition st.room) → (m.code ≡ b) ⊎ (m.code ≡ no_code) → too_deep m st ≡ false
    → Was (write_value m.form) (allowed told m.form m.code) (value_from m b s) g → Stepped told st (b ∷ s) (step_taken st m g)
stepped_taken told st m b s (failed refusal left) i c d w = tt
stepped_taken told st m b s (took v rest) i c d w =
    record { by = m; view = v; member = i; flat = d; ok = w.1; to = refl; rows = refl; out = led_by m b s (write_value m.form v) rest (has_code no_code m) refl c w.0 }

stepped_deep : (told : Told) (st : State) (m : Move) (b : ℕ) (s : List ℕ) (g : Taken) → In m (moves told.edition st.room) → (m.code ≡ b) ⊎ (m.code ≡ no_code) → (z : Bool) → too_deep m st ≡ z
    → Was (write_value m.form) (allowed told m.form m.code) (value_from m b s) g → Stepped told st (b ∷ s) (pick z (fails 12 (suc (length s))) (step_taken st m g))
stepped_deep told st m b s g i c true q w = tt
stepped_deep told st m b s g i c false q w = stepped_taken told st m b s g i c q w

from_bytes : (b : ℕ) (s : List ℕ) (z : Bool) → T (are_bytes (b ∷ s)) → T (are_bytes (pick z (b ∷ s) s))
from_bytes b s true t = t
from_bytes b s false t = other_bytes b s t

stepped_found : (told : Told) (st : State) (b : ℕ) (s : List ℕ) (o : Found) → T (are_bytes (b ∷ s)) → Looked b (moves told.edition st.room) o → Stepped told st (b ∷ s) (step_move told st b s o)
unfolding step_move
stepped_found told st b s none t i = stepped_end told st (b ∷ s) (strange st.room) (suc (length s)) (is_closed st.room) refl
stepped_found told st b s (hit m) t i =
    stepped_deep told st m b s (take_value told m.form (suc (length s)) m.code (value_from m b s)) i.0 i.1 (too_deep m st) refl
    (value_out told m.form (suc (length s)) m.code (value_from m b s) (from_bytes b s (has_code no_code m) t))

pub stepped : (told : Told) (st : State) (s : List ℕ) → T (are_bytes s) → Stepped told st s (step told st s)
unfolding step
stepped told st [] t = stepped_end told st [] 6 0 (is_closed st.room) refl
stepped told st (b ∷ s) t = stepped_found told st b s (look b (moves told.edition st.room)) t (looked b (moves told.edition st.room))

-- The inside of an envelope

-- the rows are written: as no more bytes than were taken, and a strict reading took just these
pub record Back (told : Told) (st : State) (s : List ℕ) (rows : List Seen) (rest : List ℕ) : Type 0 where
  pub ends : State
  pub written : List ℕ
  pub taken : List ℕ
  pub fitted : fit_all told.edition (map row_of rows) st ≡ fits ends written
  pub parts : s ≡ taken ++ rest
  pub shorter : length written ≤ length taken
  pub exact : told.strictness ≡ strict → written ≡ taken

quiet_writes : (f : Form) (v : List ℕ) → is_quiet f ≡ true → write_value f v ≡ []
unfolding write_value
quiet_writes (text rule) v q = cc
quiet_writes (date reach designated) v q = cc
quiet_writes number v q = cc
quiet_writes (block w) v q = cc
quiet_writes itself v q = cc
quiet_writes opens v q = cc
quiet_writes quiet v q = refl

pub rows_inv : (rs : List Seen) (o : Out) (rows : List Seen) (rest : List ℕ) → with_rows rs o ≡ done rows rest → (ts : List Seen) × (o ≡ done ts rest) × (rows ≡ rs ++ ts)
rows_inv rs dry rows rest q = let z : ◌≡◌ {A = ℕ} 0 1 = cc in absurd (omega arith)
rows_inv rs (fault refusal left) rows rest q = let z : ◌≡◌ {A = ℕ} 0 1 = cc in absurd (omega arith)
rows_inv rs (done ts s) rows rest q = (ts, cc, cc)

module _ (told : Told) (st : State) (s s₁ rest : List ℕ) (rs ts : List Seen) (m : Move) (v : List ℕ) (i : In m (moves told.edition st.room)) (er : seen_by m.form m.kind st.level v s₁ ≡ rs)
    (out : s ≡ (lead m ++ write_value m.form v) ++ s₁) (b : Back told (go m.next st) s₁ ts rest) where
  back_quiet : is_quiet m.form ≡ true → Back told st s (rs ++ ts) rest
  back_quiet iq =
      let a : ◌≡◌ {A = List Seen} [] rs = sym (quiet_seen m.form m.kind st.level v s₁ iq) ∙ er in
      let c : s ≡ m.code ∷ s₁ = rw (quiet_coded told.edition st.room i iq, quiet_writes m.form v iq) at out in
      rw (← a) (record {
        ends = b.ends;
        written = m.code ∷ b.written;
        taken = m.code ∷ b.taken;
        fitted = all_behind told.edition (map row_of ts) st b.ends m b.written i iq b.fitted;
        parts = c ∙ ap (λ (x : List ℕ). m.code ∷ x) b.parts;
        shorter = omega (arith, b.shorter);
        exact = λ h. ap (λ (x : List ℕ). m.code ∷ x) (b.exact h);
      })

  -- the row is written by the move of its shortest form
  back_loud : too_deep m st ≡ false → is_quiet m.form ≡ false → Shortest told st.room m v → Back told st s (rs ++ ts) rest
  unfolding fit_all
  back_loud d nq w =
      let bytes = lead w.by ++ write_value w.by.form v in
      let stood = lead m ++ write_value m.form v in
      let a = sym (loud_seen m.form m.kind st.level v s₁ nq) ∙ er in
      let here : fit_row told.edition st (row_at m st.level v) ≡ fits (go m.next st) bytes = rw (w.kind, w.next) at (fit_own told.edition st w.by v w.member w.loud (deep_by_kind st w.by m w.kind d) w.ok) in
      rw (← a) (record {
        ends = b.ends;
        written = bytes ++ b.written;
        taken = stood ++ b.taken;
        fitted = then_make (fit_row told.edition st (row_at m st.level v)) (fit_all told.edition (map row_of ts)) (go m.next st) b.ends bytes b.written here b.fitted;
        parts = out ∙ ap (λ (x : List ℕ). stood ++ x) b.parts ∙ sym (append_assoc stood b.taken rest);
        shorter = omega (arith, w.shorter, b.shorter, length-append bytes b.written, length-append stood b.taken);
        exact = λ h. ap (λ (x : Move). (lead x ++ write_value x.form v) ++ b.written) (w.exact h) ∙ ap (λ (x : List ℕ). stood ++ x) (b.exact h);
      })

  back_move : too_deep m st ≡ false → T (allowed told m.form m.code v) → (z : Bool) → is_quiet m.form ≡ z → Back told st s (rs ++ ts) rest
  back_move d ok true iq = back_quiet iq
  back_move d ok false nq = back_loud d nq (shortest told st.room m v i nq ok)

close_closed : (e : Edition) (st : State) → is_closed st.room ≡ true → close e st ≡ fits st []
close_closed e st h = close_once e st ∙ rw h refl

back_done : (told : Told) (st : State) (s : List ℕ) (rows : List Seen) (rest : List ℕ) → is_closed st.room ≡ true → ◌≡◌ {A = List Seen} [] rows → s ≡ rest → Back told st s rows rest
unfolding fit_all
back_done told st s rows rest h a b =
    rw (← a) (record { ends = st; written = []; taken = []; fitted = close_closed told.edition st h; parts = b; shorter = omega arith; exact = λ h. refl })

back_step : (n : ℕ) (told : Told) (st : State) (s : List ℕ) (rows : List Seen) (rest : List ℕ) (x : Step) → T (are_bytes s) → Stepped told st s x
    → ((st₁ : State) (s₁ : List ℕ) (ts : List Seen) → T (are_bytes s₁) → run n told st₁ s₁ ≡ done ts rest → Back told st₁ s₁ ts rest)
    → onward x (run n told) ≡ done rows rest → Back told st s rows rest
back_step n told st s rows rest (fails refusal left) t w ih q = let z : ◌≡◌ {A = ℕ} 0 1 = cc in absurd (omega arith)
back_step n told st s rows rest (over u) t (h, w) ih q = back_done told st s rows rest h (cc) (cc)
back_step n told st s rows rest (next st₁ rs s₁) t w ih q =
    let (ts, q₁, q₂) = rows_inv rs (run n told st₁ s₁) rows rest q in
    let u : T (are_bytes s₁) = bytes_behind (lead w.by ++ write_value w.by.form w.view) s₁ (subst (λ (x : List ℕ). T (are_bytes x)) w.out t) in
    let b : Back told (go w.by.next st) s₁ ts rest = subst (λ (x : State). Back told x s₁ ts rest) (sym w.to) (ih st₁ s₁ ts u q₁) in
    subst (λ (x : List Seen). Back told st s x rest) (sym q₂) (back_move told st s s₁ rest rs ts w.by w.view w.member w.rows w.out b w.flat w.ok (is_quiet w.by.form) refl)

back_run : (n : ℕ) (told : Told) (rest : List ℕ) (st : State) (s : List ℕ) (rows : List Seen) → T (are_bytes s) → run n told st s ≡ done rows rest → Back told st s rows rest
unfolding run
back_run zero told rest st s rows t q = let z : ◌≡◌ {A = ℕ} 0 1 = cc in absurd (omega arith)
back_run (suc n) told rest st s rows t q = back_step n told st s rows rest (step told st s) t (stepped told st s t) (back_run n told rest) q

pub all_read_written : (told : Told) (st : State) (s rest : List ℕ) (rows : List Seen) → T (are_bytes s) → inside told st s ≡ done rows rest → Back told st s rows rest
unfolding inside
all_read_written told st s rest rows t q = back_run (suc (length s)) told rest st s rows t q
