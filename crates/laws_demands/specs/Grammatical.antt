-- The grammar (`Grammar`) and the reader: what it allows is read with the rows it gives, whatever stands behind.
-- By induction over the moves, then over the envelopes.
use Rattle.std.specs.Prelude.{ℕ, zero, suc, ◌+◌, ◌-◌, ◌≤◌, Bool, ◌&&◌, eqb, ltb}
use mathlib.Core.List.{List, [], ◌∷◌, ◌++◌, append_assoc, append-nil, map}
use Rattle.std.proofs.Math.Bool.{true, false}
use Rattle.std.proofs.Math.Path.{◌≡◌, refl}
use Rattle.std.proofs.Common.{ap, sym, ◌∙◌, subst, arith, eqb-true, le-leb, le-ltb}
use Rattle.std.proofs.Math.Dec.{T}
use Rattle.std.proofs.Math.ListN.{length, length-append}
use Rattle.meaning.specs.Basics.{pick, In}
use Rattle.meaning.specs.Bytes.{Width, one_byte, two_bytes, four_bytes, bytes_of, length_bytes}
use Rattle.meaning.specs.Kinds.{agent_name}
use Rattle.meaning.specs.Told.{Edition, told}
use Rattle.meaning.specs.Editions.{Room, State, go, Form, text, date, number, block, itself, opens, quiet, is_quiet, Move, no_code, moves}
use Rattle.meaning.specs.Reading.{Seen, seen, reach_back, has_code, level_most, too_deep, next, step, done, with_rows, inside}
use Rattle.meaning.specs.Headers.{Placed, placed_row, placed, accepted, behind, envelope_most, opening, header, start}
use Rattle.meaning.specs.Writing.{is_only, valid, write_value, is_short, envelope_size, wrap}
use Rattle.laws_steps.specs.Lookups.{is_text_form, uncoded_text}
use Rattle.laws_steps.specs.Steps.{Path, rests, moves_on, inside_path, inside_over, step_over, loud_seen}
use Rattle.laws_steps.specs.WrittenRead.{step_written, step_quiet}
use Rattle.laws_steps.specs.Envelopes.{wrap_length, base_step, extension_step}
use Rattle.meaning.specs.Grammar.{standing, before_view, start_in, Steps, none, row, pass, Inside, head_size, Mark, Header, the_base, extension, Small}

-- how deep an agent may stand, as the reader asks it
pub not_deep : (m : Move) (st : State) → (m.kind ≡ agent_name → st.level ≤ level_most) → too_deep m st ≡ false
not_deep m st h = at (eqb m.kind agent_name) refl
  where
    at : (b : Bool) → eqb m.kind agent_name ≡ b → b && ltb level_most st.level ≡ false
    at true q = le-ltb level_most st.level (h (eqb-true m.kind agent_name q))
    at false q = refl

-- A move's bytes: those before the view, the view, and a text's closing 00 or an opening's own code

width_long : (w : Width) (n : ℕ) → length (length_bytes w n) ≡ bytes_of w
width_long one_byte n = refl
width_long two_bytes n = refl
width_long four_bytes n = refl

module _ (c : ℕ) (v : List ℕ) where
  abbrev Long : Form → Bool → Type 0
  Long f b = length (pick b [] (c ∷ []) ++ write_value f v) ≡ before_view (length (pick b [] (c ∷ []))) f + length v + reach_back f

  standing_as : (f : Form) (b : Bool) → (b ≡ true → T (is_text_form f)) → T (valid f c v) → is_quiet f ≡ false → Long f b
  unfolding write_value valid
  standing_as (text rule) b h ok q = let front = pick b [] (c ∷ []) in omega (arith, length-append front (v ++ (0 ∷ [])), length-append v (0 ∷ []))
  standing_as (date reach designated) b h ok q = let front = pick b [] (c ∷ []) in omega (arith, length-append front v)
  standing_as number b h ok q = let front = pick b [] (c ∷ []) in omega (arith, length-append front v)
  standing_as (block w) b h ok q =
      let front = pick b [] (c ∷ []) in let lb = length_bytes w (length v) in
      omega (arith, length-append front (lb ++ v), length-append lb v, width_long w (length v))
  standing_as itself true h ok q = absurd (h refl)
  standing_as itself false h ok q = only v ok
    where
      only : (v : List ℕ) → T (is_only c v) → 1 ≡ 0 + length v + 0
      only [] t = absurd t
      only (b ∷ []) t = refl
      only (b ∷ (d ∷ v)) t = absurd t
  standing_as opens true h ok q = absurd (h refl)
  standing_as opens false h ok q = nothing v ok
    where
      nothing : (v : List ℕ) → T (Rattle.meaning.specs.Basics.is_empty v) → 1 ≡ 0 + length v + 1
      nothing [] t = refl
      nothing (b ∷ v) t = absurd t
  standing_as quiet b h ok q = let z : ◌≡◌ {A = ℕ} 0 1 = cc q in absurd (omega arith)

pub standing_long : (e : Edition) (r : Room) (m : Move) (v : List ℕ) → In m (moves e r) → is_quiet m.form ≡ false → T (valid m.form m.code v) → length (standing m v) ≡ start_in m + length v + reach_back m.form
standing_long e r m v i q ok = standing_as m.code v m.form (has_code no_code m) (λ h. uncoded_text e r i (eqb-true m.code no_code h)) ok q

-- Steps are a path of the reader, with these rows

pub record Reads (e : Edition) (st : State) (at : ℕ) (bytes rest : List ℕ) (rows : List Placed) (st' : State) : Type 0 where
  pub seens : List Seen
  pub path : Path (told e) st (bytes ++ rest) seens st' rest
  pub are : map (placed (at + length (bytes ++ rest))) seens ≡ rows

module _ (e : Edition) (st st' : State) (at : ℕ) (bytes rest : List ℕ) (rows : List Placed) (m : Move) (i : In m (moves e st.room)) where
  over_row : (v : List ℕ) → is_quiet m.form ≡ false → T (valid m.form m.code v) → too_deep m st ≡ false → Reads e (go m.next st) (at + length (standing m v)) bytes rest rows st'
      → Reads e st at (standing m v ++ bytes) rest (placed_row m.kind st.level (at + start_in m) v ∷ rows) st'
  over_row v q ok flat r =
      let front = standing m v in
      let s = bytes ++ rest in
      let left = length s + length v + reach_back m.form in
      let end = at + length ((front ++ bytes) ++ rest) in
      let first = seen m.kind st.level left v in
      let goes : step (told e) st (front ++ s) ≡ next (go m.next st) (first ∷ []) s
      = step_written (told e) st m v s (has_code no_code m) refl i flat ok ∙ ap (λ (rs : List Seen). next (go m.next st) rs s) (loud_seen m.form m.kind st.level v s q) in
      let long : length (standing m v) ≡ start_in m + length v + reach_back m.form = standing_long e st.room m v i q ok in
      let all : length ((front ++ bytes) ++ rest) ≡ length front + length s = ap length (append_assoc front bytes rest) ∙ length-append front s in
      let same : end ≡ at + length front + length s = omega (arith, all) in
      let starts : end - left ≡ at + start_in m = omega (arith, all, long) in
      record {
        seens = first ∷ r.seens;
        path = subst (λ (x : List ℕ). Path (told e) st x (first ∷ r.seens) st' rest) (sym (append_assoc front bytes rest)) (moves_on goes r.path);
        are = ap (λ (x : ℕ). placed_row m.kind st.level x v ∷ map (placed end) r.seens) starts ∙ ap (λ (x : List Placed). placed_row m.kind st.level (at + start_in m) v ∷ x) (ap (λ (x : ℕ). map (placed x) r.seens) same ∙ r.are);
      }

  over_pass : is_quiet m.form ≡ true → Reads e (go m.next st) (at + 1) bytes rest rows st' → Reads e st at (m.code ∷ bytes) rest rows st'
  over_pass q r =
      let same : at + length (m.code ∷ (bytes ++ rest)) ≡ at + 1 + length (bytes ++ rest) = omega arith in
      record { seens = r.seens; path = moves_on (step_quiet (told e) st m (bytes ++ rest) i q) r.path; are = ap (λ (x : ℕ). map (placed x) r.seens) same ∙ r.are }

pub steps_read : (e : Edition) {st st' : State} {at : ℕ} {bytes : List ℕ} {rows : List Placed} → Steps e st at bytes rows st' → (rest : List ℕ) → Reads e st at bytes rest rows st'
steps_read e none rest = record { seens = []; path = rests; are = refl }
steps_read e (row {st} {st'} {at} {bytes} {rows} m v i q ok deep more) rest = over_row e st st' at bytes rest rows m i v q ok (not_deep m st deep) (steps_read e more rest)
steps_read e (pass {st} {st'} {at} {bytes} {rows} m i q more) rest = over_pass e st st' at bytes rest rows m i q (steps_read e more rest)

-- An envelope's inside, read to its end

head_and_inside : (n : ℕ) → head_size n + n ≡ envelope_size n
head_and_inside n = at (is_short n)
  where
    at : (b : Bool) → pick b 3 7 + n ≡ pick b (3 + n) (7 + n)
    at true = refl
    at false = refl

pub inside_done : (e : Edition) (base : Bool) (at : ℕ) (bytes : List ℕ) (rows : List Placed) → Inside e base at bytes rows
    → (seens : List Seen) × (inside (told e) (start base) bytes ≡ done seens []) × (map (placed (at + length bytes)) seens ≡ rows)
inside_done e base at bytes rows i =
    let r = steps_read e i.steps [] in (
      r.seens,
      ap (inside (told e) (start base)) (sym (append-nil bytes)) ∙ inside_path (told e) r.path ∙ ap (with_rows r.seens) (inside_over (told e) i.last [] (step_over (told e) i.last i.closes)) ∙ ap (λ (x : List Seen). done x []) (append-nil r.seens),
      ap (λ (x : List ℕ). map (placed (at + length x)) r.seens) (sym (append-nil bytes)) ∙ r.are,
    )

-- behind an identifier and a length that the writer gives
inside_read : (e : Edition) (base : Bool) (at : ℕ) (bytes : List ℕ) (rows : List Placed) → Inside e base (at + head_size (length bytes)) bytes rows
    → (seens : List Seen) × (inside (told e) (start base) bytes ≡ done seens []) × (map (placed (at + envelope_size (length bytes))) seens ≡ rows)
inside_read e base at bytes rows i =
    let (seens, q, are) = inside_done e base (at + head_size (length bytes)) bytes rows i in
    let all : at + head_size (length bytes) + length bytes ≡ at + envelope_size (length bytes) = omega (arith, head_and_inside (length bytes)) in
    (seens, q, ap (λ (x : ℕ). map (placed x) seens) (sym all) ∙ are)

-- A whole header is read with its rows, whatever stands behind it

pub header_reads : (e : Edition) {i at : ℕ} {bytes : List ℕ} {rows : List Placed} {marks : List Mark} → Header e i at bytes rows marks → Small marks → (k : ℕ) → length marks ≤ k → (payload : List ℕ)
    → header k (told e) at (bytes ++ payload) ≡ accepted (at + length bytes) rows
header_reads e (the_base h) s zero few payload = absurd (omega arith)
header_reads e (the_base {at = at} {bytes = bytes} {rows = rows} h) s (suc k) few payload =
    let (seens, q, are) = inside_read e true at bytes rows h in
    base_step k (told e) at bytes payload seens (le-leb (envelope_size (length bytes)) envelope_most s.0) q ∙ ap (λ (x : List Placed). accepted (at + length (wrap true bytes)) (placed_row (opening true) 0 at [] ∷ x)) are
header_reads e (extension h more) s zero few payload = absurd (omega arith)
header_reads e (extension {at = at} {bytes = bytes} {more = w} {rows = rows} {table = table} h more) s (suc k) few payload =
    let n = envelope_size (length bytes) in
    let (seens, q, are) = inside_read e false at bytes rows h in
    let later : header k (told e) (at + n) (w ++ payload) ≡ accepted (at + n + length w) table = header_reads e more s.1 k (omega arith) payload in
    let ends : at + n + length w ≡ at + length (wrap false bytes ++ w) = omega (arith, length-append (wrap false bytes) w, wrap_length false bytes) in
    ap (header (suc k) (told e) at) (append_assoc (wrap false bytes) w payload) ∙ extension_step k (told e) at bytes (w ++ payload) seens (le-leb n envelope_most s.0) q
    ∙ ap (behind (placed_row (opening false) 0 at [] ∷ map (placed (at + n)) seens)) later ∙ ap (λ (x : List Placed). accepted (at + n + length w) (placed_row (opening false) 0 at [] ∷ (x ++ table))) are
    ∙ ap (λ (x : ℕ). accepted x (placed_row (opening false) 0 at [] ∷ (rows ++ table))) ends
