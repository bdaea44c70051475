-- What the moves allow, the reader reads with the same rows, whatever it is told and whatever stands behind.
use Rattle.std.specs.Prelude.{ℕ, suc, ◌+◌, ◌-◌, Bool, not, ltb}
use mathlib.Core.List.{List, [], ◌∷◌, ◌++◌, append_assoc, append-nil, map}
use Rattle.std.proofs.Math.Bool.{true, false}
use Rattle.std.proofs.Math.Path.{◌≡◌, refl}
use Rattle.std.proofs.Common.{ap, sym, ◌∙◌, subst, arith, eqb-true, le-leb}
use Rattle.std.proofs.Math.Dec.{T, ltb→lt}
use Rattle.std.proofs.Math.ListN.{length, length-append}
use Rattle.meaning.specs.Basics.{pick, is_empty, In}
use Rattle.meaning.specs.Bytes.{took, Width, one_byte, two_bytes, four_bytes, bytes_of, past, length_bytes, too_wide, take_bytes, block_of, take_block}
use Rattle.meaning.specs.Told.{Told}
use Rattle.meaning.specs.Editions.{Room, State, go, Form, text, date, number, block, itself, opens, quiet, is_quiet, Move, no_code, moves}
use Rattle.meaning.specs.Reading.{Seen, seen, take_value, reach_back, has_code, too_deep, next, step, done, with_rows, inside, seen_by}
use Rattle.meaning.specs.Headers.{Placed, placed_row, placed, accepted, behind, envelope_most, opening, header, start}
use Rattle.meaning.specs.Writing.{is_only, valid, write_value, is_short, envelope_size, wrap}
use Rattle.meaning.specs.Grammar.{standing, before_view, start_in, head_size}
use Rattle.laws_steps.specs.Logic.{left_of, right_of}
use Rattle.laws_steps.specs.Values.{may_stand, allowed, length_in, value_in}
use Rattle.laws_steps.specs.Lookups.{is_text_form, look_coded, look_uncoded, uncoded_text}
use Rattle.laws_steps.specs.Steps.{Path, rests, moves_on, inside_path, inside_over, step_is, step_over, loud_seen}
use Rattle.laws_steps.specs.WrittenRead.{text_first, step_quiet}
use Rattle.laws_demands.specs.Grammatical.{not_deep}
use Rattle.laws_steps.specs.Envelopes.{wrap_length, base_step, extension_step}
use Rattle.papers.specs.Moves.{Steps, still, row, silent}
use Rattle.papers.specs.Envelopes.{Inside, Envelopes, the_base, extension}

-- A value that may stand is taken

bytes_taken : (v rest : List ℕ) → take_bytes (length v) (v ++ rest) ≡ took v rest
unfolding take_bytes
bytes_taken [] rest = refl
bytes_taken (b ∷ v) rest = rw (bytes_taken v rest) refl

not_true : (b : Bool) → T (not b) → b ≡ false
not_true true t = absurd t
not_true false t = refl

module _ (t : Told) where
  block_taken : (w : Width) (left : ℕ) (v rest : List ℕ) → T (may_stand t w v) → take_block t w left ((length_bytes w (length v) ++ v) ++ rest) ≡ took v rest
  unfolding take_block block_of
  block_taken w left v rest ok =
      let narrow = not_true (too_wide t w (length v)) (left_of (not (too_wide t w (length v))) (ltb (length v) (past w)) ok) in
      let hi = ltb→lt (length v) (past w) (right_of (not (too_wide t w (length v))) (ltb (length v) (past w)) ok) in
      rw (append_assoc (length_bytes w (length v)) v rest, length_in w (length v) (v ++ rest) hi, narrow, bytes_taken v rest) refl

  block_form : (w : Width) (left c : ℕ) (v rest : List ℕ) → T (may_stand t w v) → take_value t (block w) left c (write_value (block w) v ++ rest) ≡ took v rest
  unfolding take_value write_value
  block_form w left c v rest ok = block_taken w left v rest ok

  value_taken : (f : Form) (left c : ℕ) (v rest : List ℕ) → T (allowed t f c v) → take_value t f left c (write_value f v ++ rest) ≡ took v rest
  unfolding allowed
  value_taken (text rule) left c v rest ok = value_in t (text rule) left c v rest ok
  value_taken (date reach designated) left c v rest ok = value_in t (date reach designated) left c v rest ok
  value_taken number left c v rest ok = value_in t number left c v rest ok
  value_taken (block w) left c v rest ok = block_form w left c v rest ok
  value_taken itself left c v rest ok = value_in t itself left c v rest ok
  value_taken opens left c v rest ok = value_in t opens left c v rest ok
  value_taken quiet left c v rest ok = value_in t quiet left c v rest ok

  text_valid : (f : Form) (c : ℕ) (v : List ℕ) → T (is_text_form f) → T (allowed t f c v) → T (valid f c v)
  unfolding allowed
  text_valid (text rule) c v h ok = ok
  text_valid (date reach designated) c v h ok = absurd h
  text_valid number c v h ok = absurd h
  text_valid (block w) c v h ok = absurd h
  text_valid itself c v h ok = absurd h
  text_valid opens c v h ok = absurd h
  text_valid quiet c v h ok = absurd h

  -- the step over a row's move, with its code or without
  step_taken_lem : (st : State) (m : Move) (v rest : List ℕ) (b : Bool) → has_code no_code m ≡ b → In m (moves t.edition st.room) → too_deep m st ≡ false → T (allowed t m.form m.code v)
      → step t st ((pick b [] (m.code ∷ []) ++ write_value m.form v) ++ rest) ≡ next (go m.next st) (seen_by m.form m.kind st.level v rest) rest
  step_taken_lem st m v rest true q i d ok =
      let c : m.code ≡ no_code = eqb-true m.code no_code q in
      let h = uncoded_text t.edition st.room i c in
      let (b, s, w, k) = text_first m.form m.code v rest h (text_valid m.form m.code v h ok) in
      let taken : take_value t m.form (suc (length s)) m.code (b ∷ s) ≡ took v rest = ap (take_value t m.form (suc (length s)) m.code) (sym w) ∙ value_taken m.form (suc (length s)) m.code v rest ok in
      ap (step t st) w ∙ step_is t st m b s v rest (look_uncoded t.edition st.room i c b k) d (rw q taken)
  step_taken_lem st m v rest false q i d ok =
      let s = write_value m.form v ++ rest in
      step_is t st m m.code s v rest (look_coded t.edition st.room i) d (rw q (value_taken m.form (suc (length s)) m.code v rest ok))

-- A move's bytes: those before the view, the view, and a text's closing 00 or an opening's own code

width_long : (w : Width) (n : ℕ) → length (length_bytes w n) ≡ bytes_of w
width_long one_byte n = refl
width_long two_bytes n = refl
width_long four_bytes n = refl

module _ (t : Told) (c : ℕ) (v : List ℕ) where
  abbrev Long : Form → Bool → Type 0
  Long f b = length (pick b [] (c ∷ []) ++ write_value f v) ≡ before_view (length (pick b [] (c ∷ []))) f + length v + reach_back f

  standing_as : (f : Form) (b : Bool) → (b ≡ true → T (is_text_form f)) → T (allowed t f c v) → is_quiet f ≡ false → Long f b
  unfolding write_value valid allowed
  standing_as (text rule) b h ok q = let front = pick b [] (c ∷ []) in omega (arith, length-append front (v ++ (0 ∷ [])), length-append v (0 ∷ []))
  standing_as (date reach designated) b h ok q = let front = pick b [] (c ∷ []) in omega (arith, length-append front v)
  standing_as number b h ok q = let front = pick b [] (c ∷ []) in omega (arith, length-append front v)
  standing_as (block w) b h ok q =
      let front = pick b [] (c ∷ []) in let lb = length_bytes w (length v) in
      omega (arith, length-append front (lb ++ v), length-append lb v, width_long w (length v))
  standing_as itself true h ok q = absurd (h refl)
  standing_as itself false h ok q = only v ok
    where
      only : (v : List ℕ) → T (is_only c v) → 1 ≡ 0 + length v + 0
      only [] u = absurd u
      only (b ∷ []) u = refl
      only (b ∷ (d ∷ v)) u = absurd u
  standing_as opens true h ok q = absurd (h refl)
  standing_as opens false h ok q = nothing v ok
    where
      nothing : (v : List ℕ) → T (is_empty v) → 1 ≡ 0 + length v + 1
      nothing [] u = refl
      nothing (b ∷ v) u = absurd u
  standing_as quiet b h ok q = let z : ◌≡◌ {A = ℕ} 0 1 = cc q in absurd (omega arith)

pub standing_long : (t : Told) (r : Room) (m : Move) (v : List ℕ) → In m (moves t.edition r) → is_quiet m.form ≡ false → T (allowed t m.form m.code v) → length (standing m v) ≡ start_in m + length v + reach_back m.form
standing_long t r m v i q ok = standing_as t m.code v m.form (has_code no_code m) (λ h. uncoded_text t.edition r i (eqb-true m.code no_code h)) ok q

-- Steps are a path of the reader, with these rows

pub record ReadSo (t : Told) (st : State) (at : ℕ) (bytes rest : List ℕ) (rows : List Placed) (st' : State) : Type 0 where
  pub seens : List Seen
  pub path : Path t st (bytes ++ rest) seens st' rest
  pub are : map (placed (at + length (bytes ++ rest))) seens ≡ rows

module _ (t : Told) (st st' : State) (at : ℕ) (bytes rest : List ℕ) (rows : List Placed) (m : Move) (i : In m (moves t.edition st.room)) where
  over_row : (v : List ℕ) → is_quiet m.form ≡ false → T (allowed t m.form m.code v) → too_deep m st ≡ false → ReadSo t (go m.next st) (at + length (standing m v)) bytes rest rows st'
      → ReadSo t st at (standing m v ++ bytes) rest (placed_row m.kind st.level (at + start_in m) v ∷ rows) st'
  over_row v q ok flat r =
      let front = standing m v in
      let s = bytes ++ rest in
      let left = length s + length v + reach_back m.form in
      let end = at + length ((front ++ bytes) ++ rest) in
      let first = seen m.kind st.level left v in
      let goes : step t st (front ++ s) ≡ next (go m.next st) (first ∷ []) s
      = step_taken_lem t st m v s (has_code no_code m) refl i flat ok ∙ ap (λ (rs : List Seen). next (go m.next st) rs s) (loud_seen m.form m.kind st.level v s q) in
      let long : length (standing m v) ≡ start_in m + length v + reach_back m.form = standing_long t st.room m v i q ok in
      let all : length ((front ++ bytes) ++ rest) ≡ length front + length s = ap length (append_assoc front bytes rest) ∙ length-append front s in
      let same : end ≡ at + length front + length s = omega (arith, all) in
      let starts : end - left ≡ at + start_in m = omega (arith, all, long) in
      record {
        seens = first ∷ r.seens;
        path = subst (λ (x : List ℕ). Path t st x (first ∷ r.seens) st' rest) (sym (append_assoc front bytes rest)) (moves_on goes r.path);
        are = ap (λ (x : ℕ). placed_row m.kind st.level x v ∷ map (placed end) r.seens) starts ∙ ap (λ (x : List Placed). placed_row m.kind st.level (at + start_in m) v ∷ x) (ap (λ (x : ℕ). map (placed x) r.seens) same ∙ r.are);
      }

  over_pass : is_quiet m.form ≡ true → ReadSo t (go m.next st) (at + 1) bytes rest rows st' → ReadSo t st at (m.code ∷ bytes) rest rows st'
  over_pass q r =
      let same : at + length (m.code ∷ (bytes ++ rest)) ≡ at + 1 + length (bytes ++ rest) = omega arith in
      record { seens = r.seens; path = moves_on (step_quiet t st m (bytes ++ rest) i q) r.path; are = ap (λ (x : ℕ). map (placed x) r.seens) same ∙ r.are }

steps_read : (t : Told) {st st' : State} {at : ℕ} {bytes : List ℕ} {rows : List Placed} → Steps t st at bytes rows st' → (rest : List ℕ) → ReadSo t st at bytes rest rows st'
steps_read t still rest = record { seens = []; path = rests; are = refl }
steps_read t (row {st} {st'} {at} {bytes} {rows} m v i q ok deep more) rest = over_row t st st' at bytes rest rows m i v q ok (not_deep m st deep) (steps_read t more rest)
steps_read t (silent {st} {st'} {at} {bytes} {rows} m i q more) rest = over_pass t st st' at bytes rest rows m i q (steps_read t more rest)

-- An envelope's inside, read to its end

pub head_and_inside : (n : ℕ) → head_size n + n ≡ envelope_size n
head_and_inside n = at (is_short n)
  where
    at : (b : Bool) → pick b 3 7 + n ≡ pick b (3 + n) (7 + n)
    at true = refl
    at false = refl

inside_read : (t : Told) (base : Bool) (at : ℕ) (bytes : List ℕ) (rows : List Placed) → Inside t base (at + head_size (length bytes)) bytes rows
    → (seens : List Seen) × (inside t (start base) bytes ≡ done seens []) × (map (placed (at + envelope_size (length bytes))) seens ≡ rows)
inside_read t base at bytes rows i =
    let r = steps_read t i.steps [] in
    let all : at + envelope_size (length bytes) ≡ at + head_size (length bytes) + length (bytes ++ []) = omega (arith, head_and_inside (length bytes), length-append bytes []) in (
      r.seens,
      ap (inside t (start base)) (sym (append-nil bytes)) ∙ inside_path t r.path ∙ ap (with_rows r.seens) (inside_over t i.last [] (step_over t i.last i.closes)) ∙ ap (λ (x : List Seen). done x []) (append-nil r.seens),
      ap (λ (x : ℕ). map (placed x) r.seens) all ∙ r.are,
    )

-- A whole header is read with its rows, whatever stands behind it

pub envelopes_read : (t : Told) {n at : ℕ} {bytes : List ℕ} {rows : List Placed} → Envelopes t n at bytes rows → (payload : List ℕ) → header (suc n) t at (bytes ++ payload) ≡ accepted (at + length bytes) rows
envelopes_read t (the_base {n} {at} {bytes} {rows} fits h) payload =
    let (seens, q, are) = inside_read t true at bytes rows h in
    base_step n t at bytes payload seens (le-leb (envelope_size (length bytes)) envelope_most fits) q ∙ ap (λ (x : List Placed). accepted (at + length (wrap true bytes)) (placed_row (opening true) 0 at [] ∷ x)) are
envelopes_read t (extension {n} {at} {bytes} {more} {rows} {table} fits h after) payload =
    let size = envelope_size (length bytes) in
    let (seens, q, are) = inside_read t false at bytes rows h in
    let later : header (suc n) t (at + size) (more ++ payload) ≡ accepted (at + size + length more) table = envelopes_read t after payload in
    let ends : at + size + length more ≡ at + length (wrap false bytes ++ more) = omega (arith, length-append (wrap false bytes) more, wrap_length false bytes) in
    ap (header (suc (suc n)) t at) (append_assoc (wrap false bytes) more payload) ∙ extension_step (suc n) t at bytes (more ++ payload) seens (le-leb size envelope_most fits) q
    ∙ ap (behind (placed_row (opening false) 0 at [] ∷ map (placed (at + size)) seens)) later ∙ ap (λ (x : List Placed). accepted (at + size + length more) (placed_row (opening false) 0 at [] ∷ (x ++ table))) are
    ∙ ap (λ (x : ℕ). accepted x (placed_row (opening false) 0 at [] ∷ (rows ++ table))) ends
