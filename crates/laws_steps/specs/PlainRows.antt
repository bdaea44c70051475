-- Which rows both editions have, and the one test of their tables: what they share is plain; what one has alone is not,
-- and the other lacks its code there, or reads another date at it.
use Rattle.std.specs.Prelude.{ℕ, List, [], ◌∷◌, ◌++◌, Bool, true, false, ◌&&◌, ◌||◌, not, ◌⊎◌, ◌≡◌, refl, T, eqb, ltb, length}
use Rattle.std.proofs.Common.{inl, inr, ap, sym, ◌∙◌, arith}
use Rattle.meaning.specs.Basics.{every, In}
use Rattle.meaning.specs.Bytes.{Reach, absolute, relative, date_checks}
use Rattle.meaning.specs.Kinds.{date_absolute, date_forward, date_backward, extra_key, encrypted_opens, agent_name}
use Rattle.meaning.specs.Told.{Edition, B, D, told}
use Rattle.meaning.specs.Editions.{Room, State, Next, outer, inner, inner_one, stay, deeper, list_ends, agent_ends, go, Form, text, date, number, block, itself, opens, quiet, is_quiet, Move, no_code, moves, shared, own}
use Rattle.meaning.specs.Reading.{Row, Found, none, hit, find, has_code, look, is_closed, strange, next, step}
use Rattle.meaning.specs.Writing.{valid, fits, fit_row}
use Rattle.laws_steps.specs.Logic.{left_of, right_of, is_false}
use Rattle.laws_steps.specs.Tables.{every_in, in_moves, in_shared, all_rooms, each_room}
use Rattle.laws_steps.specs.Lookups.{date_length_lem}
use Rattle.laws_steps.specs.Steps.{Path, rests, moves_on}
use Rattle.laws_steps.specs.Fits.{Placing, fit_holds}
use Rattle.laws_steps.specs.WrittenRead.{Reads, reads_own, step_quiet}

abbrev pub other : Edition → Edition
other B = D
other D = B

-- a row that both editions have: no encrypted list, no relative date, no date with a designator, no extra
abbrev plain_kind : ℕ → ℕ → Bool
plain_kind kind len = not (eqb kind encrypted_opens || eqb kind date_forward || eqb kind date_backward || (eqb kind date_absolute && eqb len 10) || eqb kind extra_key)

abbrev pub is_plain : Row → Bool
is_plain row = plain_kind row.kind (length row.view)

abbrev pub all_plain : List Row → Bool
all_plain rows = every is_plain rows

-- The test of the tables

abbrev is_date_form : Form → Bool
is_date_form (text rule) = false
is_date_form (date reach designated) = true
is_date_form number = false
is_date_form (block w) = false
is_date_form itself = false
is_date_form opens = false
is_date_form quiet = false

abbrev date_length : Form → ℕ
date_length (text rule) = 0
date_length (date reach designated) = length (date_checks reach designated)
date_length number = 0
date_length (block w) = 0
date_length itself = 0
date_length opens = 0
date_length quiet = 0

abbrev dated_ok : Move → Bool
dated_ok m = not (eqb m.kind date_absolute) || is_date_form m.form

abbrev plain_move : Move → Bool
plain_move m = plain_kind m.kind (date_length m.form)

-- what both share is plain
abbrev shared_ok : Move → Bool
shared_ok m = dated_ok m && (is_quiet m.form || plain_move m)

abbrev pub same_reach : Reach → Reach → Bool
same_reach absolute absolute = true
same_reach absolute relative = false
same_reach relative absolute = false
same_reach relative relative = true

abbrev pub same_bool : Bool → Bool → Bool
same_bool true b = b
same_bool false b = not b

-- the form that an edition has at date code 21
abbrev pub is_date_of : Reach → Bool → Form → Bool
is_date_of r d (text rule) = false
is_date_of r d (date reach designated) = same_reach r reach && same_bool d designated
is_date_of r d number = false
is_date_of r d (block w) = false
is_date_of r d itself = false
is_date_of r d opens = false
is_date_of r d quiet = false

abbrev pub clashes : Edition → Form → Bool
clashes B f = is_date_of absolute true f
clashes D f = is_date_of relative false f

-- a room whose codes are all below 20 and that refuses any other with 7
abbrev pub low_move : Move → Bool
low_move m = ltb m.code 0x20

abbrev pub low_room : Edition → Room → Bool
low_room e r = every low_move (moves e r) && (not (is_closed r) && eqb (strange r) 7)

abbrev pub low_next : Edition → Next → Bool
low_next e (outer t) = low_room e t
low_next e (inner t) = false
low_next e (inner_one t) = false
low_next e (stay t) = low_room e t
low_next e (deeper t) = false
low_next e list_ends = false
low_next e agent_ends = false

abbrev pub clash_with : Edition → Found → Bool
clash_with e none = false
clash_with e (hit m) = clashes e m.form && (not (has_code no_code m) && (not (eqb m.kind agent_name) && low_next e m.next))

abbrev pub is_lost : Found → Bool
is_lost none = true
is_lost (hit m) = false

abbrev pub clash_ok : Edition → Room → Move → Bool
clash_ok e r m = clash_with e (hit m) && clash_with (other e) (look m.code (moves (other e) r))

-- what an edition has alone is not plain, and the other lacks its code here or reads another date at it
abbrev own_ok : Edition → Room → Move → Bool
own_ok e r m =
    (dated_ok m && (not (is_quiet m.form) && (not (plain_move m) && not (has_code no_code m)))) && ((not (is_closed r) && (eqb (strange r) 7 || eqb (strange r) 9)) && (is_lost (look m.code (moves (other e) r)) || clash_ok e r m))

abbrev cross_ok : Edition → Room → Bool
cross_ok e r = every shared_ok (shared r) && every (own_ok e r) (own e r)

cross_test : T (all_rooms cross_ok)
unfolding moves shared own look find
cross_test = tt

shared_ok_lem : (r : Room) {m : Move} → In m (shared r) → T (shared_ok m)
shared_ok_lem r i = every_in shared_ok i (left_of (every shared_ok (shared r)) (every (own_ok B r) (own B r)) (each_room cross_ok cross_test B r))

pub record Alone (e : Edition) (r : Room) (m : Move) : Type 0 where
  pub dated : T (dated_ok m)
  pub loud : is_quiet m.form ≡ false
  pub foreign : plain_move m ≡ false
  pub coded : has_code no_code m ≡ false
  pub ajar : is_closed r ≡ false
  pub refusal : T (eqb (strange r) 7 || eqb (strange r) 9)
  pub beyond : T (is_lost (look m.code (moves (other e) r)) || clash_ok e r m)

pub alone : (e : Edition) (r : Room) {m : Move} → In m (own e r) → Alone e r m
alone e r {m} i =
    let a = dated_ok m in let b = not (is_quiet m.form) in let c = not (plain_move m) in let d = not (has_code no_code m) in
    let f = not (is_closed r) in let g = eqb (strange r) 7 || eqb (strange r) 9 in let h = is_lost (look m.code (moves (other e) r)) || clash_ok e r m in
    let t : T ((a && (b && (c && d))) && ((f && g) && h)) = every_in (own_ok e r) i (right_of (every shared_ok (shared r)) (every (own_ok e r) (own e r)) (each_room cross_ok cross_test e r)) in
    let u = left_of (a && (b && (c && d))) ((f && g) && h) t in let v = right_of a (b && (c && d)) u in let w = right_of b (c && d) v in
    let x = right_of (a && (b && (c && d))) ((f && g) && h) t in
    record {
      dated = left_of a (b && (c && d)) u;
      loud = is_false (is_quiet m.form) (left_of b (c && d) v);
      foreign = is_false (plain_move m) (left_of c d w);
      coded = is_false (has_code no_code m) (right_of c d w);
      ajar = is_false (is_closed r) (left_of f g (left_of (f && g) h x));
      refusal = right_of f g (left_of (f && g) h x);
      beyond = right_of (f && g) h x;
    }

-- a row is plain as its move is
form_length : (f : Form) (c : ℕ) (v : List ℕ) → T (is_date_form f) → T (valid f c v) → date_length f ≡ length v
unfolding valid
form_length (text rule) c v t ok = absurd t
form_length (date reach designated) c v t ok = sym (date_length_lem (date_checks reach designated) [] v ok)
form_length number c v t ok = absurd t
form_length (block w) c v t ok = absurd t
form_length itself c v t ok = absurd t
form_length opens c v t ok = absurd t
form_length quiet c v t ok = absurd t

plain_length : (m : Move) (v : List ℕ) (b : Bool) → eqb m.kind date_absolute ≡ b → T (dated_ok m) → T (valid m.form m.code v) → plain_kind m.kind (date_length m.form) ≡ plain_kind m.kind (length v)
plain_length m v true q d ok = ap (plain_kind m.kind) (form_length m.form m.code v (rw q at d) ok)
plain_length m v false q d ok = rw q refl

plain_same : (st st' : State) (row : Row) (m : Move) (bs : List ℕ) → T (dated_ok m) → Placing st row m st' bs → plain_move m ≡ is_plain row
plain_same st st' row m bs d p = plain_length m row.view (eqb m.kind date_absolute) refl d p.ok ∙ ap (λ (k : ℕ). plain_kind k (length row.view)) p.kind_is

-- Where the other edition's reader comes over the bytes of a row: to the row, or to a move that the writer's edition has alone

pub record Foreign (e e' : Edition) (row : Row) (st : State) (s : List ℕ) (st' : State) (rest : List ℕ) : Type 0 where
  pub at : State
  pub bytes : List ℕ
  pub by : Move
  pub path : Path (told e') st s [] at (bytes ++ rest)
  pub its_own : In by (own e at.room)
  pub put : Placing at row by st' bytes

abbrev pub Crosses : Edition → Edition → Row → State → List ℕ → State → List ℕ → Type 0
Crosses e e' row st s st' rest = ((is_plain row ≡ true) × Reads (told e') st s row st' rest) ⊎ ((is_plain row ≡ false) × Foreign e e' row st s st' rest)

or_true : (a : Bool) → T (false || a) → a ≡ true
or_true true t = refl
or_true false t = absurd t

cross_own : (e e' : Edition) (row : Row) (st st' : State) (m : Move) (bs rest : List ℕ) → In m (shared st.room) ⊎ In m (own e st.room) → Placing st row m st' bs → Crosses e e' row st (bs ++ rest) st' rest
cross_own e e' row st st' m bs rest (inl i) p =
    let t : T (shared_ok m) = shared_ok_lem st.room i in
    let a : T (is_quiet m.form || plain_move m) = right_of (dated_ok m) (is_quiet m.form || plain_move m) t in
    inl (
      sym (plain_same st st' row m bs (left_of (dated_ok m) (is_quiet m.form || plain_move m) t) p) ∙ or_true (plain_move m) (rw p.loud at a),
      reads_own (told e') row st st' m bs (in_shared e' st.room m i) p rest,
    )
cross_own e e' row st st' m bs rest (inr i) p =
    let o = alone e st.room i in
    inr (sym (plain_same st st' row m bs o.dated p) ∙ o.foreign, record { at = st; bytes = bs; by = m; path = rests; its_own = i; put = p })

-- a move with no row is one that both share
quiet_shared : (e : Edition) (r : Room) (m : Move) → is_quiet m.form ≡ true → In m (shared r) ⊎ In m (own e r) → In m (shared r)
quiet_shared e r m q (inl i) = i
quiet_shared e r m q (inr i) = let z = (alone e r i).loud in let a : true ≡ false = sym q ∙ z in let y : ◌≡◌ {A = ℕ} 0 1 = cc a in absurd (omega arith)

pub step_quiet_other : (e e' : Edition) (st : State) (m : Move) (s : List ℕ) → In m (moves e st.room) → is_quiet m.form ≡ true → step (told e') st (m.code ∷ s) ≡ next (go m.next st) [] s
step_quiet_other e e' st m s i q = step_quiet (told e') st m s (in_shared e' st.room m (quiet_shared e st.room m q (in_moves e st.room m i))) q

cross_after : (e e' : Edition) (row : Row) (st st₁ st' : State) (s s₁ rest : List ℕ) → step (told e') st s ≡ next st₁ [] s₁ → Crosses e e' row st₁ s₁ st' rest → Crosses e e' row st s st' rest
cross_after e e' row st st₁ st' s s₁ rest q (inl (a, p)) = inl (a, moves_on q p)
cross_after e e' row st st₁ st' s s₁ rest q (inr (a, f)) = inr (a, record { at = f.at; bytes = f.bytes; by = f.by; path = moves_on q f.path; its_own = f.its_own; put = f.put })

pub row_crosses : (e e' : Edition) (row : Row) (st st' : State) (bs : List ℕ) → fit_row e st row ≡ fits st' bs → (rest : List ℕ) → Crosses e e' row st (bs ++ rest) st' rest
row_crosses e e' row =
    fit_holds e row (λ st st' bs. (rest : List ℕ) → Crosses e e' row st (bs ++ rest) st' rest) (λ st st' m bs i p rest. cross_own e e' row st st' m bs rest (in_moves e st.room m i) p)
    (λ st st' m bs i q c rest. cross_after e e' row st (go m.next st) st' (m.code ∷ (bs ++ rest)) (bs ++ rest) rest (step_quiet_other e e' st m (bs ++ rest) i q) (c rest))
