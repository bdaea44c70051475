-- The tables' one test, and by it: the reader finds a move at its code, the writer a row's own move; no two moves of a room are mistaken for another.
use Rattle.std.specs.Prelude.{ℕ, suc, ◌≤◌, ◌<◌, List, [], ◌∷◌, Bool, true, false, ◌&&◌, ◌||◌, not, ◌⊎◌, ◌≡◌, refl, T, eqb, leb, ltb, length}
use Rattle.std.proofs.Common.{inl, inr, ap, sym, ◌∙◌, subst, arith, leb→le, ltb→lt, eqb→eq, eqb-true, eq-eqb, lt-ltb, le-ltb}
use Rattle.std.proofs.Math.Dec.{eqb_refl}
use Rattle.meaning.specs.Basics.{pick, every, In}
use Rattle.meaning.specs.Bytes.{Check, passes, date_ok, date_checks, Width, one_byte, two_bytes, four_bytes, bytes_of, fewest, past, block_ok}
use Rattle.meaning.specs.Kinds.{agent_name}
use Rattle.meaning.specs.Told.{Edition}
use Rattle.meaning.specs.Editions.{Room, State, Form, text, date, number, block, itself, opens, quiet, is_quiet, Move, no_code, closing, moves, shared, own}
use Rattle.meaning.specs.Reading.{Row, Found, none, hit, find, or_else, has_code, look, is_closed, too_deep}
use Rattle.meaning.specs.Writing.{is_only, valid, stands_for, is_pass, way_to, Way, by_own, by_pass, nowhere, ways, at_level, way_of}
use Rattle.laws_steps.specs.Logic.{left_of, right_of, both, either, is_true, is_false, not_both}
use Rattle.laws_steps.specs.Tables.{every_in, Hits, find_hits, find_in, apart, all_rooms, each_room}

-- What tells the moves of one kind apart: forms of one class, by a number that the view has too

abbrev class_of : Form → ℕ
class_of (text rule) = 0
class_of (date reach designated) = 1
class_of number = 0
class_of (block w) = 2
class_of itself = 3
class_of opens = 0
class_of quiet = 0

abbrev variant : Form → ℕ → ℕ
variant (text rule) c = 0
variant (date reach designated) c = length (date_checks reach designated)
variant number c = 0
variant (block w) c = bytes_of w
variant itself c = c
variant opens c = 0
variant quiet c = 0

abbrev head_or : ℕ → List ℕ → ℕ
head_or d [] = d
head_or d (b ∷ v) = b

abbrev variant_in : ℕ → List ℕ → ℕ
variant_in k v = pick (eqb k 1) (length v) (pick (eqb k 2) (pick (ltb (length v) 256) 1 (pick (ltb (length v) 65536) 2 4)) (pick (eqb k 3) (head_or 0 v) 0))

pub date_length_lem : (cs : List Check) (earlier v : List ℕ) → T (date_ok cs earlier v) → length v ≡ length cs
unfolding date_ok
date_length_lem [] earlier [] t = refl
date_length_lem [] earlier (b ∷ v) t = absurd t
date_length_lem (c ∷ cs) earlier [] t = absurd t
date_length_lem (c ∷ cs) earlier (b ∷ v) t = ap suc (date_length_lem cs (b ∷ earlier) v (right_of (passes c earlier b) (date_ok cs (b ∷ earlier) v) t))

width_is : (w : Width) (n : ℕ) → fewest w ≤ n → n < past w → pick (ltb n 256) 1 (pick (ltb n 65536) 2 4) ≡ bytes_of w
width_is one_byte n lo hi = rw (lt-ltb n 256 hi) refl
width_is two_bytes n lo hi = rw (le-ltb n 256 lo, lt-ltb n 65536 hi) refl
width_is four_bytes n lo hi = rw (le-ltb n 256 (omega arith), le-ltb n 65536 lo) refl

only_head : (c : ℕ) (v : List ℕ) → T (is_only c v) → head_or 0 v ≡ c
only_head c [] t = absurd t
only_head c (b ∷ []) t = eqb→eq b c t
only_head c (b ∷ (d ∷ v)) t = absurd t

variant_is : (f : Form) (c : ℕ) (v : List ℕ) → T (valid f c v) → variant_in (class_of f) v ≡ variant f c
unfolding valid block_ok
variant_is (text rule) c v t = refl
variant_is (date reach designated) c v t = date_length_lem (date_checks reach designated) [] v t
variant_is number c v t = refl
variant_is (block w) c v t =
    width_is w (length v) (leb→le (fewest w) (length v) (left_of (leb (fewest w) (length v)) (ltb (length v) (past w)) t)) (ltb→lt (length v) (past w) (right_of (leb (fewest w) (length v)) (ltb (length v) (past w)) t))
variant_is itself c v t = only_head c v t
variant_is opens c v t = refl
variant_is quiet c v t = refl

abbrev excludes : Move → Move → Bool
excludes x y = eqb (class_of x.form) (class_of y.form) && not (eqb (variant x.form x.code) (variant y.form y.code))

-- moves that exclude each other share no value
excluded : (x y : Move) (v : List ℕ) → T (valid x.form x.code v) → T (valid y.form y.code v) → T (excludes x y) → ⊥
excluded x y v p q t =
    let a = eqb (class_of x.form) (class_of y.form) in
    let b = eqb (variant x.form x.code) (variant y.form y.code) in
    let k : class_of x.form ≡ class_of y.form = eqb→eq (class_of x.form) (class_of y.form) (left_of a (not b) t) in
    let e : variant x.form x.code ≡ variant y.form y.code
    = sym (variant_is x.form x.code v p) ∙ ap (λ (n : ℕ). variant_in n v) k ∙ variant_is y.form y.code v q in
    not_both b (subst T (sym (eq-eqb (variant x.form x.code) (variant y.form y.code) e)) tt) (right_of a (not b) t)

-- The test

abbrev pub same_code : Move → Move → Bool
same_code x y = eqb x.code y.code

abbrev same_row : Move → Move → Bool
same_row x y = not (is_quiet x.form) && not (is_quiet y.form) && eqb x.kind y.kind && not (excludes x y)

abbrev pub is_text_form : Form → Bool
is_text_form (text rule) = true
is_text_form (date reach designated) = false
is_text_form number = false
is_text_form (block w) = false
is_text_form itself = false
is_text_form opens = false
is_text_form quiet = false

-- beside a move with no code stands only a closing 01, and its value is a text
abbrev closing_or_none : Move → Bool
closing_or_none m = has_code closing m || has_code no_code m

abbrev uncoded_ok : List Move → Move → Bool
uncoded_ok l m = not (has_code no_code m) || (is_text_form m.form && every closing_or_none l)

-- a move with no row has a code, and is no agent's
abbrev quiet_ok : Move → Bool
quiet_ok m = not (is_quiet m.form) || (not (has_code no_code m) && not (eqb m.kind agent_name))

abbrev well_formed : Edition → Room → Bool
well_formed e r =
    apart same_code (moves e r) && (apart same_row (moves e r) && (every (uncoded_ok (moves e r)) (moves e r) && (every quiet_ok (moves e r) && (not (is_closed r) || every (λ m. false) (moves e r)))))

pub record WellFormed (e : Edition) (r : Room) : Type 0 where
  pub codes : T (apart same_code (moves e r))
  pub rows : T (apart same_row (moves e r))
  pub uncoded : T (every (uncoded_ok (moves e r)) (moves e r))
  pub quiets : T (every quiet_ok (moves e r))
  pub none : T (not (is_closed r) || every (λ m. false) (moves e r))

well_formed_test : T (all_rooms well_formed)
unfolding moves shared own
well_formed_test = tt

pub well_formed_lem : (e : Edition) (r : Room) → WellFormed e r
well_formed_lem e r =
    let a = apart same_code (moves e r) in let b = apart same_row (moves e r) in let c = every (uncoded_ok (moves e r)) (moves e r) in let d = every quiet_ok (moves e r) in
    let f = not (is_closed r) || every (λ m. false) (moves e r) in
    let t : T (a && (b && (c && (d && f)))) = each_room well_formed well_formed_test e r in
    let t₁ = right_of a (b && (c && (d && f))) t in let t₂ = right_of b (c && (d && f)) t₁ in let t₃ = right_of c (d && f) t₂ in
    record { codes = left_of a (b && (c && (d && f))) t; rows = left_of b (c && (d && f)) t₁; uncoded = left_of c (d && f) t₂; quiets = left_of d f t₃; none = right_of d f t₃ }

-- The reader's look

-- a move is found at its code
pub look_coded : (e : Edition) (r : Room) {m : Move} → In m (moves e r) → look m.code (moves e r) ≡ hit m
unfolding look
look_coded e r {m} i =
    rw (find_in (has_code m.code) same_code i (well_formed_lem e r).codes (eqb_refl m.code) (λ x p. p)) refl

uncoded_facts : (e : Edition) (r : Room) {m : Move} → In m (moves e r) → m.code ≡ no_code → T (is_text_form m.form && every closing_or_none (moves e r))
uncoded_facts e r {m} i c =
    let t : T (uncoded_ok (moves e r) m) = every_in (uncoded_ok (moves e r)) i (well_formed_lem e r).uncoded in
    rw (eq-eqb m.code no_code c) at t

pub uncoded_text : (e : Edition) (r : Room) {m : Move} → In m (moves e r) → m.code ≡ no_code → T (is_text_form m.form)
uncoded_text e r {m} i c = left_of (is_text_form m.form) (every closing_or_none (moves e r)) (uncoded_facts e r i c)

or_uncoded : (b : ℕ) (l : List Move) (m : Move) → (b ≡ closing → ⊥) → T (every closing_or_none l) → find (has_code no_code) l ≡ hit m → (o : Found) → find (has_code b) l ≡ o → Hits (has_code b) l o
    → or_else o (find (has_code no_code) l) ≡ hit m
or_uncoded b l m h t e none eo i = e
or_uncoded b l m h t e (hit x) eo i =
    let c : x.code ≡ b = eqb→eq x.code b i.1 in
    by_either (either (has_code closing x) (has_code no_code x) (every_in closing_or_none i.0 t)) c
  where
    by_either : T (has_code closing x) ⊎ T (has_code no_code x) → x.code ≡ b → hit x ≡ hit m
    by_either (inl q) c = absurd (h (sym c ∙ eqb→eq x.code closing q))
    by_either (inr q) c = sym eo ∙ ap (λ (k : ℕ). find (has_code k) l) (sym c ∙ eqb→eq x.code no_code q) ∙ e

-- a move with no code is found at every byte but 01
pub look_uncoded : (e : Edition) (r : Room) {m : Move} → In m (moves e r) → m.code ≡ no_code → (b : ℕ) → (b ≡ closing → ⊥) → look b (moves e r) ≡ hit m
unfolding look
look_uncoded e r {m} i c b h =
    or_uncoded b (moves e r) m h (right_of (is_text_form m.form) (every closing_or_none (moves e r)) (uncoded_facts e r i c))
    (find_in (has_code no_code) same_code i (well_formed_lem e r).codes (subst T (sym (eq-eqb m.code no_code c)) tt) (λ x p. subst (λ (k : ℕ). T (eqb x.code k)) (sym c) p))
    (find (has_code b) (moves e r)) refl (find_hits (has_code b) (moves e r))

-- what is looked up is one of the room's moves, with that code or with none
abbrev pub Looked : ℕ → List Move → Found → Type 0
Looked b l none = Unit {0}
Looked b l (hit m) = In m l × ((m.code ≡ b) ⊎ (m.code ≡ no_code))

looked_or : (b : ℕ) (l : List Move) (o p : Found) → Hits (has_code b) l o → Hits (has_code no_code) l p → Looked b l (or_else o p)
looked_or b l none none i j = tt
looked_or b l none (hit m) i j = (j.0, inr (eqb→eq m.code no_code j.1))
looked_or b l (hit m) p i j = (i.0, inl (eqb→eq m.code b i.1))

pub looked : (b : ℕ) (l : List Move) → Looked b l (look b l)
unfolding look
looked b l = looked_or b l (find (has_code b) l) (find (has_code no_code) l) (find_hits (has_code b) l) (find_hits (has_code no_code) l)

-- Moves with no row

quiet_facts : (e : Edition) (r : Room) {m : Move} → In m (moves e r) → is_quiet m.form ≡ true → T (not (has_code no_code m) && not (eqb m.kind agent_name))
quiet_facts e r {m} i q =
    let t : T (quiet_ok m) = every_in quiet_ok i (well_formed_lem e r).quiets in
    rw q at t

pub quiet_coded : (e : Edition) (r : Room) {m : Move} → In m (moves e r) → is_quiet m.form ≡ true → has_code no_code m ≡ false
quiet_coded e r {m} i q = is_false (has_code no_code m) (left_of (not (has_code no_code m)) (not (eqb m.kind agent_name)) (quiet_facts e r i q))

pub quiet_flat : (e : Edition) (r : Room) {m : Move} → In m (moves e r) → is_quiet m.form ≡ true → (st : State) → too_deep m st ≡ false
quiet_flat e r {m} i q st =
    rw (is_false (eqb m.kind agent_name) (right_of (not (has_code no_code m)) (not (eqb m.kind agent_name)) (quiet_facts e r i q))) refl

-- a closed room has no move
pub closed_none : (e : Edition) (r : Room) {m : Move} → In m (moves e r) → is_closed r ≡ false
closed_none e r {m} i = at (is_closed r) refl
  where
    at : (b : Bool) → is_closed r ≡ b → is_closed r ≡ false
    at true q = absurd (every_in (λ x. false) i (rw q at (well_formed_lem e r).none))
    at false q = q

-- The writer's way

abbrev pub row_at : Move → ℕ → List ℕ → Row
row_at m level v = record { kind = m.kind; level = level; view = v }

pub stands : (row : Row) (m : Move) → T (stands_for row m) → (is_quiet m.form ≡ false) × (m.kind ≡ row.kind) × T (valid m.form m.code row.view)
stands row m t =
    let a = not (is_quiet m.form) in let b = eqb m.kind row.kind in let c = valid m.form m.code row.view in
    let u = left_of (a && b) c t in
    (is_false (is_quiet m.form) (left_of a b u), eqb→eq m.kind row.kind (right_of a b u), right_of (a && b) c t)

stands_make : (m : Move) (level : ℕ) (v : List ℕ) → is_quiet m.form ≡ false → T (valid m.form m.code v) → T (stands_for (row_at m level v) m)
stands_make m level v q ok = rw q (both (eqb m.kind m.kind) (valid m.form m.code v) (eqb_refl m.kind) ok)

not_excluded : (b : Bool) → (T b → ⊥) → T (not b)
not_excluded true h = h tt
not_excluded false h = tt

-- a row's own move is found, from its value
pub own_found : (e : Edition) (r : Room) {m : Move} (level : ℕ) (v : List ℕ) → In m (moves e r) → is_quiet m.form ≡ false → T (valid m.form m.code v)
    → find (stands_for (row_at m level v)) (moves e r) ≡ hit m
own_found e r {m} level v i q ok =
    find_in (stands_for (row_at m level v)) same_row i (well_formed_lem e r).rows (stands_make m level v q ok) alike
  where
    alike : (x : Move) → T (stands_for (row_at m level v) x) → T (same_row x m)
    alike x t =
        let (loud, kind, okx) = stands (row_at m level v) x t in
        rw (loud, q, eq-eqb x.kind m.kind kind) (not_excluded (excludes x m) (excluded x m v okx ok))

pub pass_facts : (c : ℕ) (m : Move) → T (is_pass c m) → (is_quiet m.form ≡ true) × (m.code ≡ c)
pass_facts c m t = (is_true (is_quiet m.form) (left_of (is_quiet m.form) (has_code c m) t), eqb→eq m.code c (right_of (is_quiet m.form) (has_code c m) t))

pub pass_found : (e : Edition) (r : Room) {m : Move} → In m (moves e r) → is_quiet m.form ≡ true → find (is_pass m.code) (moves e r) ≡ hit m
pass_found e r {m} i q =
    find_in (is_pass m.code) same_code i (well_formed_lem e r).codes (rw q (eqb_refl m.code)) (λ x t. right_of (is_quiet x.form) (has_code m.code x) t)

-- what a way is
abbrev pub WayIs : List Move → ℕ → Row → Way → Type 0
WayIs l n row (by_own m) = In m l × (row.level ≡ n) × T (stands_for row m)
WayIs l n row (by_pass m) = In m l × (is_quiet m.form ≡ true)
WayIs l n row nowhere = Unit {0}

abbrev Passes : List Move → Found → Type 0
Passes l none = Unit {0}
Passes l (hit m) = In m l × (is_quiet m.form ≡ true)

passes_hit : (c : ℕ) (l : List Move) (o : Found) → Hits (is_pass c) l o → Passes l o
passes_hit c l none i = tt
passes_hit c l (hit m) i = (i.0, (pass_facts c m i.1).0)

passes_or : (l : List Move) (o p : Found) → Passes l o → Passes l p → Passes l (or_else o p)
passes_or l none p i j = j
passes_or l (hit m) p i j = i

way_at : (l : List Move) (n : ℕ) (row : Row) (b : Bool) (o p : Found) → eqb row.level n ≡ b → Hits (stands_for row) l o → Passes l p → WayIs l n row (ways (at_level b o) p)
way_at l n row true none none q i j = tt
way_at l n row true none (hit m) q i j = j
way_at l n row true (hit m) p q i j = (i.0, eqb-true row.level n q, i.1)
way_at l n row false o none q i j = tt
way_at l n row false o (hit m) q i j = j

pub way_is : (l : List Move) (n : ℕ) (row : Row) → WayIs l n row (way_of l n row)
unfolding way_of
way_is l n row =
    way_at l n row (eqb row.level n) (find (stands_for row) l) (or_else (find (is_pass (way_to row.kind)) l) (find (is_pass closing) l)) refl (find_hits (stands_for row) l)
    (passes_or l (find (is_pass (way_to row.kind)) l) (find (is_pass closing) l)
    (passes_hit (way_to row.kind) l (find (is_pass (way_to row.kind)) l) (find_hits (is_pass (way_to row.kind)) l))
    (passes_hit closing l (find (is_pass closing) l) (find_hits (is_pass closing) l)))
