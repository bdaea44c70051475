-- What an edition does at a code of the other's: refuse it with 7 or 9; and at date code 21, where both have a date:
-- B's date with a designator leaves D a letter where a code should stand, D's forward date leaves B a code where the letter should.
use Rattle.std.specs.Prelude.{ℕ, suc, ◌/◌, ◌%◌, ◌≤◌, ◌<◌, List, [], ◌∷◌, ◌++◌, map, Bool, true, false, ◌&&◌, ◌||◌, not, ◌⊎◌, ◌≡◌, refl, T, eqb, leb, length}
use Rattle.std.proofs.Common.{append_assoc, inl, inr, ap, sym, ◌∙◌, subst, arith, leb→le, ltb→lt, le→leb, eqb→eq}
use Rattle.std.proofs.lemmas.Bool.{lt-leb}
use Rattle.meaning.specs.Basics.{pick, every}
use Rattle.meaning.specs.Bytes.{Taken, took, failed, prefixed, is_digit, two_digits, Check, pair, day, half, letter, last_day_after, pair_within, passes, Reach, absolute, relative, any_pair, date_checks, take_date, date_ok}
use Rattle.meaning.specs.Kinds.{agent_name}
use Rattle.meaning.specs.Told.{Edition, B, D, Told, told}
use Rattle.meaning.specs.Editions.{Room, State, Next, outer, inner, inner_one, stay, deeper, list_ends, agent_ends, go, Form, text, date, number, block, itself, opens, quiet, Move, no_code, moves}
use Rattle.meaning.specs.Reading.{Row, take_value, Found, none, hit, find, has_code, look, is_closed, strange, too_deep, fails, step, step_move, fault, with_rows, inside}
use Rattle.meaning.specs.Writing.{valid, write_value}
use Rattle.laws_steps.specs.Logic.{left_of, right_of, both, either, is_false}
use Rattle.laws_steps.specs.Values.{date_in}
use Rattle.laws_steps.specs.Tables.{every_in, Hits, find_hits}
use Rattle.laws_steps.specs.Lookups.{date_length_lem}
use Rattle.laws_steps.specs.Steps.{Path, inside_path, inside_next, inside_fails, step_is}
use Rattle.laws_steps.specs.Fits.{Placing}
use Rattle.laws_steps.specs.PlainRows.{Alone, clash_ok, clash_with, clashes, is_date_of, is_lost, low_move, low_next, low_room, other, same_bool, same_reach}

-- What the other edition does at a code that it lacks

abbrev pub Refuses : Told → State → List ℕ → Type 0
Refuses told st s = (refusal : ℕ) × (left : ℕ) × (inside told st s ≡ fault refusal left) × T (eqb refusal 7 || eqb refusal 9)

lost_none : (o : Found) → T (is_lost o) → o ≡ none
lost_none none t = refl
lost_none (hit m) t = absurd t

step_lost : (told : Told) (st : State) (b : ℕ) (s : List ℕ) → look b (moves told.edition st.room) ≡ none → is_closed st.room ≡ false → step told st (b ∷ s) ≡ fails (strange st.room) (suc (length s))
unfolding step step_move
step_lost told st b s q h = rw (q, h) refl

high_none : (l : List Move) (b : ℕ) → 0x20 ≤ b → T (every low_move l) → (o : Found) → Hits (has_code b) l o → o ≡ none
high_none l b h t none i = refl
high_none l b h t (hit m) i =
    let a : m.code < 0x20 = ltb→lt m.code 0x20 (every_in low_move i.0 t) in
    let c : m.code ≡ b = eqb→eq m.code b i.1 in
    absurd (omega arith)

look_high : (l : List Move) (b : ℕ) → 0x20 ≤ b → T (every low_move l) → look b l ≡ none
unfolding look
look_high l b h t = rw (high_none l b h t (find (has_code b) l) (find_hits (has_code b) l), high_none l no_code (omega arith) t (find (has_code no_code) l) (find_hits (has_code no_code) l)) refl

pub record LowRoom (e : Edition) (r : Room) : Type 0 where
  pub low : T (every low_move (moves e r))
  pub ajar : is_closed r ≡ false
  pub seven : strange r ≡ 7

low_facts : (e : Edition) (r : Room) → T (low_room e r) → LowRoom e r
low_facts e r t =
    let a = every low_move (moves e r) in let b = not (is_closed r) in let c = eqb (strange r) 7 in
    let u = right_of a (b && c) t in
    record { low = left_of a (b && c) t; ajar = is_false (is_closed r) (left_of b c u); seven = eqb→eq (strange r) 7 (right_of b c u) }

step_high : (told : Told) (st : State) (b : ℕ) (s : List ℕ) → 0x20 ≤ b → LowRoom told.edition st.room → step told st (b ∷ s) ≡ fails 7 (suc (length s))
step_high told st b s h f =
    step_lost told st b s (look_high (moves told.edition st.room) b h f.low) f.ajar ∙ ap (λ (k : ℕ). fails k (suc (length s))) f.seven

low_next_lem : (e : Edition) (st : State) (n : Next) → T (low_next e n) → LowRoom e (go n st).room
low_next_lem e st (outer t) ok = low_facts e t ok
low_next_lem e st (inner t) ok = absurd ok
low_next_lem e st (inner_one t) ok = absurd ok
low_next_lem e st (stay t) ok = low_facts e t ok
low_next_lem e st (deeper t) ok = absurd ok
low_next_lem e st list_ends ok = absurd ok
low_next_lem e st agent_ends ok = absurd ok

-- Two dates at one code. An absolute date's bytes are a relative one's

unfoldable pub loose : Check → Check
loose (pair lo hi) = any_pair
loose day = any_pair
loose half = half
loose letter = letter

pair_loose : (lo hi b : ℕ) → T (pair_within lo hi b) → T (pair_within 0 99 b)
pair_loose lo hi b t =
    let p = is_digit (b / 16) in let q = is_digit (b % 16) in let x = leb lo (two_digits b) in let y = leb (two_digits b) hi in
    let u = left_of (p && q) x (left_of (p && q && x) y t) in
    let h = leb→le (b / 16) 10 (right_of (leb 1 (b / 16)) (leb (b / 16) 10) (left_of p q u)) in
    let k = leb→le (b % 16) 10 (right_of (leb 1 (b % 16)) (leb (b % 16) 10) (right_of p q u)) in
    both (p && q && leb 0 (two_digits b)) (leb (two_digits b) 99) (both (p && q) (leb 0 (two_digits b)) u (le→leb 0 (two_digits b) (omega arith))) (le→leb (two_digits b) 99 (omega arith))

passes_loose : (c : Check) (earlier : List ℕ) (b : ℕ) → T (passes c earlier b) → T (passes (loose c) earlier b)
unfolding passes loose
passes_loose (pair lo hi) earlier b t = pair_loose lo hi b t
passes_loose day earlier b t = pair_loose 1 (last_day_after earlier) b t
passes_loose half earlier b t = t
passes_loose letter earlier b t = t

pub date_loose : (cs : List Check) (earlier v : List ℕ) → T (date_ok cs earlier v) → T (date_ok (map loose cs) earlier v)
unfolding date_ok
date_loose [] earlier [] t = t
date_loose [] earlier (b ∷ v) t = t
date_loose (c ∷ cs) earlier [] t = t
date_loose (c ∷ cs) earlier (b ∷ v) t =
    both (passes (loose c) earlier b) (date_ok (map loose cs) (b ∷ earlier) v) (passes_loose c earlier b (left_of (passes c earlier b) (date_ok cs (b ∷ earlier) v) t))
    (date_loose cs (b ∷ earlier) v (right_of (passes c earlier b) (date_ok cs (b ∷ earlier) v) t))

abbrev Last : List Check → Check → List ℕ → List ℕ → Type 0
Last cs c earlier v = (u : List ℕ) × (x : ℕ) × (before : List ℕ) × (v ≡ u ++ (x ∷ [])) × T (date_ok cs earlier u) × T (passes c before x)

last_cons : (d : Check) (cs : List Check) (c : Check) (earlier : List ℕ) (b : ℕ) (v : List ℕ) → T (passes d earlier b) → Last cs c (b ∷ earlier) v → Last (d ∷ cs) c earlier (b ∷ v)
unfolding date_ok
last_cons d cs c earlier b v t (u, x, before, q, p, h) = (b ∷ u, x, before, ap (λ (r : List ℕ). b ∷ r) q, both (passes d earlier b) (date_ok cs (b ∷ earlier) u) t p, h)

split_last : (cs : List Check) (c : Check) (earlier v : List ℕ) → T (date_ok (cs ++ (c ∷ [])) earlier v) → Last cs c earlier v
unfolding date_ok
split_last [] c earlier [] t = absurd t
split_last [] c earlier (b ∷ []) t = ([], b, earlier, refl, tt, left_of (passes c earlier b) true t)
split_last [] c earlier (b ∷ (d ∷ v)) t = absurd (right_of (passes c earlier b) false t)
split_last (d ∷ cs) c earlier [] t = absurd t
split_last (d ∷ cs) c earlier (b ∷ v) t =
    last_cons d cs c earlier b v (left_of (passes d earlier b) (date_ok (cs ++ (c ∷ [])) (b ∷ earlier) v) t) (split_last cs c (b ∷ earlier) v (right_of (passes d earlier b) (date_ok (cs ++ (c ∷ [])) (b ∷ earlier) v) t))

-- a designator is above every code of a low room, and no such code is one
pub letter_high : (earlier : List ℕ) (b : ℕ) → T (passes letter earlier b) → 0x20 ≤ b
unfolding passes
letter_high earlier b t = at (either (leb 0x41 b && leb b 0x5a) (leb 0x61 b && leb b 0x7a) t)
  where
    at : T (leb 0x41 b && leb b 0x5a) ⊎ T (leb 0x61 b && leb b 0x7a) → 0x20 ≤ b
    at (inl u) = let h = leb→le 0x41 b (left_of (leb 0x41 b) (leb b 0x5a) u) in omega arith
    at (inr u) = let h = leb→le 0x61 b (left_of (leb 0x61 b) (leb b 0x7a) u) in omega arith

letter_low : (b : ℕ) → b < 0x20 → (earlier : List ℕ) → passes letter earlier b ≡ false
unfolding passes
letter_low b h earlier = rw (lt-leb 0x41 b (omega arith), lt-leb 0x61 b (omega arith)) refl

abbrev Nine : Taken → Type 0
Nine (took v s) = ⊥
Nine (failed refusal left) = refusal ≡ 9

nine_prefixed : (b : ℕ) (g : Taken) → Nine g → Nine (prefixed b g)
nine_prefixed b (took v s) i = i
nine_prefixed b (failed refusal left) i = i

nine_pick : (b left : ℕ) (g : Taken) (p : Bool) → Nine g → Nine (pick p (prefixed b g) (failed 9 left))
nine_pick b left g true i = nine_prefixed b g i
nine_pick b left g false i = refl

-- a date one byte too short, before a byte that does not pass
date_short : (cs : List Check) (c : Check) (earlier v : List ℕ) (y : ℕ) (rest : List ℕ) → length v ≡ length cs → ((before : List ℕ) → passes c before y ≡ false) → Nine (take_date (cs ++ (c ∷ [])) earlier (v ++ (y ∷ rest)))
unfolding take_date
date_short [] c earlier [] y rest h q = rw (q earlier) refl
date_short [] c earlier (b ∷ v) y rest h q = absurd (omega arith)
date_short (d ∷ cs) c earlier [] y rest h q = absurd (omega arith)
date_short (d ∷ cs) c earlier (b ∷ v) y rest h q =
    nine_pick b (suc (length (v ++ (y ∷ rest)))) (take_date (cs ++ (c ∷ [])) (b ∷ earlier) (v ++ (y ∷ rest))) (passes d earlier b) (date_short cs c (b ∷ earlier) v y rest (omega arith) q)

nine_failed : (g : Taken) → Nine g → (left : ℕ) × (g ≡ failed 9 left)
nine_failed (took v s) i = absurd i
nine_failed (failed refusal left) i = (left, ap (λ (k : ℕ). failed k left) i)

step_failed : (told : Told) (st : State) (m : Move) (b : ℕ) (s : List ℕ) {refusal left : ℕ} → look b (moves told.edition st.room) ≡ hit m → too_deep m st ≡ false → has_code no_code m ≡ false
    → take_value told m.form (suc (length s)) m.code s ≡ failed refusal left → step told st (b ∷ s) ≡ fails refusal left
unfolding step step_move
step_failed told st m b s el ed eb es = rw (el, ed, eb, es) refl

abbrev pub Low : List ℕ → Type 0
Low [] = ⊥
Low (b ∷ s) = b < 0x20

-- what the tests tell of the two moves at one code
same_reach_lem : (r s : Reach) → T (same_reach r s) → r ≡ s
same_reach_lem absolute absolute t = refl
same_reach_lem absolute relative t = absurd t
same_reach_lem relative absolute t = absurd t
same_reach_lem relative relative t = refl

same_bool_lem : (a b : Bool) → T (same_bool a b) → a ≡ b
same_bool_lem true true t = refl
same_bool_lem true false t = absurd t
same_bool_lem false true t = absurd t
same_bool_lem false false t = refl

date_of_lem : (r : Reach) (d : Bool) (f : Form) → T (is_date_of r d f) → f ≡ date r d
date_of_lem r d (text rule) t = absurd t
date_of_lem r d (date reach designated) t =
    let p = same_reach_lem r reach (left_of (same_reach r reach) (same_bool d designated) t) in
    let q = same_bool_lem d designated (right_of (same_reach r reach) (same_bool d designated) t) in
    rw (p, q) refl
date_of_lem r d number t = absurd t
date_of_lem r d (block w) t = absurd t
date_of_lem r d itself t = absurd t
date_of_lem r d opens t = absurd t
date_of_lem r d quiet t = absurd t

record Clash (e : Edition) (r : Room) (b : ℕ) : Type 0 where
  by : Move
  found : look b (moves e r) ≡ hit by
  form : T (clashes e by.form)
  coded : has_code no_code by ≡ false
  flat : (st : State) → too_deep by st ≡ false
  low : T (low_next e by.next)

clash_of : (e : Edition) (r : Room) (b : ℕ) (o : Found) → look b (moves e r) ≡ o → T (clash_with e o) → Clash e r b
clash_of e r b none q t = absurd t
clash_of e r b (hit m) q t =
    let a = clashes e m.form in let c = not (has_code no_code m) in let d = not (eqb m.kind agent_name) in let f = low_next e m.next in
    let u = right_of a (c && (d && f)) t in let v = right_of c (d && f) u in
    record {
      by = m;
      found = q;
      form = left_of a (c && (d && f)) t;
      coded = is_false (has_code no_code m) (left_of c (d && f) u);
      flat = λ st. rw (is_false (eqb m.kind agent_name) (left_of d f v)) refl;
      low = right_of d f v;
    }

form_date : (told : Told) (e : Edition) (r : Reach) (d : Bool) (st : State) (b : ℕ) (c : Clash e st.room b) (s : List ℕ) → T (is_date_of r d c.by.form)
    → take_value told c.by.form (suc (length s)) c.by.code s ≡ take_date (date_checks r d) [] s
unfolding take_value
form_date told e r d st b c s t = ap (λ (f : Form). take_value told f (suc (length s)) c.by.code s) (date_of_lem r d c.by.form t)

-- B's date with a designator, read by D: nine bytes of a forward date, then a letter where a code should stand
read_by_D : (st : State) (b : ℕ) (u : List ℕ) (x : ℕ) (rest : List ℕ) (c : Clash D st.room b) → T (date_ok (date_checks absolute false) [] u) → 0x20 ≤ x → Refuses (told D) st (b ∷ (u ++ (x ∷ rest)))
unfolding loose
read_by_D st b u x rest c ok h =
    let s = u ++ (x ∷ rest) in
    let m = c.by in
    let taken : take_value (told D) m.form (suc (length s)) m.code s ≡ took u (x ∷ rest) = form_date (told D) D relative false st b c s c.form ∙ date_in (date_checks relative false) [] u (x ∷ rest) (date_loose (date_checks absolute false) [] u ok) in
    let first = step_is (told D) st m b s u (x ∷ rest) c.found (c.flat st) (rw c.coded taken) in
    let second = step_high (told D) (go m.next st) x rest h (low_next_lem D st m.next c.low) in
    (7, suc (length rest), inside_next (told D) st (b ∷ s) first ∙ ap (with_rows _) (inside_fails (told D) (go m.next st) (x ∷ rest) second), tt)

-- D's forward date, read by B: the code behind it is no designator
read_by_B : (st : State) (b : ℕ) (v : List ℕ) (y : ℕ) (rest : List ℕ) (c : Clash B st.room b) → length v ≡ 9 → y < 0x20 → Refuses (told B) st (b ∷ (v ++ (y ∷ rest)))
read_by_B st b v y rest c h k =
    let s = v ++ (y ∷ rest) in
    let (left, q) = nine_failed (take_date (date_checks absolute true) [] s) (date_short (date_checks absolute false) letter [] v y rest h (letter_low y k)) in
    (9, left, inside_fails (told B) st (b ∷ s) (step_failed (told B) st c.by b s c.found (c.flat st) c.coded (form_date (told B) B absolute true st b c s c.form ∙ q)), tt)

own_bytes : (st st' : State) (row : Row) (m : Move) (bs : List ℕ) (r : Reach) (d : Bool) → has_code no_code m ≡ false → T (is_date_of r d m.form) → Placing st row m st' bs → (bs ≡ m.code ∷ row.view) × T (date_ok (date_checks r d) [] row.view)
unfolding write_value valid
own_bytes st st' row m bs r d q t p =
    let f = date_of_lem r d m.form t in
    let o : m.code ∷ write_value m.form row.view ≡ bs = rw q at p.out in
    (sym o ∙ ap (λ (x : Form). m.code ∷ write_value x row.view) f, subst (λ (x : Form). T (valid x m.code row.view)) f p.ok)

clash_refused : (e : Edition) (st st' : State) (row : Row) (m : Move) (bs rest : List ℕ) → has_code no_code m ≡ false → Clash (other e) st.room m.code → T (clashes e m.form) → Placing st row m st' bs → Low rest → Refuses (told (other e)) st (bs ++ rest)
clash_refused B st st' row m bs rest q c t p lo =
    let (o, ok) = own_bytes st st' row m bs absolute true q t p in
    at o (split_last (date_checks absolute false) letter [] row.view ok)
  where
    at : bs ≡ m.code ∷ row.view → Last (date_checks absolute false) letter [] row.view → Refuses (told D) st (bs ++ rest)
    at o (u, x, before, e, ok, h) =
        let w : bs ++ rest ≡ m.code ∷ (u ++ (x ∷ rest)) = rw (o, e) (ap (λ (r : List ℕ). m.code ∷ r) (append_assoc u (x ∷ []) rest)) in
        rw w (read_by_D st m.code u x rest c ok (letter_high before x h))
clash_refused D st st' row m bs [] q c t p lo = absurd lo
clash_refused D st st' row m bs (y ∷ rest) q c t p lo =
    let (o, ok) = own_bytes st st' row m bs relative false q t p in
    rw o (read_by_B st m.code row.view y rest c (date_length_lem (date_checks relative false) [] row.view ok) lo)

lost_refused : (e : Edition) (st st' : State) (row : Row) (m : Move) (bs rest : List ℕ) → Alone e st.room m → Placing st row m st' bs → look m.code (moves (other e) st.room) ≡ none → Refuses (told (other e)) st (bs ++ rest)
lost_refused e st st' row m bs rest o p q =
    let s = write_value m.form row.view ++ rest in
    let a : m.code ∷ write_value m.form row.view ≡ bs = rw o.coded at p.out in
    (strange st.room, suc (length s), rw (← a) (inside_fails (told (other e)) st (m.code ∷ s) (step_lost (told (other e)) st m.code s q o.ajar)), o.refusal)

-- a row that the other edition lacks; the bytes behind it begin low, unless its move leads to no low room
pub foreign_refused : (e : Edition) (st st' : State) (row : Row) (m : Move) (bs rest : List ℕ) → Alone e st.room m → Placing st row m st' bs → (LowRoom e st'.room → Low rest)
    → T (is_lost (look m.code (moves (other e) st.room))) ⊎ T (clash_ok e st.room m) → Refuses (told (other e)) st (bs ++ rest)
foreign_refused e st st' row m bs rest o p k (inl t) = lost_refused e st st' row m bs rest o p (lost_none (look m.code (moves (other e) st.room)) t)
foreign_refused e st st' row m bs rest o p k (inr t) =
    let mine = clash_of_mine (left_of (clash_with e (hit m)) (clash_with (other e) (look m.code (moves (other e) st.room))) t) in
    let theirs = clash_of (other e) st.room m.code (look m.code (moves (other e) st.room)) refl (right_of (clash_with e (hit m)) (clash_with (other e) (look m.code (moves (other e) st.room))) t) in
    clash_refused e st st' row m bs rest o.coded theirs mine.0 p (k (subst (λ (x : State). LowRoom e x.room) p.to (low_next_lem e st m.next mine.1)))
  where
    clash_of_mine : T (clash_with e (hit m)) → T (clashes e m.form) × T (low_next e m.next)
    clash_of_mine u =
        let a = clashes e m.form in let c = not (has_code no_code m) in let d = not (eqb m.kind agent_name) in let f = low_next e m.next in
        (left_of a (c && (d && f)) u, right_of d f (right_of c (d && f) (right_of a (c && (d && f)) u)))

pub fault_behind : (told : Told) (st st₁ : State) (s s₁ : List ℕ) → Path told st s [] st₁ s₁ → Refuses told st₁ s₁ → Refuses told st s
fault_behind told st st₁ s s₁ p (refusal, left, q, t) = (refusal, left, inside_path told p ∙ ap (with_rows []) q, t)
