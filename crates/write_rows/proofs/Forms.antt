-- Values whose kind and bytes pick one move of several, and those that none takes.
use Prim.Native.Nat.{ℕ, ◌+◌, ◌-◌, ◌≤◌, ◌<◌}
use mathlib.Core.List.{List, [], ◌∷◌, ◌++◌}
use mathlib.Core.Bool.{Bool, true, false, ◌&&◌, ◌||◌}
use mathlib.Core.Path.{◌≡◌, refl, ap, sym, ◌∙◌, subst}
use native.Mathlib.Omega.{arith}
use lib.Dec.{T, eqb, leb, ltb, leb→le}
use lib.ListN.{length, get_or, drop}
use lib.Seq.{get_or-take, get_or-drop}
use borrow.Author.Tests.{eq-eqb, ne_eqb, eqb-true, eqb-false, lt-ltb, le-ltb, ltb-true, ltb-false, le-leb, lt-leb, leb-true}
use Rattle.meaning.specs.Basics.{pick, is_empty}
use Rattle.meaning.specs.Bytes.{Reach, absolute, relative, date_ok, date_checks, block_ok, length_bytes, one_byte, two_bytes, four_bytes}
use Rattle.meaning.specs.Kinds.{standard_representation, any_bytes}
use Rattle.meaning.specs.Editions.{Next, date, block, itself, Move, representations, any_values, on◌▸◌▸◌▸◌}
use Rattle.meaning.specs.Reading.{Found, none, hit, find}
use Rattle.meaning.specs.Writing.{valid, at_level, stands_for, lead, write_value}
use Rattle.laws_steps.specs.Logic.{right_of}
use Rattle.laws_steps.specs.From.{from, from_length}
use Rattle.date.specs.Dates.{reaching, dates_of}
use Rattle.table.specs.Rows.{row_with, RowAhead, IsAhead, viewed, row_ahead, u32_most}
use Rattle.meaning.specs.Told.{Edition, B, D}
use Rattle.write_rows.specs.Laying.{one, Laid, laid_as}
use Rattle.laws_steps.specs.Rows.{cells_at}
use Rattle.write_rows.specs.Codes.{date_code, block_bytes}
use Rattle.write_rows.specs.Rooms.{of_kind, standards, own_among, NotAmong}
use Rattle.write_rows.specs.Stages.{IsSought, RowTaken}
use Rattle.table.specs.Kinds.{number_of}
use Rattle.table.specs.contracts.kinds.Kind.{the_type}
use denote.Enum.Bare.{sameb}
use Rattle.std.proofs.lemmas.Grind.{common_steps}
use Rattle.table.specs.declared.kinds.Kind.{Kind}
use Rattle.table.specs.declared.kinds.Kind.TheVariants.{DateAbsolute, DateForward, DateBackward}
use Rattle.table.specs.declared.rows.Ahead.{Ahead}
use Rattle.std.specs.Prelude.{Option, None, Some}
use Rattle.write_rows.proofs.Values.{date_length_lem, only_byte, only_other, empty_is}
use Rattle.write_rows.specs.Openings.{opens_past}
use Rattle.write_rows.specs.Among.{takes, find_kind, row_none}

-- The bytes that a row views

module _ {pool rows : List ℕ} {i kind level : ℕ} {r : Ahead} (s : IsSought pool rows i kind level r) where
  pub view_length : length (viewed pool r) ≡ r.end - r.start
  unfolding from
  view_length = from_length pool r.start r.end s.ordered s.inside

  pub view_short : length (viewed pool r) ≤ u32_most
  view_short = omega (arith, view_length, s.short)

  empty_by : {b : Bool} → eqb (r.end - r.start) 0 ≡ b → is_empty (viewed pool r) ≡ b
  empty_by q = empty_is (viewed pool r) ∙ ap (λ (n : ℕ). eqb n 0) view_length ∙ q

  pub view_none : r.start ≡ r.end → is_empty (viewed pool r) ≡ true
  view_none q = empty_by (eq-eqb (r.end - r.start) 0 (omega arith))

  pub view_some : (r.start ≡ r.end → ⊥) → is_empty (viewed pool r) ≡ false
  view_some h = empty_by (ne_eqb (r.end - r.start) 0 (λ q. h (omega (arith, s.ordered))))

  view_byte : r.start < r.end → get_or pool r.start 0 ≡ get_or (viewed pool r) 0 0
  view_byte l =
      let z : r.start ≡ r.start + 0 = omega arith in
      ap (λ (n : ℕ). get_or pool n 0) z ∙ sym (get_or-drop r.start pool 0 0) ∙ sym (get_or-take (r.end - r.start) (drop r.start pool) 0 0 (omega arith))

-- What is found among the moves of the row's kind

module _ (l : List Move) (level kind lvl : ℕ) (v : List ℕ) (q : lvl ≡ level) {pool rows : List ℕ} {i : ℕ} (a : RowAhead pool rows i (row_with kind lvl v)) where
  own_is : (o : Found) → find (takes v) (of_kind kind l) ≡ o → own_among l level (row_with kind lvl v) ≡ o
  own_is o z = ap (λ (b : Bool). at_level b (find (stands_for (row_with kind lvl v)) l)) (eq-eqb lvl level q) ∙ find_kind (row_with kind lvl v) l ∙ z

  picked : (m : Move) {before : List ℕ} {at : ℕ} {after : List ℕ} {p : ℕ} → 3 ≤ kind → find (takes v) (of_kind kind l) ≡ hit m → Laid before at (lead m ++ write_value m.form v) after p → RowTaken l level pool rows i before at after p
  picked m k z x =
      record { row = row_with kind lvl v; move = m; ahead = a; inner = sym (opens_past kind lvl v (omega arith)); stands = own_is (hit m) z; laid = x }

  pub unpicked : find (takes v) (of_kind kind l) ≡ none → NotAmong l level (cells_at pool rows i)
  unpicked z = row_none l level a (own_is none z)

pub ahead_none : (l : List Move) (level : ℕ) {pool rows : List ℕ} {i : ℕ} {r : Ahead} → IsAhead pool rows i r → (r.level ≡ level → find (takes (viewed pool r)) (of_kind r.kind l) ≡ none) → NotAmong l level (cells_at pool rows i)
ahead_none l level {pool} {r = r} a f = row_none l level a.row (by (eqb r.level level) refl)
  where
    by : (b : Bool) → eqb r.level level ≡ b → at_level b (find (stands_for (row_ahead pool r)) l) ≡ none
    by true q = find_kind (row_ahead pool r) l ∙ f (eqb-true r.level level q)
    by false q = refl

-- "The shortest length form is required": a block is taken in the form of its length

module _ (v : List ℕ) where
  pub block_one : length v < 256 → block_bytes v ≡ 0x16 ∷ (length v ∷ v)
  block_one h = rw (lt-ltb (length v) 256 h) refl

  pub block_two : 256 ≤ length v → length v < 65536 → block_bytes v ≡ 0x17 ∷ (length_bytes two_bytes (length v) ++ v)
  block_two h k = rw (le-ltb (length v) 256 h, lt-ltb (length v) 65536 k) refl

  pub block_four : 65536 ≤ length v → block_bytes v ≡ 0x19 ∷ (length_bytes four_bytes (length v) ++ v)
  block_four h = rw (le-ltb (length v) 256 (omega arith), le-ltb (length v) 65536 h) refl

  pub block_taken : (n : Next) (level : ℕ) {pool rows : List ℕ} {i : ℕ} {before : List ℕ} {at : ℕ} {after : List ℕ} {p : ℕ} → RowAhead pool rows i (row_with any_bytes level v) → length v ≤ u32_most → Laid before at (block_bytes v) after p → RowTaken (any_values n) level pool rows i before at after p
  unfolding find valid block_ok write_value
  block_taken n level {pool} {rows} {i} {before} {at} {after} {p} a h l = by (ltb (length v) 256) refl (ltb (length v) 65536) refl
    where
      by_move : (m : Move) → find (takes v) (of_kind any_bytes (any_values n)) ≡ hit m → block_bytes v ≡ lead m ++ write_value m.form v → RowTaken (any_values n) level pool rows i before at after p
      by_move m f b = picked (any_values n) level any_bytes level v refl a m (omega arith) f (laid_as l _ b)

      by : (x : Bool) → ltb (length v) 256 ≡ x → (y : Bool) → ltb (length v) 65536 ≡ y → RowTaken (any_values n) level pool rows i before at after p
      by true q y r = by_move (on 0x16 ▸ any_bytes ▸ block one_byte ▸ n) (rw (le-leb 0 (length v) (omega arith), q) refl) (block_one (ltb-true (length v) 256 q))
      by false q true r =
          let k = ltb-false (length v) 256 q in
          by_move (on 0x17 ▸ any_bytes ▸ block two_bytes ▸ n) (rw (le-leb 0 (length v) (omega arith), q, le-leb 256 (length v) k, r) refl) (block_two k (ltb-true (length v) 65536 r))
      by false q false r =
          let k = ltb-false (length v) 65536 r in
          by_move (on 0x19 ▸ any_bytes ▸ block four_bytes ▸ n) (rw (le-leb 0 (length v) (omega arith), q, le-leb 256 (length v) (omega arith), r, le-leb 65536 (length v) k, lt-ltb (length v) 4294967296 (omega arith)) refl) (block_four k)

-- A standard representation is its byte

abbrev standard : Next → ℕ → Move
standard n b = on b ▸ standard_representation ▸ itself ▸ n

abbrev CodeOf : Next → ℕ → Found → Type 0
CodeOf n b o = o ≡ pick (leb 0x10 b && leb b 0x12) (hit (standard n b)) none

by_byte : (n : Next) (b : ℕ) → CodeOf n b (pick (eqb b 0x10) (hit (standard n 0x10)) (pick (eqb b 0x11) (hit (standard n 0x11)) (pick (eqb b 0x12) (hit (standard n 0x12)) none)))
by_byte n b = at (eqb b 0x10) refl (eqb b 0x11) refl (eqb b 0x12) refl
  where
    outside : (b ≡ 0x10 → ⊥) → (b ≡ 0x11 → ⊥) → (b ≡ 0x12 → ⊥) → (t : Bool) → leb 0x10 b ≡ t → (t && leb b 0x12) ≡ false
    outside x y z true q = let h = leb-true 0x10 b q in lt-leb b 0x12 (omega arith)
    outside x y z false q = refl

    at : (x : Bool) → eqb b 0x10 ≡ x → (y : Bool) → eqb b 0x11 ≡ y → (z : Bool) → eqb b 0x12 ≡ z → CodeOf n b (pick x (hit (standard n 0x10)) (pick y (hit (standard n 0x11)) (pick z (hit (standard n 0x12)) none)))
    at true q y r z s = subst (λ (k : ℕ). CodeOf n k (hit (standard n 0x10))) (sym (eqb-true b 0x10 q)) refl
    at false q true r z s = subst (λ (k : ℕ). CodeOf n k (hit (standard n 0x11))) (sym (eqb-true b 0x11 r)) refl
    at false q false r true s = subst (λ (k : ℕ). CodeOf n k (hit (standard n 0x12))) (sym (eqb-true b 0x12 s)) refl
    at false q false r false s = sym (ap (λ (t : Bool). pick t (hit (standard n b)) none) (outside (eqb-false b 0x10 q) (eqb-false b 0x11 r) (eqb-false b 0x12 s) (leb 0x10 b) refl))

module _ (n : Next) (v : List ℕ) where
  standard_found : {b : ℕ} → length v ≡ 1 → b ≡ get_or v 0 0 → CodeOf n b (find (takes v) (of_kind standard_representation (representations n)))
  unfolding find valid
  standard_found {b} k q = rw (sym (only_byte 0x10 v k q), sym (only_byte 0x11 v k q), sym (only_byte 0x12 v k q)) (by_byte n b)

  pub standard_none : (length v ≡ 1 → ⊥) → find (takes v) (of_kind standard_representation (representations n)) ≡ none
  unfolding find valid
  standard_none h = rw (sym (only_other 0x10 v h), sym (only_other 0x11 v h), sym (only_other 0x12 v h)) refl

module _ (n : Next) {pool rows : List ℕ} {i : ℕ} {r : Ahead} (s : IsSought pool rows i standard_representation 0 r) (k : r.end - r.start ≡ 1) where
  found_byte : CodeOf n (get_or pool r.start 0) (find (takes (viewed pool r)) (of_kind standard_representation (representations n)))
  found_byte = standard_found n (viewed pool r) (view_length s ∙ k) (view_byte s (omega arith))

  pub standard_taken : {before : List ℕ} {at : ℕ} {after : List ℕ} {p : ℕ} → (leb 0x10 (get_or pool r.start 0) && leb (get_or pool r.start 0) 0x12) ≡ true → Laid before at (one (get_or pool r.start 0)) after p → RowTaken (standards n) 0 pool rows i before at after p
  unfolding write_value
  standard_taken t l =
      let b : ℕ = get_or pool r.start 0 in
      let small = leb→le b 0x12 (right_of (leb 0x10 b) (leb b 0x12) (subst T (sym t) tt)) in
      picked (standards n) 0 standard_representation 0 (viewed pool r) refl s.row (standard n b) (omega arith) (found_byte ∙ ap (λ (x : Bool). pick x (hit (standard n b)) none) t) (laid_as l _ (sym (ap (λ (x : Bool). pick x [] (one b) ++ []) (ne_eqb b 256 (λ q. omega arith)))))

  pub standard_other : (leb 0x10 (get_or pool r.start 0) && leb (get_or pool r.start 0) 0x12) ≡ false → NotAmong (standards n) 0 (cells_at pool rows i)
  standard_other t = unpicked (standards n) 0 standard_representation 0 (viewed pool r) refl s.row (found_byte ∙ ap (λ (x : Bool). pick x (hit (standard n (get_or pool r.start 0))) none) t)

-- "Length 9 or 10 picks the date code"

pub code_between : (kind : ℕ) → (ltb kind 5 || ltb 7 kind) ≡ false → (5 ≤ kind) × (kind ≤ 7)
code_between kind q = at (ltb kind 5) refl q
  where
    at : (b : Bool) → ltb kind 5 ≡ b → (b || ltb 7 kind) ≡ false → (5 ≤ kind) × (kind ≤ 7)
    at true e z = let w : ◌≡◌ {A = ℕ} 0 1 = cc z in absurd (omega arith)
    at false e z = (ltb-false kind 5 e, ltb-false 7 kind z)

code_none : (edition : Edition) (kind : ℕ) (d : Bool) → (kind ≡ 5 → ⊥) → (kind ≡ 6 → ⊥) → (kind ≡ 7 → ⊥) → date_code edition kind d ≡ None
code_none D kind d h₅ h₆ h₇ = at (ltb kind 5) refl
  where
    at : (b : Bool) → ltb kind 5 ≡ b → pick (b || ltb 7 kind) None (Some (kind + pick d 0x1f 0x1b)) ≡ None
    at true e = refl
    at false e = let h = ltb-false kind 5 e in ap (λ (b : Bool). pick b None (Some (kind + pick d 0x1f 0x1b))) (lt-ltb 7 kind (omega arith))
code_none B kind d h₅ h₆ h₇ = ap (λ (b : Bool). pick b (Some (pick d 0x21 0x20)) None) (ne_eqb kind 5 h₅)

code_kind : (edition : Edition) (kind : ℕ) (d : Bool) {code : ℕ} → Some code ≡ date_code edition kind d → 5 ≤ kind
code_kind edition kind d {code} h = at (ltb kind 5) refl
  where
    at : (b : Bool) → ltb kind 5 ≡ b → 5 ≤ kind
    at true e =
        let k = ltb-true kind 5 e in
        let z : Some code ≡ None = h ∙ code_none edition kind d (λ q. omega arith) (λ q. omega arith) (λ q. omega arith) in
        cc
    at false e = ltb-false kind 5 e

module _ (v : List ℕ) where
  -- of two dates that differ in the designator, the one of this length
  by_length : (reach : Reach) (m m₁ : Move) (d : Bool) → eqb (length v) 10 ≡ d → pick (date_ok (date_checks reach false) [] v) (hit m) (pick (date_ok (date_checks reach true) [] v) (hit m₁) none) ≡ pick (date_ok (date_checks reach d) [] v) (hit (pick d m₁ m)) none
  by_length reach m m₁ true q = ap (λ (b : Bool). pick b (hit m) (pick (date_ok (date_checks reach true) [] v) (hit m₁) none)) (sym (date_length_lem reach false v (λ z. omega (arith, eqb-true (length v) 10 q))))
  by_length reach m m₁ false q = ap (λ (b : Bool). pick (date_ok (date_checks reach false) [] v) (hit m) (pick b (hit m₁) none)) (sym (date_length_lem reach true v (eqb-false (length v) 10 q)))

  abbrev dated : Option ℕ → ℕ → Bool → Next → Found
  dated None kind d n = none
  dated (Some code) kind d n = pick (date_ok (date_checks (reaching (eqb kind 5)) d) [] v) (hit (on code ▸ kind ▸ date (reaching (eqb kind 5)) d ▸ n)) none

  module _ (n : Next) where
    abbrev Dated : Edition → Bool → ℕ → Type 0
    Dated edition d kind = find (takes v) (of_kind kind (dates_of edition n)) ≡ dated (date_code edition kind d) kind d n

    of_date : (edition : Edition) (d : Bool) → eqb (length v) 10 ≡ d → Dated edition d 5 × Dated edition d 6 × Dated edition d 7
    unfolding find valid
    of_date D true q = (by_length absolute _ _ true q, by_length relative _ _ true q, by_length relative _ _ true q)
    of_date D false q = (by_length absolute _ _ false q, by_length relative _ _ false q, by_length relative _ _ false q)
    of_date B true q = (by_length absolute _ _ true q, refl, refl)
    of_date B false q = (by_length absolute _ _ false q, refl, refl)

    no_date_lem : (edition : Edition) (kind : ℕ) → (kind ≡ 5 → ⊥) → (kind ≡ 6 → ⊥) → (kind ≡ 7 → ⊥) → find (takes v) (of_kind kind (dates_of edition n)) ≡ none
    unfolding find
    no_date_lem D kind x y z = rw (ne_eqb 5 kind (λ q. x (sym q)), ne_eqb 6 kind (λ q. y (sym q)), ne_eqb 7 kind (λ q. z (sym q))) refl
    no_date_lem B kind x y z = rw (ne_eqb 5 kind (λ q. x (sym q))) refl

    date_found : (edition : Edition) (kind : ℕ) (d : Bool) → eqb (length v) 10 ≡ d → Dated edition d kind
    date_found edition kind d q = at (eqb kind 5) refl (eqb kind 6) refl (eqb kind 7) refl
      where
        at : (x : Bool) → eqb kind 5 ≡ x → (y : Bool) → eqb kind 6 ≡ y → (z : Bool) → eqb kind 7 ≡ z → Dated edition d kind
        at true e y f z g = subst (Dated edition d) (sym (eqb-true kind 5 e)) (of_date edition d q).0
        at false e true f z g = subst (Dated edition d) (sym (eqb-true kind 6 f)) (of_date edition d q).1
        at false e false f true g = subst (Dated edition d) (sym (eqb-true kind 7 g)) (of_date edition d q).2
        at false e false f false g =
            let x = eqb-false kind 5 e in
            let y = eqb-false kind 6 f in
            let z = eqb-false kind 7 g in
            no_date_lem edition kind x y z ∙ sym (ap (λ (c : Option ℕ). dated c kind d n) (code_none edition kind d x y z))

    module _ (edition : Edition) (kind : ℕ) where
      pub date_unknown : None ≡ date_code edition kind (eqb (length v) 10) → find (takes v) (of_kind kind (dates_of edition n)) ≡ none
      date_unknown q = date_found edition kind (eqb (length v) 10) refl ∙ ap (λ (c : Option ℕ). dated c kind (eqb (length v) 10) n) (sym q)

      pub date_wrong : date_ok (date_checks (reaching (eqb kind 5)) (eqb (length v) 10)) [] v ≡ false → find (takes v) (of_kind kind (dates_of edition n)) ≡ none
      date_wrong q = date_found edition kind (eqb (length v) 10) refl ∙ at (date_code edition kind (eqb (length v) 10))
        where
          at : (o : Option ℕ) → dated o kind (eqb (length v) 10) n ≡ none
          at None = refl
          at (Some code) = ap (λ (b : Bool). pick b (hit (on code ▸ kind ▸ date (reaching (eqb kind 5)) (eqb (length v) 10) ▸ n)) none) q

-- the code's own test of a kind
pub absolute_kind : (k : Kind) {b : Bool} → b ≡ sameb the_type k DateAbsolute → b ≡ eqb (number_of k) 5
absolute_kind k q = grind (arith, common_steps)

-- a number that is no kind's is no date's
pub date_of_none : (edition : Edition) (n : Next) (v : List ℕ) (kind : ℕ) → ((k : Kind) → number_of k ≡ kind → ⊥) → find (takes v) (of_kind kind (dates_of edition n)) ≡ none
date_of_none edition n v kind h = no_date_lem v n edition kind (λ q. h DateAbsolute (sym q)) (λ q. h DateForward (sym q)) (λ q. h DateBackward (sym q))

pub date_taken : (edition : Edition) (level : ℕ) (n : Next) {pool rows : List ℕ} {i : ℕ} {r : Ahead} (code : ℕ) {before : List ℕ} {at : ℕ} {after : List ℕ} {p : ℕ} → IsAhead pool rows i r → r.level ≡ level → Some code ≡ date_code edition r.kind (eqb (length (viewed pool r)) 10) → code < 256 → date_ok (date_checks (reaching (eqb r.kind 5)) (eqb (length (viewed pool r)) 10)) [] (viewed pool r) ≡ true → Laid before at (code ∷ viewed pool r) after p → RowTaken (dates_of edition n) level pool rows i before at after p
unfolding write_value
date_taken edition level n {pool} {rows} {i} {r} code a z q h t l =
    let v : List ℕ = viewed pool r in
    let d : Bool = eqb (length v) 10 in
    let past = code_kind edition r.kind d q in
    picked (dates_of edition n) level r.kind r.level v z a.row (on code ▸ r.kind ▸ date (reaching (eqb r.kind 5)) d ▸ n) (omega arith)
    (date_found v n edition r.kind d refl ∙ rw (sym q, t) refl)
    (laid_as l _ (sym (ap (λ (b : Bool). pick b [] (code ∷ []) ++ v) (ne_eqb code 256 (λ e. omega arith)))))
