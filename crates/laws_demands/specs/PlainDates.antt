-- Dates as plain values: coding and decoding undo each other, byte by byte.
use Rattle.std.specs.Prelude.{ℕ, ◌+◌, ◌-◌, ◌*◌, ◌/◌, ◌%◌, ◌≤◌, List, [], ◌∷◌, Bool, true, false, ◌&&◌, not, ◌≡◌, refl, T, leb, ltb, length, get_or}
use Rattle.std.proofs.Common.{append-nil, ap, sym, ◌∙◌, subst, arith, leb→le, le→leb, eqb→eq, ne_eqb, eqb-true}
use Rattle.std.proofs.Math.Dec.{eqb}
use Rattle.meaning.specs.Basics.{pick}
use Rattle.meaning.specs.Bytes.{Taken, took, failed, is_digit, digit_of, two_digits, pair_within, passes, letter, Reach, absolute, relative, date_checks, take_date, date_ok}
use Rattle.meaning.specs.Plain.{decoded, exactly, Date, date_of, pair_byte, designated, date_bytes, fits_digits, Reached, dated, no_reach, reach_of, decode_reach, decode_date, reach_allows, date_in_range}
use Rattle.laws_steps.specs.Logic.{left_of, right_of, both, is_true}
use Rattle.laws_steps.specs.Values.{Was, date_in, date_out}
use Rattle.laws_steps.specs.Lookups.{date_length_lem}
use Rattle.laws_steps.specs.Clashes.{loose, date_loose, letter_high}

-- One byte

pair_value : (x : ℕ) → x ≤ 99 → two_digits (pair_byte x) ≡ x
pair_value x h =
    let b : ℕ = pair_byte x in
    let e : b / 16 ≡ x / 10 + 1 = omega arith in
    let f : b % 16 ≡ x % 10 + 1 = omega arith in
    omega arith

half_value : (x : ℕ) → digit_of (16 * (x + 1) / 16) ≡ x
half_value x = let e : 16 * (x + 1) / 16 ≡ x + 1 = omega arith in omega arith

record Pair (b : ℕ) : Type 0 where
  again : pair_byte (two_digits b) ≡ b
  most : two_digits b ≤ 99

pair_again : (b : ℕ) → T (pair_within 0 99 b) → Pair b
pair_again b t =
    let p = leb 1 (b / 16) in let q = leb (b / 16) 10 in let r = leb 1 (b % 16) in let s = leb (b % 16) 10 in
    let x = leb 0 (two_digits b) in let y = leb (two_digits b) 99 in
    let u = left_of ((p && q) && (r && s)) x (left_of ((p && q) && (r && s) && x) y t) in
    let a = left_of (p && q) (r && s) u in let c = right_of (p && q) (r && s) u in
    let h₁ = leb→le 1 (b / 16) (left_of p q a) in let h₂ = leb→le (b / 16) 10 (right_of p q a) in
    let h₃ = leb→le 1 (b % 16) (left_of r s c) in let h₄ = leb→le (b % 16) 10 (right_of r s c) in
    let n : ℕ = two_digits b in
    let e : n / 10 ≡ b / 16 - 1 = omega arith in
    let f : n % 10 ≡ b % 16 - 1 = omega arith in
    record { again = omega arith; most = omega arith }

record Half (b : ℕ) : Type 0 where
  again : 16 * (digit_of (b / 16) + 1) ≡ b
  most : digit_of (b / 16) ≤ 9

half_again : (b : ℕ) → T (is_digit (b / 16) && eqb (b % 16) 0) → Half b
half_again b t =
    let p = leb 1 (b / 16) in let q = leb (b / 16) 10 in let r = eqb (b % 16) 0 in
    let u = left_of (p && q) r t in
    let h₁ = leb→le 1 (b / 16) (left_of p q u) in let h₂ = leb→le (b / 16) 10 (right_of p q u) in
    let h₃ = eqb→eq (b % 16) 0 (right_of (p && q) r t) in
    record { again = omega arith; most = omega arith }

-- Coded, then decoded

record InDigits (d : Date) : Type 0 where
  year : d.year ≤ 9999
  month : d.month ≤ 99
  day : d.day ≤ 99
  hour : d.hour ≤ 99
  minute : d.minute ≤ 99
  second : d.second ≤ 99
  millisecond : d.millisecond ≤ 999

in_digits : (d : Date) → T (fits_digits d) → InDigits d
in_digits d t =
    let a = leb d.year 9999 in let b = leb d.month 99 in let c = leb d.day 99 in let f = leb d.hour 99 in let g = leb d.minute 99 in let h = leb d.second 99 in let k = leb d.millisecond 999 in
    let t₆ = left_of (a && b && c && f && g && h) k t in let t₅ = left_of (a && b && c && f && g) h t₆ in let t₄ = left_of (a && b && c && f) g t₅ in let t₃ = left_of (a && b && c) f t₄ in let t₂ = left_of (a && b) c t₃ in
    record {
      year = leb→le d.year 9999 (left_of a b t₂);
      month = leb→le d.month 99 (right_of a b t₂);
      day = leb→le d.day 99 (right_of (a && b) c t₃);
      hour = leb→le d.hour 99 (right_of (a && b && c) f t₄);
      minute = leb→le d.minute 99 (right_of (a && b && c && f) g t₅);
      second = leb→le d.second 99 (right_of (a && b && c && f && g) h t₆);
      millisecond = leb→le d.millisecond 999 (right_of (a && b && c && f && g && h) k t);
    }

fits_make : (d : Date) → InDigits d → T (fits_digits d)
fits_make d i =
    let a = leb d.year 9999 in let b = leb d.month 99 in let c = leb d.day 99 in let f = leb d.hour 99 in let g = leb d.minute 99 in let h = leb d.second 99 in let k = leb d.millisecond 999 in
    both (a && b && c && f && g && h) k
    (both (a && b && c && f && g) h
    (both (a && b && c && f) g
    (both (a && b && c) f (both (a && b) c (both a b (le→leb d.year 9999 i.year) (le→leb d.month 99 i.month)) (le→leb d.day 99 i.day)) (le→leb d.hour 99 i.hour))
    (le→leb d.minute 99 i.minute))
    (le→leb d.second 99 i.second))
    (le→leb d.millisecond 999 i.millisecond)

abbrev tail : Date → Bool → List ℕ
tail d b = pick b (d.designator ∷ []) []

bytes_length : (d : Date) (b : Bool) → designated d ≡ b → ltb 9 (length (date_bytes d)) ≡ b
bytes_length d true q = rw q refl
bytes_length d false q = rw q refl

designator_again : (d : Date) (b : Bool) → eqb d.designator 0 ≡ b → get_or (date_bytes d) 9 0 ≡ d.designator
designator_again d true q = rw q (sym (eqb-true d.designator 0 q))
designator_again d false q = rw q refl

year_again : (y : ℕ) → y ≤ 9999 → 100 * two_digits (pair_byte (y / 100)) + two_digits (pair_byte (y % 100)) ≡ y
year_again y h =
    let e : two_digits (pair_byte (y / 100)) ≡ y / 100 = pair_value (y / 100) (omega arith) in
    let f : two_digits (pair_byte (y % 100)) ≡ y % 100 = pair_value (y % 100) (omega arith) in
    ap (λ (x : ℕ). 100 * x + two_digits (pair_byte (y % 100))) e ∙ ap (λ (x : ℕ). 100 * (y / 100) + x) f ∙ omega arith

millisecond_again : (m : ℕ) → m ≤ 999 → 10 * two_digits (pair_byte (m / 10)) + digit_of (16 * (m % 10 + 1) / 16) ≡ m
millisecond_again m h =
    let e : two_digits (pair_byte (m / 10)) ≡ m / 10 = pair_value (m / 10) (omega arith) in
    let f : digit_of (16 * (m % 10 + 1) / 16) ≡ m % 10 = half_value (m % 10) in
    ap (λ (x : ℕ). 10 * x + digit_of (16 * (m % 10 + 1) / 16)) e ∙ ap (λ (x : ℕ). 10 * (m / 10) + x) f ∙ omega arith

date_again : (d : Date) → InDigits d → date_of (date_bytes d) ≡ d
date_again d i = λ j.
    record {
      year = year_again d.year i.year j;
      month = pair_value d.month i.month j;
      day = pair_value d.day i.day j;
      hour = pair_value d.hour i.hour j;
      minute = pair_value d.minute i.minute j;
      second = pair_value d.second i.second j;
      millisecond = millisecond_again d.millisecond i.millisecond j;
      designator = designator_again d (eqb d.designator 0) refl j;
    }

-- 7. "coding and decoding of .. dates are inverse on what they accept, both ways"
pub date_coded_decoded : (kind : ℕ) (d : Date) → date_in_range kind d ≡ true → (decode_date kind (date_bytes d) ≡ decoded (date_bytes d)) × (date_of (date_bytes d) ≡ d)
unfolding date_in_range decode_date
date_coded_decoded kind d q = at (reach_of kind) q
  where
    at : (r : Reached) → reach_allows d r ≡ true → (decode_reach (date_bytes d) r ≡ decoded (date_bytes d)) × (date_of (date_bytes d) ≡ d)
    at no_reach p = let z : ◌≡◌ {A = ℕ} 0 1 = cc p in absurd (omega arith)
    at (dated reach) p =
        let s = date_bytes d in let cs = date_checks reach (designated d) in
        let t : T (fits_digits d && date_ok cs [] s) = subst T (sym p) tt in
        let taken : take_date cs [] s ≡ took s [] = ap (take_date cs []) (sym (append-nil s)) ∙ date_in cs [] s [] (right_of (fits_digits d) (date_ok cs [] s) t) in
        let c : date_checks reach (ltb 9 (length s)) ≡ cs = ap (date_checks reach) (bytes_length d (designated d) refl) in
        (ap (λ x. exactly s (take_date x [] s)) c ∙ ap (exactly s) taken, date_again d (in_digits d (left_of (fits_digits d) (date_ok cs [] s) t)))

-- Decoded, then coded

-- nine bytes and what follows them
abbrev Nine : List ℕ → Type 0
Nine v = (a : ℕ) × (b : ℕ) × (c : ℕ) × (d : ℕ) × (e : ℕ) × (f : ℕ) × (g : ℕ) × (h : ℕ) × (i : ℕ) × (rest : List ℕ) × (v ≡ a ∷ b ∷ c ∷ d ∷ e ∷ f ∷ g ∷ h ∷ i ∷ rest)

nine_of : (v : List ℕ) → 9 ≤ length v → Nine v
nine_of [] l = absurd (omega arith)
nine_of (a ∷ []) l = absurd (omega arith)
nine_of (a ∷ (b ∷ [])) l = absurd (omega arith)
nine_of (a ∷ (b ∷ (c ∷ []))) l = absurd (omega arith)
nine_of (a ∷ (b ∷ (c ∷ (d ∷ [])))) l = absurd (omega arith)
nine_of (a ∷ (b ∷ (c ∷ (d ∷ (e ∷ []))))) l = absurd (omega arith)
nine_of (a ∷ (b ∷ (c ∷ (d ∷ (e ∷ (f ∷ [])))))) l = absurd (omega arith)
nine_of (a ∷ (b ∷ (c ∷ (d ∷ (e ∷ (f ∷ (g ∷ []))))))) l = absurd (omega arith)
nine_of (a ∷ (b ∷ (c ∷ (d ∷ (e ∷ (f ∷ (g ∷ (h ∷ [])))))))) l = absurd (omega arith)
nine_of (a ∷ (b ∷ (c ∷ (d ∷ (e ∷ (f ∷ (g ∷ (h ∷ (i ∷ rest))))))))) l = (a, b, c, d, e, f, g, h, i, rest, refl)

module _ (a b c d e f g h i : ℕ) (rest : List ℕ) where
  abbrev nine : List ℕ
  nine = a ∷ b ∷ c ∷ d ∷ e ∷ f ∷ g ∷ h ∷ i ∷ rest

  record Parts : Type 0 where
    pa : Pair a
    pb : Pair b
    pc : Pair c
    pd : Pair d
    pe : Pair e
    pf : Pair f
    pg : Pair g
    ph : Pair h
    pi : Half i

  parts_of : (designated : Bool) → T (date_ok (date_checks relative designated) [] nine) → Parts
  unfolding date_ok passes
  parts_of z t =
      let t₁ = right_of (pair_within 0 99 a) _ t in let t₂ = right_of (pair_within 0 99 b) _ t₁ in let t₃ = right_of (pair_within 0 99 c) _ t₂ in let t₄ = right_of (pair_within 0 99 d) _ t₃ in
      let t₅ = right_of (pair_within 0 99 e) _ t₄ in let t₆ = right_of (pair_within 0 99 f) _ t₅ in let t₇ = right_of (pair_within 0 99 g) _ t₆ in let t₈ = right_of (pair_within 0 99 h) _ t₇ in
      record {
        pa = pair_again a (left_of (pair_within 0 99 a) _ t);
        pb = pair_again b (left_of (pair_within 0 99 b) _ t₁);
        pc = pair_again c (left_of (pair_within 0 99 c) _ t₂);
        pd = pair_again d (left_of (pair_within 0 99 d) _ t₃);
        pe = pair_again e (left_of (pair_within 0 99 e) _ t₄);
        pf = pair_again f (left_of (pair_within 0 99 f) _ t₅);
        pg = pair_again g (left_of (pair_within 0 99 g) _ t₆);
        ph = pair_again h (left_of (pair_within 0 99 h) _ t₇);
        pi = half_again i (left_of (is_digit (i / 16) && eqb (i % 16) 0) _ t₈);
      }

  parts_digits : Parts → InDigits (date_of nine)
  parts_digits p =
      let ha = p.pa.most in let hb = p.pb.most in let hh = p.ph.most in let hi = p.pi.most in
      record { year = omega arith; month = p.pc.most; day = p.pd.most; hour = p.pe.most; minute = p.pf.most; second = p.pg.most; millisecond = omega arith }

  -- the tenth byte, if there is one
  parts_bytes : Parts → pick (not (eqb (get_or rest 0 0) 0)) (get_or rest 0 0 ∷ []) [] ≡ rest → date_bytes (date_of nine) ≡ nine
  parts_bytes p q =
      let x = two_digits a in let y = two_digits b in let z = two_digits h in let w = digit_of (i / 16) in
      let ha = p.pa.most in let hb = p.pb.most in let hh = p.ph.most in let hi = p.pi.most in
      let e₁ : (100 * x + y) / 100 ≡ x = omega arith in let e₂ : (100 * x + y) % 100 ≡ y = omega arith in
      let e₃ : (10 * z + w) / 10 ≡ z = omega arith in let e₄ : (10 * z + w) % 10 ≡ w = omega arith in
      rw (e₁, e₂, e₃, e₄, p.pa.again, p.pb.again, p.pc.again, p.pd.again, p.pe.again, p.pf.again, p.pg.again, p.ph.again, p.pi.again, q) refl

loosened : (reach : Reach) (z : Bool) (v : List ℕ) → T (date_ok (date_checks reach z) [] v) → T (date_ok (date_checks relative z) [] v)
unfolding loose
loosened absolute true v t = date_loose (date_checks absolute true) [] v t
loosened absolute false v t = date_loose (date_checks absolute false) [] v t
loosened relative z v t = t

checks_length : (reach : Reach) (z : Bool) → length (date_checks reach z) ≡ pick z 10 9
checks_length absolute true = refl
checks_length absolute false = refl
checks_length relative true = refl
checks_length relative false = refl

-- the tenth byte of ten is a letter, and so not 0
tenth : (a b c d e f g h i : ℕ) (rest : List ℕ) (z : Bool) → length rest ≡ pick z 1 0 → T (date_ok (date_checks relative z) [] (a ∷ b ∷ c ∷ d ∷ e ∷ f ∷ g ∷ h ∷ i ∷ rest))
    → (pick (not (eqb (get_or rest 0 0) 0)) (get_or rest 0 0 ∷ []) [] ≡ rest) × (not (eqb (get_or rest 0 0) 0) ≡ z)
unfolding date_ok
tenth a b c d e f g h i [] false l t = (refl, refl)
tenth a b c d e f g h i [] true l t = absurd (omega arith)
tenth a b c d e f g h i (x ∷ rest) false l t = absurd (omega arith)
tenth a b c d e f g h i (x ∷ []) true l t =
    let t₈ = right_of (passes _ _ h) _ (right_of (passes _ _ g) _ (right_of (passes _ _ f) _ (right_of (passes _ _ e) _ (right_of (passes _ _ d) _ (right_of (passes _ _ c) _ (right_of (passes _ _ b) _ (right_of (passes _ _ a) _ t))))))) in
    let u = left_of (passes letter (i ∷ h ∷ g ∷ f ∷ e ∷ d ∷ c ∷ b ∷ a ∷ []) x) true (right_of (passes _ _ i) _ t₈) in
    let k = letter_high (i ∷ h ∷ g ∷ f ∷ e ∷ d ∷ c ∷ b ∷ a ∷ []) x u in
    (rw (ne_eqb x 0 (λ q. omega arith)) refl, rw (ne_eqb x 0 (λ q. omega arith)) refl)
tenth a b c d e f g h i (x ∷ (y ∷ rest)) true l t = absurd (omega arith)

abbrev CodedAgain : Reach → Bool → List ℕ → Type 0
CodedAgain reach z v = T (fits_digits (date_of v)) × (date_bytes (date_of v) ≡ v) × (designated (date_of v) ≡ z)

coded_again : (reach : Reach) (z : Bool) (v : List ℕ) → T (date_ok (date_checks reach z) [] v) → CodedAgain reach z v
coded_again reach z v ok = at (nine_of v (long z (date_length_lem (date_checks reach z) [] v ok ∙ checks_length reach z))) (loosened reach z v ok) (date_length_lem (date_checks reach z) [] v ok ∙ checks_length reach z)
  where
    long : (z : Bool) → length v ≡ pick z 10 9 → 9 ≤ length v
    long true q = omega arith
    long false q = omega arith

    rest_length : (rest : List ℕ) (z : Bool) → 9 + length rest ≡ pick z 10 9 → length rest ≡ pick z 1 0
    rest_length rest true q = omega arith
    rest_length rest false q = omega arith

    at : Nine v → T (date_ok (date_checks relative z) [] v) → length v ≡ pick z 10 9 → CodedAgain reach z v
    at (a, b, c, d, e, f, g, h, i, rest, q) t l =
        let u : T (date_ok (date_checks relative z) [] (a ∷ b ∷ c ∷ d ∷ e ∷ f ∷ g ∷ h ∷ i ∷ rest)) = subst (λ (x : List ℕ). T (date_ok (date_checks relative z) [] x)) q t in
        let p = parts_of a b c d e f g h i rest z u in
        let (k, m) = tenth a b c d e f g h i rest z (rest_length rest z (omega (arith, ap length q))) u in
        subst (CodedAgain reach z) (sym q) (fits_make (date_of (a ∷ b ∷ c ∷ d ∷ e ∷ f ∷ g ∷ h ∷ i ∷ rest)) (parts_digits a b c d e f g h i rest p), parts_bytes a b c d e f g h i rest p k, m)

exactly_date : (reach : Reach) (z : Bool) (s : List ℕ) (g : Taken) (v : List ℕ) → Was (λ x. x) (date_ok (date_checks reach z) []) s g → exactly s g ≡ decoded v → (s ≡ v) × T (date_ok (date_checks reach z) [] v)
exactly_date reach z s (failed refusal left) v w q = let x : ◌≡◌ {A = ℕ} 0 1 = cc q in absurd (omega arith)
exactly_date reach z s (took u (b ∷ rest)) v w q = let x : ◌≡◌ {A = ℕ} 0 1 = cc q in absurd (omega arith)
exactly_date reach z s (took u []) v w q = let e : u ≡ v = cc q in (w.0 ∙ append-nil u ∙ e, subst (λ (x : List ℕ). T (date_ok (date_checks reach z) [] x)) e w.1)

pub date_decoded_coded : (kind : ℕ) (s v : List ℕ) → decode_date kind s ≡ decoded v → (s ≡ v) × (date_in_range kind (date_of v) ≡ true) × (date_bytes (date_of v) ≡ s)
unfolding date_in_range decode_date
date_decoded_coded kind s v q = at (reach_of kind) q
  where
    at : (r : Reached) → decode_reach s r ≡ decoded v → (s ≡ v) × (reach_allows (date_of v) r ≡ true) × (date_bytes (date_of v) ≡ s)
    at no_reach p = let x : ◌≡◌ {A = ℕ} 0 1 = cc p in absurd (omega arith)
    at (dated reach) p =
        let z = ltb 9 (length s) in
        let (e, ok) = exactly_date reach z s (take_date (date_checks reach z) [] s) v (date_out (date_checks reach z) [] s) p in
        let (f, b, m) = coded_again reach z v ok in
        let allowed : fits_digits (date_of v) && date_ok (date_checks reach (designated (date_of v))) [] (date_bytes (date_of v)) ≡ true
        = ap (λ (x : Bool). fits_digits (date_of v) && date_ok (date_checks reach x) [] (date_bytes (date_of v))) m ∙ ap (λ (x : List ℕ). fits_digits (date_of v) && date_ok (date_checks reach z) [] x) b
        ∙ is_true (fits_digits (date_of v) && date_ok (date_checks reach z) [] v) (both (fits_digits (date_of v)) (date_ok (date_checks reach z) [] v) f ok) in
        (e, allowed, b ∙ sym e)
