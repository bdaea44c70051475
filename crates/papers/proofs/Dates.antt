-- The papers' dates and the reader's checks of them, both ways.
use Rattle.std.specs.Prelude.{ℕ, ◌+◌, ◌*◌, ◌/◌, ◌%◌, ◌≤◌, Bool, true, false, ◌&&◌, ◌||◌, ◌≡◌, length, T, eqb, leb}
use mathlib.Core.List.{List, [], ◌∷◌, ◌++◌, append-nil}
use Rattle.std.proofs.Math.Path.{refl, subst}
use Rattle.std.proofs.Common.{ap, ap₂, sym, ◌∙◌, arith, le→leb, leb→le, eqb→eq}
use Rattle.meaning.specs.Basics.{pick}
use Rattle.meaning.specs.Bytes.{Reach, absolute, relative, Check, letter, is_digit, digit_of, two_digits, pair_within, passes, is_leap, last_day, checks_of, date_checks, date_ok}
use Rattle.laws_steps.specs.Lookups.{date_length_lem}
use Rattle.papers.specs.Values.{BinDate, in_time, span, designated, by, TypeDesignator, capital, small, two, padded, date_bytes}

and_T : (a b : Bool) → T a → T b → T (a && b)
and_T true b s t = t
and_T false b s t = absurd s

left_T : (a b : Bool) → T (a && b) → T a
left_T true b t = tt
left_T false b t = absurd t

right_T : (a b : Bool) → T (a && b) → T b
right_T true b t = t
right_T false b t = absurd t

two_value : (x : ℕ) → x ≤ 99 → two_digits (two x) ≡ x
two_value x h = omega arith

pair_in : (x lo hi : ℕ) → x ≤ 99 → lo ≤ x → x ≤ hi → T (pair_within lo hi (two x))
pair_in x lo hi h l m =
    let b = two x in
    let q = b / 16 in
    let r = b % 16 in
    let t = two_digits b in
    let e : t ≡ x = two_value x h in
    let qs : T (is_digit q) = and_T (leb 1 q) (leb q 10) (le→leb 1 q (omega arith)) (le→leb q 10 (omega arith)) in
    let rs : T (is_digit r) = and_T (leb 1 r) (leb r 10) (le→leb 1 r (omega arith)) (le→leb r 10 (omega arith)) in
    and_T (is_digit q && is_digit r && leb lo t) (leb t hi) (and_T (is_digit q && is_digit r) (leb lo t) (and_T (is_digit q) (is_digit r) qs rs) (le→leb lo t (omega (arith, e)))) (le→leb t hi (omega (arith, e)))

half_in : (x : ℕ) → x ≤ 9 → T (is_digit (padded x / 16) && eqb (padded x % 16) 0)
half_in x h =
    let q = padded x / 16 in
    and_T (is_digit q) (eqb (padded x % 16) 0) (and_T (leb 1 q) (leb q 10) (le→leb 1 q (omega arith)) (le→leb q 10 (omega arith))) (subst (λ (r : ℕ). T (eqb r 0)) (let z : 0 ≡ padded x % 16 = omega arith in z) tt)

last_day_most : (y m : ℕ) → last_day y m ≤ 31
unfolding last_day
last_day_most y m = by (eqb m 2) (is_leap y) (eqb m 4 || eqb m 6 || eqb m 9 || eqb m 11)
  where
    by : (a b c : Bool) → pick a (pick b 29 28) (pick c 30 31) ≤ 31
    by true true c = omega arith
    by true false c = omega arith
    by false b true = omega arith
    by false b false = omega arith

year_value : (y : ℕ) → y ≤ 9999 → 100 * two_digits (two (y / 100)) + two_digits (two (y % 100)) ≡ y
year_value y h = ap₂ (λ (a b : ℕ). 100 * a + b) (two_value (y / 100) (omega arith)) (two_value (y % 100) (omega arith)) ∙ omega arith

-- a pair that passes is some number's code
abbrev Two : ℕ → ℕ → ℕ → Type 0
Two lo hi b = (two (two_digits b) ≡ b) × (two_digits b ≤ 99) × (lo ≤ two_digits b) × (two_digits b ≤ hi)

pair_out : (lo hi b : ℕ) → T (pair_within lo hi b) → Two lo hi b
pair_out lo hi b ok =
    let q = b / 16 in
    let r = b % 16 in
    let t = two_digits b in
    let o₁ = left_T (is_digit q && is_digit r && leb lo t) (leb t hi) ok in
    let o₂ = left_T (is_digit q && is_digit r) (leb lo t) o₁ in
    let qs = left_T (is_digit q) (is_digit r) o₂ in
    let rs = right_T (is_digit q) (is_digit r) o₂ in
    let q₁ : 1 ≤ q = leb→le 1 q (left_T (leb 1 q) (leb q 10) qs) in
    let q₂ : q ≤ 10 = leb→le q 10 (right_T (leb 1 q) (leb q 10) qs) in
    let r₁ : 1 ≤ r = leb→le 1 r (left_T (leb 1 r) (leb r 10) rs) in
    let r₂ : r ≤ 10 = leb→le r 10 (right_T (leb 1 r) (leb r 10) rs) in
    (omega (arith, q₁, q₂, r₁, r₂), omega (arith, q₁, q₂, r₁, r₂), leb→le lo t (right_T (is_digit q && is_digit r) (leb lo t) o₁), leb→le t hi (right_T (is_digit q && is_digit r && leb lo t) (leb t hi) ok))

-- the nine bytes of a date, and the checks behind them

pass_one : (c : Check) (cs : List Check) (earlier : List ℕ) (b : ℕ) (v : List ℕ) → T (passes c earlier b) → T (date_ok cs (b ∷ earlier) v) → T (date_ok (c ∷ cs) earlier (b ∷ v))
unfolding date_ok
pass_one c cs earlier b v s t = and_T (passes c earlier b) (date_ok cs (b ∷ earlier) v) s t

head_passes : (c : Check) (cs : List Check) (earlier : List ℕ) (b : ℕ) (v : List ℕ) → T (date_ok (c ∷ cs) earlier (b ∷ v)) → T (passes c earlier b)
unfolding date_ok
head_passes c cs earlier b v t = left_T (passes c earlier b) (date_ok cs (b ∷ earlier) v) t

tail_passes : (c : Check) (cs : List Check) (earlier : List ℕ) (b : ℕ) (v : List ℕ) → T (date_ok (c ∷ cs) earlier (b ∷ v)) → T (date_ok cs (b ∷ earlier) v)
unfolding date_ok
tail_passes c cs earlier b v t = right_T (passes c earlier b) (date_ok cs (b ∷ earlier) v) t

absolute_in : (y mo d h mi s ms : ℕ) → y ≤ 9999 → 1 ≤ mo → mo ≤ 12 → 1 ≤ d → d ≤ last_day y mo → h ≤ 23 → mi ≤ 59 → s ≤ 59 → ms ≤ 999 → (cs : List Check) (t : List ℕ) → ((earlier : List ℕ) → T (date_ok cs earlier t))
    → T (date_ok (checks_of absolute cs) [] (date_bytes y mo d h mi s ms ++ t))
unfolding passes
absolute_in y mo d h mi s ms hy m₁ m₂ d₁ d₂ hh hmi hs hms cs t ok =
    let days : last_day (100 * two_digits (two (y / 100)) + two_digits (two (y % 100))) (two_digits (two mo)) ≡ last_day y mo = ap₂ last_day (year_value y hy) (two_value mo (omega arith)) in
    let most = last_day_most y mo in
    pass_one _ _ _ _ _ (pair_in (y / 100) 0 99 (omega arith) (omega arith) (omega arith))
    (pass_one _ _ _ _ _ (pair_in (y % 100) 0 99 (omega arith) (omega arith) (omega arith))
    (pass_one _ _ _ _ _ (pair_in mo 1 12 (omega arith) m₁ m₂)
    (pass_one _ _ _ _ _ (subst (λ (x : ℕ). T (pair_within 1 x (two d))) (sym days) (pair_in d 1 (last_day y mo) (omega (arith, most, d₂)) d₁ d₂))
    (pass_one _ _ _ _ _ (pair_in h 0 23 (omega arith) (omega arith) hh)
    (pass_one _ _ _ _ _ (pair_in mi 0 59 (omega arith) (omega arith) hmi)
    (pass_one _ _ _ _ _ (pair_in s 0 59 (omega arith) (omega arith) hs)
    (pass_one _ _ _ _ _ (pair_in (ms / 10) 0 99 (omega arith) (omega arith) (omega arith))
    (pass_one _ _ _ _ _ (half_in (ms % 10) (omega arith)) (ok _)))))))))

relative_in : (y mo d h mi s ms : ℕ) → y ≤ 9999 → mo ≤ 99 → d ≤ 99 → h ≤ 99 → mi ≤ 99 → s ≤ 99 → ms ≤ 999 → (cs : List Check) (t : List ℕ) → ((earlier : List ℕ) → T (date_ok cs earlier t))
    → T (date_ok (checks_of relative cs) [] (date_bytes y mo d h mi s ms ++ t))
unfolding passes
relative_in y mo d h mi s ms hy hmo hd hh hmi hs hms cs t ok =
    pass_one _ _ _ _ _ (pair_in (y / 100) 0 99 (omega arith) (omega arith) (omega arith))
    (pass_one _ _ _ _ _ (pair_in (y % 100) 0 99 (omega arith) (omega arith) (omega arith))
    (pass_one _ _ _ _ _ (pair_in mo 0 99 hmo (omega arith) hmo)
    (pass_one _ _ _ _ _ (pair_in d 0 99 hd (omega arith) hd)
    (pass_one _ _ _ _ _ (pair_in h 0 99 hh (omega arith) hh)
    (pass_one _ _ _ _ _ (pair_in mi 0 99 hmi (omega arith) hmi)
    (pass_one _ _ _ _ _ (pair_in s 0 99 hs (omega arith) hs)
    (pass_one _ _ _ _ _ (pair_in (ms / 10) 0 99 (omega arith) (omega arith) (omega arith))
    (pass_one _ _ _ _ _ (half_in (ms % 10) (omega arith)) (ok _)))))))))

date_in : (reach : Reach) (a : List ℕ) (before : ℕ) (v : List ℕ) → BinDate reach a before v → (cs : List Check) (t : List ℕ) → ((earlier : List ℕ) → T (date_ok cs earlier t)) → (a ≡ v) × (before ≡ 0) × T (date_ok (checks_of reach cs) [] (v ++ t))
date_in _ _ _ _ (in_time y mo d h mi s ms hy m₁ m₂ d₁ d₂ hh hmi hs hms) cs t ok = (refl, refl, absolute_in y mo d h mi s ms hy m₁ m₂ d₁ d₂ hh hmi hs hms cs t ok)
date_in _ _ _ _ (span y mo d h mi s ms hy hmo hd hh hmi hs hms) cs t ok = (refl, refl, relative_in y mo d h mi s ms hy hmo hd hh hmi hs hms cs t ok)

or_left : (a b : Bool) → T a → T (a || b)
or_left true b t = tt
or_left false b t = absurd t

or_right : (a b : Bool) → T b → T (a || b)
or_right true b t = tt
or_right false b t = t

letter_in : (c : ℕ) → TypeDesignator c → (earlier : List ℕ) → T (date_ok (letter ∷ []) earlier (c ∷ []))
unfolding date_ok passes
letter_in c (capital h k) earlier = and_T ((leb 0x41 c && leb c 0x5a) || (leb 0x61 c && leb c 0x7a)) true (or_left (leb 0x41 c && leb c 0x5a) (leb 0x61 c && leb c 0x7a) (and_T (leb 0x41 c) (leb c 0x5a) (le→leb 0x41 c h) (le→leb c 0x5a k))) tt
letter_in c (small h k) earlier = and_T ((leb 0x41 c && leb c 0x5a) || (leb 0x61 c && leb c 0x7a)) true (or_right (leb 0x41 c && leb c 0x5a) (leb 0x61 c && leb c 0x7a) (and_T (leb 0x61 c) (leb c 0x7a) (le→leb 0x61 c h) (le→leb c 0x7a k))) tt

letter_out : (c : ℕ) → T ((leb 0x41 c && leb c 0x5a) || (leb 0x61 c && leb c 0x7a)) → TypeDesignator c
letter_out c t = by (leb 0x41 c && leb c 0x5a) refl t
  where
    by : (a : Bool) → leb 0x41 c && leb c 0x5a ≡ a → T (a || (leb 0x61 c && leb c 0x7a)) → TypeDesignator c
    by true q t = let u : T (leb 0x41 c && leb c 0x5a) = subst T (sym q) tt in capital (leb→le 0x41 c (left_T (leb 0x41 c) (leb c 0x5a) u)) (leb→le c 0x5a (right_T (leb 0x41 c) (leb c 0x5a) u))
    by false q t = small (leb→le 0x61 c (left_T (leb 0x61 c) (leb c 0x7a) t)) (leb→le c 0x7a (right_T (leb 0x61 c) (leb c 0x7a) t))

-- .. and out again
abbrev Nine : Reach → List Check → List ℕ → Type 0
Nine reach cs v = (n t earlier : List ℕ) × BinDate reach n 0 n × (v ≡ n ++ t) × T (date_ok cs earlier t)

half_out : (i : ℕ) → T (is_digit (i / 16) && eqb (i % 16) 0) → (padded (digit_of (i / 16)) ≡ i) × (digit_of (i / 16) ≤ 9)
half_out i hi =
    let i₀ = left_T (is_digit (i / 16)) (eqb (i % 16) 0) hi in
    let i₁ : 1 ≤ i / 16 = leb→le 1 (i / 16) (left_T (leb 1 (i / 16)) (leb (i / 16) 10) i₀) in
    let i₂ : i / 16 ≤ 10 = leb→le (i / 16) 10 (right_T (leb 1 (i / 16)) (leb (i / 16) 10) i₀) in
    let i₃ : i % 16 ≡ 0 = eqb→eq (i % 16) 0 (right_T (is_digit (i / 16)) (eqb (i % 16) 0) hi) in
    (omega (arith, i₁, i₂, i₃), omega (arith, i₁, i₂, i₃))

module _ (a b c d e f g h i : ℕ) where
  abbrev nine : List ℕ
  nine = a ∷ b ∷ c ∷ d ∷ e ∷ f ∷ g ∷ h ∷ i ∷ []

  abbrev year : ℕ
  year = 100 * two_digits a + two_digits b

  abbrev thousandths : ℕ
  thousandths = 10 * two_digits h + digit_of (i / 16)

  -- coded again, they are the same bytes
  nine_again : two (two_digits a) ≡ a → two_digits a ≤ 99 → two (two_digits b) ≡ b → two_digits b ≤ 99 → two (two_digits c) ≡ c → two (two_digits d) ≡ d → two (two_digits e) ≡ e → two (two_digits f) ≡ f → two (two_digits g) ≡ g
      → two (two_digits h) ≡ h → padded (digit_of (i / 16)) ≡ i → digit_of (i / 16) ≤ 9 → date_bytes year (two_digits c) (two_digits d) (two_digits e) (two_digits f) (two_digits g) thousandths ≡ nine
  nine_again qa la qb lb qc qd qe qf qg qh qi li =
      let x = two_digits a in let y = two_digits b in let z = two_digits h in let w = digit_of (i / 16) in
      let e₁ : (100 * x + y) / 100 ≡ x = omega arith in let e₂ : (100 * x + y) % 100 ≡ y = omega arith in
      let e₃ : (10 * z + w) / 10 ≡ z = omega arith in let e₄ : (10 * z + w) % 10 ≡ w = omega arith in
      rw (e₁, e₂, e₃, e₄, qa, qb, qc, qd, qe, qf, qg, qh, qi) refl

  module _ (t : List ℕ) (cs : List Check) where
    absolute_out : T (date_ok (checks_of absolute cs) [] (nine ++ t)) → Nine absolute cs (nine ++ t)
    unfolding passes
    absolute_out ok =
        let last = last_day year (two_digits c) in
        let t₁ = tail_passes _ _ _ _ _ ok in let t₂ = tail_passes _ _ _ _ _ t₁ in let t₃ = tail_passes _ _ _ _ _ t₂ in let t₄ = tail_passes _ _ _ _ _ t₃ in let t₅ = tail_passes _ _ _ _ _ t₄ in
        let t₆ = tail_passes _ _ _ _ _ t₅ in let t₇ = tail_passes _ _ _ _ _ t₆ in let t₈ = tail_passes _ _ _ _ _ t₇ in let t₉ = tail_passes _ _ _ _ _ t₈ in
        let (qa, la, za, ma) = pair_out 0 99 a (head_passes _ _ _ _ _ ok) in let (qb, lb, zb, mb) = pair_out 0 99 b (head_passes _ _ _ _ _ t₁) in let (qc, lc, zc, mc) = pair_out 1 12 c (head_passes _ _ _ _ _ t₂) in
        let (qd, ld, zd, md) = pair_out 1 last d (head_passes _ _ _ _ _ t₃) in
        let (qe, le, ze, me) = pair_out 0 23 e (head_passes _ _ _ _ _ t₄) in let (qf, lf, zf, mf) = pair_out 0 59 f (head_passes _ _ _ _ _ t₅) in let (qg, lg, zg, mg) = pair_out 0 59 g (head_passes _ _ _ _ _ t₆) in
        let (qh, lh, zh, mh) = pair_out 0 99 h (head_passes _ _ _ _ _ t₇) in
        let (qi, li) = half_out i (head_passes _ _ _ _ _ t₈) in
        let x : BinDate absolute _ 0 _ = in_time year (two_digits c) (two_digits d) (two_digits e) (two_digits f) (two_digits g) thousandths (omega arith) zc mc zd md me mf mg (omega arith) in
        (nine, t, i ∷ h ∷ g ∷ f ∷ e ∷ d ∷ c ∷ b ∷ a ∷ [], subst (λ (l : List ℕ). BinDate absolute l 0 l) (nine_again qa la qb lb qc qd qe qf qg qh qi li) x, refl, t₉)

    relative_out : T (date_ok (checks_of relative cs) [] (nine ++ t)) → Nine relative cs (nine ++ t)
    unfolding passes
    relative_out ok =
        let t₁ = tail_passes _ _ _ _ _ ok in let t₂ = tail_passes _ _ _ _ _ t₁ in let t₃ = tail_passes _ _ _ _ _ t₂ in let t₄ = tail_passes _ _ _ _ _ t₃ in let t₅ = tail_passes _ _ _ _ _ t₄ in
        let t₆ = tail_passes _ _ _ _ _ t₅ in let t₇ = tail_passes _ _ _ _ _ t₆ in let t₈ = tail_passes _ _ _ _ _ t₇ in let t₉ = tail_passes _ _ _ _ _ t₈ in
        let (qa, la, za, ma) = pair_out 0 99 a (head_passes _ _ _ _ _ ok) in let (qb, lb, zb, mb) = pair_out 0 99 b (head_passes _ _ _ _ _ t₁) in let (qc, lc, zc, mc) = pair_out 0 99 c (head_passes _ _ _ _ _ t₂) in
        let (qd, ld, zd, md) = pair_out 0 99 d (head_passes _ _ _ _ _ t₃) in
        let (qe, le, ze, me) = pair_out 0 99 e (head_passes _ _ _ _ _ t₄) in let (qf, lf, zf, mf) = pair_out 0 99 f (head_passes _ _ _ _ _ t₅) in let (qg, lg, zg, mg) = pair_out 0 99 g (head_passes _ _ _ _ _ t₆) in
        let (qh, lh, zh, mh) = pair_out 0 99 h (head_passes _ _ _ _ _ t₇) in
        let (qi, li) = half_out i (head_passes _ _ _ _ _ t₈) in
        let x : BinDate relative _ 0 _ = span year (two_digits c) (two_digits d) (two_digits e) (two_digits f) (two_digits g) thousandths (omega arith) mc md me mf mg (omega arith) in
        (nine, t, i ∷ h ∷ g ∷ f ∷ e ∷ d ∷ c ∷ b ∷ a ∷ [], subst (λ (l : List ℕ). BinDate relative l 0 l) (nine_again qa la qb lb qc qd qe qf qg qh qi li) x, refl, t₉)

nine_out : (reach : Reach) (cs : List Check) (v : List ℕ) → 9 ≤ length v → T (date_ok (checks_of reach cs) [] v) → Nine reach cs v
nine_out absolute cs [] l ok = absurd (omega arith)
nine_out absolute cs (a ∷ []) l ok = absurd (omega arith)
nine_out absolute cs (a ∷ (b ∷ [])) l ok = absurd (omega arith)
nine_out absolute cs (a ∷ (b ∷ (c ∷ []))) l ok = absurd (omega arith)
nine_out absolute cs (a ∷ (b ∷ (c ∷ (d ∷ [])))) l ok = absurd (omega arith)
nine_out absolute cs (a ∷ (b ∷ (c ∷ (d ∷ (e ∷ []))))) l ok = absurd (omega arith)
nine_out absolute cs (a ∷ (b ∷ (c ∷ (d ∷ (e ∷ (f ∷ [])))))) l ok = absurd (omega arith)
nine_out absolute cs (a ∷ (b ∷ (c ∷ (d ∷ (e ∷ (f ∷ (g ∷ []))))))) l ok = absurd (omega arith)
nine_out absolute cs (a ∷ (b ∷ (c ∷ (d ∷ (e ∷ (f ∷ (g ∷ (h ∷ [])))))))) l ok = absurd (omega arith)
nine_out absolute cs (a ∷ (b ∷ (c ∷ (d ∷ (e ∷ (f ∷ (g ∷ (h ∷ (i ∷ t))))))))) l ok = absolute_out a b c d e f g h i t cs ok
nine_out relative cs [] l ok = absurd (omega arith)
nine_out relative cs (a ∷ []) l ok = absurd (omega arith)
nine_out relative cs (a ∷ (b ∷ [])) l ok = absurd (omega arith)
nine_out relative cs (a ∷ (b ∷ (c ∷ []))) l ok = absurd (omega arith)
nine_out relative cs (a ∷ (b ∷ (c ∷ (d ∷ [])))) l ok = absurd (omega arith)
nine_out relative cs (a ∷ (b ∷ (c ∷ (d ∷ (e ∷ []))))) l ok = absurd (omega arith)
nine_out relative cs (a ∷ (b ∷ (c ∷ (d ∷ (e ∷ (f ∷ [])))))) l ok = absurd (omega arith)
nine_out relative cs (a ∷ (b ∷ (c ∷ (d ∷ (e ∷ (f ∷ (g ∷ []))))))) l ok = absurd (omega arith)
nine_out relative cs (a ∷ (b ∷ (c ∷ (d ∷ (e ∷ (f ∷ (g ∷ (h ∷ [])))))))) l ok = absurd (omega arith)
nine_out relative cs (a ∷ (b ∷ (c ∷ (d ∷ (e ∷ (f ∷ (g ∷ (h ∷ (i ∷ t))))))))) l ok = relative_out a b c d e f g h i t cs ok

checks_long : (reach : Reach) (cs : List Check) → 9 ≤ length (checks_of reach cs)
checks_long absolute cs = omega arith
checks_long relative cs = omega arith

nine_of : (reach : Reach) (cs : List Check) (v : List ℕ) → T (date_ok (checks_of reach cs) [] v) → Nine reach cs v
nine_of reach cs v ok = nine_out reach cs v (omega (arith, date_length_lem (checks_of reach cs) [] v ok, checks_long reach cs)) ok

pub plain_coded : (reach : Reach) (v : List ℕ) → T (date_ok (date_checks reach false) [] v) → BinDate reach v 0 v
unfolding date_ok
plain_coded reach v ok = by (nine_of reach [] v ok)
  where
    by : Nine reach [] v → BinDate reach v 0 v
    by (n, [], earlier, x, q, u) = subst (λ (l : List ℕ). BinDate reach l 0 l) (sym (append-nil n) ∙ sym q) x
    by (n, (b ∷ t), earlier, x, q, u) = absurd u

pub lettered_coded : (reach : Reach) (v : List ℕ) → T (date_ok (date_checks reach true) [] v) → designated (BinDate reach) v 0 v
unfolding date_ok passes
lettered_coded reach v ok = at (nine_of reach (letter ∷ []) v ok)
  where
    at : Nine reach (letter ∷ []) v → designated (BinDate reach) v 0 v
    at (n, [], earlier, x, q, u) = absurd u
    at (n, (c ∷ []), earlier, x, q, u) =
        subst (λ (l : List ℕ). designated (BinDate reach) l 0 l) (sym q) (by x (letter_out c (left_T ((leb 0x41 c && leb c 0x5a) || (leb 0x61 c && leb c 0x7a)) true u)))
    at (n, (c ∷ (d ∷ t)), earlier, x, q, u) = absurd (right_T ((leb 0x41 c && leb c 0x5a) || (leb 0x61 c && leb c 0x7a)) false u)

pub plain_passes : (reach : Reach) (a : List ℕ) (before : ℕ) (v : List ℕ) → BinDate reach a before v → (a ≡ v) × (before ≡ 0) × T (date_ok (date_checks reach false) [] v)
unfolding date_ok
plain_passes reach a before v x =
    let w = date_in reach a before v x [] [] (λ earlier. tt) in
    (w.0, w.1, subst (λ (l : List ℕ). T (date_ok (date_checks reach false) [] l)) (append-nil v) w.2)

pub lettered_passes : (reach : Reach) (a : List ℕ) (before : ℕ) (v : List ℕ) → designated (BinDate reach) a before v → (a ≡ v) × (before ≡ 0) × T (date_ok (date_checks reach true) [] v)
lettered_passes reach _ _ _ (by {a} {view} {before} {c} x l) =
    let w = date_in reach a before view x (letter ∷ []) (c ∷ []) (letter_in c l) in
    (ap (λ (s : List ℕ). s ++ (c ∷ [])) w.0, w.1, w.2)
