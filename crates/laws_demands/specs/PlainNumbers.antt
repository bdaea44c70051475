-- Payload lengths as plain values: coding and decoding undo each other. The digits of coded bytes are found again.
use Rattle.std.specs.Prelude.{ℕ, zero, suc, ◌+◌, ◌-◌, ◌*◌, ◌/◌, ◌%◌, ◌≤◌, ◌<◌, List, [], ◌∷◌, ◌++◌, Bool, true, false, ◌&&◌, not, ◌⊎◌, ◌≡◌, T, eqb, leb}
use Rattle.std.proofs.Common.{append-nil, inl, inr, ap, sym, ◌∙◌, subst, arith, leb→le, ltb→lt, lt→ltb, eq-eqb, le-ltb, lt-ltb, eqb-true}
use Rattle.std.proofs.Math.Path.{refl}
use Rattle.meaning.specs.Basics.{pick}
use Rattle.meaning.specs.Bytes.{Taken, took, failed, is_digit, number_most, Turn, stop, more, wrong, turn, ok_turn, take_number, number_ok}
use Rattle.meaning.specs.Plain.{decoded, exactly, number_value, digits_within, digits_of, packed, decode_number, number_bytes}
use Rattle.laws_steps.specs.Logic.{left_of, right_of, both, not_both}
use Rattle.laws_steps.specs.Values.{Was, number_in, number_out}
use Rattle.laws_demands.specs.CodedNumbers.{Top, Begins, coded_value, is_ten, packed_two, tens, val, val_append, val_grows, value_end, value_one, value_two}

-- What a byte was, by what it did

abbrev TurnIs : ℕ → Bool → ℕ → Turn → Type 0
TurnIs n first b stop = ((b ≡ 0) × (first ≡ false)) ⊎ ((d : ℕ) × (d < 10) × (b ≡ 16 * (d + 1)) × (10 * n + d ≤ number_most))
TurnIs n first b (more x) = (d : ℕ) × (c : ℕ) × (d < 10) × (c < 10) × (b ≡ 16 * (d + 1) + (c + 1)) × (x ≡ 10 * (10 * n + d) + c) × (first ≡ true → 0 < d) × (x ≤ number_most)
TurnIs n first b wrong = Unit {0}

turn_zero : (n b : ℕ) (first : Bool) → b ≡ 0 → TurnIs n first b (pick first wrong stop)
turn_zero n b true q = tt
turn_zero n b false q = inl (q, refl)

no_zero : (first : Bool) (h : ℕ) → 1 ≤ h → T (not (first && eqb h 1)) → first ≡ true → 0 < h - 1
no_zero true h k t q =
    let g : h ≡ 1 → ⊥ = λ x. not_both (eqb h 1) (subst T (sym (eq-eqb h 1 x)) tt) t in
    omega (arith, g)
no_zero false h k t q = let z : ◌≡◌ {A = ℕ} 0 1 = cc q in absurd (omega arith)

module _ (n b : ℕ) (first : Bool) where
  abbrev one : ℕ
  one = 10 * n + (b / 16 - 1)

  abbrev two : ℕ
  two = 10 * one + (b % 16 - 1)

  abbrev pair_ok : Bool
  pair_ok = is_digit (b % 16) && not (first && eqb (b / 16) 1) && leb two number_most

  turn_low : (y z : Bool) → eqb (b % 16) 0 ≡ y → pair_ok ≡ z → 1 ≤ b / 16 → b / 16 ≤ 10 → one ≤ number_most → TurnIs n first b (pick y stop (pick z (more two) wrong))
  turn_low true z q r lo hi m = let p = eqb-true (b % 16) 0 q in inr (b / 16 - 1, omega arith, omega arith, m)
  turn_low false true q r lo hi m =
      let x = is_digit (b % 16) in let y = not (first && eqb (b / 16) 1) in let w = leb two number_most in
      let t : T (x && y && w) = subst T (sym r) tt in
      let u = left_of (x && y) w t in
      let a = leb→le 1 (b % 16) (left_of (leb 1 (b % 16)) (leb (b % 16) 10) (left_of x y u)) in
      let c = leb→le (b % 16) 10 (right_of (leb 1 (b % 16)) (leb (b % 16) 10) (left_of x y u)) in
      (b / 16 - 1, b % 16 - 1, omega arith, omega arith, omega arith, refl, no_zero first (b / 16) lo (right_of x y u), leb→le two number_most (right_of (x && y) w t))
  turn_low false false q r lo hi m = tt

  turn_high : (z : Bool) → is_digit (b / 16) && leb one number_most ≡ z → TurnIs n first b (pick z (pick (eqb (b % 16) 0) stop (pick pair_ok (more two) wrong)) wrong)
  turn_high true q =
      let x = leb 1 (b / 16) in let y = leb (b / 16) 10 in let w = leb one number_most in
      let s : T (x && y && w) = subst T (sym q) tt in
      let t = left_of (x && y) w s in
      turn_low (eqb (b % 16) 0) pair_ok refl refl (leb→le 1 (b / 16) (left_of x y t)) (leb→le (b / 16) 10 (right_of x y t)) (leb→le one number_most (right_of (x && y) w s))
  turn_high false q = tt

  turn_first : (z : Bool) → eqb b 0 ≡ z → TurnIs n first b (pick z (pick first wrong stop) (pick (is_digit (b / 16) && leb one number_most) (pick (eqb (b % 16) 0) stop (pick pair_ok (more two) wrong)) wrong))
  turn_first true q = turn_zero n b first (eqb-true b 0 q)
  turn_first false q = turn_high (is_digit (b / 16) && leb one number_most) refl

  turn_is : TurnIs n first b (turn n first b)
  unfolding turn
  turn_is = turn_first (eqb b 0) refl

-- the digits that were packed, and that the value is not too large
abbrev Unpacked : ℕ → Bool → List ℕ → Type 0
Unpacked n first v = (ds : List ℕ) × (v ≡ packed ds) × T (tens ds) × Begins first ds × (number_value n v ≡ val n ds) × (val n ds ≤ number_most)

begins_make : (first : Bool) (d c : ℕ) (ds : List ℕ) → (first ≡ true → 0 < d) → Begins first (d ∷ (c ∷ ds))
begins_make true d c ds f = f refl
begins_make false d c ds f = tt

begins_one : (first : Bool) (d : ℕ) → Begins first (d ∷ [])
begins_one true d = tt
begins_one false d = tt

begins_none : (first : Bool) → first ≡ false → Begins first []
begins_none true q = let z : ◌≡◌ {A = ℕ} 0 1 = cc q in absurd (omega arith)
begins_none false q = tt

unpack_turn : (n : ℕ) (first : Bool) (b : ℕ) (v : List ℕ) (u : Turn) → n ≤ number_most → TurnIs n first b u → T (ok_turn v (λ x. number_ok x false v) u) → ((x : ℕ) → x ≤ number_most → T (number_ok x false v) → Unpacked x false v) → Unpacked n first (b ∷ v)
unfolding packed
unpack_turn n first b [] stop m (inl (q, f)) t ih = rw q ([], refl, tt, begins_none first f, value_end n, m)
unpack_turn n first b [] stop m (inr (d, h, q, l)) t ih = rw q (d ∷ [], refl, both (is_ten d) true (lt→ltb d 10 h) tt, begins_one first d, value_one n d, l)
unpack_turn n first b (a ∷ v) stop m i t ih = absurd t
unpack_turn n first b v (more x) m (d, c, hd, hc, q, qx, f, l) t ih = at (ih x l t)
  where
    at : Unpacked x false v → Unpacked n first (b ∷ v)
    at (ds, qv, tn, _, qn, g) = (
      d ∷ (c ∷ ds),
      rw (q, qv) (sym (packed_two d c ds)),
      both (is_ten d) (tens (c ∷ ds)) (lt→ltb d 10 hd) (both (is_ten c) (tens ds) (lt→ltb c 10 hc) tn),
      begins_make first d c ds f,
      ap (λ (y : ℕ). number_value n (y ∷ v)) q ∙ value_two n d c v hc ∙ ap (λ (y : ℕ). number_value y v) (sym qx) ∙ qn ∙ ap (λ (y : ℕ). val y ds) qx,
      subst (λ (y : ℕ). val y ds ≤ number_most) qx g,
    )
unpack_turn n first b v wrong m i t ih = absurd t

unpack : (v : List ℕ) (n : ℕ) (first : Bool) → n ≤ number_most → T (number_ok n first v) → Unpacked n first v
unfolding number_ok
unpack [] n first m t = absurd t
unpack (b ∷ v) n first m t = unpack_turn n first b v (turn n first b) m (turn_is n b first) t (λ x l. unpack v x false l)

-- Digits are found again, the last one first

abbrev turned : List ℕ → List ℕ
turned [] = []
turned (d ∷ ds) = turned ds ++ (d ∷ [])

turned_append : (xs : List ℕ) (d : ℕ) → turned (xs ++ (d ∷ [])) ≡ d ∷ turned xs
turned_append [] d = refl
turned_append (x ∷ xs) d = ap (λ (l : List ℕ). l ++ (x ∷ [])) (turned_append xs d)

turned_twice : (ds : List ℕ) → turned (turned ds) ≡ ds
turned_twice [] = refl
turned_twice (d ∷ ds) = turned_append (turned ds) d ∙ ap (λ (l : List ℕ). d ∷ l) (turned_twice ds)

tens_front : (xs : List ℕ) (d : ℕ) → T (tens (xs ++ (d ∷ []))) → T (tens xs) × (d < 10)
tens_front [] d t = (tt, ltb→lt d 10 (left_of (is_ten d) true t))
tens_front (x ∷ xs) d t =
    let (a, b) = tens_front xs d (right_of (is_ten x) (tens (xs ++ (d ∷ []))) t) in
    (both (is_ten x) (tens xs) (left_of (is_ten x) (tens (xs ++ (d ∷ []))) t) a, b)

top_front : (xs : List ℕ) (c d : ℕ) → Top ((xs ++ (c ∷ [])) ++ (d ∷ [])) → Top (xs ++ (c ∷ []))
top_front [] c d t = t
top_front (x ∷ xs) c d t = t

top_value : (ds : List ℕ) → Top ds → 0 < val 0 ds
top_value [] t = absurd t
top_value (d ∷ ds) t = let h = val_grows ds (10 * 0 + d) in omega arith

found_more : (front : List ℕ) (d k : ℕ) → d < 10 → 0 < val 0 front → digits_within k (val 0 front) ≡ front → digits_within (suc k) (val 0 (front ++ (d ∷ []))) ≡ front ++ (d ∷ [])
unfolding digits_within
found_more front d k hd p ih =
    let v = val 0 front in
    let e : val 0 (front ++ (d ∷ [])) ≡ 10 * v + d = val_append front d 0 in
    let e₁ : (10 * v + d) / 10 ≡ v = omega arith in
    let e₂ : (10 * v + d) % 10 ≡ d = omega arith in
    rw (e, le-ltb (10 * v + d) 10 (omega arith), e₁, e₂, ih) refl

one_digit : (d k : ℕ) → d < 10 → d < k → digits_within k d ≡ d ∷ []
unfolding digits_within
one_digit d zero h l = absurd (omega arith)
one_digit d (suc k) h l = rw (lt-ltb d 10 h) refl

found_again : (r : List ℕ) (k : ℕ) → T (tens (turned r)) → Top (turned r) → val 0 (turned r) < k → digits_within k (val 0 (turned r)) ≡ turned r
found_again [] k t top h = absurd top
found_again (d ∷ []) k t top h =
    let e : 10 * 0 + d ≡ d = omega arith in
    ap (digits_within k) e ∙ one_digit d k (ltb→lt d 10 (left_of (is_ten d) true t)) (omega arith)
found_again (d ∷ (c ∷ r)) zero t top h = absurd (omega arith)
found_again (d ∷ (c ∷ r)) (suc k) t top h =
    let front = turned (c ∷ r) in
    let (tf, hd) = tens_front front d t in
    let topf = top_front (turned r) c d top in
    let p = top_value front topf in
    let e = val_append front d 0 in
    found_more front d k hd p (found_again (c ∷ r) k tf topf (omega arith))

digits_again : (ds : List ℕ) (n : ℕ) → n ≡ val 0 ds → T (tens ds) → Begins true ds → digits_of n ≡ ds
unfolding digits_of
digits_again [] n q t k = absurd k
digits_again (d ∷ []) n q t k =
    let e : n ≡ d = omega arith in
    rw e (one_digit d (suc d) (ltb→lt d 10 (left_of (is_ten d) true t)) (omega arith))
digits_again (d ∷ (c ∷ ds)) n q t k =
    let r = turned (d ∷ (c ∷ ds)) in
    let e : turned r ≡ d ∷ (c ∷ ds) = turned_twice (d ∷ (c ∷ ds)) in
    let v : n ≡ val 0 (turned r) = q ∙ ap (val 0) (sym e) in
    ap (digits_within (suc n)) v ∙ found_again r (suc n) (subst (λ (x : List ℕ). T (tens x)) (sym e) t) (subst Top (sym e) k) (omega arith) ∙ e

-- decoded, then coded
pub value_coded : (v : List ℕ) → T (number_ok 0 true v) → (number_bytes (number_value 0 v) ≡ v) × (number_value 0 v ≤ number_most)
unfolding number_bytes
value_coded v t =
    let (ds, qv, tn, k, qn, m) = unpack v 0 true (omega arith) t in
    (ap packed (digits_again ds (number_value 0 v) qn tn k) ∙ sym qv, omega arith)

-- The decoder: exactly one value

exactly_number : (s : List ℕ) (g : Taken) (v : List ℕ) → Was (λ x. x) (number_ok 0 true) s g → exactly s g ≡ decoded v → (s ≡ v) × T (number_ok 0 true v)
exactly_number s (failed refusal left) v w q = let z : ◌≡◌ {A = ℕ} 0 1 = cc q in absurd (omega arith)
exactly_number s (took u (b ∷ rest)) v w q = let z : ◌≡◌ {A = ℕ} 0 1 = cc q in absurd (omega arith)
exactly_number s (took u []) v w q = let e : u ≡ v = cc q in (w.0 ∙ append-nil u ∙ e, subst (λ (x : List ℕ). T (number_ok 0 true x)) e w.1)

-- 7. "coding and decoding of numbers .. are inverse on what they accept, both ways"
pub number_coded_decoded : (n : ℕ) → n ≤ number_most → (decode_number (number_bytes n) ≡ decoded (number_bytes n)) × (number_value 0 (number_bytes n) ≡ n)
unfolding decode_number
number_coded_decoded n h =
    let (ok, q) = coded_value n h in
    let s = number_bytes n in
    let taken : take_number 0 true s ≡ took s [] = ap (take_number 0 true) (sym (append-nil s)) ∙ number_in 0 true s [] ok in
    (ap (exactly s) taken, q)

pub number_decoded_coded : (s v : List ℕ) → decode_number s ≡ decoded v → (s ≡ v) × (number_bytes (number_value 0 v) ≡ s) × (number_value 0 v ≤ number_most)
unfolding decode_number
number_decoded_coded s v q =
    let (e, ok) = exactly_number s (take_number 0 true s) v (number_out 0 true s) q in
    let (c, m) = value_coded v ok in
    (e, c ∙ sym e, m)
