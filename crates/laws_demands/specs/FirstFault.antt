-- "Reading goes byte by byte; the first fault decides." What stands behind a fault never alters the answer, but that an input which ends before the
-- declared end is 2; and an input that is cut before the place of its answer is 2 at its own end.
use Rattle.std.specs.Prelude.{ℕ, suc, ◌+◌, ◌≤◌, ◌<◌, List, [], ◌∷◌, ◌++◌, Bool, true, false, ◌⊎◌, ◌≡◌, refl, T, leb, ltb, length, take, drop}
use Rattle.std.proofs.Common.{append_assoc, inl, inr, ap, ◌∙◌, subst, arith, leb→le, length-append, length-take, take-append-drop, ltb-true, ltb-false}
use Rattle.meaning.specs.Told.{Edition}
use Rattle.meaning.specs.Editions.{State, Form}
use Rattle.meaning.specs.Reading.{strange}
use Rattle.meaning.specs.Headers.{start}
use Rattle.laws_steps.specs.Tables.{all_rooms, each_room}
use Rattle.meaning.specs.Faults.{BadValue, text_ends, date_ends, number_ends, length_ends, block_ends, text_byte_lem, date_byte, number_byte, length_wide, BadStep, code_needed, strange_code, agent_deep, bad_value, closed_early, BadInside, identifier, GoodLength, BadHeader, no_identifier, length_cut, input_cut, not_identifier, one_too_many, length_low, length_high, bad_inside, bad_behind}
use Rattle.laws_demands.specs.FaultyHeaders.{head_length, head_most}
use Rattle.laws_demands.specs.Decisive.{decided_by, DecidedStep, step_decided}

pub record DecidedHeader (e : Edition) (k at : ℕ) (s : List ℕ) (refusal place : ℕ) : Type 0 where
  pub front : List ℕ
  pub back : List ℕ
  pub parts : s ≡ front ++ back
  pub near : at + length front ≤ place + decided_by refusal
  pub others : (other : List ℕ) → BadHeader e k at (front ++ other) refusal place ⊎ ((length other < length back) × BadHeader e k at (front ++ other) 2 (at + length (front ++ other)))

-- decided by identifier and length, whatever stands behind them
by_head : (e : Edition) (k at : ℕ) (ls s : List ℕ) (b refusal place : ℕ) → at + suc (length ls) ≤ place + decided_by refusal → ((other : List ℕ) → BadHeader e k at (b ∷ (ls ++ other)) refusal place) → DecidedHeader e k at (b ∷ (ls ++ s)) refusal place
by_head e k at ls s b refusal place h f = record { front = b ∷ ls; back = s; parts = refl; near = h; others = λ other. inl (f other) }

module _ (e : Edition) (k at head n refusal left place : ℕ) (ls bytes : List ℕ) (final : Bool) (rest : List ℕ) (g : GoodLength ls head n) (q : head + length bytes ≡ n) (i : BadInside e (start final) (at + head) bytes refusal left)
    (p : place + left ≡ at + n) (d : DecidedStep e i.reached i.rest refusal left) where
  abbrev front : List ℕ
  front = identifier final ∷ (ls ++ (i.front ++ d.front))

  sizes : head + (length i.front + (length d.front + length d.back)) ≡ n
  sizes = omega (arith, q, ap length i.parts, length-append i.front i.rest, ap length d.parts, length-append d.front d.back)

  -- as many bytes as the envelope wants
  enough : (xs ys : List ℕ) → length xs ≡ length d.back → BadHeader e (suc k) at (front ++ (xs ++ ys)) refusal place
  enough xs ys l =
      let inner = i.front ++ (d.front ++ xs) in
      let size : head + length inner ≡ n = omega (arith, sizes, length-append i.front (d.front ++ xs), length-append d.front xs) in
      let same : identifier final ∷ (ls ++ (inner ++ ys)) ≡ front ++ (xs ++ ys) = simp append_assoc in
      subst (λ (x : List ℕ). BadHeader e (suc k) at x refusal place) same
      (bad_inside {left = left} final ys g size (record { front = i.front; rest = d.front ++ xs; rows = i.rows; reached = i.reached; parts = refl; steps = i.steps; fault = d.others xs l }) p)

  -- fewer
  fewer : (other : List ℕ) → length other < length d.back → BadHeader e (suc k) at (front ++ other) 2 (at + length (front ++ other))
  fewer other l =
      let inner = i.front ++ (d.front ++ other) in
      let size : head + length inner < n = omega (arith, sizes, length-append i.front (d.front ++ other), length-append d.front other) in
      let same : identifier final ∷ (ls ++ inner) ≡ front ++ other = simp append_assoc in
      subst (λ (x : List ℕ). BadHeader e (suc k) at x 2 (at + length x)) same (input_cut final inner g size)

  inside_decided : DecidedHeader e (suc k) at (identifier final ∷ (ls ++ (bytes ++ rest))) refusal place
  inside_decided =
      record {
        front = front;
        back = d.back ++ rest;
        parts = ap (λ (x : List ℕ). identifier final ∷ (ls ++ (x ++ rest))) (i.parts ∙ ap (λ (x : List ℕ). i.front ++ x) d.parts) ∙ simp append_assoc;
        near = omega (arith, q, p, d.near, head_length g.declares, ap length i.parts, length-append i.front i.rest, length-append ls (i.front ++ d.front), length-append i.front d.front);
        others = λ other. by other (ltb (length other) (length d.back)) refl;
      }
    where
      by : (other : List ℕ) (z : Bool) → ltb (length other) (length d.back) ≡ z → BadHeader e (suc k) at (front ++ other) refusal place ⊎ ((length other < length (d.back ++ rest)) × BadHeader e (suc k) at (front ++ other) 2 (at + length (front ++ other)))
      by other true z = let l = ltb-true (length other) (length d.back) z in inr (omega (arith, length-append d.back rest), fewer other l)
      by other false z =
          let l = ltb-false (length other) (length d.back) z in
          let xs = take (length d.back) other in
          inl (subst (λ (x : List ℕ). BadHeader e (suc k) at (front ++ x) refusal place) (take-append-drop (length d.back) other) (enough xs (drop (length d.back) other) (omega (arith, length-take (length d.back) other))))

module _ (e : Edition) (k at head n refusal place : ℕ) (ls bytes rest : List ℕ) (wrapped : (other : List ℕ) (r p : ℕ) → BadHeader e k (at + n) other r p → BadHeader e (suc k) at (identifier false ∷ (ls ++ (bytes ++ other))) r p)
    (size : suc (length ls) + length bytes ≡ n) (d : DecidedHeader e k (at + n) rest refusal place) where
  behind_decided : DecidedHeader e (suc k) at (identifier false ∷ (ls ++ (bytes ++ rest))) refusal place
  behind_decided =
      record {
        front = identifier false ∷ (ls ++ (bytes ++ d.front));
        back = d.back;
        parts = ap (λ (x : List ℕ). identifier false ∷ (ls ++ (bytes ++ x))) d.parts ∙ simp append_assoc;
        near = omega (arith, size, d.near, length-append ls (bytes ++ d.front), length-append bytes d.front);
        others = λ other. by other (d.others other);
      }
    where
      by : (other : List ℕ) → BadHeader e k (at + n) (d.front ++ other) refusal place ⊎ ((length other < length d.back) × BadHeader e k (at + n) (d.front ++ other) 2 (at + n + length (d.front ++ other)))
          → BadHeader e (suc k) at ((identifier false ∷ (ls ++ (bytes ++ d.front))) ++ other) refusal place ⊎ ((length other < length d.back) × BadHeader e (suc k) at ((identifier false ∷ (ls ++ (bytes ++ d.front))) ++ other) 2 (at + length ((identifier false ∷ (ls ++ (bytes ++ d.front))) ++ other)))
      by other (inl h) =
          let same : identifier false ∷ (ls ++ (bytes ++ (d.front ++ other))) ≡ (identifier false ∷ (ls ++ (bytes ++ d.front))) ++ other = simp append_assoc in
          inl (subst (λ (x : List ℕ). BadHeader e (suc k) at x refusal place) same (wrapped (d.front ++ other) refusal place h))
      by other (inr (l, h)) =
          let all = identifier false ∷ (ls ++ (bytes ++ (d.front ++ other))) in
          let same : all ≡ (identifier false ∷ (ls ++ (bytes ++ d.front))) ++ other = simp append_assoc in
          let ends : at + n + length (d.front ++ other) ≡ at + length all = omega (arith, size, length-append ls (bytes ++ (d.front ++ other)), length-append bytes (d.front ++ other)) in
          inr (l, subst (λ (x : List ℕ). BadHeader e (suc k) at x 2 (at + length x)) same (subst (BadHeader e (suc k) at all 2) ends (wrapped (d.front ++ other) 2 (at + n + length (d.front ++ other)) h)))

pub header_decided : (e : Edition) {k at : ℕ} {s : List ℕ} {refusal place : ℕ} → BadHeader e k at s refusal place → (refusal ≡ 2 → ⊥) → DecidedHeader e k at s refusal place
header_decided e no_identifier two = absurd (two refl)
header_decided e (length_cut final h) two = absurd (two refl)
header_decided e (input_cut final s g h) two = absurd (two refl)
header_decided e (not_identifier {k} {at} {b} {s} p q) two = by_head e k at [] s b 3 at (omega arith) (λ other. not_identifier p q)
header_decided e (one_too_many {at} {s} final) two = by_head e 0 at [] s (identifier final) 5 at (omega arith) (λ other. one_too_many final)
header_decided e (length_low {k} {at} {ls = ls} final s d h) two = let m = head_most d in by_head e (suc k) at ls s (identifier final) 4 (at + 1) (omega arith) (λ other. length_low final other d h)
header_decided e (length_high {k} {at} {ls = ls} final s d lo h) two = let m = head_most d in by_head e (suc k) at ls s (identifier final) 5 (at + 1) (omega arith) (λ other. length_high final other d lo h)
header_decided e (bad_inside {k} {at} {head} {n} {refusal} {left} {place} {ls} {bytes} final rest g q i p) two =
    inside_decided e k at head n refusal left place ls bytes final rest g q i p (step_decided e i.reached i.fault)
header_decided e (bad_behind {k} {at} {head} {n} {refusal} {place} {ls} {bytes} {rest} g q i h) two =
    behind_decided e k at head n refusal place ls bytes rest (λ other r p x. bad_behind g q i x) (omega (arith, q, head_length g.declares)) (header_decided e h two)

-- 2 is given only at the input's end

value_not_two : {code : ℕ} {f : Form} {s : List ℕ} {refusal left : ℕ} → BadValue code f s refusal left → refusal ≡ 2 → ⊥
value_not_two (text_ends v t) two = omega arith
value_not_two (date_ends cs ds c v q t) two = omega arith
value_not_two (number_ends d) two = omega arith
value_not_two (length_ends v h) two = omega arith
value_not_two (block_ends v h lo hi) two = omega arith
value_not_two (text_byte_lem v rest b t n q) two = omega arith
value_not_two (date_byte cs ds c v rest b p t q) two = omega arith
value_not_two (number_byte rest b d q) two = omega arith
value_not_two (length_wide rest h hi) two = omega arith

strange_test : T (all_rooms (λ e r. leb 3 (strange r)))
strange_test = tt

step_not_two : (e : Edition) (st : State) {s : List ℕ} {refusal left : ℕ} → BadStep e st s refusal left → refusal ≡ 2 → ⊥
step_not_two e st (code_needed q) two = omega arith
step_not_two e st (strange_code q p) two = let h = leb→le 3 (strange st.room) (each_room (λ e r. leb 3 (strange r)) strange_test e st.room) in omega arith
step_not_two e st (agent_deep p k h) two = omega arith
step_not_two e st (bad_value p k v) two = value_not_two v two
step_not_two e st (closed_early q) two = omega arith

pub two_at_end : (e : Edition) {k at : ℕ} {s : List ℕ} {refusal place : ℕ} → BadHeader e k at s refusal place → refusal ≡ 2 → place ≡ at + length s
two_at_end e no_identifier two = omega arith
two_at_end e (length_cut final h) two = refl
two_at_end e (input_cut final s g h) two = refl
two_at_end e (not_identifier p q) two = absurd (omega arith)
two_at_end e (one_too_many final) two = absurd (omega arith)
two_at_end e (length_low final s d h) two = absurd (omega arith)
two_at_end e (length_high final s d lo h) two = absurd (omega arith)
two_at_end e (bad_inside final rest g q i p) two = absurd (step_not_two e i.reached i.fault two)
two_at_end e (bad_behind {ls = ls} {bytes = bytes} {rest = rest} g q i h) two =
    let later = two_at_end e h two in
    omega (arith, later, q, head_length g.declares, length-append ls (bytes ++ rest), length-append bytes rest)
