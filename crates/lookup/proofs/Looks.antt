-- The hops, one by one: where the loop stands, the definition goes on from there.
use Prim.Native.Nat.{ℕ, zero, suc, ◌+◌, ◌%◌, ◌≤◌, ◌<◌}
use mathlib.Core.List.{List}
use mathlib.Core.Bool.{Bool, true, false, ◌&&◌, ◌||◌, not}
use mathlib.Core.Path.{◌≡◌, refl, ap, sym, ◌∙◌, subst}
use native.Mathlib.Omega.{arith}
use lib.Dec.{eqb, leb}
use lib.ListN.{length, get_or}
use borrow.Author.Tests.{lt-ltb, le-ltb, le-leb, lt-leb, leb-true, eq-eqb, ne_eqb, eqb-true}
use Rattle.meaning.specs.Basics.{pick}
use Rattle.meaning.specs.Skips.{is_envelope}
use Rattle.meaning.specs.Codes.{code_of, can_ask}
use Rattle.meaning.specs.Memory.{row_width, room_of, reply}
use Rattle.meaning.specs.Lookup.{lacks, kind_lent, skip_lent, left_out, Looked, answers_at, wrong_skip, hops_on, look_on, looked_up, looked_reply, lookup}

module _ (rows words : List ℕ) (code : ℕ) where
  -- on row i, with hops enough to go on
  pub record Standing (looked envelopes i : ℕ) : Type 0 where
    pub hops : ℕ
    pub is : looked_up rows words code ≡ look_on hops rows words code looked envelopes i
    pub enough : room_of rows ≤ i + hops
    pub within : i ≤ room_of rows
    pub few : looked ≤ i
    pub met : envelopes ≤ i

  pub begins : Standing 0 0 0
  unfolding looked_up
  begins = record { hops = room_of rows; is = refl; enough = omega arith; within = omega arith; few = omega arith; met = omega arith }

  -- at the row count, none
  pub none_left : {looked envelopes i : ℕ} → Standing looked envelopes i → room_of rows ≤ i → looked_up rows words code ≡ answers_at i looked
  unfolding look_on
  none_left {looked} {envelopes} {i} s h = s.is ∙ at s.hops
    where
      at : (hops : ℕ) → look_on hops rows words code looked envelopes i ≡ answers_at i looked
      at zero = refl
      at (suc hops) = rw (le-leb (room_of rows) i h) refl

  -- before it, one more hop of the definition
  abbrev look_once : ℕ → ℕ → ℕ → ℕ → Looked
  look_once hops looked envelopes i =
      let kind = kind_lent rows i in
      let met = is_envelope kind in
      let entered = met && not (left_out words code envelopes kind) in
      let on : Looked = look_on hops rows words code (suc looked) (pick met (suc envelopes) envelopes) (pick entered (suc i) (skip_lent rows i)) in
      pick (hops_on rows i) (pick (eqb (code_of kind) code) (answers_at i (suc looked)) on) (wrong_skip i)

  look_more : (hops looked envelopes i : ℕ) → i < room_of rows → look_on (suc hops) rows words code looked envelopes i ≡ look_once hops looked envelopes i
  unfolding look_on
  look_more hops looked envelopes i l = rw (lt-leb (room_of rows) i l) refl

  turn : {looked envelopes i : ℕ} → Standing looked envelopes i → i < room_of rows → (hops : ℕ) × (room_of rows ≤ suc i + hops) × (looked_up rows words code ≡ look_once hops looked envelopes i)
  turn {looked} {envelopes} {i} s l = at s.hops s.enough s.is
    where
      at : (hops : ℕ) → room_of rows ≤ i + hops → looked_up rows words code ≡ look_on hops rows words code looked envelopes i
          → (hops : ℕ) × (room_of rows ≤ suc i + hops) × (looked_up rows words code ≡ look_once hops looked envelopes i)
      at zero e q = absurd (omega arith)
      at (suc hops) e q = (hops, omega arith, q ∙ look_more hops looked envelopes i l)

  module _ {looked envelopes i : ℕ} (s : Standing looked envelopes i) (l : i < room_of rows) where
    -- a skip number that does not lead on
    wrong : hops_on rows i ≡ false → looked_up rows words code ≡ wrong_skip i
    wrong h = let (hops, e, q) = turn s l in q ∙ stuck hops
      where
        stuck : (hops : ℕ) → look_once hops looked envelopes i ≡ wrong_skip i
        stuck hops = rw h refl

    pub not_above : skip_lent rows i ≤ i → looked_up rows words code ≡ wrong_skip i
    not_above h = wrong (rw (le-ltb i (skip_lent rows i) h) refl)

    pub past_count : i < skip_lent rows i → room_of rows < skip_lent rows i → looked_up rows words code ≡ wrong_skip i
    past_count a h = wrong (rw (lt-ltb i (skip_lent rows i) a, lt-leb (skip_lent rows i) (room_of rows) h) refl)

    -- a skip number that does
    module _ (a : i < skip_lent rows i) (m : skip_lent rows i ≤ room_of rows) where
      leads : hops_on rows i ≡ true
      leads = rw (lt-ltb i (skip_lent rows i) a, le-leb (skip_lent rows i) (room_of rows) m) refl

      pub hit : code_of (kind_lent rows i) ≡ code → looked_up rows words code ≡ answers_at i (looked + 1)
      hit c = let (hops, e, q) = turn s l in q ∙ answered hops ∙ ap (answers_at i) (omega arith)
        where
          answered : (hops : ℕ) → look_once hops looked envelopes i ≡ answers_at i (suc looked)
          answered hops = rw (leads, eq-eqb (code_of (kind_lent rows i)) code c) refl

      onward : (met left : Bool) → is_envelope (kind_lent rows i) ≡ met → left_out words code envelopes (kind_lent rows i) ≡ left → (code_of (kind_lent rows i) ≡ code → ⊥)
          → Standing (suc looked) (pick met (suc envelopes) envelopes) (pick (met && not left) (suc i) (skip_lent rows i))
      onward met left p r n =
          let (hops, e, q) = turn s l in
          record { hops = hops; is = q ∙ goes hops; enough = omega (arith, place.0); within = place.1; few = omega (arith, place.0, s.few); met = omega (arith, place.0, count, s.met) }
        where
          goes : (hops : ℕ) → look_once hops looked envelopes i ≡ look_on hops rows words code (suc looked) (pick met (suc envelopes) envelopes) (pick (met && not left) (suc i) (skip_lent rows i))
          goes hops = rw (leads, ne_eqb (code_of (kind_lent rows i)) code n, p, r) refl

          placed : (b : Bool) → (suc i ≤ pick b (suc i) (skip_lent rows i)) × (pick b (suc i) (skip_lent rows i) ≤ room_of rows)
          placed true = (omega arith, omega arith)
          placed false = (omega arith, m)

          place : (suc i ≤ pick (met && not left) (suc i) (skip_lent rows i)) × (pick (met && not left) (suc i) (skip_lent rows i) ≤ room_of rows)
          place = placed (met && not left)

          counted : (b : Bool) → pick b (suc envelopes) envelopes ≤ suc envelopes
          counted true = omega arith
          counted false = omega arith

          count : pick met (suc envelopes) envelopes ≤ suc envelopes
          count = counted met

-- The same of the loop's own kind and skip number

standing_as : {rows words : List ℕ} {code looked looked₁ envelopes envelopes₁ i i₁ : ℕ} → looked ≡ looked₁ → envelopes ≡ envelopes₁ → i ≡ i₁ → Standing rows words code looked envelopes i → Standing rows words code looked₁ envelopes₁ i₁
standing_as {rows} {words} {code} {looked} {looked₁} {envelopes} {envelopes₁} {i} {i₁} p q r s =
    subst (λ (x : ℕ). Standing rows words code looked₁ envelopes₁ x) r (subst (λ (x : ℕ). Standing rows words code looked₁ x i) q (subst (λ (x : ℕ). Standing rows words code x envelopes i) p s))

module _ {rows words : List ℕ} {code looked envelopes i kind skip : ℕ} (s : Standing rows words code looked envelopes i) (l : i < room_of rows) (k : kind ≡ kind_lent rows i) (p : skip ≡ skip_lent rows i) where
  pub skip_below : skip ≤ i → looked_up rows words code ≡ wrong_skip i
  skip_below h = not_above rows words code s l (omega (arith, p))

  pub skip_past : i < skip → room_of rows < skip → looked_up rows words code ≡ wrong_skip i
  skip_past n h = past_count rows words code s l (omega (arith, p)) (omega (arith, p))

  module _ (a : i < skip) (m : skip ≤ room_of rows) where
    pub answered : code_of kind ≡ code → looked_up rows words code ≡ answers_at i (looked + 1)
    answered c = hit rows words code s l (omega (arith, p)) (omega (arith, p)) (ap code_of (sym k) ∙ c)

    -- an envelope, entered or left out
    pub past_envelope : {to : ℕ} → is_envelope kind ≡ true → (code_of kind ≡ code → ⊥) → to ≡ pick (not (left_out words code envelopes kind)) (suc i) skip → Standing rows words code (looked + 1) (envelopes + 1) to
    past_envelope {to} v n t =
        let on = onward rows words code s l (omega (arith, p)) (omega (arith, p)) true (left_out words code envelopes (kind_lent rows i)) (ap is_envelope (sym k) ∙ v) refl (λ c. n (ap code_of k ∙ c)) in
        let q : pick (not (left_out words code envelopes (kind_lent rows i))) (suc i) (skip_lent rows i) ≡ to = rw (sym k, sym p) (sym t) in
        standing_as (omega arith) (omega arith) q on

    -- any other row
    pub past_row : is_envelope kind ≡ false → (code_of kind ≡ code → ⊥) → Standing rows words code (looked + 1) envelopes skip
    past_row v n =
        let on = onward rows words code s l (omega (arith, p)) (omega (arith, p)) false (left_out words code envelopes (kind_lent rows i)) (ap is_envelope (sym k) ∙ v) refl (λ c. n (ap code_of k ∙ c)) in
        standing_as (omega arith) refl (sym p) on

-- a code that can be asked for, but 20, has a bit
pub code_bit : (code : ℕ) → can_ask code ≡ true → (code ≡ 0x20 → ⊥) → code < 32
code_bit code a n = at (leb 0x02 code) (leb code 0x0b) (eqb code 0x20) refl refl refl a
  where
    at : (x y z : Bool) → leb 0x02 code ≡ x → leb code 0x0b ≡ y → eqb code 0x20 ≡ z → (x && y || z) ≡ true → code < 32
    at x true z p q r h = let k = leb-true code 0x0b q in omega arith
    at x false true p q r h = absurd (n (eqb-true code 0x20 r))
    at true false false p q r h = let w : ◌≡◌ {A = ℕ} 0 1 = cc in absurd (omega arith)
    at false false false p q r h = let w : ◌≡◌ {A = ℕ} 0 1 = cc in absurd (omega arith)

-- which envelopes are left out for such a code
module _ (words : List ℕ) (code envelope kind : ℕ) (n : code ≡ 0x20 → ⊥) where
  pub by_word : envelope < 16 → lacks (get_or words envelope 0) code ≡ left_out words code envelope kind
  by_word h = rw (ne_eqb code 0x20 n, lt-ltb envelope 16 h) refl

  pub past_words : 16 ≤ envelope → false ≡ left_out words code envelope kind
  past_words h = rw (ne_eqb code 0x20 n, le-ltb envelope 16 h) refl

pub left_at : (i skip : ℕ) (left : Bool) → left ≡ true → skip ≡ pick (not left) (suc i) skip
left_at i skip left q = rw q refl

pub entered_at : (i skip : ℕ) (left : Bool) → left ≡ false → i + 1 ≡ pick (not left) (suc i) skip
entered_at i skip left q = rw q (omega arith)

pub entry_forward : (i skip : ℕ) {to : ℕ} (left : Bool) → to ≡ pick (not left) (suc i) skip → i < skip → i < to
entry_forward i skip true q h = omega arith
entry_forward i skip false q h = omega arith

-- The whole answer

module _ (rows words : List ℕ) (code : ℕ) where
  pub not_asked : can_ask code ≡ false → reply 17 0 0 ≡ lookup rows words code
  unfolding lookup
  not_asked a = rw a refl

  module _ (a : can_ask code ≡ true) where
    pub few_words : length words < 16 → reply 14 0 0 ≡ lookup rows words code
    unfolding lookup
    few_words h = rw (a, lt-leb 16 (length words) h) refl

    module _ (w : 16 ≤ length words) where
      pub not_whole : eqb (length rows % row_width) 0 ≡ false → reply 15 (room_of rows) 0 ≡ lookup rows words code
      unfolding lookup
      not_whole h = rw (a, le-leb 16 (length words) w, h) refl

      pub whole_rows : eqb (length rows % row_width) 0 ≡ true → looked_reply (looked_up rows words code) ≡ lookup rows words code
      unfolding lookup
      whole_rows h = rw (a, le-leb 16 (length words) w, h) refl
