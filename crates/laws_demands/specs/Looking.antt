-- Order 8: "On rows that the writer accepts, lent with their true words, the answer equals order 1's and the count is at most sixteen plus the number
-- of level 0 rows." Hops over such rows stand on level 0 only, and pass over no value.
use Prim.Native.Nat.{ℕ, zero, suc, ◌+◌, ◌-◌, ◌≤◌, ◌<◌}
use mathlib.Core.List.{List, [], ◌∷◌}
use Rattle.std.specs.Prelude.{Bool, ◌&&◌, ◌||◌, not, ◌≡◌, eqb, leb, get_or, take, drop}
use Rattle.std.proofs.Math.Bool.{true, false}
use Rattle.std.proofs.Common.{inl, inr, ◌∙◌}
use Rattle.std.proofs.Math.Path.{refl, ap, sym, subst}
use native.Mathlib.Omega.{arith}
use Rattle.std.proofs.Math.Dec.{ltb}
use borrow.Author.Tests.{eqb-true, eqb-false, eq-eqb, ne_eqb, ltb-true, ltb-false, lt-ltb, le-leb, lt-leb, leb-true}
use Rattle.meaning.specs.Basics.{pick}
use Rattle.meaning.specs.Kinds.{extension_opens}
use Rattle.meaning.specs.Skips.{Rank, is_envelope, belonging}
use Rattle.meaning.specs.Codes.{code_of, has_value, can_ask, date_code}
use Rattle.meaning.specs.Words.{occurs, word_of, words_of}
use Rattle.meaning.specs.Headers.{envelopes_most}
use Rattle.meaning.specs.Memory.{room_of}
use Rattle.meaning.specs.Lookup.{kind_lent, skip_lent, lacks, left_out, hops_on, Looked, answers_at, look_on, looked_up}
use Rattle.laws_steps.specs.Nesting.{belonging_most}
use Rattle.laws_tables.specs.Firsts.{first_from}
use Rattle.laws_steps.specs.Hopping.{rank_at, ranks_at, ranks_for, ranks_length, ranks_next, ranks_drop, given_at, skip_at, skip_forward, skip_most, AllRight}
use Rattle.laws_tables.specs.Levels.{bad}
use Rattle.laws_tables.specs.Ranked.{Ranked, next}
use Rattle.laws_demands.specs.PassedOver.{level_zero, none_and, first_over_lem, fewer, row_valueless, no_word, words_over, lands, lacking, dateless}

-- words for the envelopes from this number on
abbrev pub TrueFrom : List ℕ → ℕ → List ℕ → Type 0
TrueFrom words k [] = Unit {0}
TrueFrom words k (w ∷ ws) = (get_or words k 0 ≡ w) × TrueFrom words (suc k) ws

-- a code that can be asked for is none of a row without a code, and but for 20 has a bit
asked : (code : ℕ) → can_ask code ≡ true → (code ≡ 0x01 → ⊥) × ((code ≡ date_code → ⊥) → (2 ≤ code) × (code ≤ 11))
asked code a = at (leb 0x02 code) (leb code 0x0b) (eqb code date_code) refl refl refl a
  where
    at : (x y z : Bool) → leb 0x02 code ≡ x → leb code 0x0b ≡ y → eqb code date_code ≡ z → (x && y || z) ≡ true → (code ≡ 0x01 → ⊥) × ((code ≡ date_code → ⊥) → (2 ≤ code) × (code ≤ 11))
    at true true z p q r h = let l = leb-true 0x02 code p in let m = leb-true code 0x0b q in (λ e. omega arith, λ n. (l, m))
    at true false true p q r h = let e = eqb-true code date_code r in (λ x. omega arith, λ n. absurd (n e))
    at false y true p q r h = let e = eqb-true code date_code r in (λ x. omega arith, λ n. absurd (n e))
    at true false false p q r h = bad h
    at false y false p q r h = bad h

module _ (rows words : List ℕ) (code : ℕ) (a : can_ask code ≡ true) (right : AllRight rows (room_of rows) 0) where
  abbrev n : ℕ
  n = room_of rows

  -- the rows from row i on, of level 0 at first
  abbrev from : ℕ → List Rank
  from i = ranks_at rows n i

  -- what looking on from row i comes to: the first value, and no more rows looked at than stand at level 0
  pub record Finds (looked i : ℕ) (out : Looked) : Type 0 where
    pub count : ℕ
    pub is : out ≡ answers_at (first_from code i (from i)) count
    pub few : count ≤ looked + level_zero (from i)

  skip_is : (i : ℕ) → i < n → skip_lent rows i ≡ suc i + belonging (rank_at rows i) (from (suc i))
  unfolding skip_at
  skip_is i l = right i (omega arith) l

  leads : (i : ℕ) → i < n → hops_on rows i ≡ true
  leads i l =
      let s : given_at rows i ≡ skip_at rows n i = right i (omega arith) l in
      rw (lt-ltb i (skip_lent rows i) (omega (arith, s, skip_forward rows n i)), le-leb (skip_lent rows i) n (omega (arith, s, skip_most rows n i l))) refl

  -- behind the rows that belong to row i
  behind : (i : ℕ) → i < n → from (skip_lent rows i) ≡ drop (belonging (rank_at rows i) (from (suc i))) (from (suc i))
  behind i l =
      let b = belonging (rank_at rows i) (from (suc i)) in
      let most : b ≤ n - suc i = omega (arith, belonging_most (rank_at rows i) (from (suc i)), ranks_length rows (suc i) (n - suc i)) in
      let q : n - suc i - b ≡ n - (suc i + b) = omega arith in
      ap from (skip_is i l) ∙ ap (ranks_for rows (suc i + b)) (sym q) ∙ sym (ranks_drop rows (suc i) (n - suc i) b most)

  -- at the row count
  ended : (looked i : ℕ) → n ≤ i → Finds looked i (answers_at i looked)
  unfolding first_from level_zero
  ended looked i l =
      let q : n - i ≡ 0 = omega arith in
      record { count = looked; is = ap (λ (x : ℕ). answers_at (first_from code i (ranks_for rows i x)) looked) (sym q); few = omega arith }

  -- one hop
  abbrev after : ℕ → ℕ → ℕ → ℕ → Bool → Bool → Looked
  after hops looked k i met left = look_on hops rows words code (suc looked) (pick met (suc k) k) (pick (met && not left) (suc i) (skip_lent rows i))

  look_step : (hops looked k i : ℕ) → i < n
      → look_on (suc hops) rows words code looked k i
      ≡ pick (eqb (code_of (kind_lent rows i)) code) (answers_at i (suc looked)) (after hops looked k i (is_envelope (kind_lent rows i)) (left_out words code k (kind_lent rows i)))
  unfolding look_on
  look_step hops looked k i l = rw (lt-leb n i l, leads i l) refl

  -- on from row i to row j, over rows without a value
  on_to : {looked i j : ℕ} {out : Looked} → first_from code i (from i) ≡ first_from code j (from j) → suc (level_zero (from j)) ≤ level_zero (from i) → Finds (suc looked) j out → Finds looked i out
  on_to {looked} {i} {j} q h f = record { count = f.count; is = f.is ∙ ap (λ (x : ℕ). answers_at x f.count) (sym q); few = omega (arith, f.few) }

  -- row i has no value, and stands at level 0
  first_behind : (i : ℕ) → i < n → has_value code (rank_at rows i) ≡ false → first_from code i (from i) ≡ first_from code (suc i) (from (suc i))
  unfolding first_from
  first_behind i l q = ap (first_from code i) (ranks_next rows n i l) ∙ rw q refl

  zero_behind : (i : ℕ) → i < n → (rank_at rows i).level ≡ 0 → level_zero (from i) ≡ suc (level_zero (from (suc i)))
  unfolding level_zero
  zero_behind i l q = ap level_zero (ranks_next rows n i l) ∙ rw (eq-eqb (rank_at rows i).level 0 q) refl

  here : (looked i : ℕ) → i < n → (rank_at rows i).level ≡ 0 → code_of (kind_lent rows i) ≡ code → Finds looked i (answers_at i (suc looked))
  unfolding first_from
  here looked i l z q =
      let v : has_value code (rank_at rows i) ≡ true = rw (eq-eqb (rank_at rows i).level 0 z, eq-eqb (code_of (kind_lent rows i)) code q) refl in
      let f : i ≡ first_from code i (from i) = sym (ap (first_from code i) (ranks_next rows n i l) ∙ rw v refl) in
      record { count = suc looked; is = ap (λ (x : ℕ). answers_at x (suc looked)) f; few = omega (arith, zero_behind i l z) }

  valueless_here : (i : ℕ) → (code_of (kind_lent rows i) ≡ code → ⊥) → has_value code (rank_at rows i) ≡ false
  valueless_here i q = rw (ne_eqb (code_of (kind_lent rows i)) code q) (none_and (eqb (rank_at rows i).level 0))

  -- what is passed over has no value
  over : (i : ℕ) → i < n → (rank_at rows i).level ≡ 0 → (code_of (kind_lent rows i) ≡ code → ⊥) → occurs code (take (belonging (rank_at rows i) (from (suc i))) (from (suc i))) ≡ false → {looked : ℕ} {out : Looked} → Finds (suc looked) (skip_lent rows i) out → Finds looked i out
  over i l z q o =
      let b = belonging (rank_at rows i) (from (suc i)) in
      let to = behind i l in
      on_to (first_behind i l (valueless_here i q) ∙ first_over_lem code (suc i) b (from (suc i)) (belonging_most (rank_at rows i) (from (suc i))) o ∙ ap (λ (x : ℕ). first_from code x (drop b (from (suc i)))) (sym (skip_is i l)) ∙ ap (first_from code (skip_lent rows i)) (sym to))
      (omega (arith, zero_behind i l z, fewer b (from (suc i)), ap level_zero to))

  -- the envelope at row i, left out, holds no value
  left_out_lem : (k i : ℕ) {dates : Bool} {most : ℕ} → is_envelope (kind_lent rows i) ≡ true → left_out words code k (kind_lent rows i) ≡ true → Ranked dates most (rank_at rows i ∷ from (suc i)) → get_or words k 0 ≡ word_of (take (belonging (rank_at rows i) (from (suc i))) (from (suc i)))
      → occurs code (take (belonging (rank_at rows i) (from (suc i))) (from (suc i))) ≡ false
  left_out_lem k i v o (next later deep l f d u x more) w = at (eqb code date_code) refl o
    where
      inside : List Rank
      inside = take (belonging (rank_at rows i) (from (suc i))) (from (suc i))

      by_word : (z : Bool) → ltb k envelopes_most ≡ z → (code ≡ date_code → ⊥) → (z && lacks (get_or words k 0) code) ≡ true → occurs code inside ≡ false
      by_word true q c h = let (low, high) = (asked code a).1 c in lacking code inside low high (ap (λ (x : ℕ). lacks x code) (sym w) ∙ h)
      by_word false q c h = bad h

      at : (z : Bool) → eqb code date_code ≡ z → pick z (eqb (kind_lent rows i) extension_opens) (ltb k envelopes_most && lacks (get_or words k 0) code) ≡ true → occurs code inside ≡ false
      at true q h =
          let e = eqb-true (kind_lent rows i) extension_opens h in
          let c = eqb-true code date_code q in
          subst (λ (y : ℕ). occurs y inside ≡ false) (sym c) (dateless (rank_at rows i) (from (suc i)) (subst (λ (b : Bool). Ranked b deep (from (suc i))) (x e) more))
      at false q h = by_word (ltb k envelopes_most) refl (eqb-false code date_code q) h

  words_at : (k : ℕ) (r : Rank) (rest : List Rank) → is_envelope r.kind ≡ true → TrueFrom words k (words_of (r ∷ rest)) → (get_or words k 0 ≡ word_of (take (belonging r rest) rest)) × TrueFrom words (suc k) (words_of rest)
  unfolding words_of
  words_at k r rest v t = rw v at t

  -- from row i on
  abbrev Looks : ℕ → ℕ → Type 0
  Looks hops looked = (k i : ℕ) → i ≤ n → n ≤ i + hops → (dates : Bool) → Ranked dates 0 (from i) → TrueFrom words k (words_of (from i)) → Finds looked i (look_on hops rows words code looked k i)

  turn : (hops looked k i : ℕ) (l : i < n) → n ≤ i + suc hops → Looks hops (suc looked) → (dates : Bool) → Ranked dates 0 (rank_at rows i ∷ from (suc i)) → TrueFrom words k (words_of (rank_at rows i ∷ from (suc i)))
      → Finds looked i (look_on (suc hops) rows words code looked k i)
  turn hops looked k i l h ih dates g t = subst (Finds looked i) (sym (look_step hops looked k i l)) (at (eqb (code_of kind) code) (is_envelope kind) (left_out words code k kind) refl refl refl g)
    where
      kind : ℕ
      kind = kind_lent rows i

      r : Rank
      r = rank_at rows i

      rest : List Rank
      rest = from (suc i)

      forward : suc i ≤ skip_lent rows i
      forward = omega (arith, skip_is i l)

      within : skip_lent rows i ≤ n
      within = omega (arith, right i (omega arith) l, skip_most rows n i l)

      ground : {dates : Bool} → Ranked dates 0 (r ∷ rest) → r.level ≡ 0
      ground (next later deep u f d o x more) = omega arith

      landed : (later : Bool) × Ranked later 0 (from (skip_lent rows i))
      landed = let (later, k) = lands r rest (ground g) g in (later, subst (Ranked later 0) (sym (behind i l)) k)

      words_there : (k : ℕ) → TrueFrom words k (words_of rest) → {dates : Bool} → Ranked dates 0 (r ∷ rest) → TrueFrom words k (words_of (from (skip_lent rows i)))
      words_there k w (next later deep u f d o x more) = subst (TrueFrom words k) (words_over r rest more ∙ ap words_of (sym (behind i l))) w

      on_row : {dates : Bool} → Ranked dates 0 (r ∷ rest) → (code_of kind ≡ code → ⊥) → is_envelope kind ≡ false → Finds looked i (look_on hops rows words code (suc looked) k (skip_lent rows i))
      on_row (next later deep u f d o x more) c v =
          over i l (ground g) c (row_valueless code r rest (asked code a).0 v (λ q. omega (arith, f.agent q, ground g)))
          (ih k (skip_lent rows i) within (omega (arith, forward)) landed.0 landed.1 (words_there k (subst (TrueFrom words k) (no_word r rest v) t) g))

      out : (code_of kind ≡ code → ⊥) → is_envelope kind ≡ true → left_out words code k kind ≡ true → Finds looked i (look_on hops rows words code (suc looked) (suc k) (skip_lent rows i))
      out c v o =
          let w = words_at k r rest v t in
          over i l (ground g) c (left_out_lem k i v o g w.0) (ih (suc k) (skip_lent rows i) within (omega (arith, forward)) landed.0 landed.1 (words_there (suc k) w.1 g))

      entered : {dates : Bool} → Ranked dates 0 (r ∷ rest) → (code_of kind ≡ code → ⊥) → is_envelope kind ≡ true → Finds looked i (look_on hops rows words code (suc looked) (suc k) (suc i))
      entered (next later deep u f (inl d) o x more) c v =
          on_to (first_behind i l (valueless_here i c)) (omega (arith, zero_behind i l (ground g)))
          (ih (suc k) (suc i) l (omega arith) later (subst (λ (m : ℕ). Ranked later m rest) (omega (arith, ground g)) more) (words_at k r rest v t).1)
      entered (next later deep u f (inr (d, e)) o x more) c v = bad (sym e ∙ v)

      at : (c v o : Bool) → eqb (code_of kind) code ≡ c → is_envelope kind ≡ v → left_out words code k kind ≡ o → {dates : Bool} → Ranked dates 0 (r ∷ rest)
          → Finds looked i (pick c (answers_at i (suc looked)) (after hops looked k i v o))
      at true v o p q s g = here looked i l (ground g) (eqb-true (code_of kind) code p)
      at false false o p q s g = on_row g (eqb-false (code_of kind) code p) q
      at false true true p q s g = out (eqb-false (code_of kind) code p) q s
      at false true false p q s g = entered g (eqb-false (code_of kind) code p) q

  looks : (hops looked : ℕ) → Looks hops looked
  unfolding look_on
  looks zero looked k i l h dates g t = ended looked i (omega arith)
  looks (suc hops) looked k i l h dates g t = at (ltb i n) refl (looks hops (suc looked))
    where
      at : (b : Bool) → ltb i n ≡ b → Looks hops (suc looked) → Finds looked i (look_on (suc hops) rows words code looked k i)
      at true q ih = let m = ltb-true i n q in let s = ranks_next rows n i m in turn hops looked k i m h ih dates (subst (Ranked dates 0) s g) (subst (λ (x : List Rank). TrueFrom words k (words_of x)) s t)
      at false q ih = let m = ltb-false i n q in subst (Finds looked i) (rw (le-leb n i m) refl) (ended looked i m)

  -- all rows
  pub looked_first : (dates : Bool) → Ranked dates 0 (from 0) → TrueFrom words 0 (words_of (from 0)) → Finds 0 0 (looked_up rows words code)
  unfolding looked_up
  looked_first dates g t = looks n 0 0 0 (omega arith) (omega arith) dates g t
