-- Order 1: the procedure of section 2.2, read at one code, gives the first row that opens or holds a value, where the first row is an envelope's, so
-- that every row behind it belongs to an envelope. By what each part of the procedure adds to the value that is there.
use Rattle.std.specs.Prelude.{ℕ, suc, ◌+◌, ◌≤◌, List, [], ◌∷◌, Bool, true, false, ◌&&◌, ◌||◌, ◌≡◌, refl, eqb, ltb, length, take}
use Rattle.std.proofs.Common.{inl, inr, ap, sym, ◌∙◌, arith, eqb-true, ne_eqb, ltb-true, ltb-false}
use Rattle.std.proofs.lemmas.Bool.{eqb-false}
use Rattle.meaning.specs.Basics.{pick}
use Rattle.meaning.specs.Editions.{closing}
use Rattle.meaning.specs.Kinds.{agent_name}
use Rattle.meaning.specs.Skips.{Rank, is_envelope, belongs, belonging}
use Rattle.meaning.specs.Codes.{code_of, has_value}
use Rattle.meaning.specs.Present.{Value, no_value, at_row, AllParameters, empty_envelope, value_in, unless, copy_all, next_envelope, all_envelopes, row_or, present}
use Rattle.laws_steps.specs.Nesting.{false_not, Belongs, belongs_how, deeper_belongs, beside_belongs, belonging_on, belonging_ends, belonging_none}
use Rattle.laws_tables.specs.Firsts.{first_from}

-- Values

unless_both : (u v w : Value) → unless (unless u v) w ≡ unless u (unless v w)
unless_both no_value v w = refl
unless_both (at_row i) v w = refl

unless_none : (u : Value) → unless u no_value ≡ u
unless_none no_value = refl
unless_none (at_row i) = refl

-- the first value among these rows, the first of them row i
abbrev first_value : ℕ → ℕ → List Rank → Value
first_value code i [] = no_value
first_value code i (r ∷ rest) = unless (value_in code i r) (first_value code (suc i) rest)

first_row_lem : (code i : ℕ) (rows : List Rank) → row_or (i + length rows) (first_value code i rows) ≡ first_from code i rows
unfolding first_from
first_row_lem code i [] = omega arith
first_row_lem code i (r ∷ rest) = at (has_value code r) (first_row_lem code (suc i) rest)
  where
    at : (b : Bool) → row_or (suc i + length rest) (first_value code (suc i) rest) ≡ first_from code (suc i) rest
        → row_or (i + suc (length rest)) (unless (pick b (at_row i) no_value) (first_value code (suc i) rest)) ≡ pick b i (first_from code (suc i) rest)
    at true ih = refl
    at false ih = let more : i + suc (length rest) ≡ suc i + length rest = omega arith in ap (λ (n : ℕ). row_or n (first_value code (suc i) rest)) more ∙ ih

-- What each part adds

copied : (code i : ℕ) (rows : List Rank) (all : AllParameters) → copy_all i rows all code ≡ unless (all code) (first_value code i rows)
unfolding copy_all
copied code i [] all = sym (unless_none (all code))
copied code i (r ∷ rest) all = copied code (suc i) rest _ ∙ unless_both (all code) (value_in code i r) (first_value code (suc i) rest)

-- the first value in the rows of row i, if it is an envelope's
abbrev own_value : ℕ → ℕ → Rank → List Rank → Value
own_value code i r rest = pick (is_envelope r.kind) (first_value code (suc i) (take (belonging r rest) rest)) no_value

entered : (code i : ℕ) (r : Rank) (rest : List Rank) (all : AllParameters) → next_envelope i r rest all code ≡ unless (all code) (own_value code i r rest)
entered code i r rest all = at (is_envelope r.kind)
  where
    at : (b : Bool) → pick b (copy_all (suc i) (take (belonging r rest) rest) all) all code ≡ unless (all code) (pick b (first_value code (suc i) (take (belonging r rest) rest)) no_value)
    at true = copied code (suc i) (take (belonging r rest) rest) all
    at false = sym (unless_none (all code))

-- the first value in the rows of the envelopes from row i on
abbrev in_envelopes : ℕ → ℕ → List Rank → Value
in_envelopes code i [] = no_value
in_envelopes code i (r ∷ rest) = unless (own_value code i r rest) (in_envelopes code (suc i) rest)

processed : (code i : ℕ) (rows : List Rank) (all : AllParameters) → all_envelopes i rows all code ≡ unless (all code) (in_envelopes code i rows)
unfolding all_envelopes
processed code i [] all = sym (unless_none (all code))
processed code i (r ∷ rest) all =
    processed code (suc i) rest (next_envelope i r rest all) ∙ ap (λ (v : Value). unless v (in_envelopes code (suc i) rest)) (entered code i r rest all) ∙ unless_both (all code) (own_value code i r rest) (in_envelopes code (suc i) rest)

-- Rows of which each belongs to an envelope

-- every row has a kind, an envelope's stands at level 0, and an agent's deeper
pub record StandsWell (r : Rank) : Type 0 where
  pub some_kind : 1 ≤ r.kind
  pub envelope_out : is_envelope r.kind ≡ true → r.level ≡ 0
  pub agent_in : r.kind ≡ agent_name → 1 ≤ r.level

pub data Standing : List Rank → Type 0 where
  none_left : Standing []
  one_more : {r : Rank} {rest : List Rank} → StandsWell r → Standing rest → Standing (r ∷ rest)

pub envelope_kind : (k : ℕ) → is_envelope k ≡ true → (1 ≤ k) × (k ≤ 2)
envelope_kind k h = at (eqb k 1) (eqb k 2) refl refl h
  where
    at : (x y : Bool) → eqb k 1 ≡ x → eqb k 2 ≡ y → x || y ≡ true → (1 ≤ k) × (k ≤ 2)
    at true y p q z = let e = eqb-true k 1 p in (omega arith, omega arith)
    at false true p q z = let e = eqb-true k 2 q in (omega arith, omega arith)
    at false false p q z = false_not z

kind_envelope : (k : ℕ) → 1 ≤ k → k ≤ 2 → is_envelope k ≡ true
kind_envelope k l h = at (eqb k 1) (eqb k 2) refl refl
  where
    at : (x y : Bool) → eqb k 1 ≡ x → eqb k 2 ≡ y → x || y ≡ true
    at true y p q = refl
    at false true p q = refl
    at false false p q = let m = eqb-false k 1 p in let n = eqb-false k 2 q in absurd (omega arith)

-- an envelope's own row is no value
envelope_none : (code i : ℕ) (r : Rank) → (code ≡ closing → ⊥) → is_envelope r.kind ≡ true → value_in code i r ≡ no_value
envelope_none code i r n h = ap (λ (b : Bool). pick (eqb r.level 0 && b) (at_row i) no_value) (ap (λ (c : ℕ). eqb c code) (no_code r.kind (envelope_kind r.kind h)) ∙ ne_eqb closing code (λ q. n (sym q))) ∙ none (eqb r.level 0)
  where
    no_code : (k : ℕ) → (1 ≤ k) × (k ≤ 2) → code_of k ≡ closing
    no_code k (l, m) = by (eqb k 1) refl
      where
        by : (b : Bool) → eqb k 1 ≡ b → code_of k ≡ closing
        by true q = ap code_of (eqb-true k 1 q)
        by false q = let z = eqb-false k 1 q in let two : k ≡ 2 = omega arith in ap code_of two

    none : (b : Bool) → pick (b && false) (at_row i) no_value ≡ no_value
    none true = refl
    none false = refl

-- what does not belong to an envelope of level 0 is the next envelope
module _ (r s : Rank) (h : is_envelope r.kind ≡ true) (l : r.level ≡ 0) where
  next_opens : 1 ≤ s.kind → belongs r s ≡ false → is_envelope s.kind ≡ true
  next_opens k q = at (eqb s.level 0) (ltb 2 s.kind) refl refl
    where
      at : (x y : Bool) → eqb s.level 0 ≡ x → ltb 2 s.kind ≡ y → is_envelope s.kind ≡ true
      at false y p z = let n = eqb-false s.level 0 p in false_not (sym q ∙ deeper_belongs r s (rw h refl) (omega arith))
      at true true p z = false_not (sym q ∙ beside_belongs r s (eqb-true s.level 0 p ∙ sym l) (rw h z))
      at true false p z = let m = ltb-false 2 s.kind z in kind_envelope s.kind k (omega arith)

  -- and what belongs to it is none
  inside_none : (is_envelope s.kind ≡ true → s.level ≡ 0) → belongs r s ≡ true → is_envelope s.kind ≡ false
  inside_none f q = at (is_envelope s.kind) refl
    where
      at : (b : Bool) → is_envelope s.kind ≡ b → is_envelope s.kind ≡ false
      at false p = p
      at true p = by (belongs_how r s q)
        where
          by : Belongs r s → is_envelope s.kind ≡ false
          by (inl (x, y)) = let z = f p in absurd (omega arith)
          by (inr (x, y)) = let (a, b) = envelope_kind s.kind p in let z = ltb-true 2 s.kind (rw h at y) in absurd (omega arith)

-- behind an envelope's row, its own values and those of the envelopes behind it are all there are
all_inside : (code i : ℕ) (r : Rank) (rows : List Rank) → (code ≡ closing → ⊥) → is_envelope r.kind ≡ true → r.level ≡ 0 → Standing rows
    → unless (first_value code i (take (belonging r rows) rows)) (in_envelopes code i rows) ≡ first_value code i rows
all_inside code i r [] n h l none_left = rw (belonging_none r) refl
all_inside code i r (s ∷ rest) n h l (one_more k t) = at (belongs r s) refl (all_inside code (suc i) r rest n h l t) (λ h₁ l₁. all_inside code (suc i) s rest n h₁ l₁ t)
  where
    at : (b : Bool) → belongs r s ≡ b → unless (first_value code (suc i) (take (belonging r rest) rest)) (in_envelopes code (suc i) rest) ≡ first_value code (suc i) rest
        → (is_envelope s.kind ≡ true → s.level ≡ 0 → unless (first_value code (suc i) (take (belonging s rest) rest)) (in_envelopes code (suc i) rest) ≡ first_value code (suc i) rest)
        → unless (first_value code i (take (belonging r (s ∷ rest)) (s ∷ rest))) (in_envelopes code i (s ∷ rest)) ≡ first_value code i (s ∷ rest)
    at true q ih step =
        ap (λ (x : ℕ). unless (first_value code i (take x (s ∷ rest))) (in_envelopes code i (s ∷ rest))) (belonging_on r s rest q)
        ∙ ap (λ (b : Bool). unless (unless (value_in code i s) (first_value code (suc i) (take (belonging r rest) rest))) (unless (pick b (first_value code (suc i) (take (belonging s rest) rest)) no_value) (in_envelopes code (suc i) rest))) (inside_none r s h l k.envelope_out q)
        ∙ unless_both (value_in code i s) (first_value code (suc i) (take (belonging r rest) rest)) (in_envelopes code (suc i) rest) ∙ ap (unless (value_in code i s)) ih
    at false q ih step =
        let o = next_opens r s h l k.some_kind q in
        ap (λ (x : ℕ). unless (first_value code i (take x (s ∷ rest))) (in_envelopes code i (s ∷ rest))) (belonging_ends r s rest q)
        ∙ ap (λ (b : Bool). unless (pick b (first_value code (suc i) (take (belonging s rest) rest)) no_value) (in_envelopes code (suc i) rest)) o
        ∙ step o (k.envelope_out o) ∙ ap (λ (v : Value). unless v (first_value code (suc i) rest)) (sym (envelope_none code i s n o))

-- The procedure's answer is the first row that has a value
pub first_stands : (code : ℕ) (r : Rank) (rest : List Rank) → (code ≡ closing → ⊥) → is_envelope r.kind ≡ true → Standing (r ∷ rest) → present code (r ∷ rest) ≡ first_from code 0 (r ∷ rest)
unfolding present
first_stands code r rest n h (one_more k t) =
    let all : all_envelopes 0 (r ∷ rest) empty_envelope code ≡ first_value code 0 (r ∷ rest)
    = processed code 0 (r ∷ rest) empty_envelope ∙ ap (λ (b : Bool). unless (pick b (first_value code 1 (take (belonging r rest) rest)) no_value) (in_envelopes code 1 rest)) h
    ∙ all_inside code 1 r rest n h (k.envelope_out h) t ∙ ap (λ (v : Value). unless v (first_value code 1 rest)) (sym (envelope_none code 0 r n h)) in
    let zero_more : length (r ∷ rest) ≡ 0 + length (r ∷ rest) = omega arith in
    ap (row_or (length (r ∷ rest))) all ∙ ap (λ (x : ℕ). row_or x (first_value code 0 (r ∷ rest))) zero_more ∙ first_row_lem code 0 (r ∷ rest)
