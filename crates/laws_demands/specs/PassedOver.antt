-- What a hop from a row of level 0 passes over: no value with a code, no envelope; and it lands on level 0, or behind the last row.
use Rattle.std.specs.Prelude.{ℕ, zero, suc, ◌+◌, ◌≤◌, ◌<◌, List, [], ◌∷◌, Bool, true, false, ◌&&◌, ◌||◌, ◌⊎◌, ◌≡◌, eqb, length, take, drop}
use Rattle.std.proofs.Common.{inl, inr, ap, sym, ◌∙◌, subst, arith, eqb-true, ne_eqb}
use Rattle.std.proofs.Math.Path.{refl}
use Rattle.std.proofs.lemmas.Bool.{eqb-false}
use Rattle.meaning.specs.Basics.{pick}
use Rattle.meaning.specs.Kinds.{agent_name}
use Rattle.meaning.specs.Skips.{Rank, is_envelope, holds_deeper, beside, belongs, belonging}
use Rattle.meaning.specs.Codes.{code_of, has_value, date_code, is_date, is_representation}
use Rattle.meaning.specs.Words.{occurs, word_of, words_of}
use Rattle.laws_steps.specs.Nesting.{by_beside, value_is, above, Belongs, belongs_how, deeper_belongs, belonging_on, belonging_ends, belonging_none, deeper_nests}
use Rattle.meaning.specs.Lookup.{lacks}
use Rattle.laws_tables.specs.Firsts.{first_from}
use Rattle.laws_tables.specs.Levels.{bad}
use Rattle.laws_demands.specs.Lacking.{word_has}
use Rattle.laws_tables.specs.Ranked.{Fair, Ranked, none, next}

-- "the number of level 0 rows"
unfoldable pub level_zero : List Rank → ℕ
level_zero [] = 0
level_zero (r ∷ rest) =
    let more : ℕ = level_zero rest in
    pick (eqb r.level 0) (suc more) more

-- Rows that are dropped

pub first_over_lem : (code i b : ℕ) (rows : List Rank) → b ≤ length rows → occurs code (take b rows) ≡ false → first_from code i rows ≡ first_from code (i + b) (drop b rows)
unfolding first_from occurs
first_over_lem code i zero rows h q = let z : i ≡ i + 0 = omega arith in ap (λ (x : ℕ). first_from code x rows) z
first_over_lem code i (suc b) [] h q = absurd (omega arith)
first_over_lem code i (suc b) (r ∷ rows) h q = at (has_value code r) (occurs code (take b rows)) refl refl q (first_over_lem code (suc i) b rows (omega arith))
  where
    at : (x y : Bool) → has_value code r ≡ x → occurs code (take b rows) ≡ y → (x || y) ≡ false → (occurs code (take b rows) ≡ false → first_from code (suc i) rows ≡ first_from code (suc i + b) (drop b rows))
        → pick (has_value code r) i (first_from code (suc i) rows) ≡ first_from code (i + suc b) (drop b rows)
    at true y u v h ih = bad (sym h)
    at false true u v h ih = bad (sym h)
    at false false u v h ih = let z : suc i + b ≡ i + suc b = omega arith in (rw u (ih v)) ∙ ap (λ (x : ℕ). first_from code x (drop b rows)) z

pub fewer : (b : ℕ) (rows : List Rank) → level_zero (drop b rows) ≤ level_zero rows
unfolding level_zero
fewer zero rows = omega arith
fewer (suc b) [] = omega arith
fewer (suc b) (r ∷ rows) = at (eqb r.level 0) (fewer b rows)
  where
    at : (z : Bool) → level_zero (drop b rows) ≤ level_zero rows → level_zero (drop b rows) ≤ pick z (suc (level_zero rows)) (level_zero rows)
    at true h = omega arith
    at false h = h

-- What belongs to a row of level 0

-- beside a row that is neither an envelope's nor an agent's stands nothing with a code
codeless : (k c : ℕ) → is_envelope k ≡ false → (k ≡ agent_name → ⊥) → beside k c ≡ true → code_of c ≡ 0x01
codeless k c v a =
    by_beside (λ f. f c ≡ true → code_of c ≡ 0x01) k (λ q i. bad (sym v ∙ ap is_envelope q)) (λ q i. bad (sym v ∙ ap is_envelope q)) (λ q i. absurd (a q))
    (λ q i. ap code_of (eqb-true c 17 i)) (λ q i. value_is c i (λ x. ap code_of x) (λ x. ap code_of x)) (λ q i. value_is c i (λ x. ap code_of x) (λ x. ap code_of x))
    (λ q i. ap code_of (eqb-true c 26 i)) (λ q i. ap code_of (eqb-true c 28 i)) (λ i. bad i)

pub none_and : (b : Bool) → (b && false) ≡ false
none_and true = refl
none_and false = refl

deeper_valueless : (code : ℕ) (s : Rank) → 0 < s.level → has_value code s ≡ false
deeper_valueless code s h = rw (ne_eqb s.level 0 (λ q. omega arith)) refl

codeless_valueless : (code : ℕ) (s : Rank) → (code ≡ 0x01 → ⊥) → code_of s.kind ≡ 0x01 → has_value code s ≡ false
codeless_valueless code s n q = rw (q, ne_eqb 0x01 code (λ x. n (sym x))) (none_and (eqb s.level 0))

-- rows that have no value, one by one
module _ (code : ℕ) (r : Rank) where
  none_first : (s : Rank) (rest : List Rank) → has_value code s ≡ false → occurs code (take (belonging r rest) rest) ≡ false → occurs code (take (suc (belonging r rest)) (s ∷ rest)) ≡ false
  unfolding occurs
  none_first s rest h q = rw (h, q) refl

  none_ended : (rest : List Rank) → belonging r rest ≡ 0 → occurs code (take (belonging r rest) rest) ≡ false
  unfolding occurs
  none_ended rest q = rw q refl

  -- where each row that belongs has none
  valueless : (rest : List Rank) → ((s : Rank) → belongs r s ≡ true → has_value code s ≡ false) → occurs code (take (belonging r rest) rest) ≡ false
  valueless [] f = none_ended [] (belonging_none r)
  valueless (s ∷ rest) f = at (belongs r s) refl (valueless rest f)
    where
      at : (b : Bool) → belongs r s ≡ b → occurs code (take (belonging r rest) rest) ≡ false → occurs code (take (belonging r (s ∷ rest)) (s ∷ rest)) ≡ false
      at true q ih = rw (belonging_on r s rest q) (none_first s rest (f s q) ih)
      at false q ih = none_ended (s ∷ rest) (belonging_ends r s rest q)

-- a row that is no envelope's
pub row_valueless : (code : ℕ) (r : Rank) (rest : List Rank) → (code ≡ 0x01 → ⊥) → is_envelope r.kind ≡ false → (r.kind ≡ agent_name → ⊥) → occurs code (take (belonging r rest) rest) ≡ false
row_valueless code r rest n v a = valueless code r rest (λ s q. at s (belongs_how r s q))
  where
    at : (s : Rank) → Belongs r s → has_value code s ≡ false
    at s (inl (h, l)) = deeper_valueless code s (omega arith)
    at s (inr (l, i)) = codeless_valueless code s n (codeless r.kind s.kind v a i)

-- no envelope stands among what belongs to a row
inside_kind : {dates : Bool} (r s : Rank) → Fair dates s → belongs r s ≡ true → is_envelope s.kind ≡ false
inside_kind r s f q = at (is_envelope s.kind) refl (belongs_how r s q)
  where
    low : is_envelope s.kind ≡ true → s.kind ≤ 2
    low v = by (eqb s.kind 1) (eqb s.kind 2) refl refl v
      where
        by : (a b : Bool) → eqb s.kind 1 ≡ a → eqb s.kind 2 ≡ b → (a || b) ≡ true → s.kind ≤ 2
        by true b p r h = let z = eqb-true s.kind 1 p in omega arith
        by false true p r h = let z = eqb-true s.kind 2 r in omega arith
        by false false p r h = bad h

    at : (b : Bool) → is_envelope s.kind ≡ b → Belongs r s → is_envelope s.kind ≡ false
    at false v h = v
    at true v (inl (h, l)) = absurd (omega (arith, f.envelope v))
    at true v (inr (l, i)) =
        let z : 2 < s.kind = above 2 r.kind s.kind (λ e. omega arith) (λ e. omega arith) (λ e. omega arith) (omega arith) i in
        let y = low v in
        absurd (omega arith)

pub no_word : (s : Rank) (rest : List Rank) → is_envelope s.kind ≡ false → words_of (s ∷ rest) ≡ words_of rest
unfolding words_of
no_word s rest v = rw v refl

-- so the words behind an envelope's rows, or behind a row's, are those of the rows from there on
pub words_over : {dates : Bool} {most : ℕ} (r : Rank) (rest : List Rank) → Ranked dates most rest → words_of rest ≡ words_of (drop (belonging r rest) rest)
words_over r [] k = ap (λ (b : ℕ). words_of (drop b [])) (sym (belonging_none r))
words_over r (s ∷ rest) (next later deep l f d o x more) = at (belongs r s) refl (words_over r rest more)
  where
    at : (b : Bool) → belongs r s ≡ b → words_of rest ≡ words_of (drop (belonging r rest) rest) → words_of (s ∷ rest) ≡ words_of (drop (belonging r (s ∷ rest)) (s ∷ rest))
    at true q ih = rw (belonging_on r s rest q) (no_word s rest (inside_kind r s f q) ∙ ih)
    at false q ih = ap (λ (b : ℕ). words_of (drop b (s ∷ rest))) (sym (belonging_ends r s rest q))

-- Where the hop lands

-- beside or deeper, what belongs to a row of level 0 ends where level 0 goes on
pub lands : {dates : Bool} {most : ℕ} (r : Rank) (rest : List Rank) → r.level ≡ 0 → Ranked dates most (r ∷ rest) → (later : Bool) × Ranked later 0 (drop (belonging r rest) rest)
lands r rest z (next later deep l f d o x more) = at (holds_deeper r.kind) refl d
  where
    -- where what is deeper belongs
    deeper : {dates : Bool} {most : ℕ} (rest : List Rank) → holds_deeper r.kind ≡ true → Ranked dates most rest → (later : Bool) × Ranked later 0 (drop (belonging r rest) rest)
    deeper {dates} [] h k = (dates, subst (λ (b : ℕ). Ranked dates 0 (drop b [])) (sym (belonging_none r)) none)
    deeper {dates} (s ∷ rest) h (next later deep l f d o x more) = by (belongs r s) refl (deeper rest h more)
      where
        low : (b : Bool) → eqb s.level 0 ≡ b → belongs r s ≡ false → s.level ≤ 0
        low true q n = let e = eqb-true s.level 0 q in omega arith
        low false q n = let e = eqb-false s.level 0 q in bad (sym n ∙ deeper_belongs r s h (omega arith))

        by : (b : Bool) → belongs r s ≡ b → (later : Bool) × Ranked later 0 (drop (belonging r rest) rest) → (later : Bool) × Ranked later 0 (drop (belonging r (s ∷ rest)) (s ∷ rest))
        by true q ih = rw (belonging_on r s rest q) ih
        by false q ih = (dates, subst (λ (b : ℕ). Ranked dates 0 (drop b (s ∷ rest))) (sym (belonging_ends r s rest q)) (next later deep (low (eqb s.level 0) refl q) f d o x more))

    -- where it does not, all that belongs stands beside
    beside_on : {dates : Bool} (rest : List Rank) → holds_deeper r.kind ≡ false → Ranked dates 0 rest → (later : Bool) × Ranked later 0 (drop (belonging r rest) rest)
    beside_on {dates} [] h k = (dates, subst (λ (b : ℕ). Ranked dates 0 (drop b [])) (sym (belonging_none r)) none)
    beside_on {dates} (s ∷ rest) h (next later deep l f d o x more) = by (belongs r s) refl d (beside_on rest h)
      where
        flat : Belongs r s → holds_deeper s.kind ≡ true → ⊥
        flat (inl (u, w)) q = bad (sym h ∙ u)
        flat (inr (u, w)) q = bad (sym h ∙ deeper_nests r.kind s.kind w q)

        by : (b : Bool) → belongs r s ≡ b → (deep ≤ s.level) ⊎ ((holds_deeper s.kind ≡ true) × (is_envelope s.kind ≡ false)) → (Ranked later 0 rest → (later : Bool) × Ranked later 0 (drop (belonging r rest) rest))
            → (later : Bool) × Ranked later 0 (drop (belonging r (s ∷ rest)) (s ∷ rest))
        by true q (inl k) ih = rw (belonging_on r s rest q) (ih (subst (λ (m : ℕ). Ranked later m rest) (omega arith) more))
        by true q (inr (k, v)) ih = absurd (flat (belongs_how r s q) k)
        by false q k ih = (dates, subst (λ (b : ℕ). Ranked dates 0 (drop b (s ∷ rest))) (sym (belonging_ends r s rest q)) (next later deep l f d o x more))

    at : (b : Bool) → holds_deeper r.kind ≡ b → (deep ≤ r.level) ⊎ ((holds_deeper r.kind ≡ true) × (is_envelope r.kind ≡ false)) → (later : Bool) × Ranked later 0 (drop (belonging r rest) rest)
    at true h k = deeper rest h more
    at false h (inl k) = beside_on rest h (subst (λ (m : ℕ). Ranked later m rest) (omega arith) more)
    at false h (inr (k, v)) = bad (sym h ∙ k)

-- Envelopes that are left out

-- by their word
pub lacking : (code : ℕ) (rows : List Rank) → 2 ≤ code → code ≤ 11 → lacks (word_of rows) code ≡ true → occurs code rows ≡ false
lacking code rows l h q = at (occurs code rows) refl
  where
    at : (b : Bool) → occurs code rows ≡ b → occurs code rows ≡ false
    at true o = bad (sym (word_has rows code l h o) ∙ q)
    at false o = o

-- for 20 by being extensions
undated_code : (k : ℕ) → is_date k ≡ false → eqb (code_of k) date_code ≡ false
undated_code k n = rw n (other (eqb k 27) 0 _ refl (other (eqb k 12) 2 _ refl (other (eqb k 13) 3 _ refl (other (is_representation k) 4 _ refl (other (eqb k 22) 5 _ refl (other (eqb k 23) 6 _ refl (other (eqb k 24) 7 _ refl (other (eqb k 25) 8 _ refl (other (eqb k 14) 9 _ refl (other (eqb k 8) 10 _ refl (other (eqb k 29) 11 _ refl refl)))))))))))
  where
    other : (b : Bool) (x y : ℕ) → eqb x date_code ≡ false → eqb y date_code ≡ false → eqb (pick b x y) date_code ≡ false
    other true x y z q = z
    other false x y z q = q

pub dateless : {most : ℕ} (r : Rank) (rest : List Rank) → Ranked false most rest → occurs date_code (take (belonging r rest) rest) ≡ false
dateless r [] k = none_ended date_code r [] (belonging_none r)
dateless r (s ∷ rest) (next later deep l f d o x more) = at (belongs r s) refl (λ k. dateless {most = deep} r rest k)
  where
    undated : (b : Bool) → is_date s.kind ≡ b → has_value date_code s ≡ false
    undated true q = deeper_valueless date_code s (f.date refl q)
    undated false q = rw (undated_code s.kind q) (none_and (eqb s.level 0))

    at : (b : Bool) → belongs r s ≡ b → (Ranked false deep rest → occurs date_code (take (belonging r rest) rest) ≡ false) → occurs date_code (take (belonging r (s ∷ rest)) (s ∷ rest)) ≡ false
    at true q ih = rw (belonging_on r s rest q) (none_first date_code r s rest (undated (is_date s.kind) refl) (ih (subst (λ (b : Bool). Ranked b deep rest) (o (inside_kind r s f q)) more)))
    at false q ih = none_ended date_code r (s ∷ rest) (belonging_ends r s rest q)
