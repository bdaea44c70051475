-- The words of a table, envelope by envelope: one for each, with the bit of its fixed head.
use Rattle.std.specs.Prelude.{ℕ, suc, ◌/◌, ◌%◌, ◌≤◌, List, [], ◌∷◌, ◌++◌, Bool, true, false, ◌&&◌, not, ◌≡◌, refl, T, eqb, leb, length}
use Rattle.std.proofs.Common.{append-nil, ap, sym, ◌∙◌, subst, arith, leb→le, eqb-true, ne_eqb, lt-ltb}
use Rattle.std.proofs.Math.Seq.{take-append_seam}
use Rattle.std.proofs.lemmas.Bool.{eqb-false}
use Rattle.meaning.specs.Basics.{every}
use Rattle.meaning.specs.Kinds.{agent_name}
use Rattle.meaning.specs.Skips.{Rank, rank, belongs, belonging}
use Rattle.meaning.specs.Codes.{has_value}
use Rattle.meaning.specs.Words.{occurs, word_of, words_of}
use Rattle.meaning.specs.Headers.{opening}
use Rattle.laws_steps.specs.Logic.{left_of, right_of, is_true}
use Rattle.laws_steps.specs.Nesting.{deeper_belongs, beside_belongs, belonging_on, belonging_ends, belonging_none}
use Rattle.laws_tables.specs.Presence.{bit_four, bit_ten}
use Rattle.laws_tables.specs.Tabled.{is_inner, Tabled, the_last, one_more}

-- Rows of an envelope

abbrev pub top : Bool → Rank
top b = rank (opening b) 0

pub inner_three : (r : Rank) → T (is_inner r) → 3 ≤ r.kind
inner_three r t = leb→le 3 r.kind (left_of (leb 3 r.kind) (not (eqb r.kind agent_name && eqb r.level 0)) t)

pub three_belongs : (b : Bool) (r : Rank) → 3 ≤ r.kind → belongs (top b) r ≡ true
three_belongs b r h = at (eqb r.level 0) refl b
  where
    at : (z : Bool) → eqb r.level 0 ≡ z → (b : Bool) → belongs (top b) r ≡ true
    at true q true = beside_belongs (top true) r (eqb-true r.level 0 q) (lt-ltb 2 r.kind h)
    at true q false = beside_belongs (top false) r (eqb-true r.level 0 q) (lt-ltb 2 r.kind h)
    at false q true = let n = eqb-false r.level 0 q in deeper_belongs (top true) r refl (omega arith)
    at false q false = let n = eqb-false r.level 0 q in deeper_belongs (top false) r refl (omega arith)

pub top_not : (b c : Bool) → belongs (top b) (top c) ≡ false
unfolding belongs
top_not true true = refl
top_not true false = refl
top_not false true = refl
top_not false false = refl

all_belong : (b : Bool) (inner rest : List Rank) → T (every is_inner inner) → belonging (top b) rest ≡ 0 → belonging (top b) (inner ++ rest) ≡ length inner
all_belong b [] rest t z = z
all_belong b (r ∷ inner) rest t z =
    belonging_on (top b) r (inner ++ rest) (three_belongs b r (inner_three r (left_of (is_inner r) (every is_inner inner) t)))
    ∙ ap suc (all_belong b inner rest (right_of (is_inner r) (every is_inner inner) t) z)

ends_at : (b : Bool) {n : ℕ} {rest : List Rank} → Tabled n rest → belonging (top b) rest ≡ 0
ends_at b (the_last head inner h t) = belonging_ends (top b) (top true) (head ∷ inner) (top_not b true)
ends_at b (one_more head inner rest n h t more) = belonging_ends (top b) (top false) (head ∷ (inner ++ rest)) (top_not b false)

-- Words

words_top : (b : Bool) (inner rest : List Rank) → belonging (top b) (inner ++ rest) ≡ length inner → words_of (top b ∷ (inner ++ rest)) ≡ word_of inner ∷ words_of (inner ++ rest)
unfolding words_of
words_top true inner rest q = rw (q, take-append_seam inner rest) refl
words_top false inner rest q = rw (q, take-append_seam inner rest) refl

-- an envelope's own row has a word, the rows inside it none
pub opens_word : (b : Bool) (ranks : List Rank) → length (words_of (top b ∷ ranks)) ≡ suc (length (words_of ranks))
unfolding words_of
opens_word true ranks = refl
opens_word false ranks = refl

pub words_pass : (inner rest : List Rank) → T (every is_inner inner) → words_of (inner ++ rest) ≡ words_of rest
unfolding words_of
words_pass [] rest t = refl
words_pass (r ∷ inner) rest t =
    let h = inner_three r (left_of (is_inner r) (every is_inner inner) t) in
    rw (ne_eqb r.kind 1 (λ q. omega arith), ne_eqb r.kind 2 (λ q. omega arith)) (words_pass inner rest (right_of (is_inner r) (every is_inner inner) t))

pub no_words : words_of [] ≡ []
unfolding words_of
no_words = refl

-- the first envelope's rows, and the table behind them
module _ (b : Bool) (inner rest : List Rank) (t : T (every is_inner inner)) (z : belonging (top b) rest ≡ 0) where
  pub first_run : belonging (top b) (inner ++ rest) ≡ length inner
  first_run = all_belong b inner rest t z

  pub first_word : words_of (top b ∷ (inner ++ rest)) ≡ word_of inner ∷ words_of rest
  first_word = words_top b inner rest first_run ∙ ap (λ (x : List ℕ). word_of inner ∷ x) (words_pass inner rest t)

-- a table, or nothing
pub data Split : ℕ → List Rank → Type 0 where
  nothing : Split 0 []
  first : (b : Bool) (inner rest : List Rank) (n : ℕ) → T (every is_inner inner) → belonging (top b) rest ≡ 0 → (rest ≡ [] → n ≡ 0) → Split n rest → Split (suc n) (top b ∷ (inner ++ rest))

pub tabled_split : {n : ℕ} {ranks : List Rank} → Tabled n ranks → Split n ranks
tabled_split (the_last head inner h t) =
    subst (λ (x : List Rank). Split 1 (top true ∷ x)) (append-nil (head ∷ inner)) (first true (head ∷ inner) [] 0 t (belonging_none (top true)) (λ q. refl) nothing)
tabled_split (one_more head inner rest n h t more) = first false (head ∷ inner) rest n t (ends_at false more) (λ q. absurd (some more q)) (tabled_split more)
  where
    some : {n : ℕ} {ranks : List Rank} → Tabled n ranks → ranks ≡ [] → ⊥
    some (the_last head inner h t) q = let z : ◌≡◌ {A = ℕ} 0 1 = cc q in absurd (omega arith)
    some (one_more head inner rest n h t more) q = let z : ◌≡◌ {A = ℕ} 0 1 = cc q in absurd (omega arith)

-- "a word for each envelope"
pub words_count : {n : ℕ} {ranks : List Rank} → Split n ranks → length (words_of ranks) ≡ n
words_count nothing = ap length no_words
words_count (first b inner rest n t z e more) = ap length (first_word b inner rest t z) ∙ ap suc (words_count more)

-- "fixed heads included": the base's word has bit 4, any other bit 10
abbrev pub HeadBits : List ℕ → Type 0
HeadBits [] = ⊥
HeadBits (w ∷ []) = w / 16 % 2 ≡ 1
HeadBits (w ∷ (v ∷ ws)) = (w / 1024 % 2 ≡ 1) × HeadBits (v ∷ ws)

head_occurs : (code : ℕ) (r : Rank) (rest : List Rank) → T (has_value code r) → occurs code (r ∷ rest) ≡ true
unfolding occurs
head_occurs code r rest t = rw (is_true (has_value code r) t) refl

head_behind : (w : ℕ) (ws : List ℕ) → w / 1024 % 2 ≡ 1 → HeadBits ws → HeadBits (w ∷ ws)
head_behind w [] h more = absurd more
head_behind w (v ∷ ws) h more = (h, more)

pub head_bits : {n : ℕ} {ranks : List Rank} → Tabled n ranks → HeadBits (words_of ranks)
head_bits (the_last head inner h t) =
    let q : words_of (top true ∷ (head ∷ inner)) ≡ word_of (head ∷ inner) ∷ []
    = ap (λ (x : List Rank). words_of (top true ∷ x)) (sym (append-nil (head ∷ inner))) ∙ first_word true (head ∷ inner) [] t (belonging_none (top true)) ∙ ap (λ (x : List ℕ). word_of (head ∷ inner) ∷ x) no_words in
    subst HeadBits (sym q) (bit_four (head ∷ inner) (head_occurs 4 head inner h))
head_bits (one_more head inner rest n h t more) =
    subst HeadBits (sym (first_word false (head ∷ inner) rest t (ends_at false more))) (head_behind (word_of (head ∷ inner)) (words_of rest) (bit_ten (head ∷ inner) (head_occurs 10 head inner h)) (head_bits more))
