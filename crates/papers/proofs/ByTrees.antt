-- Orders 6 and 1 for every header of the papers: words by the rows are the words of its trees, and present values their first children.
use Rattle.std.specs.Prelude.{ℕ, suc, ◌+◌, Bool, true, false, ◌||◌, ◌≡◌, refl, T, eqb, length, take}
use mathlib.Core.List.{List, [], ◌∷◌, ◌++◌, append-nil}
use Rattle.std.proofs.lemmas.Bool.{false≢true}
use Rattle.std.proofs.Math.Path.{ap, ap₂, sym}
use Rattle.std.proofs.Common.{◌∙◌, subst, arith, eqb→eq, eqb-true}
use Rattle.std.proofs.Math.Seq.{take-append_seam}
use Rattle.meaning.specs.Basics.{pick}
use Rattle.meaning.specs.Told.{Told}
use Rattle.meaning.specs.Kinds.{extension_opens, base_opens, received_by, agent_name, addresses_open, extra_key, encrypted_opens, own_key, behaviour_opens}
use Rattle.meaning.specs.Skips.{Rank, rank, is_envelope, belonging}
use Rattle.meaning.specs.Codes.{code_of}
use Rattle.meaning.specs.Words.{occurs, parameter_codes, word_of, words_of}
use Rattle.meaning.specs.Present.{Value, no_value, at_row, AllParameters, empty_envelope, value_in, unless, copy_row, copy_all, all_envelopes, row_or, present}
use Rattle.meaning.specs.Memory.{words_read}
use Rattle.laws_steps.specs.Logic.{left_of, right_of, is_true}
use Rattle.papers.specs.Notation.{Trees, end, tree, flat, size}
use Rattle.papers.specs.Papers.{Header}
use Rattle.papers.specs.TreeSkips.{ranks, NotNext, Nested, belonging_is, size_is}
use Rattle.papers.proofs.Nested.{header_nested}
use Rattle.papers.proofs.Laid.{ranks_flat}
use Rattle.papers.specs.Holding.{lists_agents, kind_in, level_in, may_hold, Tops, Each}
use Rattle.papers.proofs.Held.{opens_envelope, header_holding}
use Rattle.papers.proofs.Children.{has, NoValues, Children, children_of, children_occur, child_bits, tree_words, first_child, first_value}

-- No envelope stands inside another row

all_false : (a b c d e f g h : Bool) → pick a false (pick b false (pick c false (pick d false (pick e false (pick f false (pick g false (pick h false false))))))) ≡ false
all_false true b c d e f g h = refl
all_false false true c d e f g h = refl
all_false false false true d e f g h = refl
all_false false false false true e f g h = refl
all_false false false false false true f g h = refl
all_false false false false false false true g h = refl
all_false false false false false false false true h = refl
all_false false false false false false false false true = refl
all_false false false false false false false false false = refl

nothing : {A : Type 0} (b : Bool) → b ≡ false → T b → A
nothing true q u = absurd (false≢true (sym q))
nothing false q u = absurd u

module _ (owner : ℕ) where
  no_extension_in : kind_in owner extension_opens ≡ false
  no_extension_in =
      all_false (is_envelope owner) (lists_agents owner) (eqb owner agent_name) (eqb owner addresses_open) (eqb owner received_by) (eqb owner extra_key || eqb owner behaviour_opens) (eqb owner encrypted_opens) (eqb owner own_key)

  no_base_in : kind_in owner base_opens ≡ false
  no_base_in = all_false (is_envelope owner) (lists_agents owner) (eqb owner agent_name) (eqb owner addresses_open) (eqb owner received_by) (eqb owner extra_key || eqb owner behaviour_opens) (eqb owner encrypted_opens) (eqb owner own_key)

no_envelope_in : (owner j : ℕ) → T (kind_in owner j) → is_envelope j ≡ false
no_envelope_in owner j u = at (eqb j 1) (eqb j 2) refl refl
  where
    at : (a b : Bool) → eqb j 1 ≡ a → eqb j 2 ≡ b → a || b ≡ false
    at true b p q = nothing (kind_in owner 1) (no_extension_in owner) (subst (λ (x : ℕ). T (kind_in owner x)) (eqb-true j 1 p) u)
    at false true p q = nothing (kind_in owner 2) (no_base_in owner) (subst (λ (x : ℕ). T (kind_in owner x)) (eqb-true j 2 q) u)
    at false false p q = refl

abbrev NoEnvelopes : List Rank → Type 0
NoEnvelopes [] = Unit {0}
NoEnvelopes (r ∷ l) = (is_envelope r.kind ≡ false) × NoEnvelopes l

none_both : (l m : List Rank) → NoEnvelopes l → NoEnvelopes m → NoEnvelopes (l ++ m)
none_both [] m x y = y
none_both (r ∷ l) m x y = (x.0, none_both l m x.1 y)

none_inside : (owner : Rank) (ts : Trees) → Tops (may_hold owner) ts → Each ts → NoEnvelopes (ranks ts)
none_inside owner end h e = tt
none_inside owner (tree k n s v inside beside) h e =
    (no_envelope_in owner.kind k (left_of (kind_in owner.kind k) (eqb n (level_in owner)) h.0), none_both (ranks inside) (ranks beside) (none_inside (rank k n) inside e.0 e.2) (none_inside owner beside h.1 e.3))

-- a header's trees, envelope after envelope
module _ (k n s : ℕ) (v : List ℕ) (inside beside : Trees) (h : T (opens_envelope (rank k n))) (q : Nested (tree k n s v inside beside) []) where
  opens : is_envelope k ≡ true
  opens = is_true (is_envelope k) (left_of (is_envelope k) (eqb n 0) h)

  level_zero_lem : n ≡ 0
  level_zero_lem = eqb→eq n 0 (right_of (is_envelope k) (eqb n 0) h)

  own_rows : take (belonging (rank k n) (ranks inside ++ ranks beside)) (ranks inside ++ ranks beside) ≡ ranks inside
  own_rows =
      let next : NotNext (rank k n) (ranks beside) = subst (λ (l : List Rank). NotNext (rank k n) l) (append-nil (ranks beside)) q.1 in
      ap (λ (x : ℕ). take x (ranks inside ++ ranks beside)) (belonging_is (rank k n) (ranks inside) (ranks beside) q.0 next) ∙ take-append_seam (ranks inside) (ranks beside)

  their : Tops (may_hold (rank k n)) inside → (code : ℕ) → (code ≡ 1 → ⊥) → Children code inside
  their t code open_code =
      children_of code open_code k inside (ranks beside ++ []) opens (subst (λ (x : ℕ). Tops (may_hold (rank k x)) inside) level_zero_lem t) q.2

-- Words

passed_over : (l rest : List Rank) → NoEnvelopes l → words_of (l ++ rest) ≡ words_of rest
unfolding words_of
passed_over [] rest h = refl
passed_over (r ∷ l) rest h = rw h.0 (passed_over l rest h.1)

word_is : (ts : Trees) → ((code : ℕ) → (code ≡ 1 → ⊥) → Children code ts) → word_of (ranks ts) ≡ child_bits parameter_codes ts
unfolding word_of
word_is ts h =
    let at : (code : ℕ) (o : code ≡ 1 → ⊥) → occurs code (ranks ts) ≡ has code ts = λ code o. children_occur code o ts (h code o) in
    rw (at 0 (λ q. omega arith), at 2 (λ q. omega arith), at 3 (λ q. omega arith), at 4 (λ q. omega arith), at 5 (λ q. omega arith), at 6 (λ q. omega arith), at 7 (λ q. omega arith), at 8 (λ q. omega arith), at 9 (λ q. omega arith), at 10 (λ q. omega arith), at 11 (λ q. omega arith)) refl

words_of_trees : (ts : Trees) → Tops opens_envelope ts → Each ts → Nested ts [] → words_of (ranks ts) ≡ tree_words ts
unfolding words_of
words_of_trees end h e q = refl
words_of_trees (tree k n s v inside beside) h e q =
    let rest = ranks inside ++ ranks beside in
    let own : word_of (take (belonging (rank k n) rest) rest) ≡ child_bits parameter_codes inside = ap word_of (own_rows k n s v inside beside h.0 q) ∙ word_is inside (their k n s v inside beside h.0 q e.0) in
    let more : words_of rest ≡ tree_words beside = passed_over (ranks inside) (ranks beside) (none_inside (rank k n) inside e.0 e.2) ∙ words_of_trees beside h.1 e.3 q.3 in
    rw (opens k n s v inside beside h.0 q, own, more) refl

-- Present values

-- the first of these rows with the code
abbrev first_row : ℕ → ℕ → List Rank → Value
first_row code i [] = no_value
first_row code i (r ∷ l) = unless (value_in code i r) (first_row code (suc i) l)

unless_assoc : (a b c : Value) → unless (unless a b) c ≡ unless a (unless b c)
unless_assoc no_value b c = refl
unless_assoc (at_row i) b c = refl

unless_none : (a : Value) → unless a no_value ≡ a
unless_none no_value = refl
unless_none (at_row i) = refl

copied : (code i : ℕ) (l : List Rank) (all : AllParameters) → copy_all i l all code ≡ unless (all code) (first_row code i l)
unfolding copy_all
copied code i [] all = sym (unless_none (all code))
copied code i (r ∷ l) all = copied code (suc i) l (copy_row i r all) ∙ unless_assoc (all code) (value_in code i r) (first_row code (suc i) l)

module _ (code : ℕ) (open_code : code ≡ 1 → ⊥) where
  none_first : (i : ℕ) (l m : List Rank) → NoValues code l → first_row code i (l ++ m) ≡ first_row code (i + length l) m
  none_first i [] m h = ap (λ (x : ℕ). first_row code x m) (omega arith)
  none_first i (r ∷ l) m h = rw h.0 (none_first (suc i) l m h.1 ∙ ap (λ (x : ℕ). first_row code x m) (omega arith))

  first_child_lem : (i : ℕ) (ts : Trees) → Children code ts → first_row code i (ranks ts) ≡ first_child code i ts
  first_child_lem i end h = refl
  first_child_lem i (tree k n s v inside beside) (own, z, none, more) =
      let rest : first_row code (suc i) (ranks inside ++ ranks beside) ≡ first_child code (suc i + size inside) beside
      = none_first (suc i) (ranks inside) (ranks beside) none ∙ ap (λ (x : ℕ). first_row code x (ranks beside)) (omega (arith, size_is inside)) ∙ first_child_lem (suc i + size inside) beside more in
      rw (z, rest) (by (eqb (code_of k) code))
    where
      by : (b : Bool) → unless (pick b (at_row i) no_value) (first_child code (suc i + size inside) beside) ≡ pick b (at_row i) (first_child code (suc i + size inside) beside)
      by true = refl
      by false = refl

  -- rows that open no envelope are passed over
  envelopes_passed : (i : ℕ) (l rest : List Rank) (all : AllParameters) → NoEnvelopes l → all_envelopes i (l ++ rest) all ≡ all_envelopes (i + length l) rest all
  unfolding all_envelopes
  envelopes_passed i [] rest all h = ap (λ (x : ℕ). all_envelopes x rest all) (omega arith)
  envelopes_passed i (r ∷ l) rest all h =
      let some = copy_all (suc i) (take (belonging r (l ++ rest)) (l ++ rest)) all in
      ap (λ (b : Bool). all_envelopes (suc i) (l ++ rest) (pick b some all)) h.0 ∙ envelopes_passed (suc i) l rest all h.1 ∙ ap (λ (x : ℕ). all_envelopes x rest all) (omega arith)

  values_of_trees : (i : ℕ) (ts : Trees) (all : AllParameters) → Tops opens_envelope ts → Each ts → Nested ts [] → all_envelopes i (ranks ts) all code ≡ unless (all code) (first_value code i ts)
  unfolding all_envelopes
  values_of_trees i end all h e q = sym (unless_none (all code))
  values_of_trees i (tree k n s v inside beside) all h e q =
      let rest = ranks inside ++ ranks beside in
      let new = copy_all (suc i) (take (belonging (rank k n) rest) rest) all in
      let own : new code ≡ unless (all code) (first_child code (suc i) inside)
      = copied code (suc i) (take (belonging (rank k n) rest) rest) all ∙ ap (λ (l : List Rank). unless (all code) (first_row code (suc i) l)) (own_rows k n s v inside beside h.0 q)
      ∙ ap (unless (all code)) (first_child_lem (suc i) inside (their k n s v inside beside h.0 q e.0 code open_code)) in
      let onward : all_envelopes (suc i) rest new code ≡ unless (new code) (first_value code (suc i + size inside) beside)
      = ap (λ (f : AllParameters). f code) (envelopes_passed (suc i) (ranks inside) (ranks beside) new (none_inside (rank k n) inside e.0 e.2) ∙ ap (λ (x : ℕ). all_envelopes x (ranks beside) new) (omega (arith, size_is inside)))
      ∙ values_of_trees (suc i + size inside) beside new h.1 e.3 q.3 in
      ap (λ (b : Bool). all_envelopes (suc i) rest (pick b new all) code) (opens k n s v inside beside h.0 q) ∙ onward ∙ ap (λ (x : Value). unless x (first_value code (suc i + size inside) beside)) own
      ∙ unless_assoc (all code) (first_child code (suc i) inside) (first_value code (suc i + size inside) beside)

-- For every header of the papers, whatever a reading is told

module _ (t : Told) (at : ℕ) (bytes : List ℕ) (ts : Trees) (x : Header t at bytes ts) where
  -- order 6
  pub words_by_trees : words_of (ranks ts) ≡ tree_words ts
  words_by_trees = words_of_trees ts ((header_holding t).tops at bytes ts x) ((header_holding t).each at bytes ts x) (header_nested t at bytes ts x)

  -- .. as the reader leaves them
  pub words_read_by_trees : words_read (flat ts) ≡ tree_words ts
  words_read_by_trees = ap words_of (ranks_flat ts) ∙ words_by_trees

  -- order 1; no parameter has the code 01
  pub present_by_trees : (code : ℕ) → (code ≡ 1 → ⊥) → present code (ranks ts) ≡ row_or (size ts) (first_value code 0 ts)
  unfolding present
  present_by_trees code open_code =
      ap₂ row_or (size_is ts) (values_of_trees code open_code 0 ts empty_envelope ((header_holding t).tops at bytes ts x) ((header_holding t).each at bytes ts x) (header_nested t at bytes ts x))
