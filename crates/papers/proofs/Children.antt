-- Orders 6 and 1, read off a header's trees: a word has the codes of an envelope's own children, and a present value is the first child with the code.
use Rattle.std.specs.Prelude.{ℕ, suc, ◌+◌, ◌^◌, Bool, true, false, ◌&&◌, ◌||◌, ◌⊎◌, ◌≡◌, T, eqb}
use mathlib.Core.List.{List, [], ◌∷◌}
use Rattle.std.proofs.lemmas.Bool.{false≢true}
use Rattle.std.proofs.Common.{inl, inr, ap, sym, ◌∙◌, subst, arith, eqb→eq, eqb-true, ne_eqb}
use Rattle.std.proofs.Math.Path.{refl}
use Rattle.meaning.specs.Basics.{pick}
use Rattle.meaning.specs.Kinds.{agent_name, address, encrypted_item, own_value}
use Rattle.meaning.specs.Skips.{Rank, rank, is_envelope, beside, belongs}
use Rattle.meaning.specs.Codes.{code_of, has_value}
use Rattle.meaning.specs.Words.{occurs, parameter_codes}
use Rattle.meaning.specs.Present.{Value, no_value, at_row, unless}
use Rattle.laws_steps.specs.Logic.{left_of, right_of}
use Rattle.laws_steps.specs.Nesting.{by_beside, false_not, value_is, Belongs, belongs_how}
use Rattle.laws_tables.specs.Presence.{occurs_append}
use Rattle.papers.specs.Notation.{Trees, end, tree, size}
use Rattle.papers.specs.TreeSkips.{ranks, AllBelong, Nested}
use Rattle.papers.specs.Holding.{in_envelope, kind_in, level_in, may_hold, Tops}

-- Read off the trees

-- whether one of these rows, beside each other, has the code
abbrev pub has : ℕ → Trees → Bool
has code end = false
has code (tree k n s v inside beside) = eqb (code_of k) code || has code beside

-- order 6: "bit n for each parameter code n .. that occurs", of an envelope's own children
abbrev pub child_bits : List ℕ → Trees → ℕ
child_bits [] children = 0
child_bits (code ∷ codes) children = pick (has code children) (2 ^ code) 0 + child_bits codes children

-- "a word for each envelope"
abbrev pub tree_words : Trees → List ℕ
tree_words end = []
tree_words (tree k n s v inside beside) = child_bits parameter_codes inside ∷ tree_words beside

-- order 1: an envelope's first child with the code; i: the first child's number
abbrev pub first_child : ℕ → ℕ → Trees → Value
first_child code i end = no_value
first_child code i (tree k n s v inside beside) = pick (eqb (code_of k) code) (at_row i) (first_child code (suc i + size inside) beside)

-- "envelopes in order, the first value found stands"
abbrev pub first_value : ℕ → ℕ → Trees → Value
first_value code i end = no_value
first_value code i (tree k n s v inside beside) = unless (first_child code (suc i) inside) (first_value code (suc i + size inside) beside)

-- Rows below an envelope's children have no code but 01, which no parameter has

nothing : {A : Type 0} (b : Bool) → b ≡ false → T b → A
nothing true q u = absurd (false≢true (sym q))
nothing false q u = absurd u

-- an envelope's children are neither envelopes nor agents
not_kind : (k j : ℕ) → in_envelope j ≡ false → T (in_envelope k) → k ≡ j → ⊥
not_kind k j none h q = nothing (in_envelope j) none (subst (λ (x : ℕ). T (in_envelope x)) q h)

beside_closing : (k c : ℕ) → T (in_envelope k) → beside k c ≡ true → code_of c ≡ 1
beside_closing k c h =
    by_beside (λ f. f c ≡ true → code_of c ≡ 1) k (λ q. absurd (not_kind k 1 refl h q)) (λ q. absurd (not_kind k 2 refl h q)) (λ q. absurd (not_kind k agent_name refl h q))
    (λ q i. ap code_of (eqb-true c address i)) (λ q i. value_is c i (λ e. ap code_of e) (λ e. ap code_of e)) (λ q i. value_is c i (λ e. ap code_of e) (λ e. ap code_of e)) (λ q i. ap code_of (eqb-true c encrypted_item i)) (λ q i. ap code_of (eqb-true c own_value i)) (λ i. false_not i)

module _ (code : ℕ) where
  abbrev pub NoValues : List Rank → Type 0
  NoValues [] = Unit {0}
  NoValues (r ∷ l) = (has_value code r ≡ false) × NoValues l

  -- an envelope's children, and below them
  abbrev pub Children : Trees → Type 0
  Children end = Unit {0}
  Children (tree k n s v inside beside) = T (in_envelope k) × (n ≡ 0) × NoValues (ranks inside) × Children beside

module _ (code : ℕ) (open_code : code ≡ 1 → ⊥) where
  below_none : (k : ℕ) (r : Rank) → T (in_envelope k) → belongs (rank k 0) r ≡ true → has_value code r ≡ false
  below_none k r h b = by (belongs_how (rank k 0) r b)
    where
      and_false : (x : Bool) → x && false ≡ false
      and_false true = refl
      and_false false = refl

      by : Belongs (rank k 0) r → has_value code r ≡ false
      by (inl (d, l)) = rw (ne_eqb r.level 0 (λ q. absurd (omega arith))) refl
      by (inr (q, i)) =
          let closing : code_of r.kind ≡ 1 = beside_closing k r.kind h i in
          let other : eqb (code_of r.kind) code ≡ false = ne_eqb (code_of r.kind) code (λ e. open_code (sym e ∙ closing)) in
          rw other (and_false (eqb r.level 0))

  all_none : (k : ℕ) (l : List Rank) → T (in_envelope k) → AllBelong (rank k 0) l → NoValues code l
  all_none k [] h b = tt
  all_none k (r ∷ l) h b = (below_none k r h b.0, all_none k l h b.1)

  none_occurs : (l : List Rank) → NoValues code l → occurs code l ≡ false
  unfolding occurs
  none_occurs [] h = refl
  none_occurs (r ∷ l) h = rw h.0 (none_occurs l h.1)

  pub children_occur : (ts : Trees) → Children code ts → occurs code (ranks ts) ≡ has code ts
  unfolding occurs
  children_occur end h = refl
  children_occur (tree k n s v inside beside) (h, z, none, more) =
      rw (z, occurs_append code (ranks inside) (ranks beside), none_occurs (ranks inside) none, children_occur beside more) refl

  -- of an envelope in a header
  pub children_of : (o : ℕ) (ts : Trees) (more : List Rank) → is_envelope o ≡ true → Tops (may_hold (rank o 0)) ts → Nested ts more → Children code ts
  children_of o end more e h q = tt
  children_of o (tree k n s v inside beside) more e h q =
      let both : T (kind_in o k && eqb n (level_in (rank o 0))) = h.0 in
      let own : T (in_envelope k) = envelope_kind (left_of (kind_in o k) (eqb n (level_in (rank o 0))) both) in
      let z : n ≡ 0 = eqb→eq n (level_in (rank o 0)) (right_of (kind_in o k) (eqb n (level_in (rank o 0))) both) ∙ envelope_level in
      (own, z, all_none k (ranks inside) own (subst (λ (x : ℕ). AllBelong (rank k x) (ranks inside)) z q.0), children_of o beside more e h.1 q.3)
    where
      envelope_kind : T (kind_in o k) → T (in_envelope k)
      envelope_kind u = rw e at u

      envelope_level : level_in (rank o 0) ≡ 0
      envelope_level = by (is_envelope_is o e)
        where
          is_envelope_is : (o : ℕ) → is_envelope o ≡ true → (o ≡ 1) ⊎ (o ≡ 2)
          is_envelope_is o e = at (eqb o 1) (eqb o 2) refl refl e
            where
              at : (a b : Bool) → eqb o 1 ≡ a → eqb o 2 ≡ b → a || b ≡ true → (o ≡ 1) ⊎ (o ≡ 2)
              at true b p q r = inl (eqb-true o 1 p)
              at false true p q r = inr (eqb-true o 2 q)
              at false false p q r = absurd (false≢true r)

          by : (o ≡ 1) ⊎ (o ≡ 2) → level_in (rank o 0) ≡ 0
          by (inl q) = ap (λ (x : ℕ). level_in (rank x 0)) q
          by (inr q) = ap (λ (x : ℕ). level_in (rank x 0)) q
