-- Order 9 over the papers: which of them allow an input, and that both give it one tree.
use Rattle.std.specs.Prelude.{ℕ, List, ◌⊎◌, ◌↔◌, ◌≡◌, T}
use Rattle.std.proofs.Math.Logic.{inl, inr}
use Rattle.std.proofs.Math.Path.{refl}
use Rattle.std.proofs.Common.{sym, ◌∙◌, arith}
use Rattle.meaning.specs.Told.{B, D, strict, told}
use Rattle.meaning.specs.Headers.{Placed, Answer, refused, accepted, read}
use Rattle.meaning.specs.Which.{allowing, editions_of}
use Rattle.laws_steps.specs.Logic.{are_bytes}
use Rattle.laws_tables.specs.Ties.{read_as}
use Rattle.laws_demands.specs.BothEditions.{one_table}
use Rattle.papers.specs.Notation.{Trees}
use Rattle.papers.proofs.OneTree.{one_nesting}
use Rattle.papers.proofs.Same.{Message, message_read, accepts_messages}

-- the paper of this edition allows the input: it is a message of it
abbrev pub AllowedBy : ℕ → List ℕ → Type 0
AllowedBy edition input = (place : ℕ) × (trees : Trees) × Message strict edition input place trees

-- .. and so these editions do: 1, 2, or 3 for both
abbrev pub AllowedAs : List ℕ → ℕ → Type 0
AllowedAs input n = (((n ≡ 1) ⊎ (n ≡ 3)) ↔ AllowedBy 1 input) × (((n ≡ 2) ⊎ (n ≡ 3)) ↔ AllowedBy 2 input)

-- "no bytes are allowed by both with different tables"
pub one_tree_in_both : (input : List ℕ) (p q : ℕ) (ts us : Trees) → T (are_bytes input) → Message strict 1 input p ts → Message strict 2 input q us → (p ≡ q) × (ts ≡ us)
one_tree_in_both input p q ts us bytes m n =
    let first = sym (read_as strict 1 B input refl) ∙ message_read m in
    let second = sym (read_as strict 2 D input refl) ∙ message_read n in
    let (plain, place, rows) = one_table B input bytes first second in
    (place, one_nesting (told m.e) (told n.e) 0 0 m.bytes n.bytes ts us m.is n.is rows)

not_these : (n a b : ℕ) → (n ≡ a → ⊥) → (n ≡ b → ⊥) → (n ≡ a) ⊎ (n ≡ b) → ⊥
not_these n a b f g (inl q) = f q
not_these n a b f g (inr q) = g q

module _ (input : List ℕ) (bytes : T (are_bytes input)) where
  allowed : (edition place : ℕ) (rows : List Placed) → read edition input ≡ accepted place rows → AllowedBy edition input
  allowed edition place rows q = let (trees, m, same) = (accepts_messages strict edition input place rows bytes).0 q in (place, trees, m)

  never_both : {refusal place end : ℕ} {rows : List Placed} → refused refusal place ≡ accepted end rows → ⊥
  never_both q = let z : ◌≡◌ {A = ℕ} 0 1 = cc q in omega arith

  barred : (edition refusal place : ℕ) → read edition input ≡ refused refusal place → AllowedBy edition input → ⊥
  barred edition refusal place q (end, trees, m) = never_both (sym q ∙ message_read m)

  -- "the editions that allow the bytes: 1, 2, or 3 for both"
  pub editions_are_papers : AllowedAs input (editions_of input)
  unfolding editions_of
  editions_are_papers = by (read 1 input) (read 2 input) refl refl
    where
      by : (a b : Answer) → read 1 input ≡ a → read 2 input ≡ b → AllowedAs input (allowing a b)
      by (refused refusal place) (refused other there) p q =
          ((λ x. absurd (not_these 0 1 3 (λ e. omega arith) (λ e. omega arith) x), λ w. absurd (barred 1 refusal place p w)), (λ x. absurd (not_these 0 2 3 (λ e. omega arith) (λ e. omega arith) x), λ w. absurd (barred 2 other there q w)))
      by (accepted place rs) (refused other there) p q = ((λ x. allowed 1 place rs p, λ w. inl refl), (λ x. absurd (not_these 1 2 3 (λ e. omega arith) (λ e. omega arith) x), λ w. absurd (barred 2 other there q w)))
      by (refused refusal place) (accepted there ts) p q = ((λ x. absurd (not_these 2 1 3 (λ e. omega arith) (λ e. omega arith) x), λ w. absurd (barred 1 refusal place p w)), (λ x. allowed 2 there ts q, λ w. inl refl))
      by (accepted place rs) (accepted there ts) p q = ((λ x. allowed 1 place rs p, λ w. inr refl), (λ x. allowed 2 there ts q, λ w. inr refl))
