-- Order 7's sentence, clause by clause, of every header of the papers. A row's skip number, by `laid`, is the row after what is inside it; here is what that is.
use Rattle.std.specs.Prelude.{ℕ, suc, ◌+◌, List, Bool, true, false, ◌||◌, ◌≡◌, refl, T, eqb}
use Rattle.std.proofs.lemmas.Bool.{false≢true}
use Rattle.std.proofs.Common.{sym, arith}
use Rattle.meaning.specs.Told.{Told}
use Rattle.meaning.specs.Kinds.{agent_name, addresses_open, resolvers_open, extra_key}
use Rattle.meaning.specs.Skips.{rank, is_envelope}
use Rattle.laws_steps.specs.Logic.{left_of}
use Rattle.papers.specs.Notation.{Trees, end, tree, size}
use Rattle.papers.specs.Papers.{Header}
use Rattle.papers.specs.Holding.{kind_in, level_in, may_hold, holds_one, Tops, Each}
use Rattle.papers.proofs.Held.{opens_envelope, header_holding}

-- "For an envelope that is the next envelope's row, or the row count": from row i on, each row here opens an envelope, its skip number is the next one's row, and the last one's the count
abbrev pub EnvelopesSkip : ℕ → ℕ → Trees → Type 0
EnvelopesSkip count i end = i ≡ count
EnvelopesSkip count i (tree k n s v inside beside) = (is_envelope k ≡ true) × EnvelopesSkip count (suc i + size inside) beside

-- the kinds that hold no row
abbrev pub HoldsNone : ℕ → Type 0
HoldsNone k = (j : ℕ) → kind_in k j ≡ false

-- of a row i of this kind and level, and what is inside it
pub record Clauses (i k n : ℕ) (inside : Trees) : Type 0 where
  -- "for any other opening row, an agent or a received object, the row after its contents": directly inside it stand the rows that `kind_in` names, at their level; none is an envelope's
  pub contents : Tops (may_hold (rank k n)) inside
  -- "an own or extra key includes its value": the row after that one
  pub value : holds_one k ≡ true → suc i + size inside ≡ i + 2
  -- "otherwise it is the next row"
  pub otherwise : HoldsNone k → suc i + size inside ≡ i + 1

-- .. of all rows, the first of them row i
abbrev pub AllClauses : ℕ → Trees → Type 0
AllClauses i end = Unit {0}
AllClauses i (tree k n s v inside beside) = Clauses i k n inside × AllClauses (suc i) inside × AllClauses (suc i + size inside) beside

envelopes_skip : (count i : ℕ) (ts : Trees) → i + size ts ≡ count → Tops opens_envelope ts → EnvelopesSkip count i ts
envelopes_skip count i end q h = omega (arith, q)
envelopes_skip count i (tree k n s v inside beside) q h = (opened (is_envelope k) (left_of (is_envelope k) (eqb n 0) h.0), envelopes_skip count (suc i + size inside) beside (omega (arith, q)) h.1)
  where
    opened : (b : Bool) → T b → b ≡ true
    opened true u = refl
    opened false u = absurd u

none_inside : (k n : ℕ) (inside : Trees) → HoldsNone k → Tops (may_hold (rank k n)) inside → size inside ≡ 0
none_inside k n end none h = refl
none_inside k n (tree j m s v inside beside) none h = absurd (nothing (kind_in k j) (none j) (left_of (kind_in k j) (eqb m (level_in (rank k n))) h.0))
  where
    nothing : (b : Bool) → b ≡ false → T b → ⊥
    nothing true q u = absurd (false≢true (sym q))
    nothing false q u = u

all_clauses : (i : ℕ) (ts : Trees) → Each ts → AllClauses i ts
all_clauses i end e = tt
all_clauses i (tree k n s v inside beside) e = (
  record { contents = e.0; value = λ q. omega (arith, e.1 q); otherwise = λ none. omega (arith, none_inside k n inside none e.0) },
  all_clauses (suc i) inside e.2,
  all_clauses (suc i + size inside) beside e.3,
)

module _ (t : Told) (at : ℕ) (bytes : List ℕ) (ts : Trees) (x : Header t at bytes ts) where
  pub order_seven_envelopes : EnvelopesSkip (size ts) 0 ts
  order_seven_envelopes = envelopes_skip (size ts) 0 ts (omega arith) ((header_holding t).tops at bytes ts x)

  pub order_seven_clauses : AllClauses 0 ts
  order_seven_clauses = all_clauses 0 ts ((header_holding t).each at bytes ts x)

-- an agent's contents are its addresses, its resolvers and its extras, at its own level
pub agent_contents : (n j m : ℕ) → T (may_hold (rank agent_name n) (rank j m)) → T (eqb j addresses_open || eqb j resolvers_open || eqb j extra_key)
agent_contents n j m u = left_of (eqb j addresses_open || eqb j resolvers_open || eqb j extra_key) (eqb m n) u
