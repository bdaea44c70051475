-- Order 9, of the reading that is told no edition: whichever editions allow the bytes, the rows are theirs, starts included; both do exactly if the table is plain; and a
-- table written under one edition, with any payload, is never answered with the other edition alone.
use Rattle.std.specs.Prelude.{ℕ, List, ◌++◌, map, true, false, ◌⊎◌, ◌≡◌, refl, T}
use Rattle.std.proofs.Common.{inl, inr, ap, sym, ◌∙◌, arith}
use Rattle.meaning.specs.Basics.{every}
use Rattle.meaning.specs.Told.{Edition, B, D, strict, told}
use Rattle.meaning.specs.Headers.{Placed, meant, Answer, refused, accepted, read}
use Rattle.meaning.specs.Writing.{cell, written}
use Rattle.meaning.specs.Memory.{table_of, cells_of, write}
use Rattle.meaning.specs.Which.{allowing, either, editions_of, read_either}
use Rattle.laws_steps.specs.Logic.{are_bytes}
use Rattle.laws_steps.specs.PlainRows.{other, all_plain}
use Rattle.laws_tables.specs.Ties.{number_of, plain_cell, plain_table, plain_cells, read_known, whole_of, cells_placed}
use Rattle.laws_demands.specs.BothEditions.{OtherReads, other_reads}
use Rattle.laws_demands.specs.Demands.{written_then_read}

-- the editions that a number from 1 to 3 names
abbrev pub Names : ℕ → Edition → Type 0
Names editions e = (editions ≡ number_of e) ⊎ (editions ≡ 3)

-- an edition that allows the bytes is named
pub allowed_named : (e : Edition) (input : List ℕ) {place : ℕ} {rows : List Placed} → read (number_of e) input ≡ accepted place rows → Names (editions_of input) e
unfolding editions_of
allowed_named B input {place} {rows} q = at (read 2 input) refl
  where
    at : (d : Answer) → read 2 input ≡ d → Names (allowing (read 1 input) (read 2 input)) B
    at (refused refusal there) r = inl (rw (q, r) refl)
    at (accepted there ts) r = inr (rw (q, r) refl)
allowed_named D input {place} {rows} q = at (read 1 input) refl
  where
    at : (b : Answer) → read 1 input ≡ b → Names (allowing (read 1 input) (read 2 input)) D
    at (refused refusal there) r = inl (rw (q, r) refl)
    at (accepted there ts) r = inr (rw (q, r) refl)

-- .. and the rows and the place are its own: "no bytes are allowed by both with different tables"
pub allowed_rows : (e : Edition) (input : List ℕ) {place : ℕ} {rows : List Placed} → T (are_bytes input) → read (number_of e) input ≡ accepted place rows → read_either input ≡ accepted place rows
unfolding read_either
allowed_rows B input {place} {rows} t q = at (other_reads B input place rows t (sym (read_known strict B input) ∙ q))
  where
    at : OtherReads B input place rows → either (read 1 input) (read 2 input) ≡ accepted place rows
    at (inl (p, r)) = rw (q, read_known strict D input ∙ r) refl
    at (inr (p, (refusal, there, r, k))) = rw (q, read_known strict D input ∙ r) refl
allowed_rows D input {place} {rows} t q = at (read 1 input) refl
  where
    at : (b : Answer) → read 1 input ≡ b → either (read 1 input) (read 2 input) ≡ accepted place rows
    at (refused refusal there) r = rw (r, q) refl
    at (accepted there ts) r = rw (r, q) refl

-- "1, 2, or 3 for both": what is accepted is some edition's, and it is named
pub some_edition : (input : List ℕ) (place : ℕ) (rows : List Placed) → read_either input ≡ accepted place rows → (e : Edition) × (read (number_of e) input ≡ accepted place rows)
unfolding read_either
some_edition input place rows q = at (read 1 input) (read 2 input) refl refl q
  where
    at : (b d : Answer) → read 1 input ≡ b → read 2 input ≡ d → either b d ≡ accepted place rows → (e : Edition) × (read (number_of e) input ≡ accepted place rows)
    at (refused refusal here) (refused other there) x y z = let w : ◌≡◌ {A = ℕ} 0 1 = cc z in absurd (omega arith)
    at (refused refusal here) (accepted there ts) x y z = (D, y ∙ z)
    at (accepted here rs) (refused other there) x y z = (B, x ∙ z)
    at (accepted here rs) (accepted there ts) x y z = (D, y ∙ z)

-- 3 exactly if the table is plain
pub three_if_plain : (e : Edition) (input : List ℕ) (place : ℕ) (rows : List Placed) → T (are_bytes input) → read (number_of e) input ≡ accepted place rows
    → ((all_plain (map meant rows) ≡ true) × (editions_of input ≡ 3)) ⊎ ((all_plain (map meant rows) ≡ false) × (editions_of input ≡ number_of e))
unfolding editions_of
three_if_plain B input place rows t q = at (other_reads B input place rows t (sym (read_known strict B input) ∙ q))
  where
    at : OtherReads B input place rows → ((all_plain (map meant rows) ≡ true) × (allowing (read 1 input) (read 2 input) ≡ 3)) ⊎ ((all_plain (map meant rows) ≡ false) × (allowing (read 1 input) (read 2 input) ≡ 1))
    at (inl (p, r)) = inl (p, rw (q, read_known strict D input ∙ r) refl)
    at (inr (p, (refusal, there, r, k))) = inr (p, rw (q, read_known strict D input ∙ r) refl)
three_if_plain D input place rows t q = at (other_reads D input place rows t (sym (read_known strict D input) ∙ q))
  where
    at : OtherReads D input place rows → ((all_plain (map meant rows) ≡ true) × (allowing (read 1 input) (read 2 input) ≡ 3)) ⊎ ((all_plain (map meant rows) ≡ false) × (allowing (read 1 input) (read 2 input) ≡ 2))
    at (inl (p, r)) = inl (p, rw (q, read_known strict B input ∙ r) refl)
    at (inr (p, (refusal, there, r, k))) = inr (p, rw (q, read_known strict B input ∙ r) refl)

-- written under one edition, with any payload
pub written_named : (e : Edition) (rows pool : List ℕ) (room : ℕ) (bytes : List ℕ) → T (are_bytes pool) → write (number_of e) rows pool room ≡ written bytes → (payload : List ℕ) → Names (editions_of (bytes ++ payload)) e
written_named e rows pool room bytes t q payload =
    let (found, is, means) = written_then_read (number_of e) rows pool room bytes t q payload in
    allowed_named e (bytes ++ payload) is

-- .. of the table in memory, which views the input
pub three_if_plain_table : (e : Edition) (input : List ℕ) (place : ℕ) (rows : List Placed) → T (are_bytes input) → read (number_of e) input ≡ accepted place rows
    → ((plain_table (table_of rows) input ≡ true) × (editions_of input ≡ 3)) ⊎ ((plain_table (table_of rows) input ≡ false) × (editions_of input ≡ number_of e))
three_if_plain_table e input place rows t q = at (three_if_plain e input place rows t q)
  where
    same : plain_table (table_of rows) input ≡ all_plain (map meant rows)
    same =
        let w = whole_of (told e) input place rows t (sym (read_known strict e input) ∙ q) in
        let cells : cells_of input (table_of rows) ≡ map cell (map meant rows) = ap (λ (x : List ℕ). cells_of x (table_of rows)) w.parts ∙ cells_placed w.bytes w.payload rows w.views in
        ap (every plain_cell) cells ∙ plain_cells (map meant rows)

    at : ((all_plain (map meant rows) ≡ true) × (editions_of input ≡ 3)) ⊎ ((all_plain (map meant rows) ≡ false) × (editions_of input ≡ number_of e))
        → ((plain_table (table_of rows) input ≡ true) × (editions_of input ≡ 3)) ⊎ ((plain_table (table_of rows) input ≡ false) × (editions_of input ≡ number_of e))
    at (inl (p, x)) = inl (same ∙ p, x)
    at (inr (p, x)) = inr (same ∙ p, x)
