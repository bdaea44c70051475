-- The reader accepts exactly the headers that the named edition allows (`HeaderOf`): what it accepts is such a header with those rows, and every such
-- header it accepts, whatever payload stands behind. So the grammar gives an input one table at most.
use Rattle.std.specs.Prelude.{ℕ, ◌+◌, List, ◌++◌, ◌≡◌, T, length}
use Rattle.std.proofs.Common.{ap, sym, ◌∙◌, subst, arith}
use Rattle.meaning.specs.Told.{strict, told}
use Rattle.meaning.specs.Headers.{Placed, accepted, header, envelopes_most, read}
use Rattle.laws_steps.specs.Logic.{are_bytes}
use Rattle.laws_tables.specs.Ties.{accepted_known, read_as, whole_of, whole_written, from_zero}
use Rattle.meaning.specs.Grammar.{TableOf, HeaderOf}
use Rattle.laws_demands.specs.Grammatical.{header_reads}
use Rattle.laws_demands.specs.GrammarWritten.{writes_grammatical}

pub header_accepted : (edition : ℕ) (input : List ℕ) (place : ℕ) (rows : List Placed) → HeaderOf edition input place rows → read edition input ≡ accepted place rows
header_accepted edition input place rows h =
    let t = h.table in
    read_as strict edition h.e input h.label ∙ ap (header envelopes_most (told h.e) 0) h.parts ∙ header_reads h.e t.header t.small envelopes_most t.few h.payload
    ∙ ap (λ (x : ℕ). accepted x rows) (from_zero (length h.bytes) ∙ sym h.ends)

same_place : {p q : ℕ} {rs ts : List Placed} → accepted p rs ≡ accepted q ts → p ≡ q
same_place q = cc q

same_rows : {p q : ℕ} {rs ts : List Placed} → accepted p rs ≡ accepted q ts → rs ≡ ts
same_rows q = cc q

pub accepted_header : (edition : ℕ) (input : List ℕ) (place : ℕ) (rows : List Placed) → T (are_bytes input) → read edition input ≡ accepted place rows → HeaderOf edition input place rows
accepted_header edition input place rows t q =
    let (e, k, a) = accepted_known strict edition input place rows q in
    let w = whole_of (told e) input place rows t a in
    let g = writes_grammatical e (whole_written w) 0 0 in
    let read-so : header envelopes_most (told e) 0 (w.bytes ++ w.payload) ≡ accepted (0 + length w.bytes) g.rows = header_reads e g.header g.small envelopes_most (omega (arith, g.count, w.few)) w.payload in
    let same : accepted (0 + length w.bytes) g.rows ≡ accepted place rows = sym read-so ∙ ap (header envelopes_most (told e) 0) (sym w.parts) ∙ a in
    record {
      e = e;
      label = k;
      bytes = w.bytes;
      payload = w.payload;
      parts = w.parts;
      ends = sym (same_place same) ∙ from_zero (length w.bytes);
      table = subst (TableOf e w.bytes) (same_rows same) (record { marks = g.marks; header = g.header; small = g.small; few = omega (arith, g.count, w.few) });
    }

-- no input is two headers
pub one_header : (edition : ℕ) (input : List ℕ) (p q : ℕ) (rs ts : List Placed) → HeaderOf edition input p rs → HeaderOf edition input q ts → (p ≡ q) × (rs ≡ ts)
one_header edition input p q rs ts h k =
    let same = sym (header_accepted edition input p rs h) ∙ header_accepted edition input q ts k in
    (same_place same, same_rows same)
