-- The shape of an answer. Accepted: the place is in the input, every row views bytes of the header, and there are never more rows than bytes.
use Rattle.std.specs.Prelude.{ℕ, ◌+◌, ◌≤◌, List, [], ◌∷◌, ◌++◌, ◌≡◌, T, length, take, drop}
use Rattle.std.proofs.Common.{ap, sym, subst, arith, length-append}
use Rattle.meaning.specs.Told.{Label, known, unknown, label_of, Strictness, told_by}
use Rattle.meaning.specs.Headers.{Placed, refused, accepted, envelopes_most, labelled, read_by}
use Rattle.laws_steps.specs.Logic.{are_bytes}
use Rattle.laws_tables.specs.Views.{AllIn, view_part}
use Rattle.laws_tables.specs.Refusals.{not_zero, refused_shape as header_refused}
use Rattle.laws_tables.specs.RowCounts.{table_few, length_meant}
use Rattle.laws_tables.specs.Ties.{accepted_known, whole_of}

abbrev pub ViewsHeader : List ℕ → ℕ → List Placed → Type 0
ViewsHeader input place [] = Unit {0}
ViewsHeader input place (r ∷ rows) = ((r.start + length r.view ≤ place) × (take (length r.view) (drop r.start input) ≡ r.view)) × ViewsHeader input place rows

pub accepted_shape : (strictness : Strictness) (edition : ℕ) (input : List ℕ) (place : ℕ) (rows : List Placed) → T (are_bytes input) → read_by strictness edition input ≡ accepted place rows
    → (place ≤ length input) × (length rows ≤ place) × ViewsHeader input place rows
accepted_shape strictness edition input place rows t q =
    let (e, k, a) = accepted_known strictness edition input place rows q in
    let w = whole_of (told_by strictness e) input place rows t a in
    let few = table_few e w.written in (
      omega (arith, w.place, ap length w.parts, length-append w.bytes w.payload),
      omega (arith, w.place, w.shorter, length_meant rows),
      subst (λ (x : List ℕ). ViewsHeader x place rows) (sym w.parts) (views_header w.bytes w.payload place rows (omega (arith, w.place)) w.views),
    )
  where
    views_header : (bytes payload : List ℕ) (place : ℕ) (rs : List Placed) → length bytes ≡ place → AllIn 0 bytes rs → ViewsHeader (bytes ++ payload) place rs
    views_header bytes payload place [] l i = tt
    views_header bytes payload place (r ∷ rs) l (h, i) = let (v, m) = view_part bytes payload r h in ((omega arith, v), views_header bytes payload place rs l i)

-- Refused: the number is never 0 and the place never past the input.
pub refused_shape : (strictness : Strictness) (edition : ℕ) (input : List ℕ) (refusal place : ℕ) → read_by strictness edition input ≡ refused refusal place → (1 ≤ refusal) × (place ≤ length input)
unfolding read_by
refused_shape strictness edition input refusal place q = at (label_of edition) q
  where
    at : (l : Label) → labelled strictness input l ≡ refused refusal place → (1 ≤ refusal) × (place ≤ length input)
    at unknown r = let a : 1 ≡ refusal = cc r in let b : 0 ≡ place = cc r in (omega arith, omega arith)
    at (known e) r =
        let (i, l) = header_refused envelopes_most (told_by strictness e) input refusal place r in
        (not_zero (told_by strictness e) refusal i, l)
