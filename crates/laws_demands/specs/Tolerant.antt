-- Order 10, "Wider lengths from a tenant": each theorem under the sentence of document 02 that it meets.
use Rattle.std.specs.Prelude.{ℕ, ◌≤◌, List, ◌∷◌, ◌++◌, Bool, false, ◌&&◌, ◌≡◌, refl, T, eqb, length, replicate}
use Rattle.std.proofs.Common.{inl, inr, ap, sym, ◌∙◌, arith}
use Rattle.std.proofs.Math.Seq.{take-append_seam}
use Rattle.meaning.specs.Bytes.{text_byte, take_text, turn, take_number, last_day, passes, take_date, high_first, too_wide, take_bytes, block_of, take_block}
use Rattle.meaning.specs.Told.{Edition, Label, known, unknown, label_of, strict, tolerant, told_by}
use Rattle.meaning.specs.Editions.{shared, own, moves}
use Rattle.meaning.specs.Reading.{take_value, find, look, step_move, step, run, inside}
use Rattle.meaning.specs.Headers.{Placed, Answer, refused, accepted, envelopes_most, envelope, header, labelled, read_by, read, read_tolerant}
use Rattle.meaning.specs.Memory.{table_of, write}
use Rattle.meaning.specs.Writing.{written}
use Rattle.meaning.specs.Cases.{hex}
use Rattle.meaning.specs.WidthCases.{sized_base}
use Rattle.laws_steps.specs.Logic.{are_bytes}
use Rattle.laws_tables.specs.WrittenBytes.{bytes_append}
use Rattle.laws_tables.specs.Refusals.{may_refuse, refused_shape}
use Rattle.laws_demands.specs.Tolerance.{After, Beside, header_beside}
use Rattle.laws_demands.specs.Demands.{rows_written, read_then_written, ReadsSame, written_then_read, written_are_bytes_of}

-- both readings of one input
beside : (edition : ℕ) (input : List ℕ) → Beside 0 (read edition input) (read_tolerant edition input)
unfolding read_by
beside edition input = at (label_of edition)
  where
    at : (l : Label) → Beside 0 (labelled strict input l) (labelled tolerant input l)
    at unknown = inl refl
    at (known e) = header_beside e envelopes_most 0 input

-- 1. "On input that the strict reading accepts, or refuses with another number than 11, the two agree."

pub tolerant_agrees : (edition : ℕ) (input : List ℕ) → ((place : ℕ) → read edition input ≡ refused 11 place → ⊥) → read_tolerant edition input ≡ read edition input
tolerant_agrees edition input h = at (beside edition input)
  where
    at : Beside 0 (read edition input) (read_tolerant edition input) → read_tolerant edition input ≡ read edition input
    at (inl q) = sym q
    at (inr (p, q, l, d)) = absurd (h p q)

-- what the strict reading accepts
pub accepted_agrees : (edition : ℕ) (input : List ℕ) (place : ℕ) (rows : List Placed) → read edition input ≡ accepted place rows → read_tolerant edition input ≡ accepted place rows
accepted_agrees edition input place rows q = tolerant_agrees edition input (λ p r. let z : ◌≡◌ {A = ℕ} 0 1 = cc (sym q ∙ r) in absurd (omega arith)) ∙ q

-- 2. "11 isn't given by the tolerant reading."

pub never_eleven : (edition : ℕ) (input : List ℕ) (refusal place : ℕ) → read_tolerant edition input ≡ refused refusal place → refusal ≡ 11 → ⊥
unfolding read_by
never_eleven edition input refusal place q is = at (label_of edition) q
  where
    eleven : (e : Edition) (k : ℕ) → k ≡ 11 → T (may_refuse (told_by tolerant e) k) → ⊥
    eleven e k p t = rw p at t

    at : (l : Label) → labelled tolerant input l ≡ refused refusal place → ⊥
    at unknown r = let a : 1 ≡ refusal = cc r in absurd (omega arith)
    at (known e) r = eleven e refusal is (refused_shape envelopes_most (told_by tolerant e) input refusal place r).0

-- Where the strict reading gives 11, the tolerant one accepts, or refuses for a fault behind that place.

pub behind_eleven : (edition : ℕ) (input : List ℕ) (place : ℕ) → read edition input ≡ refused 11 place → After place (read_tolerant edition input)
behind_eleven edition input place q = at (beside edition input)
  where
    after : (p : ℕ) → read edition input ≡ refused 11 p → After p (read_tolerant edition input) → After place (read_tolerant edition input)
    after p r d = let same : p ≡ place = cc (sym r ∙ q) in rw same at d

    at : Beside 0 (read edition input) (read_tolerant edition input) → After place (read_tolerant edition input)
    at (inl r) = absurd (never_eleven edition input 11 place (sym r ∙ q) refl)
    at (inr (p, r, l, d)) = after p r d

-- 3. "It gives the same rows as if the block had the short form, save for starts. Written from those rows, the header uses the shortest
-- forms, the strict reader takes it and the meaning is the same; doing this a second time changes no byte."

pub record ShortForm (edition : ℕ) (input : List ℕ) (place : ℕ) (rows : List Placed) : Type 0 where
  -- the header in its shortest forms: it is written from the rows, with the input as pool
  pub bytes : List ℕ
  pub is : (room : ℕ) → length bytes ≤ room → write edition (table_of rows) input room ≡ written bytes
  pub shorter : length bytes ≤ place
  -- the strict reader takes it, with any payload behind it, and its rows mean the same; so does the tolerant one
  pub strictly : (payload : List ℕ) → ReadsSame edition bytes payload (table_of rows) input
  pub alike : (payload : List ℕ) → read_tolerant edition (bytes ++ payload) ≡ read edition (bytes ++ payload)
  -- a second time: from the rows that the tolerant reading gives of it, the same bytes are written
  pub again : (payload : List ℕ) → T (are_bytes payload) → (rows' : List Placed) → read_tolerant edition (bytes ++ payload) ≡ accepted (length bytes) rows'
      → (room : ℕ) → length bytes ≤ room → write edition (table_of rows') (bytes ++ payload) room ≡ written bytes

pub short_form : (edition : ℕ) (input : List ℕ) (place : ℕ) (rows : List Placed) → T (are_bytes input) → read_tolerant edition input ≡ accepted place rows → ShortForm edition input place rows
short_form edition input place rows t q =
    let w = rows_written tolerant edition input place rows t q in
    let here = w.is (length w.bytes) (omega arith) in
    let strictly = written_then_read edition (table_of rows) input (length w.bytes) w.bytes t here in
    let alike : (payload : List ℕ) → read_tolerant edition (w.bytes ++ payload) ≡ read edition (w.bytes ++ payload) =
    λ payload. let (found, is, means) = strictly payload in accepted_agrees edition (w.bytes ++ payload) (length w.bytes) found is ∙ sym is in
    record {
      bytes = w.bytes;
      is = w.is;
      shorter = w.shorter;
      strictly = strictly;
      alike = alike;
      again = λ payload u rows' r room h.
          read_then_written edition (w.bytes ++ payload) (length w.bytes) rows' (bytes_append w.bytes payload (written_are_bytes_of edition (table_of rows) input (length w.bytes) w.bytes t here) u) (sym (alike payload) ∙ r) room h
          ∙ ap written (take-append_seam w.bytes payload);
    }

-- No premise above is empty: for each edition, headers that the strict reading refuses with 11 and the tolerant one accepts

abbrev eleven_then_accepted : Answer → Answer → Bool
eleven_then_accepted (refused refusal place) (accepted end rows) = eqb refusal 11
eleven_then_accepted (refused refusal place) (refused other end) = false
eleven_then_accepted (accepted place rows) b = false

-- a transport behaviour of n bytes behind this code and length
abbrev wide : List ℕ → ℕ → ℕ → Bool
wide front n edition = let input = sized_base (0x0b ∷ (front ++ replicate n 7)) in eleven_then_accepted (read edition input) (read_tolerant edition input)

abbrev in_both : (ℕ → Bool) → Bool
in_both test = test 1 && test 2

pub premises : T (
    in_both (wide (hex 0x1_17_00_05) 5) && in_both (wide (hex 0x1_19_00_00_00_00) 0) && in_both (wide (hex 0x1_19_00_00_00_ff) 255) && in_both (wide (hex 0x1_19_00_00_01_00) 256) &&
    in_both (wide (hex 0x1_19_00_00_ff_ff) 65535)
    )
unfolding text_byte take_text turn take_number last_day passes take_date high_first too_wide take_bytes block_of take_block shared own moves take_value find look step_move step run inside envelope header read_by
premises = tt
