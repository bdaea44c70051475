-- Bytes behind their length: the length byte by byte, and the block all at once.
use Prim.Native.Nat.{ℕ, zero, suc, ◌+◌, ◌-◌, ◌*◌, ◌≤◌, ◌<◌}
use mathlib.Core.List.{List}
use mathlib.Core.Bool.{Bool, true, false, ◌&&◌}
use mathlib.Core.Path.{◌≡◌, refl, ap, sym, ◌∙◌}
use native.Mathlib.Omega.{arith}
use borrow.Author.Tests.{ltb-true, ltb-false, le-ltb}
use lib.Dec.{ltb}
use lib.ListN.{length, get_or}
use Rattle.meaning.specs.Bytes.{high_first, Width, one_byte, two_bytes, four_bytes, bytes_of, fewest, too_wide, take_bytes, block_of, take_block}
use Rattle.meaning.specs.Told.{strict, tolerant, Told}
use Rattle.meaning.specs.Kinds.{any_bytes}
use Rattle.laws_steps.specs.From.{from, from_length, from_end, from_cons}
use Rattle.laws_steps.specs.HighFirst.{high_few, high_one, high_two, high_four}
use Rattle.table.specs.declared.answers.Fault.{Fault}
use Rattle.table.specs.declared.refusals.Refusal.TheVariants.{EnvelopeEnds, LengthFormWide}
use Rattle.std.specs.Prelude.{Option, None, Some}
use Rattle.values.specs.declared.Value.TheVariants.{Is, Refused}
use Rattle.values.specs.Stages.{span, spans, misses, Valued}
use Rattle.values.specs.Blocks.{said, Whole, IsWidth, LengthRead}
use Rattle.values.specs.Answers.{span_prefixed, answered, refuses}

-- a length at a place: too few bytes, or one, two or four of them
module _ (s : List ℕ) (end at width : ℕ) (b : at ≤ end) (l : end ≤ length s) where
  pub length_short : end - at < width → LengthRead s end at width None
  unfolding said Whole
  length_short h = record { is = high_few width 0 (from s at end) (omega (arith, from_length s at end b l)); ends = tt }

  module _ (h : width ≤ end - at) {value : ℕ} where
    pub length_one : width ≡ 1 → value ≡ get_or s at 0 → LengthRead s end at width (Some value)
    unfolding said Whole
    length_one w q = record { is = rw (w, q) (high_one s end at l (omega arith)); ends = omega arith }

    pub length_two : width ≡ 2 → value ≡ 256 * get_or s at 0 + get_or s (at + 1) 0 → LengthRead s end at width (Some value)
    unfolding said Whole
    length_two w q = record { is = rw (w, q) (high_two s end at l (omega arith)); ends = omega arith }

    pub length_four : width ≡ 4 → value ≡ 65536 * (256 * get_or s at 0 + get_or s (at + 1) 0) + (256 * get_or s (at + 2) 0 + get_or s (at + 2 + 1) 0) → LengthRead s end at width (Some value)
    unfolding said Whole
    length_four w q = record { is = rw (w, q) (high_four s end at l (omega arith)); ends = omega arith }

-- a width that is neither 1 nor 2
pub four_wide : {width : ℕ} → IsWidth width → (width ≡ 1 → ⊥) → (width ≡ 2 → ⊥) → width ≡ 4
four_wide (one_byte, q) h k = absurd (h (sym q))
four_wide (two_bytes, q) h k = absurd (k (sym q))
four_wide (four_bytes, q) h k = sym q

pub take_all : (s : List ℕ) (end : ℕ) → end ≤ length s → (n i k : ℕ) → i + n ≤ end → span k (take_bytes n (from s i end)) ≡ spans (k + n) (from s (i + n) end)
unfolding take_bytes
take_all s end l zero i k h = let q : i ≡ i + 0 = omega arith in ap (λ (x : ℕ). spans (k + 0) (from s x end)) q
take_all s end l (suc n) i k h =
    let q : k + 1 + n ≡ k + suc n = omega arith in
    let p : i + 1 + n ≡ i + suc n = omega arith in
    rw (from_cons s i end (omega arith) l) (span_prefixed k (get_or s i 0) (take_bytes n (from s (i + 1) end)) ∙ take_all s end l n (i + 1) (k + 1) (omega arith) ∙ rw (q, p) refl)

short_by : (s : List ℕ) (end n i k : ℕ) → end ≤ length s → (z : Bool) → ltb i end ≡ z → (i < end → span (k + 1) (take_bytes n (from s (i + 1) end)) ≡ misses 6 0)
    → span k (take_bytes (suc n) (from s i end)) ≡ misses 6 0
unfolding take_bytes
short_by s end n i k l true q onward = rw (from_cons s i end (ltb-true i end q) l) (span_prefixed k (get_or s i 0) (take_bytes n (from s (i + 1) end)) ∙ onward (ltb-true i end q))
short_by s end n i k l false q onward = rw (from_end s i end (ltb-false i end q)) refl

pub take_short : (s : List ℕ) (end : ℕ) → end ≤ length s → (n i k : ℕ) → i ≤ end → end < i + n → span k (take_bytes n (from s i end)) ≡ misses 6 0
take_short s end l zero i k h j = absurd (omega arith)
take_short s end l (suc n) i k h j = short_by s end n i k l (ltb i end) refl (λ u. take_short s end l n (i + 1) (k + 1) (omega arith) (omega arith))

pub length_to : {s : List ℕ} {end at width value : ℕ} {n : Option ℕ} → LengthRead s end at width n → n ≡ Some value → at + width ≤ end
unfolding Whole
length_to a h = rw h at a.ends

some_bytes : (w : Width) → 1 ≤ bytes_of w
some_bytes one_byte = omega arith
some_bytes two_bytes = omega arith
some_bytes four_bytes = omega arith

-- a block behind the code at `at`, whose length was read as n
module _ (s : List ℕ) (end at width : ℕ) (l : end ≤ length s) (b : at < end) (n : Option ℕ) (t : Told) (a : LengthRead s end (at + 1) width n) (w : Width) (hw : bytes_of w ≡ width) where
  length_is : high_first (bytes_of w) 0 (from s (at + 1) end) ≡ said s end (at + 1 + width) n
  length_is = ap (λ (x : ℕ). high_first x 0 (from s (at + 1) end)) hw ∙ a.is

  pub block_short : {fault : Fault} → fault ≡ record { refusal = EnvelopeEnds; at = end } → n ≡ None → Valued s end (at + 1) any_bytes 0 (take_block t w (end - at) (from s (at + 1) end)) (Refused fault)
  unfolding take_block block_of said
  block_short e h = refuses e (rw (length_is, h) (ap (misses 6) (omega arith))) (omega arith)

  module _ {value : ℕ} (h : n ≡ Some value) {r : Bool} (is : r ≡ too_wide t w value) where
    pub block_wide : {fault : Fault} → fault ≡ record { refusal = LengthFormWide; at = at } → r ≡ true → Valued s end (at + 1) any_bytes 0 (take_block t w (end - at) (from s (at + 1) end)) (Refused fault)
    unfolding take_block block_of said
    block_wide f q = refuses f (rw (length_is, h, sym is ∙ q) refl) (omega arith)

    pub block_far : {fault : Fault} → fault ≡ record { refusal = EnvelopeEnds; at = end } → r ≡ false → end - (at + 1 + width) < value → Valued s end (at + 1) any_bytes 0 (take_block t w (end - at) (from s (at + 1) end)) (Refused fault)
    unfolding take_block block_of said
    block_far f q d =
        let e = length_to a h in
        refuses f (rw (length_is, h, sym is ∙ q) (take_short s end l value (at + 1 + width) 0 e (omega arith) ∙ ap (misses 6) (omega arith))) (omega arith)

    pub block_goes : r ≡ false → value ≤ end - (at + 1 + width) → Valued s end (at + 1) any_bytes 0 (take_block t w (end - at) (from s (at + 1) end)) (Is any_bytes (at + 1 + width) value (at + 1 + width + value))
    unfolding take_block block_of said
    block_goes q d =
        let e = length_to a h in
        let some = some_bytes w in
        answered refl (rw (length_is, h, sym is ∙ q) (take_all s end l value (at + 1 + width) 0 (omega arith) ∙ ap (λ (x : ℕ). spans x (from s (at + 1 + width + value) end)) (omega arith)))
        (omega arith) (omega arith) (omega arith) (omega arith)

-- the fewest of each width
pub one_never : (w : Width) (width n : ℕ) → width ≡ 1 → bytes_of w ≡ width → false ≡ ltb n (fewest w)
one_never one_byte width n h q = sym (le-ltb n 0 (omega arith))
one_never two_bytes width n h q = absurd (omega arith)
one_never four_bytes width n h q = absurd (omega arith)

pub two_below : (w : Width) (width n : ℕ) → width ≡ 2 → bytes_of w ≡ width → ltb n 256 ≡ ltb n (fewest w)
two_below one_byte width n h q = absurd (omega arith)
two_below two_bytes width n h q = refl
two_below four_bytes width n h q = absurd (omega arith)

pub four_below : (w : Width) (width n : ℕ) → (width ≡ 1 → ⊥) → (width ≡ 2 → ⊥) → bytes_of w ≡ width → ltb n 65536 ≡ ltb n (fewest w)
four_below one_byte width n h k q = absurd (h (sym q))
four_below two_bytes width n h k q = absurd (k (sym q))
four_below four_bytes width n h k q = refl

-- what each reading refuses
pub wide_strictly : (t : Told) (w : Width) (n : ℕ) {r : Bool} → t.strictness ≡ strict → r ≡ ltb n (fewest w) → r ≡ too_wide t w n
unfolding too_wide
wide_strictly t w n h q = q ∙ sym (rw h (with_true (ltb n (fewest w))))
  where
    with_true : (b : Bool) → (b && true) ≡ b
    with_true true = refl
    with_true false = refl

pub wide_tolerantly : (t : Told) (w : Width) (n : ℕ) → t.strictness ≡ tolerant → false ≡ too_wide t w n
unfolding too_wide
wide_tolerantly t w n h = sym (rw h (with_false (ltb n (fewest w))))
  where
    with_false : (b : Bool) → (b && false) ≡ false
    with_false true = refl
    with_false false = refl
