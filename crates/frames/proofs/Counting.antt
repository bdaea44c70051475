-- Over the envelopes that were passed: how many the accepted header has is their number, and how many it has from here on.
use Prim.Native.Nat.{ℕ, ◌+◌, ◌-◌, ◌≤◌}
use mathlib.Core.List.{List}
use mathlib.Core.Bool.{Bool, true, false}
use mathlib.Core.Path.{◌≡◌, ap, sym, ◌∙◌}
use native.Mathlib.Omega.{arith}
use lib.ListN.{length}
use Rattle.meaning.specs.Told.{Told}
use Rattle.meaning.specs.Headers.{Placed, refused, accepted, envelopes_most, header}
use Rattle.meaning.specs.Memory.{words_read}
use Rattle.laws_steps.specs.From.{from}
use Rattle.laws_steps.specs.Frames.{from_all}
use Rattle.laws_tables.specs.EnvelopeCounts.{base_alone, others_behind}
use Rattle.table.specs.declared.answers.Fault.{Fault}
use Rattle.table.specs.Refusals.{answer_of}
use Rattle.frames.specs.declared.frame.Frame.{Frame}
use Rattle.frames.specs.declared.frame.Frame.TheVariants.{Opens, Refused}
use Rattle.frames.specs.Frames.{framed, FrameFits, MayCome, HeaderFramed}
use Rattle.frames.specs.Counts.{EnvelopesCounted}

-- the header stands on the envelope at `at`, of which `left` may still come
abbrev pub Passed : List ℕ → ℕ → ℕ → Type 0
Passed s left at =
    (t : Told) (place : ℕ) (rows : List Placed) → header envelopes_most t 0 s ≡ accepted place rows
    → (rest : List Placed) × (header left t at (from s at (length s)) ≡ accepted place rest) × (length (words_read rows) ≡ envelopes_most - left + length (words_read rest))

pub none_passed : (s : List ℕ) → Passed s envelopes_most 0
none_passed s t place rows q = (rows, ap (header envelopes_most t 0) (from_all s) ∙ q, omega arith)

module _ {s : List ℕ} {left at : ℕ} {r : Frame} (f : HeaderFramed s at left r) where
  pub may_come : {base : Bool} {first end : ℕ} → r ≡ Opens base first end → (1 ≤ left) × (end ≤ length s)
  unfolding FrameFits MayCome
  may_come h = let fits = rw h at f.fits in let more = rw h at f.more in (more, fits.2)

  module _ (p : Passed s left at) where
    pub counted_none : {fault : Fault} → r ≡ Refused fault → EnvelopesCounted s 0
    unfolding framed
    counted_none {fault} h =
        record {
          is = λ t place rows q.
              let (rest, a, n) = p t place rows q in
              let is = rw h at (f.is t) in
              let no : refused (answer_of fault.refusal) fault.at ≡ accepted place rest = sym is ∙ a in
              let z : ◌≡◌ {A = ℕ} 0 1 = cc no in
              absurd (omega arith);
        }

    pub counted_base : {base : Bool} {first end : ℕ} → left ≤ envelopes_most → r ≡ Opens base first end → base ≡ true → EnvelopesCounted s (envelopes_most - left + 1)
    unfolding framed
    counted_base {first = first} {end = end} few h b =
        record {
          is = λ t place rows q.
              let (rest, a, n) = p t place rows q in
              let is = rw (h, b) at (f.is t) in
              omega (arith, n, base_alone t (header (left - 1) t) s at first end place rest (sym is ∙ a));
        }

    pub passed_one : {base : Bool} {first end : ℕ} → left ≤ envelopes_most → r ≡ Opens base first end → base ≡ false → Passed s (left - 1) end
    unfolding framed MayCome
    passed_one {first = first} {end = end} few h b t place rows q =
        let (rest, a, n) = p t place rows q in
        let is = rw (h, b) at (f.is t) in
        let (others, o, m) = others_behind t (header (left - 1) t) s at first end place rest (sym is ∙ a) in
        let one = (may_come h).0 in
        (others, o, omega (arith, n, m, one))
