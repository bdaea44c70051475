-- An envelope's frame: the laws of its identifier and length, as its stages answer them.
use Prim.Native.Nat.{ℕ, ◌+◌, ◌-◌, ◌≤◌}
use mathlib.Core.List.{List}
use mathlib.Core.Bool.{Bool, true, false, ◌||◌}
use mathlib.Core.Path.{◌≡◌, refl, ◌∙◌}
use native.Mathlib.Omega.{arith}
use lib.Dec.{eqb}
use lib.ListN.{length, get_or}
use borrow.Author.Tests.{eqb-true}
use Rattle.meaning.specs.Basics.{pick}
use Rattle.meaning.specs.Told.{Told}
use Rattle.meaning.specs.Headers.{Answer, refused, envelope_most, Onward, neither, identifier_of, header}
use Rattle.meaning.specs.Headers as meaning
use Rattle.laws_steps.specs.From.{from}
use Rattle.laws_steps.specs.Frames.{Identified, identifier_is}
use Rattle.laws_steps.specs.Finishing.{opened}
use Rattle.table.specs.declared.answers.Fault.{Fault}
use Rattle.table.specs.declared.refusals.Refusal.{Refusal}
use Rattle.table.specs.Refusals.{answer_of}
use Rattle.frames.specs.declared.frame.Frame.{Frame}
use Rattle.frames.specs.declared.frame.Frame.TheVariants.{Opens, Refused}
use Rattle.frames.specs.Frames.{framed, FrameFits, FrameRead, MayCome, HeaderFramed}

-- the identifier by one test of the byte, and which of the two it is by another
by_tests : (b : ℕ) (x y : Bool) → eqb b 0xfd ≡ x → eqb b 0xfe ≡ y → x || y ≡ true → pick x meaning.extension (pick y meaning.base neither) ≡ identifier_is y
by_tests b true true p q h = absurd (omega (arith, eqb-true b 0xfd p, eqb-true b 0xfe q))
by_tests b true false p q h = refl
by_tests b false true p q h = refl
by_tests b false false p q h = let z : ◌≡◌ {A = ℕ} 0 1 = cc h in absurd (omega arith)

pub identified_by : (s : List ℕ) (at : ℕ) → eqb (get_or s at 0) 0xfd || eqb (get_or s at 0) 0xfe ≡ true → Identified s at (eqb (get_or s at 0) 0xfe)
unfolding Identified
identified_by s at h = by_tests (get_or s at 0) (eqb (get_or s at 0) 0xfd) (eqb (get_or s at 0) 0xfe) refl refl h

pub identified_none : (b : ℕ) → eqb b 0xfd || eqb b 0xfe ≡ false → identifier_of b ≡ neither
identified_none b h = none (eqb b 0xfd) (eqb b 0xfe) h
  where
    none : (x y : Bool) → x || y ≡ false → pick x meaning.extension (pick y meaning.base neither) ≡ neither
    none true y h = let z : ◌≡◌ {A = ℕ} 0 1 = cc h in absurd (omega arith)
    none false true h = let z : ◌≡◌ {A = ℕ} 0 1 = cc h in absurd (omega arith)
    none false false h = refl

-- a stage's answer
pub frame_refused : {answer : Told → Onward → Answer} {s : List ℕ} {at p : ℕ} {refusal : Refusal} {fault : Fault} → fault ≡ record { refusal = refusal; at = p } → ((t : Told) (more : Onward) → answer t more ≡ refused (answer_of refusal) p) → FrameRead answer s at (Refused fault)
unfolding framed FrameFits
frame_refused e h = rw e (record { is = h; fits = tt })

pub frame_opens : {answer : Told → Onward → Answer} {s : List ℕ} {at head n : ℕ} {base : Bool} → ((t : Told) (more : Onward) → answer t more ≡ opened t more s at base (at + head) (at + n))
    → 3 ≤ head → head ≤ n → n ≤ envelope_most → at + n ≤ length s → FrameRead answer s at (Opens base (at + head) (at + n))
unfolding framed FrameFits
frame_opens is k h most l = record { is = is; fits = (omega arith, omega arith, l, omega arith) }

-- an equation before a frame
pub frame_begun : {answer onward : Told → Onward → Answer} {s : List ℕ} {at : ℕ} {r : Frame} → ((t : Told) (more : Onward) → answer t more ≡ onward t more) → FrameRead onward s at r → FrameRead answer s at r
frame_begun h f = record { is = λ t more. h t more ∙ f.is t more; fits = f.fits }

pub refused_at_frame : {s : List ℕ} {at left p : ℕ} {refusal : Refusal} {fault : Fault} → fault ≡ record { refusal = refusal; at = p } → ((t : Told) → header left t at (from s at (length s)) ≡ refused (answer_of refusal) p) → HeaderFramed s at left (Refused fault)
unfolding framed FrameFits MayCome
refused_at_frame e h = rw e (record { is = h; fits = tt; more = tt })

may_come : (left : ℕ) (r : Frame) → 1 ≤ left → MayCome left r
unfolding MayCome
may_come left (Opens base first end) h = h
may_come left (Refused fault) h = tt

pub header_framed : {answer : Told → Onward → Answer} {s : List ℕ} {at left : ℕ} {r : Frame} → ((t : Told) → header left t at (from s at (length s)) ≡ answer t (header (left - 1) t)) → (left ≡ 0 → ⊥) → FrameRead answer s at r → HeaderFramed s at left r
header_framed {left = left} {r = r} is h f = record { is = λ t. is t ∙ f.is t (header (left - 1) t); fits = f.fits; more = may_come left r (omega arith) }
