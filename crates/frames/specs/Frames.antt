-- What the stages of an envelope's identifier and length promise.
use Rattle.std.specs.Prelude.{ℕ, ◌+◌, ◌-◌, ◌≤◌, List, ◌≡◌, length}
use Rattle.meaning.specs.Told.{Told}
use Rattle.meaning.specs.Headers.{Answer, refused, envelope_most, Onward, header}
use Rattle.laws_steps.specs.From.{from}
use Rattle.laws_steps.specs.Finishing.{opened}
use Rattle.table.specs.Refusals.{answer_of}
use Rattle.frames.specs.declared.frame.Frame.{Frame}
use Rattle.frames.specs.declared.frame.Frame.TheVariants.{Opens, Refused}

-- what each case of a frame says
unfoldable pub framed : Told → Onward → List ℕ → ℕ → Frame → Answer
framed t more s at (Opens base first end) = opened t more s at base first end
framed t more s at (Refused fault) = refused (answer_of fault.refusal) fault.at

unfoldable pub FrameFits : List ℕ → ℕ → Frame → Type 0
FrameFits s at (Opens base first end) = (at + 3 ≤ first) × (first ≤ end) × (end ≤ length s) × (end ≤ at + envelope_most)
FrameFits s at (Refused fault) = Unit {0}

-- what a stage of the frame answers, where `meaning` says `answer` for any way to go on
pub record FrameRead (answer : Told → Onward → Answer) (s : List ℕ) (at : ℕ) (r : Frame) : Type 0 where
  pub is : (t : Told) (more : Onward) → answer t more ≡ framed t more s at r
  pub fits : FrameFits s at r

-- an envelope that opens is one of those that may still come
unfoldable pub MayCome : ℕ → Frame → Type 0
MayCome left (Opens base first end) = 1 ≤ left
MayCome left (Refused fault) = Unit {0}

pub record HeaderFramed (s : List ℕ) (at left : ℕ) (r : Frame) : Type 0 where
  pub is : (t : Told) → header left t at (from s at (length s)) ≡ framed t (header (left - 1) t) s at r
  pub fits : FrameFits s at r
  pub more : MayCome left r
