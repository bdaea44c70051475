-- `texts::texts`: each turn reads one line and is in the same state again; the 01 leads out.
use Prim.Native.Nat.{◌-◌, ◌≤◌}
use mathlib.Core.Path.{◌≡◌}
use lib.ListN.{length}
use Rattle.meaning.specs.Editions.{State}
use Rattle.meaning.specs.Told.{Told}
use Rattle.laws_steps.specs.Pouring.{run_at, source}
use Rattle.laws_steps.specs.Shapes.{Texts}
use Rattle.read_rows.proofs.texts.texts.Given as goal

abbrev pub invariant-loop-here : goal.invariant-loop-here
invariant-loop-here l =
    (l.fn.from.at ≤ l.here.at) × (l.here.at ≤ (length l.s)) × (l.here.rows ≤ l.here.at) × (length l.rows ≡ length l.initial.rows)
    × ((t : Told) (q d : State) → Texts t q d l.kind l.level → run_at (source t l.s (length l.s)) q l.fn.from.at l.fn.from.rows l.initial.rows ≡ run_at (source t l.s (length l.s)) q l.here.at l.here.rows l.rows)

abbrev pub decreases-loop-here : goal.decreases-loop-here
decreases-loop-here l = (length l.s) - l.here.at
