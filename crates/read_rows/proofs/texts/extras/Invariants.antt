-- `texts::extras`: each turn reads one extra and is in the same state again; the 01 leads out, any other byte is refused.
use Prim.Native.Nat.{◌-◌, ◌≤◌}
use mathlib.Core.Path.{◌≡◌}
use lib.ListN.{length}
use Rattle.meaning.specs.Editions.{State}
use Rattle.laws_steps.specs.Pouring.{run_at, source}
use Rattle.laws_steps.specs.Shapes.{Extras}
use Rattle.table.specs.Told.{told_of}
use Rattle.read_rows.proofs.texts.extras.Given as goal

abbrev pub invariant-loop-found : goal.invariant-loop-found
invariant-loop-found l =
    (l.fn.from.at ≤ l.here.at) × (l.here.at ≤ (length l.s)) × (l.here.rows ≤ l.here.at) × (length l.rows ≡ length l.initial.rows)
    × ((q any d : State) → Extras (told_of l.told) q any d l.code l.level → run_at (source (told_of l.told) l.s (length l.s)) q l.fn.from.at l.fn.from.rows l.initial.rows ≡ run_at (source (told_of l.told) l.s (length l.s)) q l.here.at l.here.rows l.rows)

abbrev pub decreases-loop-found : goal.decreases-loop-found
decreases-loop-found l = (length l.s) - l.here.at
