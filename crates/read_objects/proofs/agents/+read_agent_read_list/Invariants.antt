-- The agent's and the list's stages, which call each other: twice the levels left, and one for the list, falls at each call.
use Rattle.std.proofs.Common.{◌≡◌, ◌+◌, ◌*◌, ◌-◌, ◌≤◌, Bool, length}
use Rattle.meaning.specs.Editions.{agent_list, state}
use Rattle.laws_steps.specs.Pouring.{run_at, source}
use Rattle.laws_steps.specs.Shapes.{InList}
use Rattle.table.specs.Told.{told_of}
use Rattle.read_objects.proofs.agents.+read_agent_read_list.Given as goal

abbrev pub decreases-read_agent : goal.decreases-read_agent
decreases-read_agent l = 2 * (9 - l.level)

abbrev pub decreases-read_list : goal.decreases-read_list
decreases-read_list l = 2 * (9 - l.level) + 1

abbrev pub invariant-read_list-loop-code : goal.invariant-read_list-loop-code
invariant-read_list-loop-code l =
    (l.fn.from.at ≤ l.here.at) × (l.here.at ≤ (length l.s)) × (l.here.rows ≤ l.here.at) × (length l.rows ≡ length l.initial.rows)
    × ((single : Bool) → InList l.level single → run_at (source (told_of l.told) l.s (length l.s)) (state agent_list l.level single) l.fn.from.at l.fn.from.rows l.initial.rows ≡ run_at (source (told_of l.told) l.s (length l.s)) (state agent_list l.level single) l.here.at l.here.rows l.rows)

abbrev pub decreases-read_list-loop-code : goal.decreases-read_list-loop-code
decreases-read_list-loop-code l = (length l.s) - l.here.at
