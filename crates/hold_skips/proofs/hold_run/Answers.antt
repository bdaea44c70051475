-- `hold_run`: the invariant says that the rows behind row i up to the last are of the run, and held.
use Prim.Native.Nat.{ℕ}
use mathlib.Core.Path.{ap, sym, ◌∙◌}
use native.Mathlib.Omega.{arith}
use Rattle.laws_tables.specs.Neighbours.{leads}
use Rattle.hold_skips.proofs.Holdings.{nothing_held, run_on, run_held}
use Rattle.hold_skips.proofs.hold_run.Goals as goal

pub returns-then-level_at-level : goal.returns-then-level_at-level
returns-then-level_at-level c n b = nothing_held _ n _

pub returns-then-opens_run : goal.returns-then-opens_run
returns-then-opens_run c n b =
    let leads_here = ap (λ (x : ℕ). leads x c.args.kind) (sym c.kind_at-first.ensures) ∙ sym c.opens_run.ensures ∙ c.if-opens_run.true in
    run_held b (c.loop-i.invariant n b) (λ q. c.if-first-kind.true (c.kind_at-first.ensures ∙ q)) leads_here (sym c.level_at.ensures ∙ c.if-level_at-level.false) c.hold_as.ensures

pub returns-else-opens_run : goal.returns-else-opens_run
returns-else-opens_run c n b = nothing_held _ n _

pub returns-then-skip_at-i : goal.returns-then-skip_at-i
returns-then-skip_at-i c n b = nothing_held _ n _

pub loop-i-preserved : goal.loop-i-preserved
loop-i-preserved c n b = run_on b (c.loop-i.invariant n b) (sym c.kind_at-first.ensures ∙ c.if-first-kind.false) (sym c.level_at.ensures ∙ c.if-level_at-level.false) (sym c.skip_at.ensures ∙ c.if-skip_at-i.false) (λ q. omega arith)

pub returns-else-skip_at-i : goal.returns-else-skip_at-i
returns-else-skip_at-i c n b = nothing_held _ n _
