-- `lay_row`: the row before those that are laid, by how its rows are found; a run as a whole.
use Rattle.std.specs.Prelude.{ℕ, ◌-◌}
use Rattle.std.proofs.Common.{sym, subst}
use native.Mathlib.Omega.{arith}
use Rattle.skips.specs.Owners.{Owned, above_test}
use Rattle.lay_skips.proofs.Turning.{back_inside, back_small, back_hoppable, kind_known, plain_turn, deeper_owned, deeper_turn, agent_owned, agent_turn, run_before, run_inside, opener_known, run_turn, envelope_turn}
use Rattle.lay_skips.proofs.lay_row.Goals as goal

pub kind_at-kind-requires : goal.kind_at-kind-requires
kind_at-kind-requires c = let (m, end, b) = c.requires in back_inside b

pub of-class-requires : goal.of-class-requires
of-class-requires c = let (m, end, b) = c.requires in kind_known b c.kind_at-kind.ensures

pub put_skip-requires : goal.put_skip-requires
put_skip-requires c = let (m, end, b) = c.requires in (back_inside b, back_small b)

pub returns-in-Alone : goal.returns-in-Alone
returns-in-Alone c m end b = plain_turn b c.kind_at-kind.ensures c.of-class.ensures c.in-Alone.ensures c.put_skip.ensures

pub deeper_end-skip-requires : goal.deeper_end-skip-requires
deeper_end-skip-requires c = let (m, end, b) = c.requires in (back_hoppable b, deeper_owned b c.kind_at-kind.ensures c.of-class.ensures c.in-Deeper.ensures.0 c.in-Deeper.ensures.1)

pub put_skip-requires-in-Deeper : goal.put_skip-requires-in-Deeper
put_skip-requires-in-Deeper c = let (m, end, b) = c.requires in (back_inside b, omega (arith, c.deeper_end-skip.ensures.1, b.stands.most))

pub returns-in-Deeper : goal.returns-in-Deeper
returns-in-Deeper c m end b = deeper_turn b c.kind_at-kind.ensures c.of-class.ensures c.in-Deeper.ensures.0 c.in-Deeper.ensures.1 c.deeper_end-skip.ensures.0 c.put_skip-in-Deeper.ensures

pub above_end-skip-requires : goal.above_end-skip-requires
above_end-skip-requires c =
    let (m, end, b) = c.requires in
    let a = c.args in
    (back_hoppable b, subst (λ (x : ℕ). Owned a.rows.now (a.next - 1) (above_test x)) (sym c.number.ensures) (agent_owned b c.kind_at-kind.ensures c.of-class.ensures c.in-Agent.ensures.0 c.in-Agent.ensures.1))

pub put_skip-requires-in-Agent : goal.put_skip-requires-in-Agent
put_skip-requires-in-Agent c = let (m, end, b) = c.requires in (back_inside b, omega (arith, c.above_end-skip.ensures.1, b.stands.most))

pub returns-in-Agent : goal.returns-in-Agent
returns-in-Agent c m end b = agent_turn b c.kind_at-kind.ensures c.of-class.ensures c.in-Agent.ensures.0 c.in-Agent.ensures.1 c.above_end-skip.ensures.0 c.put_skip-in-Agent.ensures

pub lay_run-first-requires : goal.lay_run-first-requires
lay_run-first-requires c = let (m, end, b) = c.requires in (m, c.args.n, run_before b c.kind_at-kind.ensures c.of-class.ensures c.in-Follows.ensures.0 c.in-Follows.ensures.1)

pub kind_at-requires : goal.kind_at-requires
kind_at-requires c =
    let (m, end, b) = c.requires in
    let (g, h) = c.in-Follows.ensures in
    run_inside b c.kind_at-kind.ensures c.of-class.ensures g h (c.lay_run-first.ensures m c.args.n (run_before b c.kind_at-kind.ensures c.of-class.ensures g h))

pub of-opener-requires : goal.of-opener-requires
of-opener-requires c =
    let (m, end, b) = c.requires in
    let (g, h) = c.in-Follows.ensures in
    opener_known b c.kind_at-kind.ensures c.of-class.ensures g h (c.lay_run-first.ensures m c.args.n (run_before b c.kind_at-kind.ensures c.of-class.ensures g h)) c.kind_at.ensures

pub returns-in-Follows : goal.returns-in-Follows
returns-in-Follows c m end b =
    let (g, h) = c.in-Follows.ensures in
    run_turn b c.kind_at-kind.ensures c.of-class.ensures g h (c.lay_run-first.ensures m c.args.n (run_before b c.kind_at-kind.ensures c.of-class.ensures g h)) c.kind_at.ensures c.of-opener.ensures

pub returns-in-Envelope : goal.returns-in-Envelope
returns-in-Envelope c m end b = envelope_turn b c.kind_at-kind.ensures c.of-class.ensures c.in-Envelope.ensures
