-- `hold_row`: the row before those that are held, by how its rows are found; a run as a whole. A kind that no row has is no table's.
use Rattle.std.specs.Prelude.{ℕ, ◌-◌}
use Rattle.std.proofs.Common.{sym, subst}
use Rattle.skips.specs.Owners.{Owned, above_test}
use Rattle.hold_skips.proofs.Holdings.{nothing_held, turn_hoppable, plain_held, deeper_owned, deeper_held, agent_owned, agent_held, run_to_hold, run_turned, envelope_held}
use Rattle.hold_skips.proofs.hold_row.Goals as goal

pub returns-then-not-is_known : goal.returns-then-not-is_known
returns-then-not-is_known c = let a = c.args in nothing_held a.rows.now a.n a.next

pub returns-in-Alone : goal.returns-in-Alone
returns-in-Alone c = plain_held c.requires.0 c.requires.1 c.kind_at-kind.ensures (c.is_known.ensures c.if-not-is_known.false).0 c.of.ensures c.in-Alone.ensures c.hold_as.ensures

pub deeper_end-requires : goal.deeper_end-requires
deeper_end-requires c =
    let (f, s) = c.requires in
    let (g, h) = c.in-Deeper.ensures in
    (turn_hoppable f s, deeper_owned f s c.kind_at-kind.ensures (c.is_known.ensures c.if-not-is_known.false).0 c.of.ensures g h)

pub returns-in-Deeper : goal.returns-in-Deeper
returns-in-Deeper c =
    let (f, s) = c.requires in
    let (g, h) = c.in-Deeper.ensures in
    deeper_held f s c.kind_at-kind.ensures (c.is_known.ensures c.if-not-is_known.false).0 c.of.ensures g h c.deeper_end.ensures.0 c.hold_as-in-Deeper.ensures

pub above_end-requires : goal.above_end-requires
above_end-requires c =
    let a = c.args in
    let (f, s) = c.requires in
    let (g, h) = c.in-Agent.ensures in
    (turn_hoppable f s, subst (λ (x : ℕ). Owned a.rows.now (a.next - 1) (above_test x)) (sym c.number.ensures) (agent_owned f s c.kind_at-kind.ensures (c.is_known.ensures c.if-not-is_known.false).0 c.of.ensures g h))

pub returns-in-Agent : goal.returns-in-Agent
returns-in-Agent c =
    let (f, s) = c.requires in
    let (g, h) = c.in-Agent.ensures in
    agent_held f s c.kind_at-kind.ensures (c.is_known.ensures c.if-not-is_known.false).0 c.of.ensures g h c.above_end.ensures.0 c.hold_as-in-Agent.ensures

pub hold_run-requires : goal.hold_run-requires
hold_run-requires c =
    let (f, s) = c.requires in
    let (g, h) = c.in-Follows.ensures in
    (c.args.n, run_to_hold f s c.kind_at-kind.ensures (c.is_known.ensures c.if-not-is_known.false).0 c.of.ensures g h)

pub returns-in-Follows : goal.returns-in-Follows
returns-in-Follows c =
    let (f, s) = c.requires in
    let (g, h) = c.in-Follows.ensures in
    let k = (c.is_known.ensures c.if-not-is_known.false).0 in
    run_turned f s c.kind_at-kind.ensures k c.of.ensures g h c.hold_run.result (c.hold_run.ensures c.args.n (run_to_hold f s c.kind_at-kind.ensures k c.of.ensures g h))

pub returns-in-Envelope : goal.returns-in-Envelope
returns-in-Envelope c = envelope_held c.requires.0 c.requires.1 c.kind_at-kind.ensures (c.is_known.ensures c.if-not-is_known.false).0 c.of.ensures c.hold_envelope.result c.in-Envelope.ensures c.hold_envelope.ensures
