-- `run::run_inside`: reading from the inside's first byte is what the engine comes to, turn after turn.
use Rattle.std.specs.Prelude.{length}
use mathlib.Core.Path.{refl, ◌∙◌}
use native.Mathlib.Omega.{arith}
use Rattle.laws_steps.specs.Pouring.{source}
use Rattle.table.specs.Told.{told_of}
use Rattle.plain.proofs.Running.{begins_comes, code_holds, run_refused, run_over, run_goes, moves_lead, run_moves, ends_lead, row_fits, run_ends}
use Rattle.plain.proofs.run.run_inside.Goals as goal

pub loop-told-init : goal.loop-told-init
loop-told-init c = record {
  length_kept = refl;
  forward = omega arith;
  before = c.requires.before;
  few = c.requires.few;
  holds = code_holds c.begin-engine.result c.begin-engine.ensures.code c.args.from.at;
  comes = begins_comes c.begin-engine.ensures (source (told_of c.args.told) c.args.s.now (length c.args.s.now)) c.args.from.at c.args.from.rows c.args.rows.now;
}

pub returns-in-Wrong : goal.returns-in-Wrong
returns-in-Wrong c = run_refused (told_of c.args.told) c.args.s.now (length c.args.s.now) c.loop-told.reached.at c.past_text.result c.loop-told.reached.rows c.loop-told.rows c.loop-told.engine c.args.from.at c.loop-told.invariant.comes c.past_text.ensures c.if-s-here.false c.requires.whole c.step.ensures c.in-Wrong.is

pub returns-in-Over : goal.returns-in-Over
returns-in-Over c = run_over (told_of c.args.told) c.args.s.now (length c.args.s.now) c.loop-told.reached.at c.past_text.result c.loop-told.reached.rows c.loop-told.rows c.loop-told.engine c.args.from.at c.loop-told.invariant.comes c.past_text.ensures c.if-s-here.false c.requires.whole c.step.ensures c.in-Over.is c.loop-told.invariant.forward c.loop-told.invariant.few

pub loop-told-preserved-in-Goes : goal.loop-told-preserved-in-Goes
loop-told-preserved-in-Goes c =
    let u = run_goes (told_of c.args.told) c.args.s.now (length c.args.s.now) c.loop-told.reached.at c.past_text.result c.loop-told.reached.rows c.loop-told.rows c.loop-told.engine c.args.from.at c.loop-told.invariant.comes c.past_text.ensures c.if-s-here.false c.requires.whole c.step.ensures c.in-Goes.is c.taken_on-engine.ensures in
    let r = c.passed-reached.ensures in
    rw (r.at, r.rows) (record {
      length_kept = c.loop-told.invariant.length_kept;
      forward = omega (arith, c.loop-told.invariant.forward, c.past_text.ensures.inside);
      before = omega (arith, c.if-s-here.false);
      few = omega (arith, c.loop-told.invariant.few, c.past_text.ensures.inside);
      holds = u.1;
      comes = u.0;
    })

pub behind-engine-requires : goal.behind-engine-requires
behind-engine-requires c = moves_lead (told_of c.args.told) c.args.s.now (length c.args.s.now) c.loop-told.reached.at c.past_text.result c.loop-told.reached.rows c.loop-told.rows c.loop-told.engine c.args.from.at c.loop-told.invariant.comes c.past_text.ensures c.if-s-here.false c.requires.whole c.step.ensures c.in-Moves.is

pub loop-told-preserved-in-Moves : goal.loop-told-preserved-in-Moves
loop-told-preserved-in-Moves c =
    let u = run_moves (told_of c.args.told) c.args.s.now (length c.args.s.now) c.loop-told.reached.at c.past_text.result c.loop-told.reached.rows c.loop-told.rows c.loop-told.engine c.args.from.at c.loop-told.invariant.comes c.past_text.ensures c.if-s-here.false c.requires.whole c.step.ensures c.behind-engine.result c.in-Moves.is c.behind-engine.ensures.0 c.behind-engine.ensures.1 in
    let r = c.passed-reached-in-Moves.ensures in
    rw (r.at, r.rows) (record {
      length_kept = c.loop-told.invariant.length_kept;
      forward = omega (arith, c.loop-told.invariant.forward, c.past_text.ensures.inside);
      before = omega (arith, c.if-s-here.false);
      few = omega (arith, c.loop-told.invariant.few, c.past_text.ensures.inside);
      holds = u.1;
      comes = u.0;
    })

pub put_row-requires : goal.put_row-requires
put_row-requires c =
    let w = row_fits (told_of c.args.told) c.args.s.now (length c.args.s.now) c.loop-told.reached.at c.past_text.result c.loop-told.reached.rows c.loop-told.rows c.loop-told.engine c.args.from.at c.loop-told.invariant.comes c.past_text.ensures c.if-s-here.false c.requires.whole c.step.ensures c.in-Ends.is in
    (omega (arith, c.loop-told.invariant.few, c.loop-told.invariant.before, c.requires.small), omega (arith, w.0, c.if-s-here.false, c.requires.small), omega (arith, w.1, c.if-s-here.false, c.requires.small))

pub behind-engine-requires-in-Ends : goal.behind-engine-requires-in-Ends
behind-engine-requires-in-Ends c = ends_lead (told_of c.args.told) c.args.s.now (length c.args.s.now) c.loop-told.reached.at c.past_text.result c.loop-told.reached.rows c.loop-told.rows c.loop-told.engine c.args.from.at c.loop-told.invariant.comes c.past_text.ensures c.if-s-here.false c.requires.whole c.step.ensures c.in-Ends.is

pub loop-told-preserved : goal.loop-told-preserved
loop-told-preserved c =
    let u = run_ends (told_of c.args.told) c.args.s.now (length c.args.s.now) c.loop-told.reached.at c.past_text.result c.loop-told.reached.rows c.loop-told.rows c.loop-told.engine c.args.from.at c.loop-told.invariant.comes c.past_text.ensures c.if-s-here.false c.requires.whole c.step.ensures c.behind-engine-in-Ends.result c.in-Ends.is c.level-level.ensures (rw c.number.ensures at c.put_row.ensures) c.behind-engine-in-Ends.ensures.0 c.behind-engine-in-Ends.ensures.1 in
    record {
      length_kept = c.put_row.auto.rows ∙ c.loop-told.invariant.length_kept;
      forward = omega (arith, c.loop-told.invariant.forward, c.past_text.ensures.inside);
      before = omega (arith, c.if-s-here.false);
      few = omega (arith, c.loop-told.invariant.few, c.past_text.ensures.inside);
      holds = u.1;
      comes = u.0;
    }
