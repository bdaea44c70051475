-- `look`: the invariant says that the definition goes on from where the loop stands.
use Prim.Native.Nat.{◌<◌}
use mathlib.Core.Path.{◌≡◌, ap, sym, ◌∙◌}
use native.Mathlib.Omega.{arith}
use Rattle.meaning.specs.Memory.{room_of}
use Rattle.meaning.specs.Lookup.{looked_reply, looked_up, wrong_skip}
use Rattle.table.specs.Reply.{fault_reply}
use Rattle.lookup.proofs.Looks.{begins, none_left, skip_below, skip_past, answered, past_envelope, past_row}
use Rattle.lookup.proofs.look.Goals as goal
use Rattle.lookup.proofs.look.Goals.{then-skip-i-via-then-skip-i, then-skip-i-via-else-skip-i+then-n-skip}

pub loop-i-init : goal.loop-i-init
loop-i-init c = let a = c.args in begins a.rows.now a.words.now a.code

pub returns-then-skip-i : goal.returns-then-skip-i
returns-then-skip-i c =
    let l = c.loop-i in
    let here : l.i < room_of c.args.rows.now = omega (arith, c.room-n.ensures, c.loop-i-test.true) in
    let wrong : looked_up c.args.rows.now c.args.words.now c.args.code ≡ wrong_skip l.i = elim c.then-skip-i.branch [
      | then-skip-i-via-then-skip-i w ↦ skip_below l.invariant here c.kind_at-kind.ensures c.skip_at-skip.ensures w.if-skip-i.true
      | then-skip-i-via-else-skip-i+then-n-skip w ↦ skip_past l.invariant here c.kind_at-kind.ensures c.skip_at-skip.ensures w.if-skip-i.false (omega (arith, c.room-n.ensures, w.if-n-skip.true))
    ] in
    c.into.ensures ∙ ap fault_reply c.at.ensures ∙ ap looked_reply (sym wrong)

pub returns-then-code_of-code : goal.returns-then-code_of-code
returns-then-code_of-code c = c.found.ensures ∙ ap looked_reply (sym (answered c.loop-i.invariant (omega (arith, c.room-n.ensures, c.loop-i-test.true)) c.kind_at-kind.ensures c.skip_at-skip.ensures (omega (arith, c.if-skip-i.false)) (omega (arith, c.room-n.ensures, c.if-n-skip.false)) (sym c.code_of.ensures ∙ c.if-code_of-code.true)))

pub loop-i-preserved-then-is_envelope : goal.loop-i-preserved-then-is_envelope
loop-i-preserved-then-is_envelope c = past_envelope c.loop-i.invariant (omega (arith, c.room-n.ensures, c.loop-i-test.true)) c.kind_at-kind.ensures c.skip_at-skip.ensures (omega (arith, c.if-skip-i.false)) (omega (arith, c.room-n.ensures, c.if-n-skip.false)) (sym c.is_envelope.ensures ∙ c.if-is_envelope.true) (λ q. c.if-code_of-code.false (c.code_of.ensures ∙ q)) c.entry-i.ensures

pub loop-i-preserved : goal.loop-i-preserved
loop-i-preserved c = past_row c.loop-i.invariant (omega (arith, c.room-n.ensures, c.loop-i-test.true)) c.kind_at-kind.ensures c.skip_at-skip.ensures (omega (arith, c.if-skip-i.false)) (omega (arith, c.room-n.ensures, c.if-n-skip.false)) (sym c.is_envelope.ensures ∙ c.if-is_envelope.false) (λ q. c.if-code_of-code.false (c.code_of.ensures ∙ q))

pub returns : goal.returns
returns c = let a = c.args in c.found-2.ensures ∙ ap looked_reply (sym (none_left a.rows.now a.words.now a.code c.loop-i.invariant (omega (arith, c.room-n.ensures, c.loop-i-test.false))))
