-- `value::text_ok`: no byte is allowed by every rule; the rule's run comes to the end, or there is a byte that it does not allow.
use Rattle.values.specs.Stages.{rule_of}
use Rattle.write_rows.proofs.Values.{none_ok, text_run_lem}
use Rattle.write_rows.proofs.value.text_ok.Goals as goal

pub returns-then-end-eq0 : goal.returns-then-end-eq0
returns-then-end-eq0 c = none_ok (rule_of c.args.rule) c.args.bytes.now c.if-end-eq0.true

pub returns : goal.returns
returns c = text_run_lem (rule_of c.args.rule) c.args.bytes.now c.run.ensures
