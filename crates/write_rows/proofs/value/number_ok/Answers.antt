-- `value::number_ok`: the reader's stage takes all of the bytes, or they are no number.
use Rattle.write_rows.proofs.Values.{number_refused, number_whole}
use Rattle.write_rows.proofs.value.number_ok.Goals as goal

pub returns-in_default : goal.returns-in_default
returns-in_default c = number_refused c.args.bytes.now c.take.ensures c.in_default.is

pub returns : goal.returns
returns c = number_whole c.args.bytes.now c.take.ensures c.in-Is.is
