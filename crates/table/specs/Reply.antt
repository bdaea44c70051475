-- The code's reply, as `meaning` has it.
use Rattle.meaning.specs.Memory.{Reply, reply}
use Rattle.table.specs.declared.reply.Reply as declared
use Rattle.table.specs.declared.answers.Fault as fault
use Rattle.table.specs.Refusals.{answer_of}

abbrev pub reply_of : declared.Reply → Reply
reply_of r = reply r.answer r.place r.rows

-- a refusal's number and place: "Refusals report 0 rows"
abbrev pub fault_reply : fault.Fault → Reply
fault_reply f = reply (answer_of f.refusal) f.at 0
