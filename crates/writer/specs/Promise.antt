-- The public promise: the answer, and the whole output after the call, for every edition number, slice of rows, pool and output; what is lent as bytes holds bytes.
use Rattle.std.specs.Prelude.{ℕ, List, ◌≡◌, T, Result, Ok, Err}
use Rattle.meaning.specs.Skips.{Skips, right, wrong_at}
use Rattle.meaning.specs.Headers.{envelopes_most}
use Rattle.meaning.specs.Writing.{Plan, stuck, plan, fine, Written}
use Rattle.write_envelopes.specs.Whole.{Verdict, bad, needs, verdict, verdict_is, insides_of, Begins}
use Rattle.table.specs.declared.answers.Fault.{Fault}
use Rattle.table.specs.declared.refusals.Refusal.TheVariants.{TableWrong}
use Rattle.table.specs.Refusals.{answer_of}
use Rattle.meaning.specs.Memory.{room_of, write_reply, write_memory, write_answer, write_output}
use Rattle.meaning.specs.Present.{Judgement, passed, stopped}
use Rattle.laws_steps.specs.Logic.{are_bytes}
use Rattle.table.specs.declared.reply.Reply.{Reply}
use Rattle.table.specs.Reply.{reply_of}

pub record WritePromise (edition : ℕ) (rows pool before : List ℕ) (answer : Reply) (after : List ℕ) : Type 0 where
  pub bytes : T (are_bytes pool)
  pub answers : reply_of answer ≡ write_answer edition rows pool before
  pub leaves : after ≡ write_output edition rows pool before

-- the same of one edition, over what it writes
pub record WrittenAs (w : Written) (rows before : List ℕ) (answer : Reply) (after : List ℕ) : Type 0 where
  pub answers : reply_of answer ≡ write_reply (room_of rows) w
  pub leaves : after ≡ write_memory before w

-- what the check of the skip numbers makes of an answer: a wrong one is 15 at its row
abbrev pub unless_wrong : Skips → Result ℕ Fault → Result ℕ Fault
unless_wrong right c = c
unless_wrong (wrong_at i) c = Err (record { refusal = TableWrong; at = i })

-- the verdict, with a wrong skip number behind 15's other faults and before 5
abbrev pub skips_verdict : Skips → Plan → Verdict
skips_verdict skips (stuck i) = bad 15 i
skips_verdict right (plan bytes vs) = verdict envelopes_most 0 fine (plan bytes vs)
skips_verdict (wrong_at i) (plan bytes vs) = bad 15 i

-- what the whole check promises: the verdict, and if it is passed the envelopes' lengths
pub record SkipsChecked (p : Plan) (skips : Skips) (r : Result ℕ Fault) (lengths : List ℕ) : Type 0 where
  pub is : verdict_is r ≡ skips_verdict skips p
  pub noted : (t : ℕ) → skips_verdict skips p ≡ needs t → (verdict envelopes_most 0 fine p ≡ needs t) × Begins (insides_of p) lengths

-- what each case of the check says, where no output is lent
abbrev pub check_is : Result ℕ Fault → Judgement
check_is (Err fault) = stopped (answer_of fault.refusal) fault.at
check_is (Ok many) = passed
