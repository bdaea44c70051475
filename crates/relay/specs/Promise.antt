-- The public promise: the answer, and the lent rows, words and output after the call, for every edition number, old input, new table and all that is lent; what is lent as bytes holds bytes.
use Rattle.std.specs.Prelude.{ℕ, List, Bool, true, ◌&&◌, ◌≡◌, T, Result, Ok, Err, ltb, length, take}
use Rattle.meaning.specs.Told.{Edition, known, Told, told}
use Rattle.meaning.specs.Skips.{Skips, right, wrong_at}
use Rattle.meaning.specs.Headers.{Placed, accepted, envelopes_most, header}
use Rattle.meaning.specs.Writing.{Envelope, Plan, stuck, plan, within_limit}
use Rattle.meaning.specs.Memory.{words_read}
use Rattle.meaning.specs.Relay.{extension_plan, relayed, unrelayed, joint_of, relay_under, relay_answer, relay_rows, relay_words, relay_output}
use Rattle.laws_steps.specs.Logic.{are_bytes}
use Rattle.laws_steps.specs.Rows.{cells_at}
use Rattle.table.specs.declared.reply.Reply.{Reply}
use Rattle.table.specs.Reply.{reply_of}
use Rattle.table.specs.Refusals.{answer_of}
use Rattle.table.specs.declared.answers.Fault.{Fault}
use Rattle.reader.specs.Promises.{Accepted}
use Rattle.write_rows.specs.Laying.{capped}
use Rattle.write_envelopes.specs.Whole.{Verdict, bad, needs}
use Rattle.relay.specs.declared.Joint.{Joint}

pub record RelayPromise (edition : ℕ) (input table pool rows words output : List ℕ) (answer : Reply) (rows' words' output' : List ℕ) : Type 0 where
  pub bytes : T (are_bytes input)
  pub pool_bytes : T (are_bytes pool)
  pub answers : reply_of answer ≡ relay_answer edition input table pool rows words output
  pub joins : rows' ≡ relay_rows edition input table pool rows words output
  pub carries : words' ≡ relay_words edition input table pool rows words output
  pub leaves : output' ≡ relay_output edition input table pool rows words output

-- what the check of the new table comes to: a wrong skip number is 15 behind its other faults
abbrev pub new_verdict : Skips → Plan → Verdict
new_verdict skips (stuck i) = bad 15 i
new_verdict right (plan bytes vs) = needs (capped (length bytes))
new_verdict (wrong_at i) (plan bytes vs) = bad 15 i

-- whether an envelope of so many bytes inside may stand in front of an accepted header
pub record OneMoreFits (input : List ℕ) (many : ℕ) (r : Bool) : Type 0 where
  pub is : (t : Told) (place : ℕ) (rows : List Placed) → header envelopes_most t 0 input ≡ accepted place rows → r ≡ ltb (length (words_read rows)) envelopes_most && within_limit many

-- an accepted header and a new table that may be joined, the lent memory aside
pub record Joinable (e : Edition) (input table pool : List ℕ) (joint : Joint) : Type 0 where
  pub old : Accepted (told e) input joint.old
  pub body : List ℕ
  pub envelopes : List Envelope
  pub planned : extension_plan e (cells_at pool table 0) ≡ plan body envelopes
  pub long : length body ≡ joint.inside
  pub small : within_limit joint.inside ≡ true
  pub is : relay_under input table pool (known e) ≡ relayed (joint_of e body (take joint.old.at input) old.rows)

-- what the check of both comes to, the lent memory aside: they may be joined, or the call refuses
abbrev pub JudgedAs : Edition → List ℕ → List ℕ → List ℕ → Result Joint Fault → Type 0
JudgedAs e input table pool (Ok joint) = Joinable e input table pool joint
JudgedAs e input table pool (Err fault) = relay_under input table pool (known e) ≡ unrelayed (answer_of fault.refusal) fault.at
