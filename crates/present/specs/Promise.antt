-- The public promise: the answer, for every edition number, slice of rows, pool and code. Nothing is lent to be changed; what is lent as bytes holds bytes.
use Rattle.std.specs.Prelude.{ℕ, ◌+◌, ◌*◌, List, ◌≡◌, T, get_or}
use Rattle.meaning.specs.Basics.{pick}
use Rattle.meaning.specs.Skips.{is_envelope}
use Rattle.meaning.specs.Memory.{row_width}
use Rattle.meaning.specs.Present.{present_answer}
use Rattle.laws_steps.specs.Logic.{are_bytes}
use Rattle.laws_steps.specs.Hopping.{given_at}
use Rattle.table.specs.declared.reply.Reply.{Reply}
use Rattle.table.specs.Reply.{reply_of}

pub record PresentPromise (edition : ℕ) (rows pool : List ℕ) (code : ℕ) (answer : Reply) : Type 0 where
  pub bytes : T (are_bytes pool)
  pub answers : reply_of answer ≡ present_answer edition rows pool code

-- the row that is looked at behind row i: into an envelope, over any other row
abbrev pub next_looked : List ℕ → ℕ → ℕ
next_looked rows i = pick (is_envelope (get_or rows (i * row_width) 0)) (i + 1) (given_at rows i)
