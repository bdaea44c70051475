-- From the check and the walk to the public promise.
use Prim.Native.Nat.{ℕ}
use mathlib.Core.List.{List}
use mathlib.Core.Bool.{Bool, true, false}
use mathlib.Core.Path.{◌≡◌, ap, sym, ◌∙◌}
use lib.Dec.{T}
use Rattle.meaning.specs.Basics.{pick}
use Rattle.meaning.specs.Told.{Edition, known, unknown, label_of}
use Rattle.meaning.specs.Codes.{can_ask}
use Rattle.meaning.specs.Memory.{reply, room_of}
use Rattle.meaning.specs.Present.{passed, checked, answered_by, present_under, present_answer}
use Rattle.laws_steps.specs.Logic.{are_bytes}
use Rattle.laws_tables.specs.Passing.{first_at}
use Rattle.laws_tables.specs.PresentValues.{Walkable, passed_walkable, present_at}
use Rattle.table.specs.declared.reply.Reply as declared
use Rattle.table.specs.Reply.{fault_reply, reply_of}
use Rattle.table.specs.declared.answers.Fault.{Fault}
use Rattle.std.specs.Prelude.{Result, Ok, Err}
use Rattle.writer.specs.Promise.{check_is}
use Rattle.present.specs.Promise.{PresentPromise}

module _ (edition : Edition) (rows pool : List ℕ) (code : ℕ) {r : Result ℕ Fault} (k : check_is r ≡ checked edition rows pool) where
  pub refuses : {fault : Fault} {a : declared.Reply} → r ≡ Err fault → reply_of a ≡ fault_reply fault → reply_of a ≡ answered_by rows code (checked edition rows pool)
  refuses q e = e ∙ ap (answered_by rows code) (sym (ap check_is q) ∙ k)

  module _ {many : ℕ} (q : r ≡ Ok many) where
    passes : checked edition rows pool ≡ passed
    passes = sym k ∙ ap check_is q

    pub walkable : Walkable rows
    walkable = passed_walkable edition rows pool passes

    pub answers : {first n : ℕ} → can_ask code ≡ true → first ≡ first_at code rows (room_of rows) 0 → n ≡ room_of rows → reply 0 first n ≡ answered_by rows code (checked edition rows pool)
    answers {first} {n} a f c = ap (reply 0 first) c ∙ ap (λ (x : ℕ). reply 0 x (room_of rows)) (f ∙ sym (present_at edition rows pool code passes a)) ∙ ap (answered_by rows code) (sym passes)

-- The edition's number and the code

module _ (number : ℕ) (rows pool : List ℕ) (code : ℕ) (t : T (are_bytes pool)) {a : declared.Reply} where
  pub in_none : label_of number ≡ unknown → reply_of a ≡ reply 1 0 0 → PresentPromise number rows pool code a
  unfolding present_answer
  in_none q e = record { bytes = t; answers = e ∙ ap (present_under rows pool code) (sym q) }

  module _ {edition : Edition} (q : label_of number ≡ known edition) {b : Bool} (c : b ≡ can_ask code) where
    in_edition : {x : Bool} → b ≡ x → reply_of a ≡ pick x (answered_by rows code (checked edition rows pool)) (reply 17 0 0) → PresentPromise number rows pool code a
    unfolding present_answer
    in_edition h e = record { bytes = t; answers = e ∙ ap (λ (z : Bool). pick z (answered_by rows code (checked edition rows pool)) (reply 17 0 0)) (sym h ∙ c) ∙ ap (present_under rows pool code) (sym q) }

    pub can_be_asked : b ≡ true → reply_of a ≡ answered_by rows code (checked edition rows pool) → PresentPromise number rows pool code a
    can_be_asked h e = in_edition h e

    pub cannot_be_asked : b ≡ false → reply_of a ≡ reply 17 0 0 → PresentPromise number rows pool code a
    cannot_be_asked h e = in_edition h e
