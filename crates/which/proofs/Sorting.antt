-- What two counts and one fill come to.
use Prim.Native.Nat.{ℕ}
use mathlib.Core.List.{List}
use mathlib.Core.Bool.{Bool, true, false}
use mathlib.Core.Path.{◌≡◌, refl, ap, sym, ◌∙◌}
use lib.Dec.{T, eqb}
use Rattle.meaning.specs.Basics.{pick}
use Rattle.meaning.specs.Told.{strict}
use Rattle.meaning.specs.Headers.{read_by}
use Rattle.meaning.specs.Memory.{reply, read_reply, read_memory, room_with, table_of, words_read, answer_by, rows_by, words_by}
use Rattle.meaning.specs.Which.{Sorted, editions_of, read_either, sorted, which_answer, which_rows, which_words}
use Rattle.laws_steps.specs.Logic.{are_bytes}
use Rattle.table.specs.declared.reply.Reply as table
use Rattle.table.specs.Reply.{reply_of}
use Rattle.table.specs.Refusals.{answer_of}
use Rattle.table.specs.declared.answers.Fault.{Fault}
use Rattle.table.specs.declared.answers.Reached.{Reached}
use Rattle.table.specs.declared.answers.Stage.{Stage}
use Rattle.table.specs.declared.answers.Stage.TheVariants.{Refused, Go}
use Rattle.reader.specs.Promises.{ReadsBy, Counted}
use Rattle.which.specs.declared.Sorted as declared
use Rattle.which.specs.Promise.{WhichPromise, sorted_of}

-- no edition allows it, whatever the answer
pick_none : {answer place : ℕ} (b : Bool) → ◌≡◌ {A = Sorted} (record { reply = reply answer place 0; editions = 0 }) (record { reply = reply answer place 0; editions = pick b 0 0 })
pick_none true = refl
pick_none false = refl

module _ (input : List ℕ) where
  -- a fill under the edition whose answer is given
  filled : (edition editions : ℕ) {before words after words' : List ℕ} {r : table.Reply} {a : declared.Sorted} → editions_of input ≡ editions → read_either input ≡ read_by strict edition input → ReadsBy strict edition input before words r after words'
      → sorted_of a ≡ sorted editions (reply_of r) → WhichPromise input before words a after words'
  unfolding which_answer which_rows which_words answer_by rows_by words_by
  filled edition editions {before} {words} {r = r} e q p s = record {
    bytes = p.bytes;
    answers = s ∙ ap (λ (x : ℕ). sorted x (reply_of r)) (sym e) ∙ ap (sorted (editions_of input)) (p.answers ∙ ap (read_reply (room_with before words)) (sym q));
    rows = p.rows ∙ ap (read_memory (room_with before words) table_of before) (sym q);
    carries = p.carries ∙ ap (read_memory (room_with before words) words_read words) (sym q);
  }

  module _ {b d : Stage} (x : Counted 1 input b) (y : Counted 2 input d) where
    pub by_both : {before words after words' : List ℕ} {r : table.Reply} {a : declared.Sorted} {to end : Reached} → b ≡ Go to → d ≡ Go end → ReadsBy strict 2 input before words r after words' → sorted_of a ≡ sorted 3 (reply_of r) → WhichPromise input before words a after words'
    unfolding editions_of read_either
    by_both g h = filled 2 3 (rw ((x.accepts _ g).is, (y.accepts _ h).is) refl) (rw ((x.accepts _ g).is, (y.accepts _ h).is) refl)

    pub by_second : {before words after words' : List ℕ} {r : table.Reply} {a : declared.Sorted} {fault : Fault} {end : Reached} → b ≡ Refused fault → d ≡ Go end → ReadsBy strict 2 input before words r after words' → sorted_of a ≡ sorted 2 (reply_of r) → WhichPromise input before words a after words'
    unfolding editions_of read_either
    by_second g h = filled 2 2 (rw (x.refuses _ g, (y.accepts _ h).is) refl) (rw (x.refuses _ g, (y.accepts _ h).is) refl)

    pub by_first : {before words after words' : List ℕ} {r : table.Reply} {a : declared.Sorted} {to : Reached} {fault : Fault} → b ≡ Go to → d ≡ Refused fault → ReadsBy strict 1 input before words r after words' → sorted_of a ≡ sorted 1 (reply_of r) → WhichPromise input before words a after words'
    unfolding editions_of read_either
    by_first g h = filled 1 1 (rw ((x.accepts _ g).is, y.refuses _ h) refl) (rw ((x.accepts _ g).is, y.refuses _ h) refl)

    pub by_neither : T (are_bytes input) → (before words : List ℕ) {first fault : Fault} → b ≡ Refused first → d ≡ Refused fault → WhichPromise input before words (record { answer = answer_of fault.refusal; place = fault.at; rows = 0; editions = 0 }) before words
    unfolding editions_of read_either which_answer which_rows which_words
    by_neither t before words {fault = fault} g h = record { bytes = t; answers = rw (x.refuses _ g, y.refuses _ h) (pick_none (eqb (answer_of fault.refusal) 0)); rows = rw (x.refuses _ g, y.refuses _ h) refl; carries = rw (x.refuses _ g, y.refuses _ h) refl }
