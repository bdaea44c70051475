-- The public promise: the answer, and the lent rows and words after the call, for every input and all that is lent; what is lent as bytes holds bytes.
use Rattle.std.specs.Prelude.{ℕ, List, ◌≡◌, T}
use Rattle.meaning.specs.Memory.{reply}
use Rattle.meaning.specs.Which.{Sorted, which_answer, which_rows, which_words}
use Rattle.laws_steps.specs.Logic.{are_bytes}
use Rattle.which.specs.declared.Sorted as declared

abbrev pub sorted_of : declared.Sorted → Sorted
sorted_of a = record { reply = reply a.answer a.place a.rows; editions = a.editions }

pub record WhichPromise (input before words : List ℕ) (answer : declared.Sorted) (after words' : List ℕ) : Type 0 where
  pub bytes : T (are_bytes input)
  pub answers : sorted_of answer ≡ which_answer input before words
  pub rows : after ≡ which_rows input before words
  pub carries : words' ≡ which_words input before words
