-- What the stages of figures promise.
use Rattle.std.specs.Prelude.{ℕ, Option, Some, None, ◌+◌, ◌*◌, ◌≤◌, List, true, ◌≡◌, leb, length, set, get_or}
use Rattle.meaning.specs.Basics.{pick}
use Rattle.meaning.specs.Told.{Edition, B, D}
use Rattle.meaning.specs.Headers.{envelope_most, envelopes_most}
use Rattle.meaning.specs.Plain.{outcome, encode_outcome, encode_memory}
use Rattle.meaning.specs.Figures.{messages_most, messages_in, are_figures, edition_width, figures_borrowed}
use Rattle.pen.specs.Wrote.{Wrote}
use Rattle.table.specs.declared.answers.Fault.{Fault}
use Rattle.table.specs.Refusals.{answer_of}
use Rattle.figures.specs.declared.Figured.{Figured}

-- a refusal with its place, as it is answered
abbrev pub fault_figured : Fault → Figured
fault_figured f = record { answer = answer_of f.refusal; place = f.at }

-- so many messages, if there may be so many
unfoldable pub capped : ℕ → Option ℕ
capped n = pick (leb n messages_most) (Some n) None

-- how many messages lent numbers are the figures of, if they are figures
unfoldable pub judged : List ℕ → Option ℕ
judged ns = pick (are_figures ns) (Some (messages_in ns)) None

-- where an edition's numbers begin
abbrev pub first_of : Edition → ℕ
first_of B = 0
first_of D = edition_width

-- one number raised by n
abbrev pub raised : List ℕ → ℕ → ℕ → List ℕ
raised ns at n = set ns at (get_or ns at 0 + n)

-- the most that a number of figures can be: the bytes of so many longest headers
abbrev pub number_bound : ℕ
number_bound = envelopes_most * envelope_most * messages_most

pub record Bounded (ns : List ℕ) : Type 0 where
  pub long : length ns ≡ figures_borrowed
  pub most : (i : ℕ) → get_or ns i 0 ≤ number_bound

-- The report

-- a number has twenty digits at most, and a byte closes its field
abbrev pub field_most : ℕ
field_most = 21

abbrev pub line_most : ℕ
line_most = 378

abbrev pub text_most : ℕ
text_most = 777

-- these bytes were written from a place on, so many at most
pub record Printed (before after : List ℕ) (at most : ℕ) (bytes : List ℕ) (end : ℕ) : Type 0 where
  pub wrote : Wrote before after at bytes end
  pub few : end ≤ at + most

-- a text laid over the front of an output, or too long for it
pub record Laid (text before after : List ℕ) (r : Figured) : Type 0 where
  pub answers : outcome r.answer r.place ≡ encode_outcome 19 true (length before) text
  pub output : after ≡ encode_memory true before text
