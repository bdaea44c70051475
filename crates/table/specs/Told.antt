-- The code's edition and strictness, and what a reading is told, as `meaning` has them.
use Rattle.std.specs.Prelude.{ℕ, Result, Ok, Err, ◌≡◌}
use Rattle.meaning.specs.Told.{Edition, Label, Strictness, Told}
use Rattle.meaning.specs.Told as meaning
use Rattle.table.specs.declared.told.Edition as declared
use Rattle.table.specs.declared.told.Edition.TheVariants.{B, D}
use Rattle.table.specs.declared.told.UnknownEdition as unknown
use Rattle.table.specs.declared.told.Strictness as strictness
use Rattle.table.specs.declared.told.Strictness.TheVariants.{Strict, Tolerant}
use Rattle.table.specs.declared.told.Told as told

abbrev pub edition_of : declared.Edition → Edition
edition_of B = meaning.B
edition_of D = meaning.D

-- what an edition's number says
abbrev pub label_is : Result declared.Edition unknown.UnknownEdition → Label
label_is (Ok e) = meaning.known (edition_of e)
label_is (Err e) = meaning.unknown

abbrev pub EditionOf : ℕ → Result declared.Edition unknown.UnknownEdition → Type 0
EditionOf number r = label_is r ≡ meaning.label_of number

abbrev pub strictness_of : strictness.Strictness → Strictness
strictness_of Strict = meaning.strict
strictness_of Tolerant = meaning.tolerant

abbrev pub told_of : told.Told → Told
told_of t = record { edition = edition_of t.edition; strictness = strictness_of t.strictness }
