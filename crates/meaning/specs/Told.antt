-- Document 01: "Editions are numbered 1 (B) and 2 (D)." What a reading is told stands in one record, for every definition and stage alike.
use Rattle.std.specs.Prelude.{ℕ, eqb}
use Rattle.meaning.specs.Basics.{pick}

pub data Edition : Type 0 where
  B D : Edition

pub data Label : Type 0 where
  known : Edition → Label
  unknown : Label

abbrev pub label_of : ℕ → Label
label_of n = pick (eqb n 1) (known B) (pick (eqb n 2) (known D) unknown)

-- Order 10: document 01 requires the shortest length form of a block; "Add a tolerant reading beside the strict one"
pub data Strictness : Type 0 where
  strict tolerant : Strictness

-- what a reading is told
pub record Told : Type 0 where
  pub edition : Edition
  pub strictness : Strictness

abbrev pub told_by : Strictness → Edition → Told
told_by strictness e = record { edition = e; strictness = strictness }

-- document 01's reading is told the edition and no more: it is strict
abbrev pub told : Edition → Told
told e = told_by strict e
