-- `representation::representation`: a standard one is ahead; or none is, and what is said of the text holds among all moves.
use Rattle.meaning.specs.Bytes.{line}
use Rattle.meaning.specs.Editions.{text, on◌▸◌▸◌▸◌}
use Rattle.meaning.specs.Kinds.{own_representation}
use Rattle.write_rows.specs.Among.{tried_else, taken_first}
use Rattle.write_rows.specs.Onward.{tried_from}
use Rattle.write_rows.specs.Rooms.{standards}
use mathlib.Core.List.{[], ◌∷◌}
use Rattle.write_rows.proofs.representation.representation.Goals as goal

pub returns-in_default : goal.returns-in_default
returns-in_default c n =
    let other = c.in_default.ensures n in
    tried_else (standards n) (on 0x00 ▸ own_representation ▸ text line ▸ n ∷ []) 0 _ _ _ other.1 _ _ _ c.text.result (tried_from _ 0 _ _ _ _ c.text.result _ other.0 (c.text.ensures n))

pub returns : goal.returns
returns c n = taken_first (standards n) (on 0x00 ▸ own_representation ▸ text line ▸ n ∷ []) 0 (c.in-Some.ensures n)
