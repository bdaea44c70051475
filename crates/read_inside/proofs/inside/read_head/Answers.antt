-- `inside::read_head`: the representation's stage, then the date's.
use Rattle.meaning.specs.Told.{B, told}
use Rattle.laws_steps.specs.Rooms.{head_date_lem, head_representation_lem}
use Rattle.read_rows.specs.Joining.{handed, onward, ready_on}
use Rattle.read_inside.proofs.inside.read_head.Goals as goal

pub returns-in_default : goal.returns-in_default
returns-in_default c = handed c.in_default.is (c.representation-representation.ensures _ _ _ (head_representation_lem _))

pub date-requires : goal.date-requires
date-requires c = ready_on c.requires c.in-Go.is (c.representation-representation.ensures (told B) _ _ (head_representation_lem _))

pub returns : goal.returns
returns c = onward c.in-Go.is (c.representation-representation.ensures _ _ _ (head_representation_lem _)) (c.date.ensures _ _ (head_date_lem _))
