-- `received::behind_date`: three texts that may be left out, one behind the other, then what stands behind them.
use Rattle.meaning.specs.Told.{B, told}
use Rattle.laws_steps.specs.Rooms.{from_optional, id_optional, via_optional}
use Rattle.read_rows.specs.Joining.{handed, onward, ready_on}
use Rattle.read_objects.proofs.received.behind_date.Goals as goal

pub returns-in_default : goal.returns-in_default
returns-in_default c = handed c.in_default.is (c.optional-from.ensures _ _ _ (from_optional _))

pub optional-id-requires : goal.optional-id-requires
optional-id-requires c = ready_on c.requires c.in-Go.is (c.optional-from.ensures (told B) _ _ (from_optional _))

pub returns-in_default-id : goal.returns-in_default-id
returns-in_default-id c = onward c.in-Go.is (c.optional-from.ensures _ _ _ (from_optional _)) (handed c.in_default-id.is (c.optional-id.ensures _ _ _ (id_optional _)))

pub optional-via-requires : goal.optional-via-requires
optional-via-requires c = ready_on c.requires c.in-Go-id.is (c.optional-id.ensures (told B) _ _ (id_optional _))

pub returns-in_default-via : goal.returns-in_default-via
returns-in_default-via c =
    onward c.in-Go.is (c.optional-from.ensures _ _ _ (from_optional _))
    (onward c.in-Go-id.is (c.optional-id.ensures _ _ _ (id_optional _)) (handed c.in_default-via.is (c.optional-via.ensures _ _ _ (via_optional _))))

pub behind_via-requires : goal.behind_via-requires
behind_via-requires c = ready_on c.requires c.in-Go-via.is (c.optional-via.ensures (told B) _ _ (via_optional _))

pub returns : goal.returns
returns c =
    onward c.in-Go.is (c.optional-from.ensures _ _ _ (from_optional _))
    (onward c.in-Go-id.is (c.optional-id.ensures _ _ _ (id_optional _)) (onward c.in-Go-via.is (c.optional-via.ensures _ _ _ (via_optional _)) c.behind_via.ensures))
