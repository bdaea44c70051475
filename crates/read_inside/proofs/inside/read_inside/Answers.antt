-- `inside::read_inside`: what stands before the parameters, then the parameters.
use Rattle.read_rows.specs.Joining.{handed, onward, ready_on}
use Rattle.read_inside.proofs.inside.read_inside.Goals as goal

pub returns-in_default : goal.returns-in_default
returns-in_default c = handed c.in_default.is c.read_front-front.ensures

pub read_parameters-requires : goal.read_parameters-requires
read_parameters-requires c = ready_on c.requires c.in-Go.is c.read_front-front.ensures

pub returns : goal.returns
returns c = onward c.in-Go.is c.read_front-front.ensures c.read_parameters.ensures
