-- `pen::put`: one byte stored.
use Rattle.pen.specs.Written.{wrote_one}
use Rattle.pen.proofs.put.Goals as goal

pub returns : goal.returns
returns c = wrote_one c.args.out.now c.args.at c.args.b c.requires
