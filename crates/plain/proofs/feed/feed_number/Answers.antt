-- `feed::feed_number`: by what the byte does to the number so far.
use mathlib.Core.Path.{refl}
use Rattle.plain.proofs.Feeding.{number_stops, number_goes, number_wrongs}
use Rattle.plain.proofs.feed.feed_number.Goals as goal

pub returns-in-Wrong : goal.returns-in-Wrong
returns-in-Wrong c = λ t. number_wrongs t c.args.s.now c.args.at c.args.so_far c.args.of c.requires.0 c.from.ensures c.in-Wrong.ensures refl c.at.ensures

pub returns-in-Stop : goal.returns-in-Stop
returns-in-Stop c = λ t. number_stops t c.args.s.now c.args.at c.args.so_far c.args.of c.requires.0 c.from.ensures c.in-Stop.ensures refl

pub returns-in-More : goal.returns-in-More
returns-in-More c = λ t. number_goes t c.args.s.now c.args.at c.args.so_far c.args.of c.requires.0 c.from.ensures c.in-More.ensures refl
