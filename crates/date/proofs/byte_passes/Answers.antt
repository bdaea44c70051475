-- `byte_passes`: the check of byte j, by j and then by the date's reach.
use Rattle.date.specs.Dates.{earlier}
use Rattle.date.proofs.Dates.{check_pair, check_relative}
use Rattle.date.proofs.byte_passes.Goals as goal

pub returns : goal.returns
returns c =
    let a = c.args in
    check_pair a.s.now a.at a.j a.absolute c.from-b.ensures c.if-j-eq8.false c.if-j-eq9.false
    (check_relative a.j c.from-b.result (earlier a.s.now a.at a.j) c.if-absolute.false c.within.ensures)
