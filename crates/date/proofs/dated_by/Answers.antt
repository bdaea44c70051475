-- `dated_by`: each code against the edition's table of moves.
use mathlib.Core.Path.{refl}
use Rattle.meaning.specs.Reading.{look, find}
use Rattle.table.specs.Told.{edition_of}
use Rattle.date.specs.Dates.{DateCode}
use Rattle.date.proofs.Dates.{no_date}
use Rattle.date.proofs.dated_by.Goals as goal
use Rattle.date.proofs.dated_by.Goals.{in_default-eq32, in-B-eq33, in-D-eq33, in-D-eq34, in-D-eq36, in-D-eq37, in-D-eq38}

pub returns-in_default : goal.returns-in_default
unfolding DateCode look find
returns-in_default c n = rw (c.in_default.is-0, c.in_default.is-1) refl

pub returns-in_default-2 : goal.returns-in_default-2
unfolding DateCode look find
returns-in_default-2 c n = rw (c.in_default.is-0, c.in_default.is-1) refl

pub returns-in_default-3 : goal.returns-in_default-3
unfolding DateCode look find
returns-in_default-3 c n = rw (c.in_default.is-0, c.in_default.is-1) refl

pub returns-in_default-4 : goal.returns-in_default-4
unfolding DateCode look find
returns-in_default-4 c n = rw (c.in_default.is-0, c.in_default.is-1) refl

pub returns-in_default-5 : goal.returns-in_default-5
unfolding DateCode
returns-in_default-5 c = let r = c.in_default.is-1 in no_date (edition_of c.args.edition) c.args.code r.0.0.0.0.0.1 r.0.0.0.0.1 r.0.0.0.1 r.0.0.1 r.0.1 r.1

pub returns : goal.returns
unfolding DateCode look find
returns c = elim c.match-code.branch [
  | in_default-eq32 w ↦ rw (w.in_default-eq32.is-1, c.eq-absolute.ensures, w.kind-is) (record { coded = refl; rowed = refl; flat = refl }, λ n. refl)
  | in-B-eq33 w ↦ rw (w.in-B-eq33.is-0, w.in-B-eq33.is-1, c.eq-absolute.ensures, w.kind-is) (record { coded = refl; rowed = refl; flat = refl }, λ n. refl)
  | in-D-eq33 w ↦ rw (w.in-D-eq33.is-0, w.in-D-eq33.is-1, c.eq-absolute.ensures, w.kind-is) (record { coded = refl; rowed = refl; flat = refl }, λ n. refl)
  | in-D-eq34 w ↦ rw (w.in-D-eq34.is-0, w.in-D-eq34.is-1, c.eq-absolute.ensures, w.kind-is) (record { coded = refl; rowed = refl; flat = refl }, λ n. refl)
  | in-D-eq36 w ↦ rw (w.in-D-eq36.is-0, w.in-D-eq36.is-1, c.eq-absolute.ensures, w.kind-is) (record { coded = refl; rowed = refl; flat = refl }, λ n. refl)
  | in-D-eq37 w ↦ rw (w.in-D-eq37.is-0, w.in-D-eq37.is-1, c.eq-absolute.ensures, w.kind-is) (record { coded = refl; rowed = refl; flat = refl }, λ n. refl)
  | in-D-eq38 w ↦ rw (w.in-D-eq38.is-0, w.in-D-eq38.is-1, c.eq-absolute.ensures, w.kind-is) (record { coded = refl; rowed = refl; flat = refl }, λ n. refl)
]
