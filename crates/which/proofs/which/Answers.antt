-- `which`: both editions count; the second fills, or the first where it alone allows the bytes.
use Rattle.std.specs.Prelude.{refl}
use native.Mathlib.Omega.{arith}
use Rattle.laws_steps.specs.Logic.{slice_of_bytes}
use Rattle.reader.specs.Promises.{accepted_told}
use Rattle.which.proofs.Sorting.{by_both, by_first, by_neither, by_second}
use Rattle.which.proofs.which.Goals as goal

pub fill-read-requires : goal.fill-read-requires
fill-read-requires c =
    let counted = c.count_in-by_d.ensures 2 refl in
    rw c.strictly.ensures (accepted_told refl (counted.accepts _ c.in-Go-Go.is-1))

pub fill-read-requires-in-Refused-Go : goal.fill-read-requires-in-Refused-Go
fill-read-requires-in-Refused-Go c =
    let counted = c.count_in-by_d.ensures 2 refl in
    rw c.strictly-in-Refused-Go.ensures (accepted_told refl (counted.accepts _ c.in-Refused-Go.is-1))

pub fill-read-requires-in-Go-Refused : goal.fill-read-requires-in-Go-Refused
fill-read-requires-in-Go-Refused c =
    let counted = c.count_in-by_b.ensures 1 refl in
    rw c.strictly-in-Go-Refused.ensures (accepted_told refl (counted.accepts _ c.in-Go-Refused.is-0))

pub returns-in-Go-Go : goal.returns-in-Go-Go
returns-in-Go-Go c =
    let filled = rw c.strictly.ensures at c.fill-read.ensures in
    by_both c.args.input.now (c.count_in-by_b.ensures 1 refl) (c.count_in-by_d.ensures 2 refl) c.in-Go-Go.is-0 c.in-Go-Go.is-1 (filled 2 refl) c.sort.ensures

pub returns-in-Refused-Go : goal.returns-in-Refused-Go
returns-in-Refused-Go c =
    let filled = rw c.strictly-in-Refused-Go.ensures at c.fill-read-in-Refused-Go.ensures in
    by_second c.args.input.now (c.count_in-by_b.ensures 1 refl) (c.count_in-by_d.ensures 2 refl) c.in-Refused-Go.is-0 c.in-Refused-Go.is-1 (filled 2 refl) c.sort-in-Refused-Go.ensures

pub returns-in-Go-Refused : goal.returns-in-Go-Refused
returns-in-Go-Refused c =
    let filled = rw c.strictly-in-Go-Refused.ensures at c.fill-read-in-Go-Refused.ensures in
    by_first c.args.input.now (c.count_in-by_b.ensures 1 refl) (c.count_in-by_d.ensures 2 refl) c.in-Go-Refused.is-0 c.in-Go-Refused.is-1 (filled 1 refl) c.sort-in-Go-Refused.ensures

pub returns-in-Refused-Refused : goal.returns-in-Refused-Refused
returns-in-Refused-Refused c =
    let a = c.args in
    rw c.answer.ensures
    (by_neither a.input.now (c.count_in-by_b.ensures 1 refl) (c.count_in-by_d.ensures 2 refl) (slice_of_bytes a.input.now (λ i. omega (arith, c.type_inv.input i))) a.rows.now a.words.now c.in-Refused-Refused.is-0 c.in-Refused-Refused.is-1)
