-- `Standing::code_step`: by what the room has for the byte.
use native.Mathlib.Omega.{arith}
use Rattle.table.specs.Told.{told_of}
use Rattle.plain.proofs.Coding.{is_here, quiet_moves}
use Rattle.plain.proofs.standing.Standing.code_step.Goals as goal

pub returns-in-None : goal.returns-in-None
returns-in-None c = c.nothing.ensures (told_of c.args.told) c.args.s.now (is_here (told_of c.args.told) c.args.s.now c.args.at c.args.self (omega (arith, c.type_inv.s c.args.at)) c.in-None.ensures)

pub returns-in-Some-Coded : goal.returns-in-Some-Coded
returns-in-Some-Coded c = c.coded.ensures (told_of c.args.told) c.args.s.now (is_here (told_of c.args.told) c.args.s.now c.args.at c.args.self (omega (arith, c.type_inv.s c.args.at)) (rw c.in-Some-Coded.field-0-is at c.in-Some-Coded.ensures))

pub returns-in-Some-Quiet : goal.returns-in-Some-Quiet
returns-in-Some-Quiet c = quiet_moves (told_of c.args.told) c.args.s.now c.args.at c.args.self (is_here (told_of c.args.told) c.args.s.now c.args.at c.args.self (omega (arith, c.type_inv.s c.args.at)) (rw c.in-Some-Quiet.field-0-is at c.in-Some-Quiet.ensures))

pub returns-in-Some-Uncoded : goal.returns-in-Some-Uncoded
returns-in-Some-Uncoded c = c.uncoded.ensures (told_of c.args.told) (is_here (told_of c.args.told) c.args.s.now c.args.at c.args.self (omega (arith, c.type_inv.s c.args.at)) (rw c.in-Some-Uncoded.field-0-is at c.in-Some-Uncoded.ensures))
