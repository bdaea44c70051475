-- `any::take`: each code against the table of moves, and its value behind it.
use mathlib.Core.Path.{refl, sym}
use native.Mathlib.Omega.{arith}
use Rattle.meaning.specs.Reading.{look, find, take_value}
use Rattle.values.specs.Coded.{code_missing, code_unknown, code_before}
use Rattle.meaning.specs.Editions.{text, block}
use Rattle.meaning.specs.Bytes.{note, one_byte, two_bytes, four_bytes}
use Rattle.values.proofs.Tables.{no_any}
use Rattle.values.proofs.any.take.Goals as goal

pub returns-then-end-at : goal.returns-then-end-at
returns-then-end-at c = code_missing c.at.ensures (omega (arith, c.requires.before))

pub returns-in-20 : goal.returns-in-20
unfolding take_value look find
returns-in-20 c =
    code_before c.if-end-at.false (sym c.in-20.is) (text note) (record { coded = refl; rowed = refl; flat = refl }) (λ n. refl) c.take.ensures

pub returns-in-22 : goal.returns-in-22
unfolding take_value look find
returns-in-22 c =
    code_before c.if-end-at.false (sym c.in-22.is) (block one_byte) (record { coded = refl; rowed = refl; flat = refl }) (λ n. refl) (c.block.ensures one_byte refl)

pub returns-in-23 : goal.returns-in-23
unfolding take_value look find
returns-in-23 c =
    code_before c.if-end-at.false (sym c.in-23.is) (block two_bytes) (record { coded = refl; rowed = refl; flat = refl }) (λ n. refl) (c.block-in-23.ensures two_bytes refl)

pub returns-in-25 : goal.returns-in-25
unfolding take_value look find
returns-in-25 c =
    code_before c.if-end-at.false (sym c.in-25.is) (block four_bytes) (record { coded = refl; rowed = refl; flat = refl }) (λ n. refl) (c.block-in-25.ensures four_bytes refl)

pub returns-in_default : goal.returns-in_default
returns-in_default c = let r = c.in_default.in_default-own.rest in code_unknown c.if-end-at.false refl c.at-in_default.ensures refl (no_any _ r.0.0.0.1 r.0.0.1 r.0.1 r.1)
