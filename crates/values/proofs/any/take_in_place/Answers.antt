-- `any::take_in_place`: two codes of the table of moves, or what `take` answers.
use mathlib.Core.Path.{refl, sym}
use Rattle.meaning.specs.Reading.{look, find, take_value}
use Rattle.meaning.specs.Editions.{block}
use Rattle.meaning.specs.Bytes.{one_byte, two_bytes}
use Rattle.values.specs.Coded.{code_before}
use Rattle.values.proofs.any.take_in_place.Goals as goal

pub returns-then-s-at-eq22 : goal.returns-then-s-at-eq22
unfolding take_value look find
returns-then-s-at-eq22 c = code_before c.if-at-end.true (sym c.if-s-at-eq22.true) (block one_byte) (record { coded = refl; rowed = refl; flat = refl }) (λ n. refl) (c.block.ensures one_byte refl)

pub returns-then-s-at-eq23 : goal.returns-then-s-at-eq23
unfolding take_value look find
returns-then-s-at-eq23 c = code_before c.if-at-end.true (sym c.if-s-at-eq23.true) (block two_bytes) (record { coded = refl; rowed = refl; flat = refl }) (λ n. refl) (c.block-then-s-at-eq23.ensures two_bytes refl)
