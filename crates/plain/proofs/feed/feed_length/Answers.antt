-- `feed::feed_length`: a byte before the last, a length that is too wide, or the block behind it.
use Prim.Native.Nat.{ℕ, ◌+◌, ◌-◌, ◌*◌, ◌<◌}
use mathlib.Core.Path.{ap, sym, ◌∙◌}
use native.Mathlib.Omega.{arith}
use Rattle.table.specs.Told.{told_of}
use Rattle.plain.specs.Values.{width_of}
use Rattle.plain.proofs.Feeding.{length_further, length_wide, length_ends, length_low, length_next, length_starts, below_most}
use Rattle.plain.proofs.feed.feed_length.Goals as goal

pub overflow_mul-n : goal.overflow_mul-n
overflow_mul-n c = omega (arith, length_low c.args.width c.args.so_far c.args.at c.args.of c.requires.0)

pub overflow_add-n : goal.overflow_add-n
overflow_add-n c = omega (arith, length_low c.args.width c.args.so_far c.args.at c.args.of c.requires.0, c.from.ensures, c.type_inv.s c.args.at)

pub returns-then-first-start : goal.returns-then-first-start
returns-then-first-start c = let low : c.from.result < 256 = omega (arith, c.from.ensures, c.type_inv.s c.args.at) in length_further (told_of c.args.told) c.args.s.now c.args.at c.args.width c.args.so_far c.args.of c.requires.0 _ (ap (λ (x : ℕ). 256 * c.args.so_far + x) c.from.ensures) c.if-first-start.true (length_next c.args.width c.args.so_far c.args.at c.args.of c.requires.0 low)

pub returns-then-too_wide : goal.returns-then-too_wide
returns-then-too_wide c = length_wide (told_of c.args.told) c.args.s.now c.args.at c.args.width c.args.so_far c.args.of c.requires.0 _ (ap (λ (x : ℕ). 256 * c.args.so_far + x) c.from.ensures) c.if-first-start.false (sym (c.too_wide.ensures (width_of c.args.width) (length_starts c.args.width c.args.so_far c.args.at c.args.of c.requires.0).2) ∙ c.if-too_wide.true) c.at.ensures

pub block_from-requires : goal.block_from-requires
block_from-requires c = let low : c.from.result < 256 = omega (arith, c.from.ensures, c.type_inv.s c.args.at) in (omega (arith, length_next c.args.width c.args.so_far c.args.at c.args.of c.requires.0 low, below_most (c.args.at + 1 - c.args.of.start)), omega (arith, c.requires.2))

pub returns : goal.returns
returns c = length_ends (told_of c.args.told) c.args.s.now c.args.at c.args.width c.args.so_far c.args.of c.requires.0 _ (ap (λ (x : ℕ). 256 * c.args.so_far + x) c.from.ensures) c.if-first-start.false (sym (c.too_wide.ensures (width_of c.args.width) (length_starts c.args.width c.args.so_far c.args.at c.args.of c.requires.0).2) ∙ c.if-too_wide.false) c.block_from.ensures
