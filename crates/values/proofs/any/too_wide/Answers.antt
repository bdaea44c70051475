-- `any::too_wide`: a tolerant reading refuses no width, a strict one what is wider than needed.
use mathlib.Core.Path.{ap}
use Rattle.table.specs.Told.{strictness_of}
use Rattle.values.proofs.Blocks.{wide_strictly, wide_tolerantly}
use Rattle.values.proofs.any.too_wide.Goals as goal

pub returns-in-Tolerant : goal.returns-in-Tolerant
returns-in-Tolerant c w q = wide_tolerantly _ w _ (ap strictness_of c.in-Tolerant.is)

pub returns-in-Strict : goal.returns-in-Strict
returns-in-Strict c w q = wide_strictly _ w _ (ap strictness_of c.in-Strict.is) (c.wider_than_needed.ensures w q)
