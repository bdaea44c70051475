-- `decimal::coded_byte`: by the digits that are left.
use mathlib.Core.Path.{ap, ◌∙◌}
use Rattle.coders.specs.Decimal.{packed_byte}
use native.Mathlib.Omega.{arith}
use Rattle.coders.proofs.Encoding.{byte_even}
use Rattle.coders.proofs.decimal.coded_byte.Goals as goal

pub returns-in_default : goal.returns-in_default
returns-in_default c = byte_even c.args.value c.saturating_sub-left.result (omega arith) c.digit_at-in_default.ensures c.digit_at-in_default-2.ensures ∙ ap (packed_byte c.args.value) c.saturating_sub-left.ensures
