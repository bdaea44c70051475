-- `encode::lay`: the bytes copied, over the front.
use Rattle.coders.proofs.Encoding.{lay_all}
use Rattle.std.proofs.Common.{ℕ, List, ◌++◌, drop, length, ap, sym, ◌∙◌}
use lib.Seq.{take-length}
use Rattle.coders.proofs.encode.lay.Goals as goal

pub returns : goal.returns
returns c = let a = c.args in lay_all a.bytes.now a.output.now (ap (λ (x : List ℕ). x ++ drop (length a.bytes.now) a.output.now) (c.copy_from_slice.ensures.after ∙ sym (take-length a.bytes.now)))
