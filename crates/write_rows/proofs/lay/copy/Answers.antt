-- `lay::copy`: what has no room is not laid, and all is counted.
use Rattle.write_rows.specs.Laying.{capped_min, copied}
use Prim.Native.Nat.{◌+◌}
use lib.ListN.{length}
use mathlib.Core.Path.{◌∙◌, ap}
use Rattle.write_rows.proofs.lay.copy.Goals as goal

pub returns : goal.returns
returns c =
    let a = c.args in
    copied a.bytes.now a.output.now a.at c.fitting-n.ensures c.lay.ensures (ap (λ n. a.at + n) c.min.ensures ∙ capped_min (length a.bytes.now) a.at c.requires.counted)
