-- `envelope::put_envelope`: the head's part and the inside's part, put back.
use Prim.Native.Nat.{◌+◌, ◌-◌, ℕ}
use Rattle.write_envelopes.proofs.Envelopes.{envelope_laid}
use mathlib.Core.Path.{ap, refl}
use native.Mathlib.Omega.{arith}
use Rattle.write_envelopes.proofs.envelope.put_envelope.Goals as goal

pub returns : goal.returns
returns c =
    let a = c.args in
    let size = c.size_of in
    envelope_laid a.output.now a.at (a.at + size.result - a.many) (a.at + size.result) a.many a.base (ap (λ (n : ℕ). a.at + n) size.ensures.0) refl (omega (arith, size.ensures.0, c.requires.room)) _ _ _ _ _ _ c.put_head.ensures c.body.ensures
