-- `lay`: byte by byte, the bytes so far are laid.
use Rattle.std.proofs.Common.{◌≡◌, ◌+◌, ◌≤◌, ℕ, List, ◌++◌, drop, length, take, get_or, set, ap, sym, ◌∙◌, arith}
use lib.ListN.{length-set}
use lib.Seq.{sets, sets-eq, take-length}
use Rattle.meaning.specs.Memory.{laid_over}
use Rattle.write_rows.specs.Laying.{lay_on}
use Rattle.relay.proofs.lay.Goals as goal

-- laid from the first byte on, they stand over the front
whole_over : (bytes output : List ℕ) → length bytes ≤ length output → sets output 0 bytes ≡ laid_over output bytes
unfolding laid_over
whole_over bytes output h =
    let k : 0 + length bytes ≡ length bytes = omega arith in
    sets-eq bytes output 0 (omega arith) ∙ ap (λ (n : ℕ). bytes ++ drop n output) k

pub loop-i-preserved : goal.loop-i-preserved
loop-i-preserved c =
    let l = c.loop-i in
    let a = c.args in
    let k : 0 + l.i ≡ l.i = omega arith in
    (ap (λ (n : ℕ). set l.output n (get_or a.bytes.now l.i 0)) (sym k) ∙ lay_on a.bytes.now l.i a.output.now 0 (omega arith) l.invariant.0, length-set l.output _ _ ∙ l.invariant.1)

pub returns : goal.returns
returns c =
    let l = c.loop-i in
    let a = c.args in
    let k : l.i ≡ length a.bytes.now = omega arith in
    l.invariant.0 ∙ ap (λ (n : ℕ). sets a.output.now 0 (take n a.bytes.now)) k ∙ ap (sets a.output.now 0) (take-length a.bytes.now) ∙ whole_over a.bytes.now a.output.now c.requires
