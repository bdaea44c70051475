-- `text::all_text`: the bytes before the one reached are allowed.
use Prim.Native.Nat.{◌+◌, ◌-◌}
use mathlib.Core.Bool.{not}
use mathlib.Core.Path.{◌≡◌, refl, ap, ◌∙◌}
use native.Mathlib.Omega.{arith}
use lib.Dec.{eqb}
use Rattle.std.proofs.lemmas.Simd.{length-chunk, get_or-chunk}
use Rattle.meaning.specs.Bytes.{text_byte}
use Rattle.values.specs.Stages.{rule_by, all_text}
use Rattle.values.proofs.Texts.{text_more}
use Rattle.values.proofs.text.all_text.Goals as goal

pub loop-b-init : goal.loop-b-init
unfolding all_text
loop-b-init g c = refl

pub loop-b-preserved : goal.loop-b-preserved
loop-b-preserved g c =
    let a = c.args in
    let rule = rule_by (not (eqb g.row.NOTE 0)) in
    let many = a.at + g.row.N - a.at in
    let long = length-chunk a.at many a.s.now (omega (arith, c.requires)) in
    let here = get_or-chunk a.at many a.s.now c.loop-b.b-index 0 (omega (arith, long)) in
    text_more rule a.s.now a.at c.loop-b.b-index c.loop-b.invariant (c.allows-all.ensures ∙ ap (text_byte rule) here)

pub returns : goal.returns
returns g c =
    let a = c.args in
    let rule = rule_by (not (eqb g.row.NOTE 0)) in
    let many = a.at + g.row.N - a.at in
    let long = length-chunk a.at many a.s.now (omega (arith, c.requires)) in
    let there : c.loop-b.b-index ≡ g.row.N = omega (arith, long) in
    c.loop-b.invariant ∙ ap (all_text rule a.s.now a.at) there
