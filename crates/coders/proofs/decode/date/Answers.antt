-- `decode::date`: the reach of each kind.
use mathlib.Core.Path.{refl, ap, ◌∙◌}
use Rattle.coders.specs.Plain.{reached_by}
use Rattle.coders.proofs.Decoding.{kind_decodes}
use Rattle.coders.proofs.decode.date.Goals as goal

pub returns-in_default : goal.returns-in_default
returns-in_default c =
    let a = c.args in
    kind_decodes a.kind a.bytes.now (c.is_absolute.ensures ∙ ap reached_by c.in_default.is) (rw c.undecoded.ensures (record { is = refl; worth = refl }))

pub returns : goal.returns
returns c = let a = c.args in kind_decodes a.kind a.bytes.now (c.is_absolute.ensures ∙ ap reached_by c.in-Some.is) c.reached.ensures
