-- `texts::optional`: the text is there, or the room behind it does as well.
use Rattle.meaning.specs.Editions.{stay}
use Rattle.write_rows.specs.Onward.{unmoved}
use Rattle.write_rows.proofs.Lists.{shallow_kind}
use Rattle.write_rows.specs.Optional.{part_off, part_on}
use mathlib.Core.Path.{refl}
use Rattle.write_rows.proofs.texts.optional.Goals as goal

pub returns-in_default : goal.returns-in_default
returns-in_default c edition room room₁ single o =
    let other = c.in_default.ensures (stay room₁) in
    unmoved other.0 (part_off edition _ _ room room₁ o.is c.args.level single refl o.within o.within₁ c.requires.inside c.requires.layable other.1)

pub returns : goal.returns
returns c edition room room₁ single o =
    let a = c.args in
    part_on edition _ _ room room₁ o.is a.level single (c.in-Some.ensures (stay room₁)) (shallow_kind a.kind a.level o.shallow)
