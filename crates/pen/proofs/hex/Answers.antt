-- `pen::hex`: the invariant says that the bytes before this one are printed.
use Prim.Native.Nat.{◌/◌, ◌%◌}
use mathlib.Core.List.{[], ◌∷◌}
use mathlib.Core.Path.{refl, ◌∙◌}
use native.Mathlib.Omega.{arith}
use Rattle.meaning.specs.Listing.{hex_character}
use Rattle.pen.specs.Written.{printing_goes}
use Rattle.pen.proofs.hex.Goals as goal

pub loop-b-preserved : goal.loop-b-preserved
loop-b-preserved c =
    let l = c.loop-b in
    let w = c.pair-end.ensures in
    (omega (arith, w.ends), c.pair-end.auto.out ∙ l.invariant.1, printing_goes (λ b. hex_character (b / 16) ∷ hex_character (b % 16) ∷ []) (λ x xs. refl) l.invariant.2 (omega arith) w)
