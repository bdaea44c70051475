-- `row::no_bytes`: whichever view has so few bytes.
use mathlib.Core.List.{List, [], ◌∷◌, ◌++◌}
use mathlib.Core.Path.{ap, sym}
use Prim.Native.Nat.{ℕ}
use native.Mathlib.Omega.{arith}
use Rattle.pen.specs.Written.{wrote_then, wrote_as}
use Rattle.listing.specs.Cursors.{view_none, view_over}
use Rattle.listing.proofs.row.no_bytes.Goals as goal

pub returns-then-gone-eq0 : goal.returns-then-gone-eq0
returns-then-gone-eq0 c =
    let w = wrote_then c.put-end.ensures c.put.ensures in
    record {
      is = λ view h. wrote_as (ap (λ (x : List ℕ). x ++ (0x0a ∷ [])) (sym (view_none view c.args.gone c.if-gone-eq0.true h))) w;
      some = omega (arith, w.ends);
    }

pub returns : goal.returns
returns c =
    let w = c.put-2.ensures in
    record {
      is = λ view h. wrote_as (ap (λ (x : List ℕ). x ++ (0x0a ∷ [])) (sym (view_over view c.args.gone c.if-gone-eq0.false h))) w;
      some = omega (arith, w.ends);
    }
