-- Whether the row ahead is of a kind and level.
use Prim.Native.Nat.{ℕ, ◌+◌}
use mathlib.Core.List.{List, ◌∷◌}
use mathlib.Core.Path.{◌≡◌, ap, sym, ◌∙◌, subst}
use Rattle.meaning.specs.Writing.{cell}
use Rattle.table.specs.Rows.{row_with, NoRow, IsAhead, viewed, no_row_lem}
use Rattle.laws_steps.specs.Rows.{cells_at}
use Rattle.write_rows.specs.Stages.{NotOf, IsSought}
use Rattle.table.specs.declared.rows.Ahead.{Ahead}

module _ (pool rows : List ℕ) (i kind level : ℕ) where
  pub none_sought : NoRow (cells_at pool rows i) → NotOf kind level (cells_at pool rows i)
  none_sought = no_row_lem (NotOf kind level) tt (λ cs. tt) (cells_at pool rows i)

  module _ {r : Ahead} (a : IsAhead pool rows i r) where
    pub not_sought : (r.kind ≡ kind → r.level ≡ level → ⊥) → NotOf kind level (cells_at pool rows i)
    not_sought f = subst (NotOf kind level) (sym a.row.cells) f

    pub sought : r.kind ≡ kind → r.level ≡ level → IsSought pool rows i kind level r
    sought k l =
        record {
          of_kind = k;
          ordered = a.ordered;
          inside = a.inside;
          short = a.short;
          row = record { within = a.row.within; cells = a.row.cells ∙ ap (λ (n : ℕ). cell (row_with n r.level (viewed pool r)) ∷ cells_at pool rows (i + 1)) k ∙ ap (λ (n : ℕ). cell (row_with kind n (viewed pool r)) ∷ cells_at pool rows (i + 1)) l };
        }
