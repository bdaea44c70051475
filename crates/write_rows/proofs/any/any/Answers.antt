-- `any::any`: a block is ahead, and its length picks its move; or none is, and what is said of the text holds among all moves.
use Rattle.meaning.specs.Bytes.{note}
use Rattle.meaning.specs.Editions.{any_values, text, on◌▸◌▸◌▸◌}
use Rattle.meaning.specs.Kinds.{any_bytes, any_text}
use Rattle.write_rows.specs.Among.{tried_away}
use Rattle.write_rows.proofs.Forms.{block_taken, view_short}
use borrow.Author.Tests.{ne_eqb}
use mathlib.Core.List.{[], ◌∷◌}
use mathlib.Core.Path.{refl, sym}
use Rattle.write_rows.proofs.any.any.Goals as goal

pub returns-in_default : goal.returns-in_default
returns-in_default c n =
    let a = c.args in
    tried_away any_bytes a.level (on 0x14 ▸ any_text ▸ text note ▸ n ∷ []) (any_values n) (λ j h. rw (ne_eqb any_bytes j (λ q. h (sym q))) refl) a.table.now.pool.now a.table.now.rows.now a.i c.in_default.ensures _ _ _ c.text.result (c.text.ensures n)

pub returns : goal.returns
returns c n = block_taken _ n c.args.level c.in-Some.ensures.row (view_short c.in-Some.ensures) (rw c.view.ensures at c.block.ensures)
