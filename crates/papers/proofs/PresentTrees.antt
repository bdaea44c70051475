-- Order 1, of rows lent with their pool: where they are all well, they are those of a header's trees, and the answer is the first child with the code.
use Rattle.std.specs.Prelude.{ℕ, List, ◌≡◌, length}
use Rattle.std.proofs.Common.{ap, ◌∙◌}
use Rattle.meaning.specs.Told.{told}
use Rattle.meaning.specs.Memory.{ranks_of, write}
use Rattle.meaning.specs.Writing.{written}
use Rattle.meaning.specs.Present.{row_or, present}
use Rattle.laws_tables.specs.Ties.{write_as}
use Rattle.laws_demands.specs.PresentAnswers.{AllWell}
use Rattle.laws_tables.specs.PresentValues.{passed_written, can_ask_open}
use Rattle.papers.specs.Notation.{size}
use Rattle.papers.proofs.WritesTrees.{WritesTrees, writes_trees, written_ranks}
use Rattle.papers.proofs.Children.{first_value}
use Rattle.papers.proofs.ByTrees.{present_by_trees}

-- the rows as a header's trees, with the bytes that the writer gives for them, and the answer
pub record PresentIn (edition : ℕ) (rows pool : List ℕ) (code place : ℕ) : Type 0 where
  pub bytes : List ℕ
  pub tree : WritesTrees edition rows pool (length bytes) bytes
  pub first : place ≡ row_or (size tree.trees) (first_value code 0 tree.trees)

pub present_in_trees : (edition : ℕ) (rows pool : List ℕ) (code : ℕ) → AllWell edition rows pool code → PresentIn edition rows pool code (present code (ranks_of rows))
present_in_trees edition rows pool code w =
    let (bytes, q) = passed_written w.told rows pool w.check in
    let is : write edition rows pool (length bytes) ≡ written bytes = write_as edition w.told rows pool (length bytes) w.label ∙ q in
    let t : WritesTrees edition rows pool (length bytes) bytes = (writes_trees edition rows pool (length bytes) bytes).0 is in
    record { bytes = bytes; tree = t; first = ap (present code) (written_ranks t) ∙ present_by_trees (told t.e) 0 bytes t.trees t.is code (can_ask_open code w.asked) }
