-- What the pen promises: it writes at a place and answers the place after what it wrote.
use Rattle.std.specs.Prelude.{ℕ, ◌+◌, List, ◌++◌, ◌≡◌, length}
use Rattle.meaning.specs.Memory.{laid_over}

-- memory whose front was written up to a place has these bytes more, up to the place answered
pub record Wrote (before after : List ℕ) (at : ℕ) (bytes : List ℕ) (end : ℕ) : Type 0 where
  pub ends : end ≡ at + length bytes
  pub over : (lent front : List ℕ) → length front ≡ at → before ≡ laid_over lent front → after ≡ laid_over lent (front ++ bytes)
