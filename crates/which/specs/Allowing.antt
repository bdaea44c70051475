-- The editions that allow the bytes, by the number that is answered.
use Rattle.std.specs.Prelude.{ℕ}
use Rattle.which.specs.declared.Allowed.{Allowed}
use Rattle.which.specs.declared.Allowed.TheVariants.{B, D, Both}

abbrev pub editions_in : Allowed → ℕ
editions_in B = 1
editions_in D = 2
editions_in Both = 3
