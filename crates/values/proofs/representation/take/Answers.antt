-- `representation::take`: each code against the table of moves; a standard one is its own value.
use mathlib.Core.Path.{◌≡◌, refl, sym}
use native.Mathlib.Omega.{arith}
use borrow.Author.Tests.{ne_eqb}
use lib.ListN.{get_or}
use Rattle.values.specs.Answers.{answered}
use Rattle.meaning.specs.Reading.{look, find, take_value}
use Rattle.values.specs.Coded.{code_missing, code_unknown, code_known, code_before}
use Rattle.meaning.specs.Bytes.{line}
use Rattle.meaning.specs.Editions.{text, itself}
use Rattle.values.proofs.Tables.{standard, no_representation}
use Rattle.values.proofs.representation.take.Goals as goal
use Rattle.values.proofs.representation.take.Goals.{in_default-via-then-code-lt16, in_default-via-else-code-lt16+else-code-lt19}

pub returns-then-end-at : goal.returns-then-end-at
returns-then-end-at c t = code_missing c.at.ensures (omega (arith, c.requires.before))

pub returns-in-0 : goal.returns-in-0
unfolding take_value look find
returns-in-0 c t =
    code_before c.if-end-at.false (sym c.in-0.is) (text line) (record { coded = refl; rowed = refl; flat = refl }) (λ n. refl) c.rare_line.ensures

pub returns-in-16 : goal.returns-in-16
unfolding take_value
returns-in-16 c t =
    let b = get_or c.args.s.now c.args.at 0 in
    code_known c.if-end-at.false refl itself (record { coded = ne_eqb b 256 (λ q. omega arith); rowed = refl; flat = refl }) (standard b (omega arith) (omega arith))
    (answered refl refl (omega arith) (omega arith) (omega arith) (omega arith))

pub returns-in_default : goal.returns-in_default
returns-in_default c t =
    let other : (get_or c.args.s.now c.args.at 0 ≡ 0x00 → ⊥) × (get_or c.args.s.now c.args.at 0 ≡ 0x10 → ⊥) × (get_or c.args.s.now c.args.at 0 ≡ 0x11 → ⊥) × (get_or c.args.s.now c.args.at 0 ≡ 0x12 → ⊥) =
    elim c.in_default.branch [
      | in_default-via-then-code-lt16 w ↦ (λ q. omega arith, λ q. omega arith, λ q. omega arith, λ q. omega arith)
      | in_default-via-else-code-lt16+else-code-lt19 w ↦ (λ q. omega arith, λ q. omega arith, λ q. omega arith, λ q. omega arith)
    ] in
    code_unknown c.if-end-at.false refl c.at-in_default.ensures refl (no_representation (get_or c.args.s.now c.args.at 0) other.0 other.1 other.2 other.3)
