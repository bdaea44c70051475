-- `enter`: what the message counts as, by its label and what the strict reading counts.
use native.Mathlib.Omega.{arith}
use mathlib.Core.Path.{refl, ap, sym, ◌∙◌}
use Rattle.meaning.specs.Figures.{sums, adds_of}
use Rattle.laws_steps.specs.Logic.{slice_of_bytes}
use Rattle.figures.proofs.Entries.{entry_apart, entry_turned, turned_least, turned_most, taken_bytes, entry_taken}
use Rattle.figures.proofs.add.enter.Goals as goal

pub returns-in_default : goal.returns-in_default
returns-in_default c =
    let a = c.args in
    c.enter_apart.ensures ∙ ap (λ x. sums a.figures.now (adds_of x)) (sym (entry_apart a.edition a.input.now (sym c.in_default.ensures)))

pub enter_turned-requires : goal.enter_turned-requires
enter_turned-requires c =
    let a = c.args in
    let k = sym c.in-Ok.ensures in
    let q = (c.in-Refused.ensures a.edition k).refuses _ refl in
    (c.requires, c.first_of-first.ensures.1, turned_least a.edition a.input.now k q, turned_most a.edition a.input.now k q)

pub enter_taken-requires : goal.enter_taken-requires
enter_taken-requires c =
    let a = c.args in
    let k = sym c.in-Ok.ensures in
    let h = (c.in-Go.ensures a.edition k).accepts _ refl in
    (c.requires, c.first_of-first.ensures.1, omega arith, taken_bytes a.edition a.input.now (slice_of_bytes a.input.now (λ i. omega (arith, c.type_inv.input i))) h.is)

pub returns-in-Refused : goal.returns-in-Refused
returns-in-Refused c =
    let a = c.args in
    let k = sym c.in-Ok.ensures in
    let q = (c.in-Refused.ensures a.edition k).refuses _ refl in
    c.enter_turned.ensures _ c.first_of-first.ensures.0 ∙ ap (λ x. sums a.figures.now (adds_of x)) (sym (entry_turned a.edition a.input.now k q))

pub returns-in-Go : goal.returns-in-Go
returns-in-Go c =
    let a = c.args in
    let k = sym c.in-Ok.ensures in
    let h = (c.in-Go.ensures a.edition k).accepts _ refl in
    let entered = rw c.from.ensures at c.enter_taken.ensures _ c.first_of-first.ensures.0 in
    entered ∙ ap (λ x. sums a.figures.now (adds_of x)) (sym (entry_taken a.edition a.input.now k h.is c.count_envelopes-envelopes.ensures))
