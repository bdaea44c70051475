-- `join`: too little room changes nothing; else the new envelope, the old header behind it, and what the reader gives for both.
use Prim.Native.Nat.{ℕ, ◌-◌}
use mathlib.Core.List.{List, ◌++◌}
use mathlib.Core.Path.{◌≡◌, ap, sym, ◌∙◌}
use native.Mathlib.Omega.{arith}
use lib.ListN.{length, take, drop}
use lib.Seq.{take-length}
use Rattle.meaning.specs.Memory.{laid_over}
use Rattle.laws_steps.specs.Logic.{slice_of_bytes}
use Rattle.table.specs.Reply.{fault_reply}
use Rattle.table.specs.Told.{edition_of}
use Rattle.relay.proofs.Parts.{copied}
use Rattle.relay.proofs.Joining.{joined_accepted, joined_filled, output_short, rows_short}
use Rattle.relay.proofs.Refusing.{number_of, numbered}
use Rattle.relay.proofs.join.Goals as goal

pub returns-then-room_with-to : goal.returns-then-room_with-to
returns-then-room_with-to c number is =
    let a = c.args in
    let bytes = slice_of_bytes a.input.now (λ i. omega (arith, c.type_inv.input i)) in
    let pool_bytes = slice_of_bytes a.pool.now (λ i. omega (arith, c.type_inv.pool i)) in
    rw c.answer.ensures
    (rows_short c.requires number is bytes pool_bytes a.rows.now a.words.now a.output.now c.size_of-size.ensures.0 c.room.ensures (rw c.room_with.ensures at c.if-room_with-to.true))

pub returns-then-output-to : goal.returns-then-output-to
returns-then-output-to c number is =
    let a = c.args in
    let bytes = slice_of_bytes a.input.now (λ i. omega (arith, c.type_inv.input i)) in
    let pool_bytes = slice_of_bytes a.pool.now (λ i. omega (arith, c.type_inv.pool i)) in
    output_short c.requires number is bytes pool_bytes a.rows.now a.words.now a.output.now c.size_of-size.ensures.0 c.room.ensures (rw c.room_with.ensures at c.if-room_with-to.false) c.if-output-to.true (c.from.ensures ∙ ap fault_reply c.at.ensures)

-- the old header over the front of what stands after the new envelope
laid_part : (place : ℕ) (input laid : List ℕ) (size : ℕ) {part : List ℕ} → part ≡ laid_over (take (length laid - size) (drop size laid)) (take place input) → part ≡ copied (take place input) laid size
unfolding laid_over
laid_part place input laid size q = q ∙ ap (λ (x : List ℕ). x ++ drop (length (take place input)) (take (length laid - size) (drop size laid))) (sym (take-length (take place input)))

pub fill-requires : goal.fill-requires
fill-requires c =
    let a = c.args in
    let e = edition_of a.edition in
    let bytes = slice_of_bytes a.input.now (λ i. omega (arith, c.type_inv.input i)) in
    let pool_bytes = slice_of_bytes a.pool.now (λ i. omega (arith, c.type_inv.pool i)) in
    joined_accepted c.requires (number_of e) (numbered e) bytes pool_bytes a.rows.now a.words.now a.output.now c.size_of-size.ensures.0 c.room.ensures (rw c.room_with.ensures at c.if-room_with-to.false) c.if-output-to.false c.put_extension.ensures
    (laid_part a.joint.old.at a.input.now c.put_extension.new.output c.size_of-size.result c.lay.ensures)

pub returns : goal.returns
returns c number is =
    let a = c.args in
    let bytes = slice_of_bytes a.input.now (λ i. omega (arith, c.type_inv.input i)) in
    let pool_bytes = slice_of_bytes a.pool.now (λ i. omega (arith, c.type_inv.pool i)) in
    joined_filled c.requires number is bytes pool_bytes a.rows.now a.words.now a.output.now c.size_of-size.ensures.0 c.room.ensures (rw c.room_with.ensures at c.if-room_with-to.false) c.if-output-to.false c.put_extension.ensures
    (laid_part a.joint.old.at a.input.now c.put_extension.new.output c.size_of-size.result c.lay.ensures) (c.fill.ensures number is)
