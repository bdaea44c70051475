-- `any::block`: the code, the length in as many bytes as it needs, and the bytes.
use Rattle.write_rows.specs.Laying.{four_written, laid_as, laid_three, two_is}
use Rattle.write_rows.proofs.Forms.{block_four, block_one, block_two}
use lib.ListN.{length}
use mathlib.Core.Path.{◌∙◌, sym}
use Rattle.write_rows.proofs.any.block.Goals as goal

pub returns-then-many-lt256 : goal.returns-then-many-lt256
returns-then-many-lt256 c =
    laid_as (laid_three c.requires.1 c.put-p.ensures c.put-q.ensures c.copy.ensures) _ (sym (block_one c.args.bytes.now c.if-many-lt256.true))

pub returns-then-many-lt65536 : goal.returns-then-many-lt65536
returns-then-many-lt65536 c =
    let many = laid_as c.copy-q.ensures _ (c.to_be_bytes.ensures ∙ two_is (length c.args.bytes.now) c.if-many-lt65536.true) in
    laid_as (laid_three c.requires.1 c.put-p-then-many-lt65536.ensures many c.copy-then-many-lt65536.ensures) _ (sym (block_two c.args.bytes.now c.if-many-lt256.false c.if-many-lt65536.true))

pub returns : goal.returns
returns c =
    let many = laid_as c.copy-q-2.ensures _ (c.to_be_bytes-2.ensures ∙ four_written (length c.args.bytes.now) c.requires.0) in
    laid_as (laid_three c.requires.1 c.put-p-2.ensures many c.copy-2.ensures) _ (sym (block_four c.args.bytes.now c.if-many-lt65536.false))
