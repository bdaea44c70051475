-- `decode::byte`: the byte is there and passes.
use Rattle.coders.proofs.Decoding.{missing, wrong}
use Rattle.coders.proofs.decode.byte.Goals as goal

pub returns-then-bytes-j : goal.returns-then-bytes-j
returns-then-bytes-j c = let a = c.args in missing a.bytes.now a.absolute c.requires.0 c.requires.1 c.if-bytes-j.true

pub returns-then-not-byte_passes : goal.returns-then-not-byte_passes
returns-then-not-byte_passes c = let a = c.args in wrong a.bytes.now a.absolute c.requires.0 c.requires.1 c.if-bytes-j.false c.byte_passes.ensures c.if-not-byte_passes.true
