-- `hmac::key_block` meets its contract. Assumes nothing.
use native.Mathlib.Omega.{arith}
use Rattle.sha256.proofs.Laws.{within_standard}
use Rattle.hmac.proofs.Keys.{key_long, key_short}
use Rattle.hmac.proofs.key_block.Goals as goal

pub returns-then-key-gt-BLOCK : goal.returns-then-key-gt-BLOCK
returns-then-key-gt-BLOCK c =
    let k = c.args.key.now in
    key_long k _ c.block_of.result c.if-key-gt-BLOCK.true
    (within_standard k c.digest_of-digest.ensures (omega arith)) c.block_of.ensures

pub returns : goal.returns
returns c =
    key_short c.args.key.now c.block_of-2.result c.if-key-gt-BLOCK.false c.block_of-2.ensures
