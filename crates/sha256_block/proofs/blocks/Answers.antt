-- `sha256_block::blocks` meets its contract. Assumes nothing.
use Rattle.std.proofs.Common.{refl, arith}
use Rattle.sha256_block.specs.Block.{blocks}
use Rattle.sha256_block.proofs.Loops.{blocks_more}
use Rattle.sha256_block.proofs.blocks.Goals as goal

pub loop-block-init : goal.loop-block-init
unfolding blocks
loop-block-init c = refl

pub loop-block-preserved : goal.loop-block-preserved
loop-block-preserved c =
    blocks_more _ _ _ _ _ _ (omega (arith, c.as_chunks.ensures.front_len)) c.loop-block.invariant c.as_chunks.ensures.front
    c.compress.ensures
