-- `sha256_block::blocks` meets its contract. Assumes nothing.
use Rattle.std.proofs.Common.{◌≡◌}
use Rattle.sha256_block.specs.Block.{blocks}
use Rattle.sha256_block.proofs.blocks.Given as goal

abbrev pub invariant-loop-block : goal.invariant-loop-block
invariant-loop-block l = l.w ≡ blocks l.initial.w l.bytes l.block-index
