-- `sha256_block::compress` meets its contract. Assumes nothing.
use Rattle.std.proofs.Common.{rules}
use Rattle.sha256_block.specs.Words.{add}
use Rattle.sha256_block.specs.Block.{add_to, compress}
use Rattle.sha256_block.proofs.compress.Goals as goal

pub returns : goal.returns
unfolding add add_to compress
returns c = search rules
