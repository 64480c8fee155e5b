-- `sha256_block::round` meets its contract. Assumes nothing.
use Rattle.std.proofs.Common.{rules}
use Rattle.sha256_block.specs.Words.{add}
use Rattle.sha256_block.specs.Block.{round}
use Rattle.sha256_block.proofs.round.Goals as goal

pub returns : goal.returns
unfolding add round
returns c = search rules
