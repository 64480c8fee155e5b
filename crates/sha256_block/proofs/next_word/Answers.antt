-- `sha256_block::next_word` meets its contract. Assumes nothing.
use Rattle.std.proofs.Common.{rules}
use Rattle.sha256_block.specs.Words.{add}
use Rattle.sha256_block.specs.Block.{next}
use Rattle.sha256_block.proofs.next_word.Goals as goal

pub returns : goal.returns
unfolding add next
returns c = search rules
