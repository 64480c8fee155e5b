-- `sha256_block::initial` meets its contract. Assumes nothing.
use Rattle.std.proofs.Common.{refl}
use Rattle.sha256_block.specs.Constants.{H}
use Rattle.sha256_block.proofs.initial.Goals as goal

pub returns : goal.returns
unfolding H
returns c = refl
