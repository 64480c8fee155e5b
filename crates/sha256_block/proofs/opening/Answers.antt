-- `sha256_block::opening` meets its contract. Assumes nothing.
use Rattle.std.proofs.Common.{refl, arith, length-set}
use Rattle.sha256_block.specs.Words.{words}
use Rattle.sha256_block.proofs.Loops.{words_more}
use Rattle.sha256_block.proofs.opening.Goals as goal

pub loop-i-init : goal.loop-i-init
unfolding words
loop-i-init c = (refl, refl)

pub loop-i-preserved : goal.loop-i-preserved
loop-i-preserved c = (
  simp length-set c.loop-i.invariant.0,
  words_more c.args.m.now _ _ _ _ (omega (arith, c.as_chunks.ensures.front_len)) (omega (arith, c.as_chunks.ensures.front_len))
      c.loop-i.invariant.1 c.as_chunks.ensures.front c.from_be_bytes.ensures,
)
