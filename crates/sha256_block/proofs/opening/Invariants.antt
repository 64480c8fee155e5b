-- `sha256_block::opening` meets its contract. Assumes nothing.
use Rattle.std.proofs.Common.{◌≡◌, length, take}
use Rattle.sha256_block.specs.Words.{words}
use Rattle.sha256_block.proofs.opening.Given as goal

abbrev pub invariant-loop-i : goal.invariant-loop-i
invariant-loop-i l = (length l.w ≡ 64) × (take l.i l.w ≡ words l.m l.i)
