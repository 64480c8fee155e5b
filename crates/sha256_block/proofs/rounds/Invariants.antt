-- `sha256_block::rounds` meets its contract. Assumes nothing.
use Rattle.std.proofs.Common.{◌≡◌, ◌%◌, ◌≤◌}
use Rattle.sha256_block.specs.Block.{rounds}
use Rattle.sha256_block.proofs.rounds.Given as goal

abbrev pub invariant-loop-t : goal.invariant-loop-t
invariant-loop-t l = (l.t ≤ 64) × (l.t % 4 ≡ 0) × (l.u ≡ rounds l.w l.initial.u l.t)
