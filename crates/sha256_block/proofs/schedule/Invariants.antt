-- `sha256_block::schedule` meets its contract. Assumes nothing.
use Rattle.std.proofs.Common.{◌≡◌, ◌+◌, length, get_or, take}
use Rattle.sha256_block.specs.Block.{schedule}
use Rattle.sha256_block.proofs.schedule.Given as goal

abbrev pub invariant-loop-t : goal.invariant-loop-t
invariant-loop-t l =
    (length l.w ≡ 64) × (take (l.t + 16) l.w ≡ schedule l.m l.t) × (l.w2 ≡ get_or l.w (l.t + 14) 0) × (l.w1 ≡ get_or l.w (l.t + 15) 0)
