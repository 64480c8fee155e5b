-- `frames::begin` meets its contract. Assumes nothing.
use Rattle.std.proofs.Common.{◌≡◌, length}
use Rattle.frames.proofs.Walk.{Skipped}
use Rattle.frames.proofs.begin.Given as goal

abbrev pub invariant-loop : goal.invariant-loop
invariant-loop l = (l.n ≡ length l.bytes) × Skipped l.bytes l.i l.at l.counter
