-- `calls::stream::read` is safe and ends: each time it reads what the call lacks. Assumes nothing.
use Rattle.std.proofs.Common.{◌≡◌, ◌-◌, ◌≤◌, ◌<◌, length}
use Rattle.frames.specs.Streams.{longest}
use Rattle.calls.proofs.stream.read.Given as goal

abbrev pub invariant-loop-k : goal.invariant-loop-k
invariant-loop-k g l = (length l.room ≡ length l.initial.room) × (longest < length l.room) × (l.n ≤ length l.room)

abbrev pub decreases-loop-k : goal.decreases-loop-k
decreases-loop-k g l = length l.initial.room - l.n
