-- `file_segments::fill` meets its contract. Assumes nothing.
use Rattle.std.proofs.Common.{◌≡◌, length}
use Rattle.file_segments.proofs.Walk.{Laid}
use Rattle.file_segments.proofs.fill.Given as goal

-- the memory, as long as it was, holds what the segments before the walk's place say, and 0 elsewhere
abbrev pub invariant-loop-p : goal.invariant-loop-p
invariant-loop-p l =
    (goal.iterator-loop-p).can_next l.p-iterator × (goal.iterator-loop-p).is_finite l.p-iterator
    × (l.p-iterator.body.now ≡ l.body) × (length l.memory ≡ length l.initial.memory)
    × Laid (length l.initial.memory) l.body l.p-iterator.at l.memory
