-- `file_segments::check_segments` meets its contract. Assumes nothing.
use Rattle.std.proofs.Common.{◌≡◌}
use Rattle.std.specs.Iterator.Adapters.{enumerate_source, enumerate_count}
use Rattle.file_segments.proofs.Walk.{Checked}
use Rattle.file_segments.proofs.check_segments.Given as goal

-- the segments before the walk's place do not fail, and the last of them ends at `end`
abbrev pub invariant-loop-k : goal.invariant-loop-k
invariant-loop-k l =
    (goal.iterator-loop-k).can_next l.k-iterator × (goal.iterator-loop-k).is_finite l.k-iterator
    × ((enumerate_source l.k-iterator).body.now ≡ l.body)
    × Checked l.body (enumerate_count l.k-iterator) (enumerate_source l.k-iterator).at l.end
