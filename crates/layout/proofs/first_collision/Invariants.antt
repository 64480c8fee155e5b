-- `layout::first_collision` meets its contract. The loop has passed all below its index. Assumes nothing.
use Rattle.std.proofs.Common.{◌*◌}
use Rattle.layout.specs.Layouts.{regions, pair_collides}
use Rattle.notions.proofs.First.{Passed}
use Rattle.layout.proofs.first_collision.Given as goal

abbrev pub invariant-loop-n : goal.invariant-loop-n
invariant-loop-n l = Passed (regions * regions) (pair_collides l.b) l.n
