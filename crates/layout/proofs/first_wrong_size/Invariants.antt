-- `layout::first_wrong_size` meets its contract. The loop has passed all below its index. Assumes nothing.
use Rattle.layout.specs.Layouts.{regions, region, wrong_size}
use Rattle.notions.proofs.First.{Passed}
use Rattle.layout.proofs.first_wrong_size.Given as goal

abbrev pub invariant-loop-k : goal.invariant-loop-k
invariant-loop-k l = Passed regions (λ j. wrong_size j (region l.b j)) l.k
