-- `layout::first_reversed` meets its contract. The loop has passed all below its index. Assumes nothing.
use Rattle.layout.specs.Regions.{reversed}
use Rattle.layout.specs.Layouts.{regions, region}
use Rattle.notions.proofs.First.{Passed}
use Rattle.layout.proofs.first_reversed.Given as goal

abbrev pub invariant-loop-k : goal.invariant-loop-k
invariant-loop-k l = Passed regions (λ j. reversed (region l.b j)) l.k
