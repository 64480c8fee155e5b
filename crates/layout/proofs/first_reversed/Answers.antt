-- `layout::first_reversed` meets its contract. Assumes nothing.
use Rattle.std.proofs.Common.{rules}
use native.Mathlib.Omega.{arith}
use Rattle.std.specs.Prelude.{Some, None}
use Rattle.notions.proofs.First.{found_in_range}
use Rattle.layout.proofs.first_reversed.Goals as goal

pub returns-then-is_reversed : goal.returns-then-is_reversed
returns-then-is_reversed c =
    found_in_range _ _ (Some _) (omega arith, omega arith, search rules, λ j z l. c.loop-k.invariant.none j l)

pub returns : goal.returns
returns c = found_in_range _ _ None (λ j z l. c.loop-k.invariant.none j (omega arith))
