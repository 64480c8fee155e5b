-- `layout::first_collision` meets its contract. Assumes nothing.
use Rattle.std.proofs.Common.{rules}
use native.Mathlib.Omega.{arith}
use Rattle.std.specs.Prelude.{Some, None}
use Rattle.notions.proofs.First.{found_in_range}
use Rattle.layout.proofs.first_collision.Goals as goal

pub returns-then-pair_collides : goal.returns-then-pair_collides
returns-then-pair_collides c =
    found_in_range _ _ (Some _) (omega arith, omega arith, search rules, λ j z l. c.loop-n.invariant.none j l)

pub returns : goal.returns
returns c = found_in_range _ _ None (λ j z l. c.loop-n.invariant.none j (omega arith))
