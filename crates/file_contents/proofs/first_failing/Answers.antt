-- `file_contents::first_failing` meets its contract. Assumes nothing.
use Rattle.std.proofs.Common.{rules}
use native.Mathlib.Omega.{arith}
use Rattle.std.specs.Prelude.{Some, None}
use Rattle.notions.proofs.First.{found_in_range}
use Rattle.file_contents.proofs.first_failing.Goals as goal

pub returns-then-entry_fails : goal.returns-then-entry_fails
returns-then-entry_fails c =
    found_in_range _ _ (Some _) (omega arith, omega arith, search rules, λ j z l. c.loop-k.invariant.none j l)

pub returns : goal.returns
returns c = found_in_range _ _ None (λ j z l. c.loop-k.invariant.none j (omega arith))
