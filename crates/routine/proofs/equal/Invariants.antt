-- `routine::equal` meets its contract. Assumes nothing.
use Rattle.std.proofs.Common.{◌≡◌, length}
use mathlib.Core.Bool.{◌&&◌}
use lib.Dec.{eqb}
use Rattle.routine.specs.Strings.{same}
use Rattle.routine.proofs.equal.Given as goal

abbrev pub invariant-loop-x : goal.invariant-loop-x
invariant-loop-x l =
    let a = l.x-iterator.a.rest.now in
    let b = l.x-iterator.b.rest.now in
    (length a ≡ length b) × (same l.a l.b ≡ (eqb l.differing 0 && same a b))
