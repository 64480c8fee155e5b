-- A byte has two hexadecimal digits. Assumes nothing.
use mathlib.Core.Path.{◌≡◌}
use Prim.Native.Nat.{ℕ, ◌-◌, ◌^◌, ◌≤◌, ◌<◌}
use native.Mathlib.Nat.{pow-le-pow_right}
use native.Mathlib.Omega.{arith}
use lib.Dec.{ltb}
use borrow.Author.Tests.{ltb-true, ltb-false}
use Rattle.notions.proofs.Tests.{cases}

-- k digits are at least two, and more only where the number takes them
pub two_digits : (n k : ℕ) → n < 256 → 2 ≤ k → (2 < k → 16 ^ (k - 1) ≤ n) → k ≡ 2
two_digits n k h l f =
    cases (ltb 2 k)
    (λ t.
    let m : 2 < k = ltb-true 2 k t in
    let p : 16 ^ 2 ≤ 16 ^ (k - 1) = pow-le-pow_right {n = 16} (omega arith) {i = 2} {j = k - 1} (omega arith) in
    absurd (omega (arith, f m)))
    (λ t. omega (arith, ltb-false 2 k t))
