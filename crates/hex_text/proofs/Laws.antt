-- What a caller of `write` needs. Assumes nothing.
use Prim.Native.Nat.{ℕ, ◌≤◌}
use mathlib.Core.List.{List}
use native.Mathlib.Omega.{arith}
use lib.ListN.{length, length-append}
use Rattle.hex_text.specs.Promises.{WritesHex}

-- what it answers is within the buffer
pub hex_within : {b out out' : List ℕ} {r : ℕ} → WritesHex b out out' r → r ≤ length out'
hex_within p = rw (p.answered, p.out_left, length-append) (omega arith)
