-- What stands behind a place of the bytes that came. Assumes nothing.
use Prim.Native.Nat.{ℕ, ◌-◌, ◌≤◌}
use mathlib.Core.List.{List}
use native.Mathlib.Omega.{arith}
use lib.ListN.{length, drop, length-drop}

pub behind : (x : List ℕ) (k : ℕ) → length (drop k x) ≤ length x - k
behind x k = rw length-drop (omega arith)
