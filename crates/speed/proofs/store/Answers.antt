-- `speed::store` meets its contract. Assumes nothing.
use mathlib.Core.Path.{ap}
use mathlib.Core.List.{List, ◌++◌}
use Prim.Native.Nat.{ℕ}
use native.Mathlib.Omega.{arith}
use borrow.Author.Tests.{le-ltb}
use lib.ListN.{drop, length-take}
use Rattle.speed.proofs.store.Goals as goal

pub copy_from_slice-requires : goal.copy_from_slice-requires
copy_from_slice-requires c = simp length-take (omega arith)

pub returns : goal.returns
returns c =
    simp (le-ltb _ _ c.if-room-lt-DIGEST_BYTES.false)
    (ap (λ (l : List ℕ). l ++ drop 32 c.args.room.now) c.copy_from_slice.ensures.after)
