-- There is room for the bytes that are asked for. Assumes nothing.
use mathlib.Core.Path.{◌≡◌, sym}
use mathlib.Core.List.{List}
use Prim.Native.Nat.{ℕ, ◌+◌, ◌≤◌, ◌<◌}
use lib.ListN.{length, take}
use lib.Seq.{length-take-le}
use Rattle.frames.specs.declared.Framed.TheVariants.{Needs}
use Rattle.frames.specs.Frames.{framed}
use Rattle.frames.specs.Streams.{longest}
use Rattle.frames.proofs.Laws.{asks_for_more}

pub asked : (room : List ℕ) (n k : ℕ) → n ≤ length room → Needs k ≡ framed (take n room) → (0 < k) × (n + k ≤ longest)
asked room n k h e =
    let p : (0 < k) × (length (take n room) + k ≤ longest) = asks_for_more (take n room) k (sym e) in
    (p.0, rw (length-take-le n room h) at p.1)
