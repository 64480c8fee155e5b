-- `sha256::Sha::start` meets its contract. Assumes nothing.
use mathlib.Core.Path.{ap}
use mathlib.Core.List.{List}
use Prim.Native.Nat.{ℕ}
use lib.ListN.{replicate}
use Rattle.sha256.specs.Running.{started}
use Rattle.sha256.proofs.Sha.start.Goals as goal

pub returns : goal.returns
unfolding started
returns c = ap (λ (w : List ℕ). record { words = w; block = replicate 64 0; total = 0 }) c.initial.ensures
