-- `sha256::part` meets its contract. Assumes nothing.
use mathlib.Core.Path.{◌≡◌, ap, ◌∙◌}
use mathlib.Core.List.{List}
use Prim.Native.Nat.{ℕ}
use native.Mathlib.Omega.{arith}
use lib.ListN.{length, take}
use lib.Seq.{paste, length-take-le}
use Rattle.sha256.proofs.Running.{block_joined}
use borrow.Author.Rules.{rules}
use Rattle.sha256.proofs.part.Goals as goal

pub returns : goal.returns
returns c =
    let z = c.args in
    let l : length z.block ≡ 64 = search rules in
    c.put.ensures
    ∙ ap (λ (b : List ℕ). paste b z.at z.x.now (length z.x.now)) c.block_of.ensures
    ∙ block_joined (take z.at z.block) z.x.now z.at (length-take-le z.at z.block (omega arith))
    (omega arith)
