-- `sha256::Sha::absorb_filling` meets its contract. Assumes nothing.
use mathlib.Core.Path.{◌≡◌, ap, ◌∙◌}
use mathlib.Core.List.{List}
use Prim.Native.Nat.{ℕ, ◌+◌, ◌-◌, ◌%◌}
use lib.ListN.{length, take, drop}
use lib.Seq.{take_all}
use Rattle.sha256_block.specs.Block.{whole}
use Rattle.sha256.proofs.Running.{taken_filling}
use Rattle.sha256.proofs.Filling.{behind}
use borrow.Author.Rules.{rules}
use Rattle.sha256.proofs.Sha.absorb_filling.Goals as goal

pub returns : goal.returns
returns c =
    let z = c.args in
    let x = z.x.now in
    let o = 64 - z.self.total % 64 in
    let k = length x - (z.self.total % 64 + length x) % 64 in
    let el : length z.self.block ≡ 64 = search rules in
    taken_filling z.self el x
    c.put-full.result c.blocks-self.result c.block_of-self.result (take (length x - o) (drop o x))
    (take (length x - k) (drop k x))
    c.requires.1
    c.put-full.ensures
    (take_all (length x - o) (drop o x) (behind x o))
    (c.blocks-self.ensures ∙ ap (λ (u : List ℕ). whole u (take (length x - o) (drop o x))) c.blocks-first.ensures)
    (take_all (length x - k) (drop k x) (behind x k))
    c.block_of-self.ensures
