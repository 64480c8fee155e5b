-- `sha256::block_of` meets its contract. Assumes nothing.
use native.Mathlib.Omega.{arith}
use lib.ListN.{take, length-take}
use Rattle.std.proofs.lemmas.List.{take_min}
use Rattle.sha256.proofs.Running.{block_stored, block_cut}
use Rattle.sha256.proofs.block_of.Goals as goal

pub returns : goal.returns
returns c =
    let x = c.args.bytes.now in
    cc (c.put.ensures, c.min.ensures, take_min 64 x, block_stored (take 64 x) (simp length-take (omega arith)), block_cut x)
