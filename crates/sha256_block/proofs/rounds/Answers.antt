-- `sha256_block::rounds` meets its contract. Assumes nothing.
use Rattle.std.proofs.Common.{◌≡◌, refl, ap, ◌∙◌, arith}
use Rattle.sha256_block.specs.Constants.{K}
use Rattle.sha256_block.specs.Block.{rounds}
use Rattle.sha256_block.proofs.Loops.{rounds_four}
use Rattle.sha256_block.proofs.rounds.Goals as goal

pub loop-t-init : goal.loop-t-init
unfolding rounds
loop-t-init c = (omega arith, refl, refl)

pub loop-t-preserved : goal.loop-t-preserved
unfolding K
loop-t-preserved c = (
  omega arith,
  omega arith,
  rounds_four _ _ _ _ _ _ _ _ c.loop-t.invariant.2 c.round-u.ensures c.round-u-in-loop-t.ensures
      c.round-u-in-loop-t-2.ensures c.round-u-in-loop-t-3.ensures,
)

pub returns : goal.returns
returns c =
    let e : c.loop-t.t ≡ 64 = omega arith in
    c.loop-t.invariant.2 ∙ ap (rounds _ _) e
