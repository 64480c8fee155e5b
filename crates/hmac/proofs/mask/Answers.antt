-- `hmac::mask` meets its contract. Assumes nothing.
use Rattle.std.proofs.Common.{arith, rules}
use lib.ListN.{length-set}
use Rattle.hmac.proofs.Masks.{mask_none, mask_more, mask_whole}
use Rattle.hmac.proofs.mask.Goals as goal

pub loop-i-init : goal.loop-i-init
loop-i-init c = (search rules, search rules, mask_none _ _)

pub loop-i-preserved : goal.loop-i-preserved
loop-i-preserved c =
    let l = c.loop-i in (
      simp length-set l.invariant.0,
      l.invariant.1,
      mask_more c.args.x c.args.block l.block l.i (omega (arith, l.invariant.1, c.loop-i-test.true)) l.invariant.2,
    )

pub returns : goal.returns
returns c =
    let l = c.loop-i in
    mask_whole c.args.x c.args.block l.block l.i (omega (arith, l.invariant.1)) l.invariant.2
