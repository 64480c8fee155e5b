-- `frames::begin` meets its contract. Assumes nothing.
use Rattle.std.proofs.Common.{arith, refl}
use Rattle.frames.proofs.Walk.{skipped_more, skipped_there, skipped_end}
use Rattle.frames.proofs.begin.Goals as goal

pub loop-preserved : goal.loop-preserved
loop-preserved c =
    let h = c.loop in
    (refl, skipped_more _ _ _ _ _ h.invariant.1 c.loop-test.true c.behind-at.ensures.0 c.behind-at.ensures.1)

pub returns-then-at-n : goal.returns-then-at-n
returns-then-at-n c = skipped_end _ _ _ _ c.loop.invariant.1 (omega arith)

pub returns-after-loop : goal.returns-after-loop
returns-after-loop c = skipped_there _ _ _ _ c.loop.invariant.1 c.loop-test.false
