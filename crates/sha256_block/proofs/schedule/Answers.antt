-- `sha256_block::schedule` meets its contract. Assumes nothing.
use Rattle.std.proofs.Common.{◌≡◌, ◌+◌, refl, arith}
use Rattle.std.proofs.lemmas.List.{take_all}
use Rattle.sha256_block.specs.Block.{schedule}
use Rattle.sha256_block.proofs.Loops.{schedule_more}
use Rattle.sha256_block.proofs.schedule.Goals as goal

pub loop-t-init : goal.loop-t-init
unfolding schedule
loop-t-init c = (c.opening-w.ensures.0, c.opening-w.ensures.1, refl, refl)

pub loop-t-preserved : goal.loop-t-preserved
loop-t-preserved c =
    let l = c.loop-t in
    schedule_more _ _ _ _ _ _ (omega arith) l.invariant.0 l.invariant.1 l.invariant.2 l.invariant.3 c.next_word-next.ensures

pub returns : goal.returns
returns c =
    let e : c.loop-t.t ≡ 48 = omega arith in
    cc (take_all (c.loop-t.t + 16) c.loop-t.w (omega arith))
