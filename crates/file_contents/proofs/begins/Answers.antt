-- `file_contents::begins` meets its contract. Assumes nothing.
use Rattle.std.proofs.Common.{refl, arith, add-one}
use Rattle.file_contents.specs.Contents.{begins}
use Rattle.file_contents.proofs.begins.Goals as goal

pub loop-j-init : goal.loop-j-init
unfolding begins
loop-j-init c = (refl, omega arith)

pub loop-j-preserved : goal.loop-j-preserved
unfolding begins
loop-j-preserved c = (rw add-one (cc (c.loop-j.invariant.0, c.size-at.ensures.0)), omega (arith, c.loop-j.invariant.1, c.size-at.ensures.1))
