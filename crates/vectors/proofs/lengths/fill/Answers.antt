-- `vectors::lengths::fill` meets its contract. Assumes nothing.
use Rattle.std.proofs.Common.{refl, arith}
use Rattle.vectors.specs.Pattern.{pattern_of}
use Rattle.vectors.proofs.Filled.{filled_more}
use Rattle.vectors.proofs.lengths.fill.Goals as goal

pub loop-i-init : goal.loop-i-init
unfolding pattern_of
loop-i-init c = refl

pub loop-i-preserved : goal.loop-i-preserved
loop-i-preserved c = let l = c.loop-i in filled_more l.pattern l.i (omega arith) l.invariant
