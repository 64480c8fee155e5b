-- `vectors::lengths::fill`: its first i bytes are the pattern's. Assumes nothing.
use Rattle.std.proofs.Common.{◌≡◌, take}
use Rattle.vectors.specs.Pattern.{pattern_of}
use Rattle.vectors.proofs.lengths.fill.Given as goal

abbrev pub invariant-loop-i : goal.invariant-loop-i
invariant-loop-i l = take l.i l.pattern ≡ pattern_of l.i
