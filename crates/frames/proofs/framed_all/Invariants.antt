-- `frames::framed_all` meets its contract. Assumes nothing.
use Rattle.frames.proofs.Walk.{Walked}
use Rattle.frames.proofs.framed_all.Given as goal

abbrev pub invariant-loop-wanted : goal.invariant-loop-wanted
invariant-loop-wanted l = Walked l.bytes l.lengths l.at l.used l.wanted-index
