-- `file_contents::first_failing` meets its contract. The loop has passed all below its index. Assumes nothing.
use Rattle.file_contents.specs.Contents.{entries, entry_fails}
use Rattle.notions.proofs.First.{Passed}
use Rattle.file_contents.proofs.first_failing.Given as goal

abbrev pub invariant-loop-k : goal.invariant-loop-k
invariant-loop-k l = Passed entries (entry_fails l.file) l.k
