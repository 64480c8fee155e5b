-- `file_contents::begins` meets its contract. Assumes nothing.
use Rattle.std.proofs.Common.{◌≡◌, ◌+◌, ◌*◌, ◌≤◌}
use Rattle.file_contents.specs.Contents.{begins, contents_size}
use Rattle.file_contents.proofs.begins.Given as goal

abbrev pub invariant-loop-j : goal.invariant-loop-j
invariant-loop-j l = (l.at ≡ begins l.file l.j) × (l.at ≤ contents_size + 4294967296 * l.j)
