-- `file_contents::entry_fails` meets its contract. Assumes nothing.
use Rattle.file_contents.specs.Contents.{entry_fails}
use Rattle.file_contents.proofs.entry_fails.Goals as goal

pub returns : goal.returns
unfolding entry_fails
returns c = simp (c.size-size.ensures.0, c.number_at-offset.ensures.value, c.begins-begin.ensures.0)
